-- A head number, a count or a serial as a byte.
use Rattle.std.specs.Prelude.{◌%◌, Option, Some, None, ℕ}

-- its eight lowest bits
abbrev pub cut_number : Option ℕ → Option ℕ
cut_number None = None
cut_number (Some k) = Some (k % 256)
