-- Bytes that are written one after the other into a lent buffer.
use Rattle.std.specs.Prelude.{List, [], ◌∷◌, ℕ, suc, ◌+◌, min, length, set}

-- the buffer with the text from position `at` on; a byte past the buffer's end is dropped
unfoldable pub written : List ℕ → ℕ → List ℕ → List ℕ
written out at [] = out
written out at (b ∷ text) = written (set out at b) (suc at) text

-- the position behind the text; the largest that 64 bits hold stays where it is
abbrev pub last_position : ℕ
last_position = 18446744073709551615

unfoldable pub end_of : ℕ → List ℕ → ℕ
end_of at text = min (at + length text) last_position
