-- A step of the reader, and how many entries it has left.
use Rattle.std.specs.Prelude.{◌≡◌, ℕ, ◌-◌, Option}
use Rattle.std.specs.Iterator.{Count, at_most}
use Rattle.protocol.specs.Words.{entry_count}
use Rattle.sheet_reader.specs.declared.Reader.{Reader}
use Rattle.sheet_reader.specs.Sheet.{words_at, index_after}

-- it gives the words of the next entry, if there is one, and moves on over the same sheet
abbrev pub MovesOn : Reader → Option (ℕ × ℕ × ℕ) → Reader → Type 0
MovesOn before result after =
    (result ≡ words_at before.sheet.now before.next) × (after.sheet ≡ before.sheet) × (after.next ≡ index_after before.sheet.now before.next)

abbrev pub left : Reader → Count
left r = at_most (entry_count r.sheet.now - r.next)
