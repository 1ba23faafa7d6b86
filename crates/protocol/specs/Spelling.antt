-- Document 01, "Words of a run sheet", from the fields to the words: how a setting and a list of entries are spelled.
use Rattle.std.specs.Prelude.{List, [], ◌∷◌, ℕ, ◌+◌, ◌*◌, ◌^◌}
use Rattle.protocol.specs.Types.{Setting, Entry}

-- "First word, kind 1: bits 27–20 n (heads, 2..16), 19–16 f, 15–0 one bit per correct head"
abbrev pub first_word : Setting → ℕ
first_word g = 1 * 2 ^ 28 + g.n * 2 ^ 20 + g.f * 2 ^ 16 + g.correct

-- "Second word, kind 2: bits 27–16 drift in parts per million, 15–0 tightness in microseconds"
abbrev pub second_word : Setting → ℕ
second_word g = 2 * 2 ^ 28 + g.drift * 2 ^ 16 + g.tightness

-- "Each entry, three words: kind 3 with the real time, kind 4 with the head's reading (of the clock in use),
-- kind 5 with bits 27–24 action, 23–20 head, 19–16 sender, 15–12 serial, 11–0 zero"
abbrev pub time_word : Entry → ℕ
time_word e = 3 * 2 ^ 28 + e.time.0

abbrev pub reading_word : Entry → ℕ
reading_word e = 4 * 2 ^ 28 + e.reading.0

abbrev pub action_word : Entry → ℕ
action_word e = 5 * 2 ^ 28 + e.action * 2 ^ 24 + e.head * 2 ^ 20 + e.sender * 2 ^ 16 + e.serial * 2 ^ 12

unfoldable pub entry_words : List Entry → List ℕ
entry_words [] = []
entry_words (e ∷ es) = time_word e ∷ reading_word e ∷ action_word e ∷ entry_words es

-- the run sheet of a setting and a list of entries
unfoldable pub sheet_of : Setting → List Entry → List ℕ
sheet_of g es = first_word g ∷ second_word g ∷ entry_words es
