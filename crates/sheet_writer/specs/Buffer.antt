-- The words of entries that are written into a buffer, one after the other.
use Rattle.std.specs.Prelude.{◌≡◌, true, List, ℕ, ◌≤◌}
use Rattle.protocol.specs.Base.{all, table}
use Rattle.protocol.specs.Words.{place_of}
use Rattle.protocol.specs.Spelling.{entry_words}
use Rattle.protocol.specs.Recorder.{entry_in, count_in, entries_in, entry_in_width}
use Rattle.sheet_spelling.specs.Placed.{placed}

-- entries that fit their words, for which a buffer of so many words has room
abbrev pub AreWritable : List ℕ → ℕ → Type 0
AreWritable xs room = (count_in xs ≤ 4096) × (all entry_in_width (entries_in xs) ≡ true) × (place_of (count_in xs) ≤ room)

-- a buffer with the words of the first k entries behind its first two words, all else as it was
abbrev pub entries_behind : List ℕ → List ℕ → ℕ → List ℕ
entries_behind out xs k = placed out (place_of 0) (entry_words (table (entry_in xs) 0 k))
