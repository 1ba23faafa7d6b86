-- Document 01, "The reader carries the lent sheet with it and moves on by one entry": what the reader finds in a list of words.
use Rattle.std.specs.Prelude.{Bool, cond, List, ℕ, ◌+◌, leb, length, get_or, Option, Some, None}
use Rattle.protocol.specs.Words.{place_of}

-- entry i stands there whole: three words are left at its place
abbrev pub is_whole : List ℕ → ℕ → Bool
is_whole ws i = leb (place_of i + 3) (length ws)

-- "Each entry, three words"
abbrev pub words_at : List ℕ → ℕ → Option (ℕ × ℕ × ℕ)
words_at ws i = cond (is_whole ws i) (Some (get_or ws (place_of i) 0, get_or ws (place_of i + 1) 0, get_or ws (place_of i + 2) 0)) None

-- "moves on by one entry"; at the end there is none to pass
abbrev pub index_after : List ℕ → ℕ → ℕ
index_after ws i = cond (is_whole ws i) (i + 1) i
