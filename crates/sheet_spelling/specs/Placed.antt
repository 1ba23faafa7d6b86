-- Words written into a buffer from a place on.
use Rattle.std.specs.Prelude.{List, ◌++◌, ℕ, ◌+◌, length, set, take, drop}
use Rattle.protocol.specs.declared.Setting.{Setting}
use Rattle.protocol.specs.Spelling.{first_word, second_word}

-- a buffer with the words from the place on, all else as it was
unfoldable pub placed : List ℕ → ℕ → List ℕ → List ℕ
placed out at ws = take at out ++ (ws ++ drop (at + length ws) out)

-- a buffer with the words of a setting as its first two, all else as it was
abbrev pub setting_in_front : List ℕ → Setting → List ℕ
setting_in_front out g = set (set out 0 (first_word g)) 1 (second_word g)
