-- Document 02, No. 1: a recorder of our own, "a writer that takes n, f, correct bits, drift, tightness and one list of six numbers an
-- entry, in M1's order, and fills a lent buffer with a run sheet".
use Rattle.std.specs.Prelude.{◌≡◌, Bool, true, cond, not, ◌&&◌, List, ◌++◌, ℕ, ◌+◌, ◌*◌, ◌/◌, ◌%◌, ◌^◌, ◌<◌, ltb, leb, eqb, length, get_or, take, drop}
use Rattle.protocol.specs.Base.{all, table}
use Rattle.protocol.specs.Types.{Setting, Entry}
use Rattle.protocol.specs.Types.{Verdict, Accepted, Refused, TooManyWords, BadLength, BadFirstWord, ShortBuffer, BadEntry, BadField}
use Rattle.protocol.specs.Words.{is_time, first_fields_fit, zero_where_unused, setting_at, entry_count, place_of, entries_at, entry_fits_at}
use Rattle.protocol.specs.Causes.{sheet_verdict}
use Rattle.protocol.specs.Spelling.{sheet_of}

-- "n, f, correct bits, drift, tightness"
abbrev pub setting_from : ℕ → ℕ → ℕ → ℕ → ℕ → Setting
setting_from n f correct drift tightness = record { n = n; f = f; correct = correct; drift = drift; tightness = tightness }

-- "one list of six numbers an entry, in M1's order": "real time, reading, head, action, sender, serial"
abbrev pub numbers_per_entry : ℕ
numbers_per_entry = 6

abbrev pub entry_from : ℕ → ℕ → ℕ → ℕ → ℕ → ℕ → Entry
entry_from time reading head action sender serial =
    record { time = record { 0 = time }; reading = record { 0 = reading }; head = head; action = action; sender = sender; serial = serial }

abbrev pub entry_in : List ℕ → ℕ → Entry
entry_in xs i =
    entry_from (get_or xs (numbers_per_entry * i) 0) (get_or xs (numbers_per_entry * i + 1) 0) (get_or xs (numbers_per_entry * i + 2) 0)
    (get_or xs (numbers_per_entry * i + 3) 0) (get_or xs (numbers_per_entry * i + 4) 0) (get_or xs (numbers_per_entry * i + 5) 0)

abbrev pub count_in : List ℕ → ℕ
count_in xs = length xs / numbers_per_entry

abbrev pub entries_in : List ℕ → List Entry
entries_in xs = table (entry_in xs) 0 (count_in xs)

-- THE TESTS

-- "1 for more than 24,576 numbers in the list": 4,096 entries
abbrev pub most_numbers : ℕ
most_numbers = numbers_per_entry * 4096

-- "12 when a field exceeds its width": as many bits as document 01 gives it
unfoldable pub setting_in_width : Setting → Bool
setting_in_width g =
    ltb g.n (2 ^ 8) && (ltb g.f (2 ^ 4) && (ltb g.correct (2 ^ 16) && (ltb g.drift (2 ^ 12) && ltb g.tightness (2 ^ 16))))

-- "12 when a field exceeds its width or is set where 01 wants zero"
unfoldable pub entry_in_width : Entry → Bool
entry_in_width e =
    is_time e.time.0 && (is_time e.reading.0 && (ltb e.head (2 ^ 4) && (ltb e.action (2 ^ 4) && (ltb e.sender (2 ^ 4)
    && (ltb e.serial (2 ^ 4) && zero_where_unused e.action e.sender e.serial)))))

-- "6 for an action above 9 or a head or sender not below n"
unfoldable pub entry_in_range : ℕ → Entry → Bool
entry_in_range n e = leb e.action 9 && (ltb e.head n && ltb e.sender n)

-- "in this order": 1, 2, 12, 3, 6, and "5 for a short buffer", of so many words
unfoldable pub write_verdict : Setting → List ℕ → ℕ → Verdict
write_verdict g xs room =
    cond (ltb most_numbers (length xs)) (Refused TooManyWords)
    (cond (not (eqb (length xs % numbers_per_entry) 0)) (Refused BadLength)
    (cond (not (setting_in_width g && all entry_in_width (entries_in xs))) (Refused BadField)
    (cond (not (first_fields_fit g.n g.f g.correct)) (Refused BadFirstWord)
    (cond (not (all (entry_in_range g.n) (entries_in xs))) (Refused BadEntry)
    (cond (ltb room (place_of (count_in xs))) (Refused ShortBuffer) Accepted)))))

-- WHAT IS WRITTEN

-- what the writer answers, and what it leaves in the buffer
pub record Written : Type 0 where
  pub verdict : Verdict
  pub buffer : List ℕ

-- "Every refusal comes before anything is written"; "words past the last one written are kept"
abbrev pub write_if : Verdict → List ℕ → List ℕ → Written
write_if Accepted ws out = record { verdict = Accepted; buffer = ws ++ drop (length ws) out }
write_if (Refused c) ws out = record { verdict = Refused c; buffer = out }

unfoldable pub write_sheet : Setting → List ℕ → List ℕ → Written
write_sheet g xs out = write_if (write_verdict g xs (length out)) (sheet_of g (entries_in xs)) out

-- WHAT IT IS FOR

-- "What it writes passes causes 1 to 4 and 6, reads back as the same fields"
pub record Spells (g : Setting) (es : List Entry) (ws : List ℕ) : Type 0 where
  pub accepted : sheet_verdict ws ≡ Accepted
  pub entries_fit : (i : ℕ) → i < entry_count ws → entry_fits_at ws i ≡ true
  pub setting : setting_at ws ≡ g
  pub entries : entries_at ws ≡ es

-- "and is the sole spelling of them": no other list of 32-bit words does
pub record SoleSpelling (g : Setting) (es : List Entry) (ws : List ℕ) : Type 0 where
  pub spells : Spells g es ws
  pub sole : (vs : List ℕ) → ((i : ℕ) → get_or vs i 0 < 2 ^ 32) → Spells g es vs → vs ≡ ws

-- the buffer begins with the sole spelling of what was given; so it is after each accepted call
abbrev pub HoldsSheet : Setting → List ℕ → List ℕ → Type 0
HoldsSheet g xs out = SoleSpelling g (entries_in xs) (take (place_of (count_in xs)) out)

abbrev pub Recorded : Setting → List ℕ → Verdict → List ℕ → Type 0
Recorded g xs v out = v ≡ Accepted → HoldsSheet g xs out
