-- Document 02, No. 7, "Frames told exactly": the carriage display and the planner's reader, each of result words alone; and what a
-- run says of a head, which both give on the words that its replay leaves.
use Rattle.std.specs.Prelude.{◌≡◌, Bool, cond, not, ◌&&◌, List, [], ◌∷◌, ◌++◌, map, ℕ, ◌+◌, ◌*◌, ◌%◌, ◌<◌, ltb, leb, eqb, length, get_or, replicate, ℤ, pos}
use Rattle.std.proofs.Math.IntN.{sub_ℕ}
use Rattle.protocol.specs.Base.{all_below}
use Rattle.protocol.specs.Types.{HeadRecord, Setting, BadLength, BadFirstWord, BadEntry, Verdict, Accepted, Refused}
use Rattle.protocol.specs.Words.{bits, kind_of, time_of, setting_at}
use Rattle.protocol.specs.Run.{History, record_of, frames_sent, ran, run_sheet}
use Rattle.protocol.specs.Results.{word_of, result_words}
use Rattle.protocol.specs.Board.{result_numbers, correction_if_adopted}

-- WHAT WORDS SAY OF A HEAD

-- "outcome to correction as the replay program prints them": outcome, candidate, adjuster, adjustment, start reading and correction
-- by words of kinds 6, 7 and 8; "the correction is printed as 0 unless the outcome is 2"
abbrev pub shown_in : ℕ → ℕ → ℕ → List ℤ
shown_in o a s =
    pos (bits o 27 24) ∷ pos (bits o 19 16) ∷ pos (bits o 15 12) ∷ pos (time_of a) ∷ pos (time_of s)
    ∷ cond (eqb (bits o 27 24) 2) (sub_ℕ (time_of a) (time_of s)) (pos 0) ∷ []

-- "bits 27–20 starts, 19–12 votes, 11–4 adjusts"
abbrev pub counts_in : ℕ → List ℤ
counts_in w = pos (bits w 27 20) ∷ pos (bits w 19 12) ∷ pos (bits w 11 4) ∷ []

-- by head q's words, of k words a head
abbrev pub shown_at : ℕ → List ℕ → ℕ → List ℤ
shown_at k ws q = shown_in (word_of k ws q 0) (word_of k ws q 1) (word_of k ws q 2)

-- THE TWO READERS

-- "n and that the head is below it"
abbrev pub is_head_of : ℕ → ℕ → Bool
is_head_of n q = leb 2 n && (leb n 16 && ltb q n)

-- "the kinds in their places": k words a head, from kind 6 on
unfoldable pub kinds_fit : ℕ → List ℕ → Bool
kinds_fit k ws = all_below (length ws) (λ i. eqb (kind_of (get_or ws i 0)) (6 + i % k))

-- "Each tests n and that the head is below it (cause 3), then its length .. (2), then the kinds in their places (6)"
abbrev pub first_failed : Bool → Bool → Bool → Verdict
first_failed head long kinds =
    cond (not head) (Refused BadFirstWord) (cond (not long) (Refused BadLength) (cond (not kinds) (Refused BadEntry) Accepted))

unfoldable pub read_verdict : ℕ → ℕ → ℕ → List ℕ → Verdict
read_verdict k n q ws = first_failed (is_head_of n q) (eqb (length ws) (k * n)) (kinds_fit k ws)

-- what a reader answers, and its numbers, which are 0 after a refusal
pub record Told : Type 0 where
  pub verdict : Verdict
  pub numbers : List ℤ

abbrev pub tell : Verdict → List ℤ → Told
tell Accepted l = record { verdict = Accepted; numbers = l }
tell (Refused c) l = record { verdict = Refused c; numbers = replicate (length l) (pos 0) }

-- the words that pass a test
abbrev pub keep : (ℕ → Bool) → List ℕ → List ℕ
keep p [] = []
keep p (w ∷ ws) = cond (p w) (w ∷ keep p ws) (keep p ws)

-- "The carriage display passes over kinds other than 6 to 8"
abbrev pub is_shown : ℕ → Bool
is_shown w = leb 6 (kind_of w) && leb (kind_of w) 8

-- "its length .. 3n for the display once unknown kinds are dropped"
unfoldable pub display : ℕ → ℕ → List ℕ → Told
display n q words = tell (read_verdict 3 n q (keep is_shown words)) (shown_at 3 (keep is_shown words) q)

-- "the planner's reader wants all four and gives the three counts besides"; "its length, 4n"
unfoldable pub plan : ℕ → ℕ → List ℕ → Told
plan n q words = tell (read_verdict 4 n q words) (shown_at 4 words q ++ counts_in (word_of 4 words q 3))

-- "Both must be shown right on the same words"

-- what a head's record says, and how many starts, votes and adjusts its events in the history sent
abbrev pub shown_of : HeadRecord → List ℤ
shown_of r = map pos (result_numbers r) ++ (correction_if_adopted r ∷ [])

abbrev pub counts_of : History → ℕ → List ℤ
counts_of h q = pos (frames_sent 2 h q) ∷ pos (frames_sent 5 h q) ∷ pos (frames_sent 8 h q) ∷ []

-- for every accepted sheet with n heads, of which q is one
abbrev pub OfSheets : ℕ → ℕ → (Setting → History → Type 0) → Type 0
OfSheets n q right = (ws : List ℕ) (h : History) → run_sheet ws ≡ ran h → n ≡ (setting_at ws).n → q < n → right (setting_at ws) h

-- the display on what the replay leaves for the heads, whatever words of other kinds stand between or are missing (in an old file of three
-- words a head, those of kind 9); the planner's reader on what it leaves
abbrev pub ShownRight : ℕ → ℕ → List ℕ → Told → Type 0
ShownRight n q words x = OfSheets n q (λ g h. keep is_shown words ≡ keep is_shown (result_words g h) → x ≡ tell Accepted (shown_of (record_of g h q)))

abbrev pub PlannedRight : ℕ → ℕ → List ℕ → Told → Type 0
PlannedRight n q words x = OfSheets n q (λ g h. words ≡ result_words g h → x ≡ tell Accepted (shown_of (record_of g h q) ++ counts_of h q))
