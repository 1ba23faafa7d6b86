-- Document 01, "The bench sheet, and its neighbours": what the replay program prints, byte by byte.
use Rattle.std.specs.Prelude.{cond, not, List, [], ◌∷◌, ◌++◌, ℕ, zero, suc, ◌+◌, ◌*◌, ◌/◌, ◌%◌, ltb, eqb, length, ℤ, pos, negsuc, Err}
use Rattle.protocol.specs.Types.{Setting, Cause, TooManyWords, BadLength, Verdict, Accepted, Refused, Judged, Kept, Broken}
use Rattle.protocol.specs.Words.{time_of, setting_at}
use Rattle.protocol.specs.Causes.{cause_number}
use Rattle.protocol.specs.Run.{History, Run, stopped, ran, run_sheet}
use Rattle.protocol.specs.Results.{result_words}
use Rattle.protocol.specs.Premises.{premise_number, judge, is_asked_at_end, broken_at}
use Rattle.protocol.specs.Claim.{Ending, ending_in_words, result_of}

-- "big-endian words on standard input"; bytes past the last whole word are dropped
unfoldable pub big_endian : List ℕ → List ℕ
big_endian [] = []
big_endian (a ∷ []) = []
big_endian (a ∷ b ∷ []) = []
big_endian (a ∷ b ∷ c ∷ []) = []
big_endian (a ∷ b ∷ c ∷ d ∷ l) = (((a * 256 + b) * 256 + c) * 256 + d) ∷ big_endian l

-- a number in decimal ASCII digits; 20 digits hold any number of 64 bits
abbrev pub digits : ℕ → ℕ → List ℕ
digits zero x = []
digits (suc k) x = cond (ltb x 10) ((48 + x) ∷ []) (digits k (x / 10) ++ ((48 + x % 10) ∷ []))

unfoldable pub decimal : ℕ → List ℕ
decimal x = digits 20 x

unfoldable pub signed : ℤ → List ℕ
signed (pos x) = decimal x
signed (negsuc x) = 45 ∷ decimal (suc x)

-- "One blank stands between fields"; each line ends with a newline
unfoldable pub line : List (List ℕ) → List ℕ
line [] = []
line (x ∷ []) = x ++ (10 ∷ [])
line (x ∷ y ∷ l) = x ++ (32 ∷ line (y ∷ l))

-- `premises` and `refused`
abbrev pub premises_word : List ℕ
premises_word = 112 ∷ 114 ∷ 101 ∷ 109 ∷ 105 ∷ 115 ∷ 101 ∷ 115 ∷ []

abbrev pub refused_word : List ℕ
refused_word = 114 ∷ 101 ∷ 102 ∷ 117 ∷ 115 ∷ 101 ∷ 100 ∷ []

-- "per head: head, outcome, candidate, adjuster, adjustment, start reading, correction"; the result words are zero where
-- the outcome is not 2, so "the correction is printed as 0" there
abbrev pub head_line : List ℕ → ℕ → Ending → List ℕ
head_line out q x =
    line (decimal q ∷ decimal x.outcome ∷ decimal x.candidate ∷ decimal x.adjuster ∷ decimal x.adjustment
    ∷ decimal (time_of (result_of out q 2)) ∷ signed x.correction ∷ [])

unfoldable pub head_lines : List ℕ → ℕ → List ℕ
head_lines out zero = []
head_lines out (suc q) = head_lines out q ++ head_line out q (ending_in_words out q)

-- "or only `refused`, number, place"
unfoldable pub refused_line : Cause → ℕ → List ℕ
refused_line c p = line (refused_word ∷ decimal (cause_number c) ∷ decimal p ∷ [])

-- "then `premises` and the first broken premise or 0"
unfoldable pub premises_line : ℕ → List ℕ
premises_line i = line (premises_word ∷ decimal i ∷ [])

abbrev pub print_run : Setting → Judged → Run → List ℕ
print_run g j (stopped c p) = refused_line c p
print_run g j (ran h) = head_lines (result_words g h) g.n ++ premises_line (premise_number j)

unfoldable pub print_sheet : List ℕ → List ℕ
print_sheet ws = print_run (setting_at ws) (judge ws) (run_sheet ws)

-- "above 49,160 bytes is cause 1, tested first; a length not a multiple of 4 is cause 2"
unfoldable pub bytes_verdict : List ℕ → Verdict
bytes_verdict bytes =
    cond (ltb 49160 (length bytes)) (Refused TooManyWords) (cond (not (eqb (length bytes % 4) 0)) (Refused BadLength) Accepted)

abbrev pub print_bytes : Verdict → List ℕ → List ℕ
print_bytes Accepted bytes = print_sheet (big_endian bytes)
print_bytes (Refused c) bytes = refused_line c 0

unfoldable pub printed : List ℕ → List ℕ
printed bytes = print_bytes (bytes_verdict bytes) bytes

-- THE LAST LINE OF THE PROGRAM TRACE: as replay's, and where the first broken premise was broken

-- `entry` and `end`
abbrev pub entry_word : List ℕ
entry_word = 101 ∷ 110 ∷ 116 ∷ 114 ∷ 121 ∷ []

abbrev pub end_word : List ℕ
end_word = 101 ∷ 110 ∷ 100 ∷ []

-- a broken premise: its number and `end`, or its number, `entry` and the entry's index
unfoldable pub broken_line : ℕ → ℕ → List ℕ
broken_line i k =
    cond (is_asked_at_end i) (line (premises_word ∷ decimal i ∷ end_word ∷ [])) (line (premises_word ∷ decimal i ∷ entry_word ∷ decimal k ∷ []))

abbrev pub premises_where : Setting → History → Judged → List ℕ
premises_where g h Kept = premises_line 0
premises_where g h (Broken i) = broken_line i (broken_at g i h)
premises_where g h (Err x) = refused_line x.cause x.place

abbrev pub last_line_of : Setting → Judged → Run → List ℕ
last_line_of g j (stopped c p) = refused_line c p
last_line_of g j (ran h) = premises_where g h j

unfoldable pub last_line : List ℕ → List ℕ
last_line ws = last_line_of (setting_at ws) (judge ws) (run_sheet ws)

-- of a sheet's bytes, of which causes 1 and 2 are tested first
abbrev pub last_line_after : Verdict → List ℕ → List ℕ
last_line_after Accepted bytes = last_line (big_endian bytes)
last_line_after (Refused c) bytes = refused_line c 0

unfoldable pub last_line_of_bytes : List ℕ → List ℕ
last_line_of_bytes bytes = last_line_after (bytes_verdict bytes) bytes
