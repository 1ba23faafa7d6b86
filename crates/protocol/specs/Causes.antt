-- Document 01, "Causes to turn a sheet back": the numbers of the table, and causes 1 to 4, which concern a sheet as a whole.
use Rattle.std.specs.Prelude.{cond, not, ◌||◌, List, ℕ, ◌-◌, ◌%◌, ltb, eqb, length, get_or}
use Rattle.protocol.specs.Types.{Cause, TooManyWords, BadLength, BadFirstWord, BadSecondWord, ShortBuffer, BadEntry, TimeFell, ReadingFell, ActionClosed, BadRecord, CounterTooFar, BadField, TimeTooFar}
use Rattle.protocol.specs.Types.{Verdict, Accepted, Refused}
use Rattle.protocol.specs.Words.{most_words, first_word_fits, second_word_fits}

abbrev pub cause_number : Cause → ℕ
cause_number TooManyWords = 1
cause_number BadLength = 2
cause_number BadFirstWord = 3
cause_number BadSecondWord = 4
cause_number ShortBuffer = 5
cause_number BadEntry = 6
cause_number TimeFell = 7
cause_number ReadingFell = 8
cause_number ActionClosed = 9
cause_number BadRecord = 10
cause_number CounterTooFar = 11
-- "new numbers join 01's table" (document 02)
cause_number BadField = 12
cause_number TimeTooFar = 13

-- "back come 0", or the cause's number, where the place is always 0
abbrev pub verdict_number : Verdict → ℕ
verdict_number Accepted = 0
verdict_number (Refused c) = cause_number c

-- "more than 12,290 words"; "fewer than 2 words, or not 2 + 3 × a whole number"
unfoldable pub sheet_verdict : List ℕ → Verdict
sheet_verdict ws =
    cond (ltb most_words (length ws)) (Refused TooManyWords)
    (cond (ltb (length ws) 2 || not (eqb ((length ws - 2) % 3) 0)) (Refused BadLength)
    (cond (not (first_word_fits (get_or ws 0 0))) (Refused BadFirstWord)
    (cond (not (second_word_fits (get_or ws 1 0))) (Refused BadSecondWord) Accepted)))
