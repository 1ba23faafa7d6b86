-- What a board written in C gives and gets: the head's row in its memory, and all else in numbers too.
use Rattle.std.specs.Prelude.{cond, not, List, [], ◌∷◌, ℕ, ltb, eqb, get_or, ℤ, pos, Option, is_some, unwrap_or}
use Rattle.protocol.specs.Types.{HeadRecord, HeadRow, Input, BadFirstWord, BadEntry, BadRecord, Verdict, Accepted, Refused, Stepped, Frame, NoFrame, Start, Vote, Adjust, Reading}
use Rattle.protocol.specs.Words.{heads_fit}
use Rattle.protocol.specs.Record.{reading_or0, fresh, chosen_start, outcome, correction, mark_number}
use Rattle.protocol.specs.Step.{refused, step}
use Rattle.protocol.specs.Row.{row_of, record_in, row_fits, row_in_range}
use Rattle.protocol.specs.Results.{if_adopted}

-- the row that is left: a refusal leaves it as it was
abbrev pub row_if : Verdict → HeadRecord → HeadRow → HeadRow
row_if Accepted r w = row_of r
row_if (Refused c) r w = w

-- a fresh record: cause 3 for an n or f against the first word's rules, cause 6 for a head "not below n"
unfoldable pub fresh_verdict : ℕ → ℕ → ℕ → Verdict
fresh_verdict n f own = cond (not (heads_fit n f)) (Refused BadFirstWord) (cond (not (ltb own n)) (Refused BadEntry) Accepted)

abbrev pub fresh_row : HeadRow → ℕ → ℕ → ℕ → HeadRow
fresh_row w n f own = row_if (fresh_verdict n f own) (fresh n f own) w

-- an action's numbers: action, reading, sender, serial, choice, carried, and the mark "none". A mark that is neither 0
-- nor 1 makes the number of no action (cause 6)
abbrev pub input_in : List ℕ → Input
input_in xs =
    record {
      action = cond (ltb (get_or xs 6 0) 2) (get_or xs 0 0) 10;
      reading = get_or xs 1 0;
      sender = get_or xs 2 0;
      serial = get_or xs 3 0;
      choice = get_or xs 4 0;
      carried = get_or xs 5 0;
      none = eqb (get_or xs 6 0) 1;
    }

-- the step of the record that the row holds; a row that holds none is outside its ranges
unfoldable pub row_step : HeadRow → Input → Stepped
row_step w i = cond (row_fits w) (step (record_in w) i) (refused (record_in w) BadRecord)

abbrev pub row_after : HeadRow → Stepped → HeadRow
row_after w s = row_if s.verdict s.after w

-- a vote's numbers and a frame's: the action by which it is delivered (0: no frame), serial, choice, carried, and the mark "none"
abbrev pub vote_numbers : ℕ → ℕ → Option Reading → List ℕ
vote_numbers k c x = 5 ∷ k ∷ c ∷ reading_or0 x ∷ mark_number (not (is_some x)) 1 ∷ []

abbrev pub frame_numbers : Frame → List ℕ
frame_numbers NoFrame = 0 ∷ 0 ∷ 0 ∷ 0 ∷ 0 ∷ []
frame_numbers Start = 2 ∷ 0 ∷ 0 ∷ 0 ∷ 0 ∷ []
frame_numbers (Vote k c x) = vote_numbers k c x
frame_numbers (Adjust k a x) = 8 ∷ k ∷ a ∷ x.0 ∷ 0 ∷ []

-- how a round ended: outcome, candidate, adjuster, adjustment and start reading, the last four 0 unless the outcome is 2
abbrev pub result_numbers : HeadRecord → List ℕ
result_numbers r =
    outcome r ∷ if_adopted r (unwrap_or r.vote.choice 0) ∷ if_adopted r (unwrap_or r.adjust.choice 0)
    ∷ if_adopted r r.adjustment.0 ∷ if_adopted r (reading_or0 (chosen_start r)) ∷ []

unfoldable pub row_verdict : HeadRow → Verdict
row_verdict w = cond (row_in_range w) Accepted (Refused BadRecord)

abbrev pub result_if : Verdict → HeadRecord → List ℕ
result_if Accepted r = result_numbers r
result_if (Refused c) r = 0 ∷ 0 ∷ 0 ∷ 0 ∷ 0 ∷ []

-- the correction, 0 unless the outcome is 2
abbrev pub correction_if_adopted : HeadRecord → ℤ
correction_if_adopted r = cond (eqb (outcome r) 2) (correction r) (pos 0)

abbrev pub correction_if : Verdict → HeadRecord → ℤ
correction_if Accepted r = correction_if_adopted r
correction_if (Refused c) r = pos 0
