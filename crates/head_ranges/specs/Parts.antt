-- Tests of a row in parts: the early marks and the numbers that stand for nothing, the marks, and what is kept by sender; and a
-- sender's numbers against the greatest that may stand there.
use Rattle.std.specs.Prelude.{◌≡◌, Bool, cond, ◌&&◌, ◌||◌, ℕ, ◌+◌, ◌^◌, ltb, eqb, is_some, get_or, length}
use Rattle.protocol.specs.declared.HeadRecord.{HeadRecord}
use Rattle.protocol.specs.declared.HeadRow.{HeadRow}
use Rattle.protocol.specs.declared.Kind.{Kind}
use Rattle.protocol.specs.Base.{◌⇒◌, all_below}
use Rattle.protocol.specs.Words.{is_time, heads_fit}
use Rattle.protocol.specs.Row.{number_in, phase_in_row}
use Rattle.protocol.specs.Record.{sent_in_range, kept_of, sender_in_range, sender_is_none, reading_counts}
use Rattle.protocol.specs.Step.{has_mark}

-- the last six tests of row_fits
unfoldable pub spare_fits : HeadRow → Bool
spare_fits w =
    ltb w.votes.early 2 && (ltb w.adjusts.early 2 && (eqb (get_or w.spare 0 0) 0 && (eqb (get_or w.spare 1 0) 0 && (eqb (get_or w.spare 2 0) 0 && eqb (get_or w.spare 3 0) 0))))

-- the bench, and the head's own number in it
abbrev pub own_fits : HeadRow → Bool
own_fits w = heads_fit w.heads w.faulty && ltb w.own w.heads

-- the last reading, and the adjustment, which is 0 without an adjuster
abbrev pub times_fit : HeadRow → Bool
times_fit w = is_time w.last && (is_time w.adjustment && (is_some (number_in w.adjusts.choice) || eqb w.adjustment 0))

-- phase_in_range, of the row's numbers of a phase and the weight of its close mark
abbrev pub phase_fits : Kind → HeadRow → ℕ → Bool
phase_fits k w close =
    sent_in_range w.heads (number_in (phase_in_row k w).choice) (phase_in_row k w).sent && (eqb (phase_in_row k w).early 1 ⇒ has_mark w.marks.0 close)

-- marks_in_range, of the number of the marks
abbrev pub marks_allowed : ℕ → Bool
marks_allowed m = (has_mark m 2 ⇒ has_mark m 1) && ((has_mark m 4 ⇒ has_mark m 2) && ((has_mark m 16 || has_mark m 32) ⇒ has_mark m 8))

-- the last test of record_in_range
unfoldable pub senders_in_range : HeadRecord → Bool
senders_in_range r = all_below 16 (λ p. cond (ltb p r.n) (sender_in_range r.n (kept_of r p) && reading_counts r p) (sender_is_none (kept_of r p)))

-- how many of the numbers that a row has for sender p are beyond the greatest, which is 0 for none from n on
abbrev pub greatest : ℕ → ℕ → ℕ → ℕ
greatest n p x = cond (ltb p n) x 0

abbrev pub exceeds : ℕ → ℕ → ℕ
exceeds most x = cond (ltb most x) 1 0

-- the greatest vote reading of another sender whose latest vote is as the candidate: where both are none, none
unfoldable pub counted_limit : ℕ → ℕ
counted_limit candidate = cond (eqb candidate 0) 0 (2 ^ 28)

-- the greatest vote reading of sender p, which is the head itself or another; document 02, No. 5: "A record that keeps another sender's
-- vote reading without that sender's latest vote naming the candidate is outside its ranges"
unfoldable pub greatest_vote : HeadRow → ℕ → ℕ
greatest_vote w p =
    cond (eqb p w.own) (greatest w.heads p (2 ^ 28))
    (cond (eqb (get_or w.votes.latest p 0) w.votes.choice) (greatest w.heads p (counted_limit w.votes.choice)) 0)

unfoldable pub beyond : HeadRow → ℕ → ℕ
beyond w p =
    exceeds (greatest w.heads p (2 ^ 28)) (get_or w.start_readings p 0) + exceeds (greatest_vote w p) (get_or w.vote_readings p 0)
    + (exceeds (greatest w.heads p 16) (get_or w.votes.serials p 0) + exceeds (greatest w.heads p 16) (get_or w.adjusts.serials p 0))
    + (exceeds (greatest w.heads p w.heads) (get_or w.votes.latest p 0) + exceeds (greatest w.heads p w.heads) (get_or w.adjusts.latest p 0))

-- the lengths of a row's arrays, which its type says
pub record Sized (w : HeadRow) : Type 0 where
  pub spare : length w.spare ≡ 4
  pub starts : length w.start_readings ≡ 16
  pub votes : length w.vote_readings ≡ 16
  pub vote_serials : length w.votes.serials ≡ 16
  pub latest_votes : length w.votes.latest ≡ 16
  pub adjust_serials : length w.adjusts.serials ≡ 16
  pub latest_adjusts : length w.adjusts.latest ≡ 16
