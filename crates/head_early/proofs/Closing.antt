-- The test at the end of an action, by the numbers that the code computes.
-- Main results: `idle`; `stays`, `votes_closed`, `adjusts_closed`, `both_phases`.
use Rattle.std.specs.Prelude.{Option, Some, None}
use mathlib.Core.Path.{◌≡◌, refl, sym, ◌∙◌, ap, ap₂}
use mathlib.Core.Bool.{Bool, true, false, not, ◌&&◌}
use Prim.Native.Nat.{ℕ, ◌+◌, min}
use native.Mathlib.Omega.{arith}
use lib.Dec.{eqb, lit<}
use lib.ListN.{get_or}
use borrow.Author.Tests.{ne_eqb}
use Rattle.protocol.specs.declared.HeadRecord.{HeadRecord}
use Rattle.protocol.specs.declared.HeadRow.{HeadRow}
use Rattle.protocol.specs.declared.PhaseRow.{PhaseRow}
use Rattle.protocol.specs.declared.Marks.{Marks}
use Rattle.protocol.specs.Base.{all_below}
use Rattle.protocol.specs.declared.Kind.{Kind}
use Rattle.protocol.specs.Record.{votes, adjusts, kept_of, phase_of, latest_of, same_number, marks_number}
use Rattle.protocol.specs.Step.{has_mark, with_vote, with_adjust, early_if, all_spoken, is_under_way, may_close, close_early}
use Rattle.protocol.specs.Row.{number_plus1, phase_row, row_of}
use Rattle.protocol.proofs.Tests.{and_false, all_same}
use Rattle.protocol.proofs.Laws.{no_early_close_without_choice, no_early_adjust_close_before_vote_close}
use Rattle.head_row.specs.Promises.{HasHeads, Becomes}
use Rattle.head_row.proofs.Rows.{latest_read, same_name}
use Rattle.head_open.proofs.Marks.{marks_are, with_mark, has_vote_closed, has_adjust_closed, with_mark_lem}
use Rattle.head_early.specs.Parts.{spoken_by, closes}

-- NOTHING TO CLOSE

not_closing : (k : Kind) (r : HeadRecord) → may_close k r ≡ false → close_early k true r ≡ r
not_closing votes r e = rw e refl
not_closing adjusts r e = rw e refl

-- a head with its vote open and no candidate closes nothing
pub idle : (r : HeadRecord) → HasHeads r → r.vote.closed ≡ false → r.vote.choice ≡ None → closes r ≡ r
idle r h o none =
    ap (close_early adjusts true) (not_closing votes r (no_early_close_without_choice votes r h.some none))
    ∙ not_closing adjusts r (no_early_adjust_close_before_vote_close r o)

-- A PHASE

module _ (k : Kind) (r : HeadRecord) (h : HasHeads r) where
  spoken_with : (m : Option ℕ) → (phase_of k r).choice ≡ m
      → is_under_way k r && (not (eqb (number_plus1 m) 0) && all_below r.n (λ q. eqb (get_or (phase_row k r).latest q 0) (number_plus1 m))) ≡ may_close k r
  unfolding may_close
  spoken_with None e = and_false (is_under_way k r) _ refl ∙ sym (no_early_close_without_choice k r h.some e)
  spoken_with (Some v) e =
      rw (ne_eqb (v + 1) 0 (λ z. absurd (omega arith)), e)
      (ap (λ b. is_under_way k r && b) (all_same r.n _ _ (λ q l. ap (λ x. eqb x (v + 1)) (latest_read r q k) ∙ same_name (latest_of k (kept_of r q)) v)))

  read : is_under_way k r && spoken_by (phase_row k r) r.n ≡ may_close k r
  read = let heads : min r.n 16 ≡ r.n = (let z = h.heads in omega arith) in rw heads (spoken_with (phase_of k r).choice refl)

-- whether the row's phase closes; the row with it closed, m being the marks
abbrev pub row_closes : Kind → HeadRow → Bool
row_closes votes w = not (has_mark w.marks.0 8) && spoken_by w.votes w.heads
row_closes adjusts w = (has_mark w.marks.0 8 && not (has_mark w.marks.0 32)) && spoken_by w.adjusts w.heads

abbrev pub closed_row : Kind → HeadRow → Marks → HeadRow
closed_row votes w m = record w { marks = m; votes = record w.votes { early = 1 } }
closed_row adjusts w m = record w { marks = m; adjusts = record w.adjusts { early = 1 } }

row_closes_lem : (k : Kind) (r : HeadRecord) → HasHeads r → row_closes k (row_of r) ≡ may_close k r
row_closes_lem votes r h = rw (has_vote_closed r) (read votes r h)
row_closes_lem adjusts r h = rw (has_vote_closed r, has_adjust_closed r) (read adjusts r h)

pub stays : (k : Kind) (w : HeadRow) → row_closes k w ≡ false → Becomes (close_early k true) w w
stays k w e r is h = is ∙ ap row_of (sym (not_closing k r (sym (row_closes_lem k r h) ∙ (rw is at e))))

pub votes_closed : (w : HeadRow) (m : Marks) → row_closes votes w ≡ true → m.0 ≡ with_mark w.marks.0 8 → Becomes (close_early votes true) w (closed_row votes w m)
votes_closed w m e m-is r is h =
    let marks : m.0 ≡ marks_number (with_vote r (early_if true r.vote)) = m-is ∙ rw is (with_mark_lem r _ 3 (lit< tt) refl) in
    rw (marks_are m marks, is, sym (row_closes_lem votes r h) ∙ (rw is at e)) refl

pub adjusts_closed : (w : HeadRow) (m : Marks) → row_closes adjusts w ≡ true → m.0 ≡ with_mark w.marks.0 32 → Becomes (close_early adjusts true) w (closed_row adjusts w m)
adjusts_closed w m e m-is r is h =
    let marks : m.0 ≡ marks_number (with_adjust r (early_if true r.adjust) r.adjustment) = m-is ∙ rw is (with_mark_lem r _ 5 (lit< tt) refl) in
    rw (marks_are m marks, is, sym (row_closes_lem adjusts r h) ∙ (rw is at e)) refl

-- both, vote first
pub both_phases : (w w' w'' : HeadRow) → Becomes (close_early votes true) w w' → Becomes (close_early adjusts true) w' w'' → Becomes closes w w''
both_phases w w' w'' first second r is h = second (close_early votes true r) (first r is h) (record { some = h.some; heads = h.heads; senders = h.senders })
