-- What the exported functions leave and answer, by the row that they are lent.
-- Main results: `action_taken`, `action_refused`; `result_read`, `not_in_range`; `correction_read`, `no_correction_read`;
-- `fresh_made`, `fresh_refused`.
use mathlib.Core.Path.{◌≡◌, refl, sym, ◌∙◌, ap, subst}
use mathlib.Core.Bool.{Bool, true, false, cond}
use mathlib.Core.List.{List, [], ◌∷◌}
use Prim.Native.Nat.{ℕ, ◌^◌, ◌<◌}
use native.Mathlib.Omega.{arith}
use lib.ListN.{length, get_or}
use lib.IntN.{ℤ, pos}
use Rattle.protocol.specs.declared.HeadRecord.{HeadRecord}
use Rattle.protocol.specs.declared.HeadRow.{HeadRow}
use Rattle.protocol.specs.declared.Input.{Input}
use Rattle.head_row.specs.declared.Sent.{Sent}
use Rattle.protocol.specs.declared.Stepped.{Stepped}
use Rattle.protocol.specs.declared.Cause.{Cause}
use Rattle.protocol.specs.declared.Cause.TheVariants.{BadRecord}
use Rattle.protocol.specs.Types.{Verdict, Accepted, Refused, NoFrame}
use Rattle.protocol.specs.Record.{reading, reading_or0, fresh, record_in_range}
use Rattle.protocol.specs.Step.{with_last, act, taken_as, action_of, step, refused}
use Rattle.protocol.specs.Run.{carried_reading}
use Rattle.protocol.specs.Causes.{cause_number, verdict_number}
use Rattle.protocol.specs.Row.{row_of, record_in, row_fits, row_in_range}
use Rattle.head_row.specs.Sent.{sent_of}
use Rattle.protocol.specs.Board.{fresh_verdict, fresh_row, row_step, row_after, frame_numbers, row_verdict, result_if, correction_if}
use Rattle.protocol.proofs.Tests.{and_right}
use Rattle.protocol.proofs.Fits.{input_fits_lem}
use Rattle.protocol.proofs.Laws.{step_answers}
use Rattle.protocol.proofs.Ranges.{InRange, FrameInRange, in_range, input_in_range, take_in_range}
use Rattle.head_row.specs.Promises.{Acts}
use Rattle.head_row.proofs.Fitting.{fits}
use Rattle.head_step.specs.Sized.{InputSized}
use Rattle.head_ranges.proofs.Back.{row_of_record}
use Rattle.head_causes.proofs.Taken.{AcceptedStep, accepted_step}
use Rattle.head_result.specs.Result.{IsResult}
use Rattle.board_c.specs.Numbers.{AreNumbers, IsCorrection}
use Rattle.head_ranges.specs.Parts.{Sized}

-- A ROW IN ITS RANGES

module _ (w : HeadRow) (long : Sized w) (h : row_in_range w ≡ true) where
  record_ranged : record_in_range (record_in w) ≡ true
  unfolding row_in_range
  record_ranged = and_right (row_fits w) _ h

  sixteen : length (record_in w).senders ≡ 16
  unfolding record_in
  sixteen = refl

-- AN ACTION

module _ (w : HeadRow) (i : Input) where
  abbrev acts : HeadRecord → Stepped
  acts r = act (with_last r (reading i.reading)) (taken_as r (action_of i))

  module _ (long : Sized w) (v : Verdict) (is : v ≡ (row_step w i).verdict) (e : v ≡ Accepted) where
    taken : AcceptedStep w i
    taken = accepted_step w i (sym is ∙ e)

    record_in_range_lem : InRange (record_in w)
    record_in_range_lem = in_range (record_ranged w long taken.row_in_range_lem)

    sized : InputSized i
    unfolding record_in
    sized =
        let f = input_fits_lem w.heads i taken.input_fits_lem in
        let n = record_in_range_lem.heads.1 in
        let p = f.sender in
        let k = f.serial in
        let c = f.choice in
        record { reading = f.reading; sender = omega arith; serial = omega arith; choice = omega arith; carried = f.carried }

    frame_in_range : FrameInRange w.heads (acts (record_in w)).frame
    unfolding record_in
    frame_in_range =
        let x = input_in_range w.heads i taken.input_fits_lem in
        subst (λ (t : Stepped). FrameInRange w.heads t.frame) taken.takes (take_in_range (reading i.reading) true (action_of i) record_in_range_lem x.0 x.1).1

    pub action_taken : (after : HeadRow) (s : Sent) → (InputSized i → Acts acts w after s) → (numbers : List ℕ) → AreNumbers s numbers
        → (0 ≡ verdict_number (row_step w i).verdict) × (after ≡ row_after w (row_step w i)) × (numbers ≡ frame_numbers (row_step w i).frame)
    action_taken after s does numbers are =
        let row_is = row_of_record w long taken.row_in_range_lem in
        let done = does sized (record_in w) row_is (fits record_in_range_lem (sixteen w long taken.row_in_range_lem)) in
        let accepted : (row_step w i).verdict ≡ Accepted = sym is ∙ e in
        rw accepted (
          refl,
          done.0 ∙ ap (λ (t : Stepped). row_of t.after) (sym taken.answer),
          are (row_step w i).frame (subst (λ (t : Stepped). reading_or0 (carried_reading t.frame) < 2 ^ 28) (sym taken.answer) frame_in_range.reading)
              (done.1 ∙ ap (λ (t : Stepped). sent_of t.frame) (sym taken.answer)),
        )

  no_frame : (c : Cause) → (row_step w i).verdict ≡ Refused c → (row_step w i).frame ≡ NoFrame
  unfolding row_step
  no_frame c e = go (row_fits w) refl
    where
      go : (b : Bool) → row_fits w ≡ b → (cond (row_fits w) (step (record_in w) i) (refused (record_in w) BadRecord)).frame ≡ NoFrame
      go true u = rw u (ap (λ (t : Stepped). t.frame) ((step_answers (record_in w) i).refused_unchanged c (rw u at e)))
      go false u = rw u refl

  pub action_refused : (v : Verdict) → v ≡ (row_step w i).verdict → (c : Cause) → v ≡ Refused c → (k : ℕ) → k ≡ cause_number c
      → (k ≡ verdict_number (row_step w i).verdict) × (w ≡ row_after w (row_step w i)) × (0 ∷ 0 ∷ 0 ∷ 0 ∷ 0 ∷ [] ≡ frame_numbers (row_step w i).frame)
  action_refused v is c e k cause = rw (no_frame c (sym is ∙ e), sym is ∙ e) (cause, refl, refl)

-- THE RESULT

module _ (w : HeadRow) (b : Bool) (is : b ≡ row_in_range w) where
  pub result_read : Sized w → b ≡ true → (x : List ℕ) → IsResult w x → (0 ≡ verdict_number (row_verdict w)) × (x ≡ result_if (row_verdict w) (record_in w))
  unfolding row_verdict
  result_read long e x result =
      let h = sym is ∙ e in
      rw h (refl, result (record_in w) (row_of_record w long h) (record_ranged w long h) (sixteen w long h))

  pub not_in_range : b ≡ false → (10 ≡ verdict_number (row_verdict w)) × (0 ∷ 0 ∷ 0 ∷ 0 ∷ 0 ∷ [] ≡ result_if (row_verdict w) (record_in w))
  unfolding row_verdict
  not_in_range e = rw (sym is ∙ e) (refl, refl)

  pub correction_read : Sized w → b ≡ true → (x : List ℕ) → IsResult w x → (z : ℤ) → IsCorrection x z → z ≡ correction_if (row_verdict w) (record_in w)
  unfolding row_verdict
  correction_read long e x result z corrects =
      let h = sym is ∙ e in
      rw h (corrects (record_in w) (result (record_in w) (row_of_record w long h) (record_ranged w long h) (sixteen w long h)))

  pub no_correction_read : b ≡ false → pos 0 ≡ correction_if (row_verdict w) (record_in w)
  unfolding row_verdict
  no_correction_read e = rw (sym is ∙ e) refl

-- A FRESH RECORD

module _ (w : HeadRow) (n f own : ℕ) (v : Verdict) (is : v ≡ fresh_verdict n f own) where
  pub fresh_made : v ≡ Accepted → (row : HeadRow) → row ≡ row_of (fresh n f own) → (0 ≡ verdict_number (fresh_verdict n f own)) × (row ≡ fresh_row w n f own)
  fresh_made e row made = rw (sym is ∙ e) (refl, made)

  pub fresh_refused : (c : Cause) → v ≡ Refused c → (k : ℕ) → k ≡ cause_number c → (k ≡ verdict_number (fresh_verdict n f own)) × (w ≡ fresh_row w n f own)
  fresh_refused c e k cause = rw (sym is ∙ e) (cause, refl)
