-- One head's step, made on its record's row. The verdict on the row is that on the record; a refusal leaves the record, and what
-- an accepted action leaves of the row is read back as the record after it, its frame's numbers as the frame.
-- Main results: `refused_step`, `taken_step`.
use Rattle.std.proofs.Common.{◌≡◌, ℕ, ◌≤◌, true, List, length, sym, refl, ap, ◌∙◌, subst, ap₂, arith, length-append}
use lib.ListN.{length-map}
use Rattle.protocol.specs.declared.HeadRecord.{HeadRecord}
use Rattle.protocol.specs.declared.HeadRow.{HeadRow}
use Rattle.protocol.specs.declared.Input.{Input}
use Rattle.protocol.specs.declared.Cause.{Cause}
use Rattle.protocol.specs.Types.{Verdict, Accepted, Refused, Frame, NoFrame, Start, Vote, Adjust}
use Rattle.protocol.specs.declared.Stepped.{Stepped}
use Rattle.head_row.specs.declared.Sent.{Sent}
use Rattle.protocol.specs.Record.{reading, record_in_range}
use Rattle.protocol.specs.Step.{accepted, refused, with_last, act, taken_as, take_action, action_of, input_fits, step}
use Rattle.protocol.specs.Row.{start_number, row_of, record_in, row_fits, row_in_range}
use Rattle.protocol.specs.Board.{row_step}
use Rattle.protocol.proofs.Tests.{cases, and_left}
use Rattle.protocol.proofs.Fits.{input_fits_lem}
use Rattle.protocol.proofs.Effects.{act_split, act_accepted, prepared, prepared_same, sending_of, send_same}
use Rattle.protocol.proofs.Laws.{step_answers}
use Rattle.protocol.proofs.Ranges.{FrameInRange, in_range, input_in_range, take_in_range, step_in_range}
use Rattle.head_row.specs.Promises.{Acts}
use Rattle.head_row.proofs.Fitting.{fits}
use Rattle.head_step.specs.Sized.{InputSized}
use Rattle.head_ranges.proofs.Back.{range_of_row, record_of_row}
use Rattle.head_causes.proofs.Verdicts.{out_of_range}
use Rattle.head_causes.proofs.Taken.{AcceptedStep, accepted_step}
use Rattle.head_record.specs.Bytes.{Holds, FrameSized, StandsFor}

-- a row with sixteen start readings is that of a record with sixteen senders
sixteen_of : (r : HeadRecord) → length (row_of r).start_readings ≡ 16 → length r.senders ≡ 16
sixteen_of r e = sym (length-map r.senders start_number) ∙ e

-- a frame in its ranges has room in bytes
frame_sized : (n : ℕ) → n ≤ 16 → (x : Frame) → FrameInRange n x → FrameSized x
frame_sized n small NoFrame h = tt
frame_sized n small Start h = tt
frame_sized n small (Vote k c x) h = let a = h.serial in let b = h.choice in (omega arith, omega arith, h.reading)
frame_sized n small (Adjust k c x) h = let a = h.serial in let b = h.choice in (omega arith, omega arith, h.reading)

module _ (r : HeadRecord) (i : Input) (row : HeadRow) (is_row : row ≡ row_of r) (long : length row.start_readings ≡ 16) where
  sixteen : length r.senders ≡ 16
  sixteen = sixteen_of r (ap (λ (w : HeadRow). length w.start_readings) (sym is_row) ∙ long)

  -- what the action does to a record
  abbrev acts : HeadRecord → Stepped
  acts s = act (with_last s (reading i.reading)) (taken_as s (action_of i))

  abbrev done : Stepped
  done = acts r

  same_range : row_in_range row ≡ record_in_range r
  same_range = ap row_in_range is_row ∙ range_of_row r sixteen

  held : record_in_range r ≡ true → record_in row ≡ r
  held e = ap record_in is_row ∙ record_of_row r e sixteen

  same_step : record_in_range r ≡ true → row_step row i ≡ step r i
  unfolding row_step row_in_range
  same_step e = rw (and_left (row_fits row) _ (same_range ∙ e), held e) refl

  same_verdict : (row_step row i).verdict ≡ (step r i).verdict
  unfolding step
  same_verdict =
      cases (record_in_range r) (λ t. ap (λ (s : Stepped). s.verdict) (same_step t))
      (λ t. sym (out_of_range row i (same_range ∙ t)) ∙ rw t refl)

  module _ (v : Verdict) (is : v ≡ (row_step row i).verdict) where
    pub refused_step : (c : Cause) → v ≡ Refused c → refused r c ≡ step r i
    refused_step c e = sym ((step_answers r i).refused_unchanged c (sym same_verdict ∙ sym is ∙ e))

    module _ (e : v ≡ Accepted) where
      taken : AcceptedStep row i
      taken = accepted_step row i (sym is ∙ e)

      ranged : record_in_range r ≡ true
      ranged = sym same_range ∙ taken.row_in_range_lem

      answer : step r i ≡ done
      answer = sym (same_step ranged) ∙ taken.answer ∙ ap acts (held ranged)

      fitting : input_fits r.n i ≡ true
      unfolding record_in
      fitting = ap (λ (s : HeadRecord). input_fits s.n i) (sym (held ranged)) ∙ taken.input_fits_lem

      sized : InputSized i
      sized =
          let f = input_fits_lem r.n i fitting in
          let n = (in_range ranged).heads.1 in
          let p = f.sender in
          let k = f.serial in
          let c = f.choice in
          record { reading = f.reading; sender = omega arith; serial = omega arith; choice = omega arith; carried = f.carried }

      after_ranged : record_in_range done.after ≡ true
      after_ranged = subst (λ (t : Stepped). record_in_range t.after ≡ true) answer (step_in_range r i ranged)

      after_sixteen : length done.after.senders ≡ 16
      after_sixteen =
          let s = with_last r (reading i.reading) in
          let a = taken_as r (action_of i) in
          ap (λ (t : Stepped). length t.after.senders) (act_split s a) ∙ (send_same (sending_of s a) (prepared s a)).size ∙ (prepared_same s a).size ∙ sixteen

      frame_fits : FrameSized done.frame
      frame_fits =
          let h = in_range ranged in
          let x = input_in_range r.n i fitting in
          let takes = subst (λ (s : HeadRecord). take_action s (reading i.reading) true (action_of i) ≡ acts s) (held ranged) taken.takes in
          frame_sized r.n h.heads.1 done.frame
          (subst (λ (t : Stepped). FrameInRange r.n t.frame) takes (take_in_range (reading i.reading) true (action_of i) h x.0 x.1).1)

      pub taken_step : (row' : HeadRow) (x : Sent)
          → (InputSized i → Acts acts row row' x) → (after : HeadRecord) → Holds row' after → (frame : Frame) → StandsFor x frame → accepted after frame ≡ step r i
      taken_step row' x does after holds frame stands =
          let gives = does sized r is_row (fits (in_range ranged) sixteen) in
          let in-it : row_in_range row' ≡ true = ap row_in_range gives.0 ∙ range_of_row done.after after_sixteen ∙ after_ranged in
          let after_is : after ≡ done.after = holds in-it ∙ ap record_in gives.0 ∙ record_of_row done.after after_ranged after_sixteen in
          ap₂ accepted after_is (stands done.frame frame_fits gives.1)
          ∙ act_accepted (with_last r (reading i.reading)) (taken_as r (action_of i)) ∙ sym answer
