-- What an accepted entry does to its head's row, and so to the rows of all heads.
-- Main results: `heads_after`, `frame_after`.
use mathlib.Core.Path.{◌≡◌, sym, ◌∙◌, ap, ap₂, subst}
use mathlib.Core.List.{List, [], ◌∷◌}
use Prim.Native.Nat.{ℕ, ◌%◌, ◌<◌}
use native.Mathlib.Omega.{arith}
use lib.ListN.{get_or, set}
use borrow.Author.Tests.{eqb-false, ne_eqb}
use Rattle.protocol.specs.declared.Entry.{Entry}
use Rattle.protocol.specs.declared.HeadRecord.{HeadRecord}
use Rattle.protocol.specs.declared.HeadRow.{HeadRow}
use Rattle.protocol.specs.declared.Input.{Input}
use Rattle.head_row.specs.declared.Sent.{Sent}
use Rattle.protocol.specs.declared.Stepped.{Stepped}
use Rattle.protocol.specs.Types.{Accepted}
use Rattle.protocol.specs.Words.{setting_at, entry_at, entry_fits_at}
use Rattle.protocol.specs.Record.{reading}
use Rattle.protocol.specs.Step.{with_last, act, taken_as, action_of}
use Rattle.protocol.specs.Row.{row_of}
use Rattle.head_row.specs.Sent.{sent_of}
use Rattle.protocol.specs.Run.{History, record_of, frame_of, input_of}
use Rattle.protocol.proofs.Tables.{set_table}
use Rattle.protocol.proofs.Valid.{Taken, record_at, record_other, fixed}
use Rattle.protocol.proofs.Ranges.{frames_in_range, run_in_range}
use Rattle.protocol.proofs.Runs.{does_act}
use Rattle.head_row.specs.Promises.{Fits, Acts}
use Rattle.head_row.proofs.Fitting.{fits}
use Rattle.head_step.specs.Sized.{InputSized}
use Rattle.protocol.specs.Row.{no_row}
use Rattle.sheet_state.specs.Arrays.{head_rows, answer_at, event_at, Stands}
use Rattle.sheet_state.proofs.Standing.{heads_few, at_most_16, valid_history, next_taken, row_at}
use Rattle.sheet_entry.proofs.Frames.{choice_named}

module _ {ws : List ℕ} {i : ℕ} {s : History} {heads : List HeadRow} (now : Stands ws i s heads) (accepted : (answer_at ws i s).verdict ≡ Accepted) where
  taken : Taken (setting_at ws) s (event_at ws i s)
  taken = next_taken now accepted

  head_below : (entry_at ws i).head < 16
  head_below = let b = taken.head_below in let n = at_most_16 now in omega arith

  -- the row of the entry's head becomes that of the record after
  set_row : set (head_rows (setting_at ws) s) (entry_at ws i).head (row_of (answer_at ws i s).after) ≡ head_rows (setting_at ws) (event_at ws i s ∷ s)
  set_row =
      let q = (entry_at ws i).head in
      set_table (λ q. row_of (record_of (setting_at ws) s q)) (λ q. row_of (record_of (setting_at ws) (event_at ws i s ∷ s) q)) 16 q _ no_row head_below
      (ap row_of (record_at (setting_at ws) (event_at ws i s) s))
      (λ j below d. ap row_of (record_other (setting_at ws) (event_at ws i s) s j (ne_eqb q j (λ z. eqb-false j q d (sym z)))))

  head_fits : Fits (record_of (setting_at ws) s (entry_at ws i).head)
  head_fits = fits (run_in_range (heads_few now) (valid_history now) _ taken.head_below) (fixed (setting_at ws) (valid_history now) _).size_is

  input_sized : InputSized (input_of (entry_at ws i) (frame_of s (entry_at ws i)))
  unfolding input_of
  input_sized =
      let n = at_most_16 now in
      let frame = frames_in_range (heads_few now) (valid_history now) (entry_at ws i).action (entry_at ws i).sender (entry_at ws i).serial in
      record {
        reading = taken.reading_below;
        sender = let b = taken.sender_below in omega arith;
        serial = taken.serial_below;
        choice = rw (choice_named (frame_of s (entry_at ws i))) (let b = frame.choice in omega arith);
        carried = frame.reading;
      }

  -- x is the entry's input, at the index of its head's row; after is the row that the step leaves, y the frame that it gives
  module _ {e : Entry} (is : e ≡ entry_at ws i) {x : Input} (made : x ≡ input_of e (frame_of s e)) {at : ℕ} (index_is : at ≡ e.head % 16) {after : HeadRow} {y : Sent}
      (acts : InputSized x → Acts (λ r. act (with_last r (reading x.reading)) (taken_as r (action_of x))) (get_or heads at no_row) after y) where
    input_is : x ≡ input_of (entry_at ws i) (frame_of s (entry_at ws i))
    input_is = made ∙ ap (λ (e : Entry). input_of e (frame_of s e)) is

    at_is : at ≡ (entry_at ws i).head
    at_is = index_is ∙ ap (λ (e : Entry). e.head % 16) is ∙ (let b = head_below in omega arith)

    abbrev head : HeadRecord
    head = record_of (setting_at ws) s (entry_at ws i).head

    does : act (with_last head (reading x.reading)) (taken_as head (action_of x)) ≡ answer_at ws i s
    unfolding input_of
    does =
        ap (λ (x : Input). act (with_last head (reading x.reading)) (taken_as head (action_of x))) input_is
        ∙ sym (does_act (setting_at ws) s (entry_fits_at ws i) (entry_at ws i) accepted)

    done : (after ≡ row_of (answer_at ws i s).after) × (y ≡ sent_of (answer_at ws i s).frame)
    done =
        subst (λ (t : Stepped). (after ≡ row_of t.after) × (y ≡ sent_of t.frame)) does
        (acts (subst InputSized (sym input_is) input_sized) _ (ap (λ (j : ℕ). get_or heads j no_row) at_is ∙ row_at now (entry_at ws i).head head_below) head_fits)

    pub heads_after : set heads at after ≡ head_rows (setting_at ws) (event_at ws i s ∷ s)
    heads_after =
        ap₂ (λ (l : List HeadRow) (row : HeadRow). set l at row) now.heads_are done.0
        ∙ ap (λ (j : ℕ). set (head_rows (setting_at ws) s) j (row_of (answer_at ws i s).after)) at_is ∙ set_row

    pub frame_after : y ≡ sent_of (answer_at ws i s).frame
    frame_after = done.1
