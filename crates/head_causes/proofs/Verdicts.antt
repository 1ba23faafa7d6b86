-- The verdict on an action, by the tests made of the head's row.
-- Main results: `out_of_range`, `does_not_fit`, `reading_falls`, `spent_is_taken`, `is_shut`, `is_taken_lem`.
use mathlib.Core.Path.{◌≡◌, refl, sym, ◌∙◌, ap, ap₂}
use mathlib.Core.Bool.{Bool, true, false, cond, ◌&&◌, ◌||◌}
use mathlib.Core.List.{List}
use mathlib.Core.Logic.{◌≢◌}
use Prim.Native.Nat.{ℕ, ◌≤◌, ◌<◌}
use lib.Dec.{leb, eqb}
use lib.ListN.{get_or}
use borrow.Author.Tests.{lt-ltb, le-ltb, ne_eqb, eqb-true, leb-true}
use Rattle.protocol.specs.declared.HeadRecord.{HeadRecord}
use Rattle.protocol.specs.declared.HeadRow.{HeadRow}
use Rattle.protocol.specs.declared.Input.{Input}
use Rattle.protocol.specs.declared.Action.{Action}
use Rattle.protocol.specs.declared.Action.TheVariants.{Look}
use Rattle.protocol.specs.declared.Stepped.{Stepped}
use Rattle.protocol.specs.Types.{Accepted, Refused}
use Rattle.protocol.specs.declared.Cause.TheVariants.{BadEntry, ReadingFell, ActionClosed, BadRecord}
use Rattle.protocol.specs.Words.{has_serial}
use Rattle.protocol.specs.Record.{reading, marks_number, record_in_range}
use Rattle.protocol.specs.Step.{with_last, is_closed, closed_by, is_spent, taken_as, take_action, action_of, input_fits, step}
use Rattle.protocol.specs.Row.{record_in, row_fits, row_in_range}
use Rattle.protocol.specs.Board.{row_step}
use Rattle.protocol.proofs.Tests.{absurd_bool, and_left, and_right}
use Rattle.protocol.proofs.Effects.{act_accepted}
use Rattle.head_open.proofs.Marks.{closed_by_marks, made_of}

-- WHEN AN ACTION IS CLOSED, by the caller's numbers

abbrev closed_at : Input → ℕ → ℕ → ℕ → Bool
closed_at i own marks k = has_serial k && eqb i.sender own || closed_by k marks

closed_at_lem : (i : Input) (r : HeadRecord) → i.action ≤ 9 → is_closed r (action_of i) ≡ closed_at i r.own (marks_number r) i.action
unfolding is_closed
closed_at_lem i r h =
    let made = made_of r i h in
    ap₂ ◌||◌ made.1 (closed_by_marks r (action_of i) ∙ ap (λ (k : ℕ). closed_by k (marks_number r)) made.0)

-- by the tests made
module _ (i : Input) (own marks : ℕ) where
  pub by_sender : (k : ℕ) → has_serial k ≡ true → closed_by k marks ≡ false → i.action ≡ k → (b : Bool) → b ≡ eqb i.sender own → b ≡ closed_at i own marks i.action
  by_sender k serial none is b e = rw (is, serial, none) (e ∙ sym (or_false (eqb i.sender own)))
    where
      or_false : (b : Bool) → (b || false) ≡ b
      or_false true = refl
      or_false false = refl

  pub by_marks_alone : i.action ≢ 5 → i.action ≢ 8 → (b : Bool) → b ≡ closed_by i.action marks → b ≡ closed_at i own marks i.action
  by_marks_alone five eight b e = rw (ne_eqb i.action 5 five, ne_eqb i.action 8 eight) e

-- THE TESTS IN THEIR ORDER

module _ (w : HeadRow) (i : Input) where
  pub out_of_range : row_in_range w ≡ false → Refused BadRecord ≡ (row_step w i).verdict
  unfolding row_in_range row_step step
  out_of_range h = go (row_fits w) refl (record_in_range (record_in w)) refl
    where
      go : (a : Bool) → row_fits w ≡ a → (b : Bool) → record_in_range (record_in w) ≡ b → Refused BadRecord ≡ (row_step w i).verdict
      go false u b v = rw u refl
      go true u false v = rw (u, v) refl
      go true u true v = absurd_bool (ap₂ ◌&&◌ u v) h

  module _ (h : row_in_range w ≡ true) where
    fits : row_fits w ≡ true
    unfolding row_in_range
    fits = and_left (row_fits w) _ h

    in_range : record_in_range (record_in w) ≡ true
    unfolding row_in_range
    in_range = and_right (row_fits w) _ h

    pub does_not_fit : input_fits w.heads i ≡ false → Refused BadEntry ≡ (row_step w i).verdict
    unfolding row_step step record_in
    does_not_fit f = rw (fits, in_range, f) refl

    module _ (f : input_fits w.heads i ≡ true) where
      taken : row_step w i ≡ take_action (record_in w) (reading i.reading) true (action_of i)
      unfolding row_step step record_in
      taken = rw (fits, in_range, f) refl

      pub reading_falls : i.reading < w.last → Refused ReadingFell ≡ (row_step w i).verdict
      unfolding take_action record_in
      reading_falls lt = rw (taken, lt-ltb _ _ lt) refl

      -- the marks that the row has are those of its record
      marks_are : w.marks.0 ≡ marks_number (record_in w)
      unfolding row_fits
      marks_are = eqb-true _ _ (and_left (eqb w.marks.0 (marks_number (record_in w))) _ fits)

      action_below : i.action ≤ 9
      unfolding input_fits
      action_below = leb-true i.action 9 (and_left (leb i.action 9) _ f)

      closed_is : is_closed (record_in w) (action_of i) ≡ closed_at i w.own w.marks.0 i.action
      unfolding record_in
      closed_is =
          closed_at_lem i (record_in w) action_below
          ∙ ap (λ (m : ℕ). closed_at i w.own m i.action) (sym marks_are)

      -- a spent action is taken as a look; the row's marks of early closes are its record's
      module _ (spent : Bool) (spent-is : spent ≡ is_spent i.action (eqb w.votes.early 1) (eqb w.adjusts.early 1)) where
        taken_is : taken_as (record_in w) (action_of i) ≡ cond spent Look (action_of i)
        unfolding taken_as record_in
        taken_is =
            ap (λ (b : Bool). cond b Look (action_of i))
            (ap (λ (k : ℕ). is_spent k (eqb w.votes.early 1) (eqb w.adjusts.early 1)) (made_of (record_in w) i action_below).0 ∙ sym spent-is)

        module _ (rises : w.last ≤ i.reading) where
          verdict_of : (a : Action) → cond spent Look (action_of i) ≡ a → (b : Bool) → is_closed (record_in w) a ≡ b
              → cond b (Refused ActionClosed) Accepted ≡ (row_step w i).verdict
          unfolding take_action record_in
          verdict_of a e true c = rw (taken, le-ltb _ _ rises, taken_is, e, c) refl
          verdict_of a e false c =
              rw (taken, le-ltb _ _ rises, taken_is, e, c)
              (ap (λ (t : Stepped). t.verdict) (act_accepted (with_last (record_in w) (reading i.reading)) a))

          pub spent_is_taken : spent ≡ true → Accepted ≡ (row_step w i).verdict
          unfolding is_closed
          spent_is_taken s = verdict_of Look (rw s refl) false refl

          module _ (s : spent ≡ false) (b : Bool) (is : b ≡ closed_at i w.own w.marks.0 i.action) where
            pub is_shut : b ≡ true → Refused ActionClosed ≡ (row_step w i).verdict
            is_shut e = verdict_of (action_of i) (rw s refl) true (closed_is ∙ sym is ∙ e)

            pub is_taken_lem : b ≡ false → Accepted ≡ (row_step w i).verdict
            is_taken_lem e = verdict_of (action_of i) (rw s refl) false (closed_is ∙ sym is ∙ e)
