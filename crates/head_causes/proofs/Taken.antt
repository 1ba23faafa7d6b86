-- What is known of an action that is accepted at a row: the row and the numbers passed the tests, and the answer is what the action does.
-- Main result: `accepted_step`.
use mathlib.Core.Path.{◌≡◌, refl}
use mathlib.Core.Bool.{Bool, true, false}
use mathlib.Core.List.{List}
use Prim.Native.Nat.{ℕ}
use lib.ListN.{get_or}
use Rattle.protocol.specs.declared.HeadRow.{HeadRow}
use Rattle.protocol.specs.declared.Input.{Input}
use Rattle.protocol.specs.Types.{Accepted}
use Rattle.protocol.specs.Record.{reading, record_in_range}
use Rattle.protocol.specs.Step.{with_last, act, taken_as, take_action, action_of, input_fits, step}
use Rattle.protocol.specs.Row.{record_in, row_fits, row_in_range}
use Rattle.protocol.specs.Board.{row_step}
use Rattle.protocol.proofs.Fits.{not_accepted}
use Rattle.protocol.proofs.Valid.{passed}

pub record AcceptedStep (w : HeadRow) (i : Input) : Type 0 where
  pub row_in_range_lem : row_in_range w ≡ true
  pub input_fits_lem : input_fits w.heads i ≡ true
  pub takes : take_action (record_in w) (reading i.reading) true (action_of i)
      ≡ act (with_last (record_in w) (reading i.reading)) (taken_as (record_in w) (action_of i))
  pub answer : row_step w i ≡ act (with_last (record_in w) (reading i.reading)) (taken_as (record_in w) (action_of i))

pub accepted_step : (w : HeadRow) (i : Input) → (row_step w i).verdict ≡ Accepted → AcceptedStep w i
unfolding row_step step row_in_range record_in
accepted_step w i e = go (row_fits w) refl (record_in_range (record_in w)) refl (input_fits w.heads i) refl
  where
    go : (a : Bool) → row_fits w ≡ a → (b : Bool) → record_in_range (record_in w) ≡ b → (c : Bool) → input_fits w.heads i ≡ c → AcceptedStep w i
    go false u b v c z = not_accepted _ (rw u at e)
    go true u false v c z = not_accepted _ (rw (u, v) at e)
    go true u true v false z = not_accepted _ (rw (u, v, z) at e)
    go true u true v true z =
        let p = passed (record_in w) (reading i.reading) true (action_of i) (rw (u, v, z) at e) in
        record { row_in_range_lem = rw (u, v) refl; input_fits_lem = z; takes = p.answer; answer = rw (u, v, z) p.answer }
