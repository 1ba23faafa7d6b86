use Rattle.std.proofs.Common.{◌≡◌, refl}
use Rattle.head_step.proofs.Effects.{adjust_adopted, adjust_kept}
use Rattle.head_step.proofs.actions.take_adjust.Goals as goal

pub returns-then-outranks : goal.returns-then-outranks
returns-then-outranks c =
    λ lp ls la r is fit.
    adjust_adopted _ _ _ _ _ _ _ _ c.head_index.ensures refl refl
    lp ls la r is fit _ (rw c.keep.ensures at c.outranks.ensures) _ _ c.if-outranks.true (rw c.keep.ensures at c.adjust.ensures)

pub returns : goal.returns
returns c =
    λ lp ls la r is fit.
    rw c.keep.ensures (adjust_kept _ _ _ _ _ _ _ _ c.head_index.ensures refl refl
    lp ls la r is fit _ (rw c.keep.ensures at c.outranks.ensures) _ c.if-outranks.false c.no_frame.ensures)
