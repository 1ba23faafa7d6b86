use Rattle.head_step.proofs.Effects.{late_start, start_led, start_waits, start_decided}
use Rattle.std.proofs.Common.{refl, rules}
use Rattle.head_step.proofs.actions.start_delivered.Goals as goal

pub returns-then-has : goal.returns-then-has
returns-then-has c = λ small. late_start _ _ _ c.has.ensures _ c.if-has.true c.no_frame.ensures

pub returns-then-s-ne0 : goal.returns-then-s-ne0
returns-then-s-ne0 c =
    λ small r is fit.
    start_led _ _ _ c.has.ensures _ _ c.if-has.false c.head_index.ensures refl
    small r is fit _ _ _ c.lead-s.ensures c.close_early.ensures

pub returns-else-s-ne0 : goal.returns-else-s-ne0
returns-else-s-ne0 c =
    λ small r is fit.
    start_waits _ _ _ c.has.ensures _ _ c.if-has.false c.head_index.ensures refl
    small r is fit _ c.is_undecided.ensures _ _ c.if-is_undecided.true c.if-s-ne0.false c.lead-s.ensures

pub returns : goal.returns
returns c =
    λ small r is fit.
    start_decided _ _ _ c.has.ensures _ _ c.if-has.false c.head_index.ensures refl
    small r is fit _ c.is_undecided.ensures _ _ c.if-is_undecided.false c.no_frame-2.ensures c.close_early-2.ensures
