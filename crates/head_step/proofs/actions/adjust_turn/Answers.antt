use Rattle.std.proofs.Common.{refl, rules}
use Rattle.protocol.specs.declared.Action.TheVariants.{AdjustTurn}
use Rattle.protocol.specs.Record.{adjusts}
use Rattle.protocol.specs.Step.{taken_as}
use Rattle.head_step.proofs.Effects.{spent_acts, adjust_turn_acts}
use Rattle.head_step.proofs.actions.adjust_turn.Goals as goal

pub returns-then-row-eq1 : goal.returns-then-row-eq1
unfolding taken_as
returns-then-row-eq1 c = spent_acts adjusts AdjustTurn _ _ (λ r. refl) c.if-row-eq1.true c.no_frame.ensures

pub returns : goal.returns
returns c = adjust_turn_acts _ _ _ _ _ c.close_early.ensures c.if-row-eq1.false c.with-row.ensures c.propose-s.ensures
