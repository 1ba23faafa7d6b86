use Rattle.head_step.proofs.Effects.{start_confirmed_acts}
use Rattle.std.proofs.Common.{rules}
use Rattle.head_step.proofs.actions.start_confirmed.Goals as goal

pub returns : goal.returns
returns c = start_confirmed_acts _ _ _ c.close_early.ensures _ c.no_frame.ensures c.with-row.ensures
