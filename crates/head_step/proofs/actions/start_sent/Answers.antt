use Rattle.head_step.proofs.Effects.{start_sent_acts}
use Rattle.std.proofs.Common.{rules}
use Rattle.head_step.proofs.actions.start_sent.Goals as goal

pub returns : goal.returns
returns c = start_sent_acts _ _ _ c.close_early.ensures c.with-row.ensures
