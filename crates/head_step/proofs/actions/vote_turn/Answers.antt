use Rattle.head_step.proofs.Effects.{vote_turn_acts}
use Rattle.std.proofs.Common.{rules}
use Rattle.head_step.proofs.actions.vote_turn.Goals as goal

pub returns : goal.returns
returns c = vote_turn_acts _ _ _ _ _ c.close_early.ensures c.with-row.ensures c.lead-s.ensures
