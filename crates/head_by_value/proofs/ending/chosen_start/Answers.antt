use Rattle.protocol.specs.Record.{chosen_start}
use Rattle.std.proofs.Common.{rules}
use Rattle.head_by_value.proofs.ending.chosen_start.Goals as goal

pub returns-in-None : goal.returns-in-None
unfolding chosen_start
returns-in-None c = simp c.in-None.is

pub returns-in-Some : goal.returns-in-Some
unfolding chosen_start
returns-in-Some c = simp (c.start_at.ensures, c.in-Some.is)
