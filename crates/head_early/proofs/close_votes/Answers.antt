use Rattle.protocol.specs.Record.{votes}
use Rattle.head_early.proofs.Closing.{stays, votes_closed}
use Rattle.head_early.proofs.close_votes.Goals as goal

pub returns-then-has : goal.returns-then-has
returns-then-has c = stays votes _ (simp (← c.has.ensures, c.if-has.true))

pub returns-then-all_spoken : goal.returns-then-all_spoken
returns-then-all_spoken c = votes_closed _ _ (simp (← c.has.ensures, c.if-has.false, ← c.all_spoken.ensures, c.if-all_spoken.true)) c.with-row.ensures

pub returns-else-all_spoken : goal.returns-else-all_spoken
returns-else-all_spoken c = stays votes _ (simp (← c.has.ensures, c.if-has.false, ← c.all_spoken.ensures, c.if-all_spoken.false))
