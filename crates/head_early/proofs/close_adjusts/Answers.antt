use Rattle.protocol.specs.Record.{adjusts}
use Rattle.head_early.proofs.Closing.{stays, adjusts_closed}
use Rattle.head_early.proofs.close_adjusts.Goals as goal

pub returns-then-not-has : goal.returns-then-not-has
returns-then-not-has c = stays adjusts _ (simp (← c.has.ensures, c.if-not-has.true))

pub returns-then-has : goal.returns-then-has
returns-then-has c = stays adjusts _ (simp (← c.has.ensures, c.if-not-has.false, ← c.has-2.ensures, c.if-has.true))

pub returns-then-all_spoken : goal.returns-then-all_spoken
returns-then-all_spoken c = adjusts_closed _ _ (simp (← c.has.ensures, c.if-not-has.false, ← c.has-2.ensures, c.if-has.false, ← c.all_spoken.ensures, c.if-all_spoken.true)) c.with-row.ensures

pub returns-else-all_spoken : goal.returns-else-all_spoken
returns-else-all_spoken c = stays adjusts _ (simp (← c.has.ensures, c.if-not-has.false, ← c.has-2.ensures, c.if-has.false, ← c.all_spoken.ensures, c.if-all_spoken.false))
