use mathlib.Core.Path.{◌≡◌}
use Rattle.head_record.proofs.Filled.{written_below}
use Rattle.head_record.proofs.put_senders.Given as goal

abbrev pub invariant-loop-i : goal.invariant-loop-i
invariant-loop-i l = l.row ≡ written_below l.senders l.initial.row l.i
