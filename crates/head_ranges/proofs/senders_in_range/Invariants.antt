use mathlib.Core.Path.{◌≡◌}
use Rattle.head_ranges.proofs.Senders.{beyond_below}
use Rattle.head_ranges.proofs.senders_in_range.Given as goal

abbrev pub invariant-loop-p : goal.invariant-loop-p
invariant-loop-p l = l.bad ≡ beyond_below l.row l.p
