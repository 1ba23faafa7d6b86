use mathlib.Core.Path.{◌≡◌}
use Rattle.protocol.proofs.Ranks.{is_below}
use Rattle.head_median.specs.Readings.{held_in}
use Rattle.head_median.proofs.readings_below.Given as goal

abbrev pub invariant-loop-y : goal.invariant-loop-y
invariant-loop-y l = l.count ≡ held_in (is_below l.bound) l.readings l.y-index
