use mathlib.Core.Path.{◌≡◌}
use Rattle.head_median.specs.Ranks.{least_from}
use Rattle.head_median.specs.Readings.{readings_in}
use Rattle.head_median.proofs.least_from.Given as goal

abbrev pub invariant-loop-y : goal.invariant-loop-y
invariant-loop-y l = l.least ≡ least_from l.bound (readings_in l.readings l.y-index)
