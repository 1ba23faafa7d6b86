use mathlib.Core.Path.{◌≡◌}
use lib.ListN.{length}
use Rattle.head_median.specs.Ranks.{covers}
use Rattle.head_median.specs.Readings.{held_in, readings_in}
use Rattle.head_median.proofs.reading_at.Given as goal

abbrev pub invariant-loop-x : goal.invariant-loop-x
invariant-loop-x l = 0 ≡ held_in (covers l.index (readings_in l.readings (length l.readings))) l.readings l.x-index
