use native.Mathlib.Omega.{arith}
use Rattle.head_ranges.proofs.Senders.{sum_fits, sum_tested}
use Rattle.head_ranges.proofs.senders_in_range.Goals as goal

pub overflow_add-bad : goal.overflow_add-bad
overflow_add-bad c = let room = sum_fits _ _ _ c.loop-p.invariant _ c.numbers_beyond-bad.ensures (omega arith) in omega (arith, room)

pub returns : goal.returns
returns c = sum_tested _ _ _ c.loop-p.invariant (omega arith)
