use mathlib.Core.Path.{◌≡◌}
use mathlib.Core.Bool.{true}
use Prim.Native.Nat.{min}
use Rattle.protocol.specs.Base.{all_below}
use Rattle.judge_premises_5_to_8.specs.Closes.{frame_reached}
use Rattle.judge_premises_5_to_8.proofs.Receivers.has_reached.Given as goal

abbrev pub invariant-loop-k : goal.invariant-loop-k
invariant-loop-k l = record { end_is : l.k-end ≡ min l.count 16; all_reached : all_below l.k (frame_reached l.g l.self.0 l.a l.p) ≡ true }
