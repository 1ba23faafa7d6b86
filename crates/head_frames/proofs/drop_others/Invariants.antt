use mathlib.Core.Path.{◌≡◌}
use Rattle.head_frames.specs.Drops.{dropped_below}
use Rattle.head_frames.proofs.drop_others.Given as goal

abbrev pub invariant-loop-p : goal.invariant-loop-p
invariant-loop-p l = l.readings ≡ dropped_below l.name l.latest l.initial.readings l.p
