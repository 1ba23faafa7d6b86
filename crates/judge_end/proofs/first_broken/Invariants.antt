use mathlib.Core.Path.{◌≡◌}
use Prim.Native.Nat.{suc}
use lib.ListN.{drop}
use Rattle.protocol.specs.Premises.{first_broken}
use Rattle.judge_end.proofs.first_broken.Given as goal

abbrev pub invariant-loop-i : goal.invariant-loop-i
invariant-loop-i l = first_broken 1 l.kept ≡ first_broken (suc l.i) (drop l.i l.kept)
