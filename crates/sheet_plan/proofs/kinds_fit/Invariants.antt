-- One word more at each turn.
use mathlib.Core.Path.{◌≡◌}
use Prim.Native.Nat.{◌+◌, ◌%◌}
use lib.Dec.{eqb}
use lib.ListN.{get_or}
use Rattle.protocol.specs.Base.{all_below}
use Rattle.protocol.specs.Words.{kind_of}
use Rattle.sheet_plan.proofs.kinds_fit.Given as goal

abbrev pub invariant-loop-i : goal.invariant-loop-i
invariant-loop-i l = l.fits ≡ all_below l.i (λ j. eqb (kind_of (get_or l.words j 0)) (6 + j % 4))
