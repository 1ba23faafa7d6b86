use mathlib.Core.Path.{◌≡◌, refl, sym, ◌∙◌, ap}
use mathlib.Core.Bool.{Bool, false, cond}
use mathlib.Core.List.{List, []}
use Prim.Native.Nat.{ℕ, suc, ◌+◌, ◌<◌}
use native.Mathlib.Numerals.{add-one}
use native.Mathlib.Omega.{arith}
use lib.ListN.{length, get_or, drop}
use Rattle.std.proofs.Math.ListN.{drop_of_length-le}
use Rattle.std.proofs.Math.Seq.{drop-cons}
use Rattle.protocol.specs.Types.{Judged, Broken}
use Rattle.protocol.specs.Premises.{first_broken}
use Rattle.judge_end.proofs.first_broken.Goals as goal

next : (l : List Bool) (i : ℕ) (d : Bool) → i < length l → first_broken (suc i) (drop i l) ≡ cond (get_or l i d) (first_broken (suc (suc i)) (drop (suc i) l)) (Broken (suc i))
unfolding first_broken
next l i d lt = rw (drop-cons l i d lt) refl

pub returns-then-not-is_kept : goal.returns-then-not-is_kept
returns-then-not-is_kept c =
    let i = c.loop-i.i in
    sym (c.loop-i.invariant ∙ next c.args.kept.now i false (omega (arith, c.told-kept, c.loop-i-test.true)) ∙ rw (c.if-not-is_kept.true, add-one i) refl)

pub loop-i-preserved : goal.loop-i-preserved
loop-i-preserved c =
    let i = c.loop-i.i in
    rw (add-one i) (c.loop-i.invariant ∙ next c.args.kept.now i false (omega (arith, c.told-kept, c.loop-i-test.true)) ∙ rw c.if-not-is_kept.false refl)

pub returns : goal.returns
unfolding first_broken
returns c = sym (c.loop-i.invariant ∙ rw (drop_of_length-le c.args.kept.now {i = c.loop-i.i} (omega (arith, c.told-kept, c.loop-i-test.false))) refl)
