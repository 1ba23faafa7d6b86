use mathlib.Core.Path.{◌≡◌, refl, sym, ◌∙◌}
use mathlib.Core.List.{[], ◌∷◌}
use Prim.Native.Nat.{ℕ, zero, suc, ◌<◌}
use native.Mathlib.Omega.{arith}
use lib.ListN.{get_or, take}
use lib.Seq.{length-take-le}
use Rattle.protocol.specs.Readers.{kinds_fit, is_shown}
use Rattle.sheet_display.proofs.Shown.{same_head, other_head, more_shown, more_passed, shown_most}
use Rattle.sheet_display.proofs.keep_shown.Goals as goal
use Rattle.sheet_display.proofs.keep_shown.Goals.{then-is_shown+then-at-head, then-is_shown+else-at-head, else-is_shown}

pub loop-w-init : goal.loop-w-init
unfolding kinds_fit
loop-w-init c =
    record { count_is = refl; fits_is = refl; has_three = refl; word_is = none }
  where
    none : (j : ℕ) → j < 3 → ◌≡◌ {A = ℕ} (get_or (0 ∷ 0 ∷ 0 ∷ []) j 0) 0
    none zero lt = refl
    none (suc zero) lt = refl
    none (suc (suc zero)) lt = refl
    none (suc (suc (suc j))) lt = refl

pub overflow_add-kept : goal.overflow_add-kept
overflow_add-kept c =
    let L = c.loop-w in
    let words = c.args.words.now in
    let most = shown_most is_shown (take L.w-index words) in
    let few = length-take-le L.w-index words (omega arith) in
    let is = L.invariant.count_is in
    omega arith

pub loop-w-preserved : goal.loop-w-preserved
loop-w-preserved c =
    let A = c.args in
    let L = c.loop-w in
    let inside = c.loop-w-test.true in
    let shown = sym c.is_shown.ensures in
    elim c.if-is_shown.branch [
      | then-is_shown+then-at-head w ↦ rw (w.kept-is, w.kind_of.ensures) (more_shown A.head A.words.now L.w-index inside _ _ _ (shown ∙ w.if-is_shown.true) (same_head A.head _ _ _ _ _ L.invariant w.if-at-head.true))
      | then-is_shown+else-at-head w ↦ rw (w.kept-is, w.kind_of.ensures) (more_shown A.head A.words.now L.w-index inside _ _ _ (shown ∙ w.if-is_shown.true) (other_head A.head _ _ _ _ _ L.invariant w.if-at-head.false))
      | else-is_shown w ↦ rw w.kept-is (more_passed A.head A.words.now L.w-index inside _ _ _ (shown ∙ w.if-is_shown.false) L.invariant)
    ]
