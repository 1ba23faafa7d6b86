-- The number of the heads that pass a test.
use mathlib.Core.Path.{◌≡◌, refl, sym, ◌∙◌}
use mathlib.Core.Bool.{Bool, true, false, cond}
use Prim.Native.Nat.{ℕ, ◌+◌, ◌-◌, ◌≤◌}
use native.Mathlib.Numerals.{add-one}
use native.Mathlib.Omega.{arith}
use lib.Dec.{leb}
use borrow.Author.Tests.{leb-true, leb-false, le-leb, lt-leb}
use Rattle.protocol.specs.Base.{count_below}
use Rattle.protocol.proofs.Tests.{cases}

pub cond_below : (b : Bool) → cond b 1 0 ≤ 1
cond_below true = omega arith
cond_below false = omega arith

pub count_more : (k : ℕ) (p : ℕ → Bool) → count_below (k + 1) p ≡ count_below k p + cond (p k) 1 0
count_more k p = rw (add-one k) (go (p k))
  where
    go : (b : Bool) → cond b (count_below k p + 1) (count_below k p) ≡ count_below k p + cond b 1 0
    go true = refl
    go false = omega arith

pub leb_minus : (n k f : ℕ) → leb n (k + f) ≡ leb (n - f) k
leb_minus n k f =
    cases (leb n (k + f)) (λ t. let z = leb-true n (k + f) t in t ∙ sym (le-leb (n - f) k (omega arith)))
    (λ t. let z = leb-false n (k + f) t in t ∙ sym (lt-leb (n - f) k (omega arith)))
