-- Loops over the numbers below a bound, and tests that hold only where another does.
use mathlib.Core.Path.{◌≡◌, refl}
use mathlib.Core.Bool.{Bool, true, false, not, ◌||◌}
use Prim.Native.Nat.{ℕ, ◌+◌, ◌≤◌, ◌<◌}
use native.Mathlib.Numerals.{add-one}
use native.Mathlib.Omega.{arith}
use Rattle.protocol.specs.Base.{◌⇒◌, all_below}
use Rattle.protocol.proofs.Tests.{absurd_bool, cases, and_both, all_below_lem}

pub all_more : (k : ℕ) (p : ℕ → Bool) → all_below k p ≡ true → p k ≡ true → all_below (k + 1) p ≡ true
all_more k p h e = rw (add-one k) (and_both e h)

pub all_fails : (n k : ℕ) (p : ℕ → Bool) → k < n → p k ≡ false → all_below n p ≡ false
all_fails n k p h e = cases (all_below n p) (λ t. absurd_bool (all_below_lem n p t k h) e) (λ t. t)

pub all_until : (n k : ℕ) (p : ℕ → Bool) → k ≤ n → n ≤ k → all_below k p ≡ true → all_below n p ≡ true
all_until n k p h l e = let same : n ≡ k = omega arith in rw same e

pub or_if : (a b : Bool) → (not a || b) ≡ (a ⇒ b)
or_if true b = refl
or_if false b = refl

pub if_true : (a b : Bool) → a ≡ true → (a ⇒ b) ≡ b
if_true a b e = rw e refl

pub if_false : (a b : Bool) → a ≡ false → (a ⇒ b) ≡ true
if_false a b e = rw e refl
