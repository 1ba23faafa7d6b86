-- A signed number as the difference of two natural numbers, where linear arithmetic can reach it.
use mathlib.Core.Path.{◌≡◌}
use Prim.Native.Nat.{ℕ, zero, suc, ◌+◌, ◌-◌}
use native.Mathlib.Omega.{arith}
use lib.Dec.{ltb}
use lib.IntN.{ℤ, pos, negsuc, neg_ℤ, nat_abs, sub_ℕ, ◌+ℤ◌, ◌-ℤ◌}
use borrow.Author.Tests.{ltb-true, ltb-false}
use Rattle.protocol.specs.Base.{distance}
use Rattle.protocol.proofs.Tests.{cond_elim}

-- the signed number is x − y
pub data Difference (x y : ℕ) : ℤ → Type 0 where
  up : (n : ℕ) → x ≡ y + n → Difference x y (pos n)
  down : (n : ℕ) → y ≡ x + suc n → Difference x y (negsuc n)

shifted : (x y m n : ℕ) → x + n ≡ y + m → Difference x y (sub_ℕ m n)
shifted x y m n e =
    cond_elim (Difference x y) (ltb m n) (λ t. let h = ltb-true m n t in down (n - suc m) (omega arith))
    (λ t. let h = ltb-false m n t in up (m - n) (omega arith))

pub difference_of : (x y : ℕ) → Difference x y (sub_ℕ x y)
difference_of x y = shifted x y x y (omega arith)

pub difference_pos : (n : ℕ) → Difference n 0 (pos n)
difference_pos n = up n (omega arith)

pub difference_neg : {x y : ℕ} {z : ℤ} → Difference x y z → Difference y x (neg_ℤ z)
difference_neg (up zero d) = up zero (omega arith)
difference_neg (up (suc n) d) = down n d
difference_neg (down n d) = up (suc n) d

pub difference_add : {x y u v : ℕ} {z w : ℤ} → Difference x y z → Difference u v w → Difference (x + u) (y + v) (z +ℤ w)
difference_add (up m d) (up n e) = up (m + n) (omega arith)
difference_add (up m d) (down n e) = shifted _ _ m (suc n) (omega arith)
difference_add (down m d) (up n e) = shifted _ _ n (suc m) (omega arith)
difference_add (down m d) (down n e) = down (suc (m + n)) (omega arith)

pub difference_sub : {x y u v : ℕ} {z w : ℤ} → Difference x y z → Difference u v w → Difference (x + v) (y + u) (z -ℤ w)
difference_sub d e = difference_add d (difference_neg e)

-- |x − y|
pub difference_abs : {x y : ℕ} {z : ℤ} → Difference x y z → nat_abs z ≡ distance x y
difference_abs (up n d) = omega arith
difference_abs (down n d) = omega arith
