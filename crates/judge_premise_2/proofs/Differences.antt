-- Words of 64 bits with a sign as differences of natural numbers: an operation on words is the one on differences, as long as
-- their parts stay below 2⁶³.
-- Main results: `gain_is`, `loss_is`; that no operation on the way leaves 64 bits, `gain_fits`, `loss_fits` and the like.
use mathlib.Core.Path.{◌≡◌, sym, ◌∙◌, ap, ap₂, subst}
use mathlib.Core.Bool.{Bool, cond}
use Prim.Native.Nat.{ℕ, suc, ◌+◌, ◌-◌, ◌*◌, ◌<◌, ◌≤◌, ◌^◌}
use native.Mathlib.Nat.{mul-add, add-mul, mul-le-mul_right}
use native.Mathlib.Omega.{arith}
use lib.IntN.{ℤ, pos, negsuc, sub_ℕ, ◌-ℤ◌, ◌*ℤ◌}
use mir.Syntax.{w64}
use mir.Val.{SFits, to_z, of_z}
use mir.Facts.{to_z_pos, to_z-of_z}
use borrow.Author.Tests.{lt-ltb, le-ltb}
use Rattle.protocol.proofs.Signed.{Difference, up, down, difference_pos, difference_neg, difference_sub}

-- what a word stands for
abbrev word : ℤ → ℤ
word z = to_z w64 (of_z w64 z)

difference_times : (k : ℕ) {x y : ℕ} {z : ℤ} → Difference x y z → Difference (k * x) (k * y) (pos k *ℤ z)
difference_times k (up n d) = up (k * n) (ap (λ (x : ℕ). k * x) d ∙ mul-add k _ n)
difference_times k (down n d) = difference_neg (up (k * suc n) (ap (λ (x : ℕ). k * x) d ∙ mul-add k _ (suc n)))

difference_is : {x y : ℕ} {z : ℤ} → Difference x y z → (u v : ℕ) → x + v ≡ u + y → z ≡ sub_ℕ u v
difference_is (up n d) u v e =
    sym (ap (λ (t : Bool). cond t (negsuc (v - suc u)) (pos (u - v))) (le-ltb u v (omega arith)) ∙ ap pos (omega arith))
difference_is (down n d) u v e =
    sym (ap (λ (t : Bool). cond t (negsuc (v - suc u)) (pos (u - v))) (lt-ltb u v (omega arith)) ∙ ap negsuc (omega arith))

fits : {x y : ℕ} {z : ℤ} → Difference x y z → x < 2 ^ 63 → y < 2 ^ 63 → SFits w64 z
fits (up n d) fx fy = record { sfits = omega arith }
fits (down n d) fx fy = record { sfits = omega arith }

of_word : {x y : ℕ} {z : ℤ} → Difference x y z → x < 2 ^ 63 → y < 2 ^ 63 → Difference x y (word z)
of_word {x} {y} d fx fy = subst (Difference x y) (sym (to_z-of_z {w = w64} (fits d fx fy))) d

of_number : (n : ℕ) → n < 2 ^ 63 → Difference n 0 (to_z w64 n)
of_number n h = subst (Difference n 0) (sym (to_z_pos w64 h)) (difference_pos n)

-- drift d, real time t, reading a and slack k, as wide as they are
pub record Bounded (d t a k : ℕ) : Type 0 where
  pub drift : d < 2 ^ 16
  pub time : t < 2 ^ 32
  pub reading : a < 2 ^ 32
  pub slack : k < 2 ^ 32

-- how far the clock is ahead, and what drift allows
abbrev ahead : ℕ → ℕ → ℤ
ahead t a = word (pos 1000000 *ℤ word (to_z w64 a -ℤ to_z w64 t))

abbrev allowed : ℕ → ℕ → ℤ
allowed d t = word (to_z w64 d *ℤ to_z w64 t)

module _ {d t a k : ℕ} (b : Bounded d t a k) where
  apart : Difference (a + 0) (0 + t) (to_z w64 a -ℤ to_z w64 t)
  apart = difference_sub (of_number a (omega arith)) (of_number t (omega arith))

  scaled : Difference (1000000 * (a + 0)) (1000000 * (0 + t)) (pos 1000000 *ℤ word (to_z w64 a -ℤ to_z w64 t))
  scaled = difference_times 1000000 (of_word apart (omega arith) (omega arith))

  is_ahead : Difference (1000000 * (a + 0)) (1000000 * (0 + t)) (ahead t a)
  is_ahead = of_word scaled (omega arith) (omega arith)

  behind : Difference (0 + 1000000 * (0 + t)) (0 + 1000000 * (a + 0)) (pos 0 -ℤ ahead t a)
  behind = difference_sub (difference_pos 0) is_ahead

  is_behind : Difference (0 + 1000000 * (0 + t)) (0 + 1000000 * (a + 0)) (word (pos 0 -ℤ ahead t a))
  is_behind = of_word behind (omega arith) (omega arith)

  allowed_below : d * t < 2 ^ 48
  allowed_below = let most : d ≤ 65535 = omega arith in omega (arith, mul-le-mul_right t most)

  product : Difference (d * t) 0 (to_z w64 d *ℤ to_z w64 t)
  product = subst (Difference (d * t) 0) (sym (ap₂ ◌*ℤ◌ (to_z_pos w64 (omega arith)) (to_z_pos w64 (omega arith)))) (difference_pos (d * t))

  -- a difference less what drift allows, and that less the slack
  module _ {x y : ℕ} {z : ℤ} (is : Difference x y z) (fx : x < 2 ^ 53) (fy : y < 2 ^ 53) where
    less : Difference (x + 0) (y + d * t) (z -ℤ allowed d t)
    less = difference_sub is (of_word product (omega (arith, allowed_below)) (omega arith))

    less_fits : SFits w64 (z -ℤ allowed d t)
    less_fits = fits less (omega arith) (omega (arith, allowed_below))

    both_less : Difference (x + 0 + 0) (y + d * t + k) (word (z -ℤ allowed d t) -ℤ to_z w64 k)
    both_less = difference_sub (of_word less (omega arith) (omega (arith, allowed_below))) (of_number k (omega arith))

    both_less_fits : SFits w64 (word (z -ℤ allowed d t) -ℤ to_z w64 k)
    both_less_fits = fits both_less (omega arith) (omega (arith, allowed_below))

    both_less_is : (u v : ℕ) → x + v ≡ u + (y + d * t + k) → word (word (z -ℤ allowed d t) -ℤ to_z w64 k) ≡ sub_ℕ u v
    both_less_is u v e = difference_is (of_word both_less (omega arith) (omega (arith, allowed_below))) u v (omega arith)

  pub gain_fits : SFits w64 (word (ahead t a -ℤ allowed d t) -ℤ to_z w64 k)
  gain_fits = both_less_fits is_ahead (omega arith) (omega arith)

  pub gain_is : word (word (ahead t a -ℤ allowed d t) -ℤ to_z w64 k) ≡ sub_ℕ (1000000 * a) ((1000000 + d) * t + k)
  gain_is = both_less_is is_ahead (omega arith) (omega arith) (1000000 * a) ((1000000 + d) * t + k) (omega (arith, add-mul 1000000 d t))

  pub loss_allowed_fits : SFits w64 (word (pos 0 -ℤ ahead t a) -ℤ allowed d t)
  loss_allowed_fits = less_fits is_behind (omega arith) (omega arith)

  pub loss_fits : SFits w64 (word (word (pos 0 -ℤ ahead t a) -ℤ allowed d t) -ℤ to_z w64 k)
  loss_fits = both_less_fits is_behind (omega arith) (omega arith)

  pub loss_is : word (word (word (pos 0 -ℤ ahead t a) -ℤ allowed d t) -ℤ to_z w64 k) ≡ sub_ℕ (1000000 * t) (1000000 * a + d * t + k)
  loss_is = both_less_is is_behind (omega arith) (omega arith) (1000000 * t) (1000000 * a + d * t + k) (omega arith)
