-- Laws of a number that is shifted right by k bits, that is divided by the kth power of 2.
use mathlib.Core.Path.{◌≡◌, refl}
use mathlib.Core.Bool.{Bool, true, false}
use Prim.Native.Nat.{ℕ, ◌<◌, ◌≤◌, ◌*◌, ◌/◌, ◌^◌}
use native.Mathlib.Nat.{lt_of_lt_of_le, div-eq_of_lt, div-lt_iff_lt-mul, one-mul}
use native.Mathlib.Omega.{arith}
use lib.Dec.{ltb, eqb}
use lib.Pow.{pow_pos, pow_mono}
use borrow.Author.Tests.{ltb-true, ltb-false, ne_eqb}

-- 16 bits are below each power from 2¹⁶ on
pub below_power : {c : ℕ} (k : ℕ) → c < 2 ^ 16 → 16 ≤ k → c < 2 ^ k
below_power k small large = lt_of_lt_of_le small (pow_mono large)

-- nothing is left exactly of a number below the power
pub left_none : (c k : ℕ) → eqb (c / 2 ^ k) 0 ≡ ltb c (2 ^ k)
left_none c k = go (ltb c (2 ^ k)) refl
  where
    go : (b : Bool) → ltb c (2 ^ k) ≡ b → eqb (c / 2 ^ k) 0 ≡ b
    go true e = rw (div-eq_of_lt (ltb-true c (2 ^ k) e))
    go false e =
        ne_eqb (c / 2 ^ k) 0 (λ z.
        let below : c < 1 * 2 ^ k = (div-lt_iff_lt-mul (pow_pos k)).0 (omega arith) in
        let least : 2 ^ k ≤ c = ltb-false c (2 ^ k) e in
        let below' : c < 2 ^ k = rw (one-mul (2 ^ k)) at below in omega arith)
