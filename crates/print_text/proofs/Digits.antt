-- The digits of a number: those of a tenth of it, then its last one.
-- Main results: `one_digit`, `more_digits`, `negative`, `positive`.
use mathlib.Core.Path.{◌≡◌, refl, ap}
use mathlib.Core.List.{List, [], ◌∷◌, ◌++◌}
use Prim.Native.Nat.{ℕ, zero, suc, ◌+◌, ◌-◌, ◌*◌, ◌/◌, ◌%◌, ◌^◌, ◌≤◌, ◌<◌}
use native.Mathlib.Omega.{arith}
use native.Mathlib.Nat.{pow-suc}
use lib.IntN.{sub_ℕ}
use lib.Dec.{ltb}
use borrow.Author.Tests.{lt-ltb, le-ltb}
use Rattle.protocol.proofs.Tests.{cases}
use Rattle.protocol.specs.Program.{digits, decimal, signed}

-- where the number has no more than k + 1 digits, one digit more asks for none
enough : (k x : ℕ) → x < 10 ^ suc k → digits (suc (suc k)) x ≡ digits (suc k) x
enough zero x h = rw (lt-ltb x 10 h) refl
enough (suc k) x h =
    cases (ltb x 10) (λ t. rw t refl)
    (λ t.
    let l : x < 10 ^ suc k * 10 = rw (← pow-suc 10 (suc k)) h in
    rw t (ap (λ (d : List ℕ). d ++ ((48 + x % 10) ∷ [])) (enough k (x / 10) (omega arith))))

pub one_digit : (x : ℕ) → x < 10 → (48 + x % 10) ∷ [] ≡ decimal x
unfolding decimal
one_digit x h = let e : 48 + x % 10 ≡ 48 + x = omega arith in rw (lt-ltb x 10 h, e) refl

pub more_digits : (x : ℕ) → 10 ≤ x → x < 2 ^ 64 → decimal (x / 10) ++ ((48 + x % 10) ∷ []) ≡ decimal x
unfolding decimal
more_digits x h l = rw (le-ltb x 10 h, enough 18 (x / 10) (omega arith)) refl

-- "signed"
pub negative : (a b : ℕ) → a < b → 45 ∷ decimal (b - a) ≡ signed (sub_ℕ a b)
unfolding signed
negative a b h = let e : b - a ≡ suc (b - suc a) = omega arith in rw (lt-ltb a b h, e) refl

pub positive : (a b : ℕ) → b ≤ a → decimal (a - b) ≡ signed (sub_ℕ a b)
unfolding signed
positive a b h = rw (le-ltb a b h) refl
