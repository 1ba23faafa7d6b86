-- Counts of the readings in a row: one number more (`held_next`, `held_next_le`). Those of vote readings are counts of the
-- list (`held_counted`), so that by them the reading at an index in order is found (`stands_test`, `vote_found`, `none_found`).
-- The least from a bound on: one number more (`least_next`).
use Rattle.std.specs.Prelude.{Some, None}
use mathlib.Core.Path.{◌≡◌, refl, sym, ◌∙◌, ap}
use mathlib.Core.Bool.{Bool, true, false, cond, not, ◌&&◌}
use mathlib.Core.List.{List}
use Prim.Native.Nat.{ℕ, zero, suc, ◌+◌, ◌-◌, ◌≤◌, ◌<◌, min}
use native.Mathlib.Numerals.{add-one}
use native.Mathlib.Omega.{arith}
use lib.Dec.{ltb, leb, eqb}
use lib.ListN.{get_or}
use borrow.Author.Tests.{eqb-false, le-ltb}
use Rattle.protocol.specs.Median.{ordered_at}
use Rattle.protocol.specs.Record.{reading}
use Rattle.protocol.specs.Step.{prepend}
use Rattle.protocol.proofs.Tests.{absurd_bool, cases, cond_elim}
use Rattle.protocol.proofs.Ranks.{bit, bit_le, count, is_below}
use Rattle.head_median.specs.Ranks.{covers, none, number_from, least_from}
use Rattle.head_median.specs.Readings.{holds, held_in, readings_in}
use Rattle.head_median.proofs.Ranks.{covers_stands, none_covers, least_top}

one_more : (b : Bool) (n : ℕ) → cond b (n + 1) n ≡ n + bit b
one_more true n = refl
one_more false n = omega arith

module _ (t : ℕ → Bool) (w : List ℕ) where
  held_le : (k : ℕ) → held_in t w k ≤ k
  unfolding held_in
  held_le zero = omega arith
  held_le (suc k) =
      let b : Bool = holds t (get_or w k 0) in
      rw (one_more b (held_in t w k)) (omega (arith, held_le k, bit_le b))

  -- one number more, which is counted or not
  module _ (p k b : ℕ) (so_far : k ≡ held_in t w p) (one : b ≡ bit (holds t (get_or w p 0))) where
    pub held_next : k + b ≡ held_in t w (p + 1)
    unfolding held_in
    held_next = rw (so_far, one, add-one) (sym (one_more (holds t (get_or w p 0)) (held_in t w p)))

    pub held_next_le : k + b ≤ p + 1
    held_next_le = omega (arith, held_next, held_le (p + 1))

  count_prepend : (b : Bool) (x : ℕ) (l : List ℕ)
      → count t (prepend (cond b None (Some (reading x))) l) ≡ count t l + bit (cond b false (t x))
  count_prepend true x l = omega arith
  count_prepend false x l = omega arith

  pub held_counted : (k : ℕ) → held_in t w k ≡ count t (readings_in w k)
  unfolding holds held_in readings_in
  held_counted zero = refl
  held_counted (suc k) =
      let y : ℕ = get_or w k 0 in
      omega (arith, one_more (holds t y) (held_in t w k), held_counted k, count_prepend (eqb y 0) (y - 1) (readings_in w k))

-- ONE NUMBER, by its reading z

module _ (y bound z : ℕ) (is : z ≡ cond (eqb y 0) none (y - 1)) where
  pub below_test : bound ≤ none → ltb z bound ≡ holds (is_below bound) y
  unfolding holds
  below_test top =
      rw is (cases (eqb y 0) (λ t. rw t (le-ltb none bound top)) (λ t. rw t refl))

  pub from_test : number_from bound z ≡ cond (eqb y 0) none (number_from bound (y - 1))
  from_test = rw is (cases (eqb y 0) (λ t. rw t (cond_elim (λ (x : ℕ). x ≡ none) (ltb none bound) (λ _. refl) (λ _. refl))) (λ t. rw t refl))

-- WHERE A READING STANDS IN ORDER

-- by the two counts
pub stands_test : (w : List ℕ) (n index x : ℕ)
    → holds (covers index (readings_in w n)) x ≡ (not (eqb x 0) && (leb (held_in (is_below (x - 1)) w n) index && ltb index (held_in (is_below x) w n)))
unfolding holds covers
stands_test w n index x =
    cases (eqb x 0) (λ t. rw t refl)
    (λ t. let some = eqb-false x 0 t in
    let next : x ≡ suc (x - 1) = omega arith in
    rw (t, held_counted (is_below (x - 1)) w n, ap (λ (y : ℕ). held_in (is_below y) w n) next ∙ held_counted (is_below (suc (x - 1))) w n) refl)

-- the one that stands at the index is found
pub vote_found : (l : List ℕ) (index x : ℕ) → holds (covers index l) x ≡ true → (0 < x) × (cond (eqb x 0) none (x - 1) ≡ ordered_at index l)
unfolding holds
vote_found l index x =
    cases (eqb x 0) (λ z e. absurd_bool (rw z at e) refl)
    (λ z e. (omega (arith, eqb-false x 0 z), rw z (covers_stands l index (x - 1) (rw z at e))))

-- and where none does, the index is beyond the readings
pub none_found : (w : List ℕ) (n index : ℕ) → 0 ≡ held_in (covers index (readings_in w n)) w n
    → 0 ≡ ordered_at index (readings_in w n)
none_found w n index unseen =
    let l : List ℕ = readings_in w n in
    sym (none_covers l index (sym (unseen ∙ held_counted (covers index l) w n)))

-- THE LEAST FROM A BOUND ON, with one number more

pub least_next : (w : List ℕ) (bound p z least : ℕ) → z ≡ cond (eqb (get_or w p 0) 0) none (number_from bound (get_or w p 0 - 1))
    → least ≡ least_from bound (readings_in w p) → min least z ≡ least_from bound (readings_in w (p + 1))
unfolding readings_in least_from
least_next w bound p z least number so_far =
    rw (number, so_far, add-one) (one (eqb (get_or w p 0) 0) (get_or w p 0 - 1) (readings_in w p))
  where
    one : (b : Bool) (x : ℕ) (l : List ℕ)
        → min (least_from bound l) (cond b none (number_from bound x)) ≡ least_from bound (prepend (cond b None (Some (reading x))) l)
    one true x l = omega (arith, least_top bound l)
    one false x l = refl
