-- The laws of the median. It is half the sum of the numbers at places (k − 1) / 2 and k / 2, whatever the count
-- (`median_halves`), so it lies between these two (`median_middle`). From this: it lies between the least and the greatest
-- number (`median_between`) and is below what they all are below (`median_below`); at most half of the numbers are below it and
-- at least half are up to it (`half_below`, `half_upto`); and the order of the numbers does not matter (`median_any_order`).
use mathlib.Core.Path.{◌≡◌, sym, ◌∙◌, ap, ap₂}
use mathlib.Core.List.{List}
use Prim.Native.Nat.{ℕ, suc, ◌+◌, ◌-◌, ◌*◌, ◌/◌, ◌%◌, ◌≤◌, ◌<◌}
use native.Mathlib.Omega.{arith}
use lib.Dec.{ltb}
use lib.ListN.{length}
use borrow.Author.Tests.{eqb-true, eqb-false, ltb-true, ltb-false}
use Rattle.protocol.specs.Median.{ordered_at, is_even, median}
use Rattle.protocol.proofs.Tests.{cases, cond_elim}
use Rattle.protocol.proofs.Ranks.{Every, count, is_below, count_le, below_rises, place_holds, past_last, few_below, more_upto, SameNumbers, same_length, same_place}

-- THE TWO MIDDLE ONES, which are one where the count is odd

abbrev pub lower : List ℕ → ℕ
lower l = ordered_at ((length l - 1) / 2) l

abbrev pub upper : List ℕ → ℕ
upper l = ordered_at (length l / 2) l

one_middle : (l : List ℕ) → length l % 2 ≡ 1 → upper l ≡ lower l
one_middle l odd = ap (λ (i : ℕ). ordered_at i l) (omega arith)

pub median_halves : (l : List ℕ) → median l ≡ (lower l + upper l) / 2
unfolding median
median_halves l =
    cond_elim (λ (m : ℕ). m ≡ (lower l + upper l) / 2) (is_even (length l))
    (λ t. let even : length l % 2 ≡ 0 = eqb-true _ _ t in (let same : ordered_at (length l / 2 - 1) l ≡ lower l = ap (λ (i : ℕ). ordered_at i l) (omega arith) in omega arith))
    (λ t. let odd = eqb-false (length l % 2) 0 t in omega (arith, one_middle l (omega arith)))

-- with an odd count it is the middle one; of no number it is 0
pub median_odd : (l : List ℕ) → length l % 2 ≡ 1 → median l ≡ lower l
median_odd l odd = omega (arith, median_halves l, one_middle l odd)

pub median_none : (l : List ℕ) → length l ≡ 0 → median l ≡ 0
median_none l none = omega (arith, median_halves l, past_last l ((length l - 1) / 2) (omega arith), past_last l (length l / 2) (omega arith))

middle_rises : (l : List ℕ) → lower l ≤ upper l
middle_rises l =
    cases (ltb 0 (length l)) (λ t. some (ltb-true 0 (length l) t))
    (λ t. let none = ltb-false 0 (length l) t in omega (arith, past_last l ((length l - 1) / 2) (omega arith)))
  where
    some : 0 < length l → lower l ≤ upper l
    some h =
        cases (ltb (upper l) (lower l))
        (λ t. let less = ltb-true (upper l) (lower l) t in absurd (omega (
          arith,
          below_rises (suc (upper l)) (lower l) l less,
          few_below l ((length l - 1) / 2) (omega arith),
          more_upto l (length l / 2) (omega arith),
        )))
        (λ t. ltb-false (upper l) (lower l) t)

pub median_middle : (l : List ℕ) → (lower l ≤ median l) × (median l ≤ upper l)
median_middle l = (omega (arith, median_halves l, middle_rises l), omega (arith, median_halves l, middle_rises l))

-- BETWEEN THE LEAST AND THE GREATEST

pub median_between : (low high : ℕ) (l : List ℕ) → 0 < length l → Every (λ x. (low ≤ x) × (x ≤ high)) l → (low ≤ median l) × (median l ≤ high)
median_between low high l h e =
    let place : (i : ℕ) → i < length l → (low ≤ ordered_at i l) × (ordered_at i l ≤ high) = λ i b. place_holds (λ x. (low ≤ x) × (x ≤ high)) l i (λ z. absurd (omega arith)) e in
    (omega (arith, median_middle l, place ((length l - 1) / 2) (omega arith)), omega (arith, median_middle l, place (length l / 2) (omega arith)))

pub median_below : (b : ℕ) (l : List ℕ) → 0 < b → Every (λ x. x < b) l → median l < b
median_below b l h e = omega (arith, median_middle l, place_holds (λ x. x < b) l (length l / 2) (λ _. h) e)

-- HALF OF THE NUMBERS on either side

pub half_below : (l : List ℕ) → 2 * count (is_below (median l)) l ≤ length l
half_below l =
    cases (ltb 0 (length l))
    (λ t. let some = ltb-true 0 (length l) t in omega (arith, below_rises (median l) (upper l) l (median_middle l).1, few_below l (length l / 2) (omega arith)))
    (λ t. let none = ltb-false 0 (length l) t in omega (arith, count_le (is_below (median l)) l))

pub half_upto : (l : List ℕ) → length l ≤ 2 * count (is_below (suc (median l))) l
half_upto l =
    cases (ltb 0 (length l))
    (λ t. let some = ltb-true 0 (length l) t in let less = (median_middle l).0 in omega (
      arith,
      below_rises (suc (lower l)) (suc (median l)) l (omega arith),
      more_upto l ((length l - 1) / 2) (omega arith),
    ))
    (λ t. let none = ltb-false 0 (length l) t in omega arith)

-- IN ANY ORDER

pub median_any_order : (l m : List ℕ) → SameNumbers l m → median l ≡ median m
median_any_order l m same =
    median_halves l ∙ (rw (same_length l m same) (ap₂ (λ (x y : ℕ). (x + y) / 2) (same_place l m same _) (same_place l m same _))) ∙ sym (median_halves m)
