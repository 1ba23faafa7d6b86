-- The number whose rank covers an index stands there in order (`covers_stands`), and an index that none covers is beyond the
-- list (`none_covers`). What stands at the next index is the same number, or the least above it (`same_follows`,
-- `least_follows`); so the median of an even count is found from its lower middle one (`same_middle`, `least_middle`).
use mathlib.Core.Path.{◌≡◌, refl, sym, ◌∙◌, ap}
use mathlib.Core.Bool.{true}
use mathlib.Core.List.{List, [], ◌∷◌}
use Prim.Native.Nat.{ℕ, suc, ◌+◌, ◌-◌, ◌/◌, ◌%◌, ◌≤◌, ◌<◌, min}
use native.Mathlib.Nat.{not-suc-le-zero}
use native.Mathlib.Omega.{arith}
use lib.Dec.{ltb, leb}
use lib.ListN.{length}
use borrow.Author.Tests.{ltb-true, ltb-false, leb-true, lt-ltb, le-ltb, le-leb}
use Rattle.protocol.specs.Median.{ordered_at, median}
use Rattle.protocol.proofs.Tests.{cases, and_left, and_right, and_both}
use Rattle.protocol.proofs.Ranks.{Every, count, is_below, count_le, bit_le, below_rises, place_holds, past_last, few_below, more_upto, placed_counts, stands_in_order}
use Rattle.protocol.proofs.Medians.{lower, upper, median_halves, median_middle}
use Rattle.head_median.specs.Ranks.{covers, none, number_from, least_from}

-- THE NUMBER AT AN INDEX

pub covers_stands : (l : List ℕ) (i x : ℕ) → covers i l x ≡ true → x ≡ ordered_at i l
unfolding covers
covers_stands l i x e =
    stands_in_order l i x (leb-true (count (is_below x) l) i (and_left (leb (count (is_below x) l) i) _ e))
    (ltb-true i (count (is_below (suc x)) l) (and_right (leb (count (is_below x) l) i) _ e))

pub none_covers : (l : List ℕ) (i : ℕ) → count (covers i l) l ≡ 0 → ordered_at i l ≡ 0
unfolding covers
none_covers l i e =
    cases (ltb i (length l)) (λ t. let h = ltb-true i (length l) t in absurd (omega (
      arith,
      placed_counts l i h (covers i l)
          (and_both (le-leb _ i (few_below l i h)) (lt-ltb i _ (more_upto l i h))),
    )))
    (λ t. past_last l i (ltb-false i (length l) t))

-- THE LEAST FROM A BOUND ON

lesser_cases : (P : ℕ → Type 0) (b z m : ℕ) → m ≤ none → (z < b → P m) → (b ≤ z → z < m → P z) → (b ≤ z → m ≤ z → P m) → P (min m (number_from b z))
lesser_cases P b z m top low new old =
    cases (ltb z b) (λ t. let e : min m none ≡ m = omega (arith, top) in rw (t, e) (low (ltb-true z b t)))
    (λ t. cases (ltb z m)
    (λ s. let h = ltb-true z m s in let e : min m z ≡ z = omega arith in rw (t, e) (new (ltb-false z b t) h))
    (λ s. let h = ltb-false z m s in let e : min m z ≡ m = omega arith in rw (t, e) (old (ltb-false z b t) h)))

pub least_top : (b : ℕ) (l : List ℕ) → least_from b l ≤ none
unfolding least_from
least_top b [] = omega arith
least_top b (z ∷ l) =
    let top = least_top b l in
    lesser_cases (λ x. x ≤ none) b z (least_from b l) top (λ _. top) (λ _ h. omega arith) (λ _ _. top)

least_from_lem : (b : ℕ) (l : List ℕ) → b ≤ none → b ≤ least_from b l
unfolding least_from
least_from_lem b [] h = h
least_from_lem b (z ∷ l) h =
    let rest = least_from_lem b l h in
    lesser_cases (λ x. b ≤ x) b z (least_from b l) (least_top b l) (λ _. rest) (λ k _. k) (λ _ _. rest)

pub least_above : (x y : ℕ) (l : List ℕ) → x < none → y ≡ least_from (x + 1) l → x < y
least_above x y l top is = omega (arith, least_from_lem (x + 1) l (omega arith))

-- no number of the list is between the bound and the least
none_between_lem : (b y : ℕ) (l : List ℕ) → y ≤ least_from b l → count (is_below y) l ≤ count (is_below b) l
unfolding least_from
none_between_lem b y [] h = omega arith
none_between_lem b y (z ∷ l) h =
    lesser_cases (λ x. y ≤ x → count (is_below y) (z ∷ l) ≤ count (is_below b) (z ∷ l)) b z (least_from b l) (least_top b l)
    (λ k m. rw (lt-ltb z b k) (omega (arith, none_between_lem b y l m, bit_le (ltb z y))))
    (λ k s m. rw (le-ltb z y m) (omega (arith, none_between_lem b y l (omega arith))))
    (λ k s m. rw (le-ltb z y (omega arith)) (omega (arith, none_between_lem b y l m))) h

-- where all are below the bound, there is none
none_from : (b : ℕ) (l : List ℕ) → length l ≤ count (is_below b) l → least_from b l ≡ none
unfolding least_from
none_from b [] h = refl
none_from b (z ∷ l) h =
    let less : z < b = cases (ltb z b) (λ t. ltb-true z b t) (λ t. absurd (let all = (rw t at h) in omega (arith, count_le (is_below b) l))) in
    let rest : least_from b l ≡ none = none_from b l (let all = (rw (lt-ltb z b less) at h) in omega arith) in
    lesser_cases (λ x. x ≡ none) b z (least_from b l) (least_top b l) (λ _. rest) (λ k s. absurd (omega arith)) (λ _ _. rest)

-- and else the least is in the list
least_counts : (b : ℕ) (l : List ℕ) → b ≤ none → Every (λ z. z < none) l → count (is_below b) l < length l
    → count (is_below b) l < count (is_below (suc (least_from b l))) l
unfolding least_from
least_counts b [] h e k = absurd (not-suc-le-zero k)
least_counts b (z ∷ l) h e k =
    lesser_cases (λ x. count (is_below b) (z ∷ l) < count (is_below (suc x)) (z ∷ l)) b z (least_from b l) (least_top b l)
    (λ less. let more = (rw (lt-ltb z b less) at k) in
    rw (lt-ltb z b less, lt-ltb z (suc (least_from b l)) (omega (arith, least_from_lem b l h))) (omega (arith, least_counts b l h e.1 (omega arith))))
    (λ from less. rw (le-ltb z b from, lt-ltb z (suc z) (omega arith)) (omega (arith, below_rises b (suc z) l (omega arith))))
    (λ from less. rw (le-ltb z b from) (omega (arith, least_counts b l h e.1 (some from less), bit_le (ltb z (suc (least_from b l))))))
  where
    some : b ≤ z → least_from b l ≤ z → count (is_below b) l < length l
    some from less =
        cases (ltb (count (is_below b) l) (length l)) (λ t. ltb-true (count (is_below b) l) (length l) t)
        (λ t. absurd (omega (arith, e.0, none_from b l (ltb-false (count (is_below b) l) (length l) t))))

-- THE NEXT INDEX, after the one where x stands

module _ (l : List ℕ) (i : ℕ) (inside : i + 1 < length l) where
  pub same_follows : i + 1 < count (is_below (suc (ordered_at i l))) l → ordered_at (i + 1) l ≡ ordered_at i l
  same_follows h = sym (stands_in_order l (i + 1) (ordered_at i l) (omega (arith, few_below l i (omega arith))) h)

  pub least_follows : Every (λ z. z < none) l → count (is_below (suc (ordered_at i l))) l ≤ i + 1 → ordered_at (i + 1) l ≡ least_from (suc (ordered_at i l)) l
  least_follows e h =
      let b : ℕ = suc (ordered_at i l) in
      let top : b ≤ none = place_holds (λ z. z < none) l i (λ _. omega arith) e in
      sym (stands_in_order l (i + 1) (least_from b l) (omega (arith, none_between_lem b (least_from b l) l (omega arith)))
      (omega (arith, more_upto l i (omega arith), least_counts b l top e (omega arith))))

-- THE MEDIAN of an even count, in which the upper middle one is the lower one again, or the least above it

module _ (l : List ℕ) (some : 0 < length l) (even : length l % 2 ≡ 0) where
  after_lower : length l / 2 ≡ (length l - 1) / 2 + 1
  after_lower = omega arith

  pub same_middle : length l / 2 < count (is_below (suc (lower l))) l → median l ≡ lower l
  same_middle h =
      let same : upper l ≡ lower l = ap (λ (i : ℕ). ordered_at i l) after_lower ∙ same_follows l ((length l - 1) / 2) (omega arith) (omega arith) in
      omega (arith, median_halves l)

  pub least_middle : Every (λ z. z < none) l → count (is_below (suc (lower l))) l ≤ length l / 2
      → median l ≡ lower l + (least_from (suc (lower l)) l - lower l) / 2
  least_middle e h =
      let next : upper l ≡ least_from (suc (lower l)) l = ap (λ (i : ℕ). ordered_at i l) after_lower ∙ least_follows l ((length l - 1) / 2) (omega arith) e (omega arith) in
      omega (arith, median_halves l, median_middle l)
