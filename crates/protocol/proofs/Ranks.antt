-- Numbers put in order. Order keeps every count (`count_order`) and what holds of each number (`every_in_order`). The rank of a
-- number is told by counting: of what stands at a place no more than the place are below it, and more are up to it
-- (`few_below`, `more_upto`); no other number is so (`stands_in_order`).
use mathlib.Core.Path.{◌≡◌, refl, sym, ◌∙◌, ap, ap₂}
use mathlib.Core.Bool.{Bool, true, false, cond}
use mathlib.Core.List.{List, [], ◌∷◌}
use Prim.Native.Nat.{ℕ, zero, suc, ◌+◌, ◌≤◌, ◌<◌}
use native.Mathlib.Nat.{not-suc-le-zero}
use native.Mathlib.Omega.{arith}
use lib.Dec.{ltb, leb, eqb}
use lib.ListN.{length, get_or, get_or-eq_default}
use borrow.Author.Tests.{eqb-true, eqb-false, ltb-true, ltb-false, leb-true, leb-false, lt-ltb, le-ltb}
use Rattle.protocol.specs.Median.{insert, in_order, ordered_at}
use Rattle.protocol.proofs.Tests.{cases, cond_elim}

-- EACH NUMBER OF A LIST

-- P holds of every element
abbrev pub Every : {A : Type 0} → (A → Type 0) → List A → Type 0
Every P [] = Unit {0}
Every P (x ∷ l) = P x × Every P l

-- and so of what stands at an index, if of the default too where that is beyond the list
pub every_at : {A : Type 0} (P : A → Type 0) (l : List A) (i : ℕ) {d : A} → (length l ≤ i → P d) → Every P l → P (get_or l i d)
every_at P [] i h e = h (omega arith)
every_at P (x ∷ l) zero h e = e.0
every_at P (x ∷ l) (suc i) h e = every_at P l i (λ b. h (omega arith)) e.1

every_map : {P Q : ℕ → Type 0} → ((x : ℕ) → P x → Q x) → (l : List ℕ) → Every P l → Every Q l
every_map f [] e = tt
every_map f (x ∷ l) e = (f x e.0, every_map f l e.1)

every_insert : (P : ℕ → Type 0) (x : ℕ) (l : List ℕ) → P x → Every P l → Every P (insert x l)
every_insert P x [] h e = (h, e)
every_insert P x (y ∷ l) h e = cond_elim (Every P) (leb x y) (λ _. (h, e)) (λ _. (e.0, every_insert P x l h e.1))

every_in_order : (P : ℕ → Type 0) (l : List ℕ) → Every P l → Every P (in_order l)
every_in_order P [] e = e
every_in_order P (x ∷ l) e = every_insert P x (in_order l) e.0 (every_in_order P l e.1)

-- HOW MANY NUMBERS PASS A TEST

abbrev pub bit : Bool → ℕ
bit b = cond b 1 0

abbrev pub count : (ℕ → Bool) → List ℕ → ℕ
count t [] = 0
count t (y ∷ l) = bit (t y) + count t l

-- y is below x; those up to x are the ones below suc x
abbrev pub is_below : ℕ → ℕ → Bool
is_below x y = ltb y x

pub bit_le : (b : Bool) → bit b ≤ 1
bit_le true = omega arith
bit_le false = omega arith

count_all : (l : List ℕ) → count (λ _. true) l ≡ length l
count_all [] = refl
count_all (y ∷ l) = omega (arith, count_all l)

pub count_le : (t : ℕ → Bool) (l : List ℕ) → count t l ≤ length l
count_le t [] = omega arith
count_le t (y ∷ l) = omega (arith, count_le t l, bit_le (t y))

module _ (t : ℕ → Bool) where
  count_at : (l : List ℕ) (i : ℕ) → i < length l → t (get_or l i 0) ≡ true → 0 < count t l
  count_at [] i h e = absurd (not-suc-le-zero h)
  count_at (y ∷ l) zero h e = rw e (omega arith)
  count_at (y ∷ l) (suc i) h e = omega (arith, count_at l i (let k = h in omega arith) e)

  count_none : (l : List ℕ) → Every (λ y. t y ≡ false) l → count t l ≡ 0
  count_none [] e = refl
  count_none (y ∷ l) e = rw e.0 (omega (arith, count_none l e.1))

  count_insert : (a : ℕ) (l : List ℕ) → count t (insert a l) ≡ bit (t a) + count t l
  count_insert a [] = refl
  count_insert a (y ∷ l) =
      cond_elim (λ (m : List ℕ). count t m ≡ bit (t a) + (bit (t y) + count t l)) (leb a y) (λ _. refl) (λ _. omega (arith, count_insert a l))

  count_order : (l : List ℕ) → count t (in_order l) ≡ count t l
  count_order [] = refl
  count_order (y ∷ l) = count_insert y (in_order l) ∙ ap (λ (n : ℕ). bit (t y) + n) (count_order l)

length_in_order : (l : List ℕ) → length (in_order l) ≡ length l
length_in_order l = sym (count_all (in_order l)) ∙ count_order (λ _. true) l ∙ count_all l

bit_below : (x y z : ℕ) → x ≤ y → bit (ltb z x) ≤ bit (ltb z y)
bit_below x y z h = cases (ltb z x) (λ t. rw (t, lt-ltb z y (omega (arith, ltb-true z x t))) (omega arith)) (λ t. rw t (omega arith))

pub below_rises : (x y : ℕ) (l : List ℕ) → x ≤ y → count (is_below x) l ≤ count (is_below y) l
below_rises x y [] h = omega arith
below_rises x y (z ∷ l) h = omega (arith, below_rises x y l h, bit_below x y z h)

-- the numbers up to x are those below it and those that are x
below_next : (x : ℕ) (l : List ℕ) → count (is_below (suc x)) l ≡ count (is_below x) l + count (eqb x) l
below_next x [] = refl
below_next x (z ∷ l) = omega (arith, below_next x l, one (ltb z x) refl (eqb x z) refl)
  where
    one : (b : Bool) → ltb z x ≡ b → (d : Bool) → eqb x z ≡ d → bit (ltb z (suc x)) ≡ bit (ltb z x) + bit (eqb x z)
    one true e true k = absurd (omega (arith, ltb-true z x e, eqb-true x z k))
    one true e false k = rw (e, k, lt-ltb z (suc x) (omega (arith, ltb-true z x e))) refl
    one false e true k = rw (e, k, lt-ltb z (suc x) (omega (arith, eqb-true x z k))) refl
    one false e false k = rw (e, k, le-ltb z (suc x) (omega (arith, ltb-false z x e, eqb-false x z k))) refl

below_0 : (l : List ℕ) → count (is_below 0) l ≡ 0
below_0 l = count_none (is_below 0) l (none l)
  where
    none : (l : List ℕ) → Every (λ y. ltb y 0 ≡ false) l
    none [] = tt
    none (y ∷ l) = (le-ltb y 0 (omega arith), none l)

pub all_counted : (b : ℕ) (l : List ℕ) → Every (λ x. x < b) l → count (is_below b) l ≡ length l
all_counted b [] e = refl
all_counted b (x ∷ l) e = rw (lt-ltb x b e.0) (omega (arith, all_counted b l e.1))

abbrev total : List ℕ → ℕ
total [] = 0
total (x ∷ l) = x + total l

upto_total : (b : ℕ) (l : List ℕ) → total l < b → Every (λ x. x < b) l
upto_total b [] h = tt
upto_total b (x ∷ l) h = (omega arith, upto_total b l (omega arith))

-- A LIST IN ORDER

-- no number of the list is below y; each is followed by none below it
abbrev From : ℕ → List ℕ → Type 0
From y l = Every (λ z. y ≤ z) l

abbrev Rising : List ℕ → Type 0
Rising [] = Unit {0}
Rising (y ∷ l) = From y l × Rising l

from_lower : (x y : ℕ) (l : List ℕ) → x ≤ y → From y l → From x l
from_lower x y l h = every_map (λ z k. omega arith) l

rising_insert : (a : ℕ) (l : List ℕ) → Rising l → Rising (insert a l)
rising_insert a [] o = (tt, tt)
rising_insert a (y ∷ l) o =
    cond_elim Rising (leb a y) (λ t. let h = leb-true a y t in ((h, from_lower a y l h o.0), o))
    (λ t. (every_insert (λ z. y ≤ z) a l (let h = leb-false a y t in omega arith) o.0, rising_insert a l o.1))

rising_order : (l : List ℕ) → Rising (in_order l)
rising_order [] = tt
rising_order (y ∷ l) = rising_insert y (in_order l) (rising_order l)

none_below : (x y : ℕ) (l : List ℕ) → x ≤ y → From y l → count (is_below x) l ≡ 0
none_below x y l h a = count_none (is_below x) l (every_map (λ z k. le-ltb z x (omega arith)) l a)

-- what stands at an index has a rank that covers it
few_below_at : (l : List ℕ) (i : ℕ) → Rising l → i < length l → count (is_below (get_or l i 0)) l ≤ i
few_below_at [] i o h = absurd (not-suc-le-zero h)
few_below_at (y ∷ l) zero o h = rw (le-ltb y y (omega arith)) (omega (arith, none_below y y l (omega arith) o.0))
few_below_at (y ∷ l) (suc i) o h = omega (arith, few_below_at l i o.1 (let k = h in omega arith), bit_le (ltb y (get_or l i 0)))

more_upto_at : (l : List ℕ) (i : ℕ) → Rising l → i < length l → i < count (is_below (suc (get_or l i 0))) l
more_upto_at [] i o h = absurd (not-suc-le-zero h)
more_upto_at (y ∷ l) zero o h = rw (lt-ltb y (suc y) (omega arith)) (omega arith)
more_upto_at (y ∷ l) (suc i) o h =
    let k : i < length l = omega arith in
    let least : y ≤ get_or l i 0 = every_at (λ z. y ≤ z) l i (λ b. absurd (omega arith)) o.0 in
    rw (lt-ltb y (suc (get_or l i 0)) (omega arith)) (omega (arith, more_upto_at l i o.1 k))

-- and nothing else has
covered_stands : (x : ℕ) (l : List ℕ) (i : ℕ) → Rising l → count (is_below x) l ≤ i → i < count (is_below (suc x)) l → x ≡ get_or l i 0
covered_stands x [] i o h g = absurd (not-suc-le-zero g)
covered_stands x (y ∷ l) zero o h g = go (ltb y x) refl (ltb y (suc x)) refl h g
  where
    go : (b : Bool) → ltb y x ≡ b → (d : Bool) → ltb y (suc x) ≡ d → bit b + count (is_below x) l ≤ 0 → 0 < bit d + count (is_below (suc x)) l → x ≡ y
    go true e d k h g = absurd (omega arith)
    go false e true k h g = omega (arith, ltb-false y x e, ltb-true y (suc x) k)
    go false e false k h g = absurd (omega (arith, none_below (suc x) y l (ltb-false y (suc x) k) o.0))
covered_stands x (y ∷ l) (suc i) o h g = go (λ u v. covered_stands x l i o.1 u v) (ltb y x) refl (ltb y (suc x)) refl h g
  where
    go : (count (is_below x) l ≤ i → i < count (is_below (suc x)) l → x ≡ get_or l i 0) → (b : Bool) → ltb y x ≡ b → (d : Bool) → ltb y (suc x) ≡ d
        → bit b + count (is_below x) l ≤ suc i → suc i < bit d + count (is_below (suc x)) l → x ≡ get_or l i 0
    go ih true e true k h g = ih (omega arith) (omega arith)
    go ih true e false k h g = absurd (omega (arith, ltb-true y x e, ltb-false y (suc x) k))
    go ih false e true k h g = ih (omega (arith, none_below x y l (ltb-false y x e) o.0)) (omega arith)
    go ih false e false k h g = absurd (omega (arith, none_below (suc x) y l (ltb-false y (suc x) k) o.0))

-- MAIN RESULTS, of the numbers at their places in order

pub place_holds : (P : ℕ → Type 0) (l : List ℕ) (i : ℕ) → (length l ≤ i → P 0) → Every P l → P (ordered_at i l)
unfolding ordered_at
place_holds P l i h e = every_at P (in_order l) i (λ b. h (omega (arith, length_in_order l))) (every_in_order P l e)

pub past_last : (l : List ℕ) (i : ℕ) → length l ≤ i → ordered_at i l ≡ 0
unfolding ordered_at
past_last l i h = get_or-eq_default (in_order l) 0 (omega (arith, length_in_order l))

module _ (l : List ℕ) (i : ℕ) (h : i < length l) where
  inside : i < length (in_order l)
  inside = omega (arith, length_in_order l)

  pub few_below : count (is_below (ordered_at i l)) l ≤ i
  unfolding ordered_at
  few_below = omega (arith, few_below_at (in_order l) i (rising_order l) inside, count_order (is_below (get_or (in_order l) i 0)) l)

  pub more_upto : i < count (is_below (suc (ordered_at i l))) l
  unfolding ordered_at
  more_upto = omega (arith, more_upto_at (in_order l) i (rising_order l) inside, count_order (is_below (suc (get_or (in_order l) i 0))) l)

  -- the number at a place is in the list
  pub placed_counts : (t : ℕ → Bool) → t (ordered_at i l) ≡ true → 0 < count t l
  unfolding ordered_at
  placed_counts t e = omega (arith, count_at t (in_order l) i inside e, count_order t l)

pub stands_in_order : (l : List ℕ) (i x : ℕ) → count (is_below x) l ≤ i → i < count (is_below (suc x)) l → x ≡ ordered_at i l
unfolding ordered_at
stands_in_order l i x lo hi =
    covered_stands x (in_order l) i (rising_order l) (omega (arith, count_order (is_below x) l)) (omega (arith, count_order (is_below (suc x)) l))

-- IN ANY ORDER

-- l and m hold each number equally often
abbrev pub SameNumbers : List ℕ → List ℕ → Type 0
SameNumbers l m = (x : ℕ) → count (eqb x) l ≡ count (eqb x) m

module _ (l m : List ℕ) (same : SameNumbers l m) where
  same_below : (x : ℕ) → count (is_below x) l ≡ count (is_below x) m
  same_below zero = below_0 l ∙ sym (below_0 m)
  same_below (suc x) = below_next x l ∙ ap₂ ◌+◌ (same_below x) (same x) ∙ sym (below_next x m)

  pub same_length : length l ≡ length m
  same_length =
      let b : ℕ = suc (total l + total m) in
      sym (all_counted b l (upto_total b l (omega arith))) ∙ same_below b ∙ all_counted b m (upto_total b m (omega arith))

  pub same_place : (i : ℕ) → ordered_at i l ≡ ordered_at i m
  same_place i =
      cases (ltb i (length l))
      (λ t. let h = ltb-true i (length l) t in stands_in_order m i (ordered_at i l) (omega (arith, few_below l i h, same_below (ordered_at i l)))
      (omega (arith, more_upto l i h, same_below (suc (ordered_at i l)))))
      (λ t. let h = ltb-false i (length l) t in past_last l i h ∙ sym (past_last m i (omega (arith, same_length))))
