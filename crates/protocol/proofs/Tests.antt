-- Boolean tests, and the facts that they stand for.
-- The laws of &&, || and ⇒ take the tests as explicit arguments, since nothing is inferred under a function that computes.
use mathlib.Core.Path.{◌≡◌, refl, sym, ap₂, subst}
use mathlib.Core.Bool.{Bool, true, false, cond, not, ◌&&◌, ◌||◌}
use mathlib.Core.List.{List, [], ◌∷◌}
use Prim.Native.Nat.{ℕ, zero, suc, ◌≤◌, ◌<◌}
use native.Mathlib.Nat.{not-suc-le-zero}
use native.Mathlib.Omega.{arith}
use lib.Dec.{eqb}
use lib.ListN.{length, get_or}
use borrow.Author.Tests.{eqb-true, eqb-false, eq-eqb}
use Rattle.protocol.specs.Base.{◌⇒◌, all, all_below, count_below}
use Rattle.protocol.specs.Record.{mark_number}

pub absurd_bool {ℓ} : {A : Type ℓ} {b : Bool} → b ≡ true → b ≡ false → A
absurd_bool p q = absurd (let z : ◌≡◌ {A = ℕ} 0 1 = cc in omega arith)

pub cases {ℓ} : {P : Type ℓ} (b : Bool) → (b ≡ true → P) → (b ≡ false → P) → P
cases true f g = f refl
cases false f g = g refl

-- a property of an if-then-else is shown of each branch
pub cond_elim : {A : Type 0} (P : A → Type 0) (b : Bool) {x y : A} → (b ≡ true → P x) → (b ≡ false → P y) → P (cond b x y)
cond_elim P true f g = f refl
cond_elim P false f g = g refl

pub not_true : {b : Bool} → not b ≡ true → b ≡ false
not_true {b = true} e = absurd_bool refl (sym e)
not_true {b = false} e = refl

pub not_false : {b : Bool} → not b ≡ false → b ≡ true
not_false {b = true} e = refl
not_false {b = false} e = absurd_bool refl e

pub and_left : (a b : Bool) → (a && b) ≡ true → a ≡ true
and_left true b e = refl
and_left false b e = e

pub and_right : (a b : Bool) → (a && b) ≡ true → b ≡ true
and_right true b e = e
and_right false b e = absurd_bool e refl

-- for `search`: a part of a test that holds, holds
pub ruleset parts = (and_left, and_right)

pub and_both : {a b : Bool} → a ≡ true → b ≡ true → (a && b) ≡ true
and_both p q = rw p q

pub and_false : (a b : Bool) → b ≡ false → (a && b) ≡ false
and_false true b e = e
and_false false b e = refl

pub and_true : (a : Bool) → (a && true) ≡ a
and_true true = refl
and_true false = refl

pub or_left : (a b : Bool) → (a || b) ≡ false → a ≡ false
or_left true b e = e
or_left false b e = refl

pub or_right : (a b : Bool) → (a || b) ≡ false → b ≡ false
or_right true b e = absurd_bool refl e
or_right false b e = e

pub or_neither : {a b : Bool} → a ≡ false → b ≡ false → (a || b) ≡ false
or_neither p q = rw p q

pub or_cases {ℓ} : {P : Type ℓ} (a b : Bool) → (a || b) ≡ true → (a ≡ true → P) → (b ≡ true → P) → P
or_cases true b e f g = f refl
or_cases false b e f g = g e

pub or_first : (a b : Bool) → a ≡ true → (a || b) ≡ true
or_first a b p = rw p refl

pub or_second : (a b : Bool) → b ≡ true → (a || b) ≡ true
or_second true b p = refl
or_second false b p = p

pub implied : (a b : Bool) → (a ⇒ b) ≡ true → a ≡ true → b ≡ true
implied true b e p = e
implied false b e p = absurd_bool p refl

pub implies : (a b : Bool) → (a ≡ true → b ≡ true) → (a ⇒ b) ≡ true
implies true b f = f refl
implies false b f = refl

pub not_is_false : {b : Bool} → b ≡ true → not b ≡ false
not_is_false p = rw p refl

pub not_is_true : {b : Bool} → b ≡ false → not b ≡ true
not_is_true p = rw p refl

pub eqb_same : (n : ℕ) → eqb n n ≡ true
eqb_same n = eq-eqb n n refl

pub all_below_lem : (n : ℕ) (p : ℕ → Bool) → all_below n p ≡ true → (k : ℕ) → k < n → p k ≡ true
all_below_lem zero p e k h = absurd (not-suc-le-zero h)
all_below_lem (suc n) p e k h =
    cases (eqb k n) (λ t. subst (λ (j : ℕ). p j ≡ true) (sym (eqb-true k n t)) (and_left (p n) _ e))
    (λ t. all_below_lem n p (and_right (p n) _ e) k (let d = eqb-false k n t in omega arith))

pub below_all : (n : ℕ) (p : ℕ → Bool) → ((k : ℕ) → k < n → p k ≡ true) → all_below n p ≡ true
below_all zero p h = refl
below_all (suc n) p h = and_both (h n (omega arith)) (below_all n p (λ k l. h k (omega arith)))

-- two tests that agree below the bound
pub all_same : (n : ℕ) (p r : ℕ → Bool) → ((q : ℕ) → q < n → p q ≡ r q) → all_below n p ≡ all_below n r
all_same zero p r e = refl
all_same (suc n) p r e = ap₂ (λ (a b : Bool). a && b) (e n (omega arith)) (all_same n p r (λ q l. e q (omega arith)))

-- a count of numbers that all pass is that of all numbers
pub count_all : (n : ℕ) (p : ℕ → Bool) → ((k : ℕ) → k < n → p k ≡ true) → count_below n p ≡ n
count_all zero p h = refl
count_all (suc n) p h = let ih = count_all n p (λ k l. h k (omega arith)) in rw (h n (omega arith)) (omega arith)

-- a count of more numbers is no smaller
pub count_mono : (n : ℕ) (p q : ℕ → Bool) → ((k : ℕ) → k < n → p k ≡ true → q k ≡ true) → count_below n p ≤ count_below n q
count_mono zero p q h = omega arith
count_mono (suc n) p q h =
    cond_elim (λ (x : ℕ). x ≤ count_below (suc n) q) (p n)
    (λ t. let e : q n ≡ true = h n (omega arith) t in let ih = count_mono n p q (λ k l. h k (omega arith)) in rw e (omega arith))
    (λ t. let ih = count_mono n p q (λ k l. h k (omega arith)) in
    cond_elim (λ (y : ℕ). count_below n p ≤ y) (q n) (λ _. omega arith) (λ _. ih))

-- a positive count counts something
pub count_some : (n : ℕ) (p : ℕ → Bool) → 0 < count_below n p → (k : ℕ) × (k < n) × (p k ≡ true)
count_some zero p h = absurd (not-suc-le-zero h)
count_some (suc n) p h =
    cases (p n) (λ t. (n, omega arith, t))
    (λ t. let x = count_some n p (rw t at h) in (x.0, (let l = x.1 in omega arith), x.2))

-- and a count that counts something is positive
pub some_count : (n : ℕ) (p : ℕ → Bool) (k : ℕ) → k < n → p k ≡ true → 0 < count_below n p
some_count zero p k h e = absurd (not-suc-le-zero h)
some_count (suc n) p k h e =
    cond_elim (λ (x : ℕ). 0 < x) (p n) (λ _. omega arith)
    (λ t. some_count n p k (cases (eqb k n) (λ z. absurd_bool e (rw (eqb-true k n z) t)) (λ z. let d = eqb-false k n z in omega arith)) e)

module _ {A : Type 0} where
  -- x is an element of the list
  pub data In (x : A) : List A → Type 0 where
    first : {l : List A} → In x (x ∷ l)
    next : {y : A} {l : List A} → In x l → In x (y ∷ l)

  pub all_in : (p : A → Bool) {x : A} {l : List A} → In x l → all p l ≡ true → p x ≡ true
  all_in p {x = x} first e = and_left (p x) _ e
  all_in p (next {y = y} m) e = all_in p m (and_right (p y) _ e)

  pub in_nothing : {B : Type 0} {x : A} → In x [] → B
  in_nothing m = absurd_bool (all_in (λ _. false) m refl) refl

  pub in_cons : {B : Type 0} {x y : A} {l : List A} → In x (y ∷ l) → (x ≡ y → B) → (In x l → B) → B
  in_cons first f g = f refl
  in_cons (next m) f g = g m

-- a test that holds all over a list holds at each index
pub all_at : {A : Type 0} (t : A → Bool) (l : List A) (d : A) → all t l ≡ true → (i : ℕ) → i < length l → t (get_or l i d) ≡ true
all_at t [] d e i h = absurd (not-suc-le-zero h)
all_at t (x ∷ l) d e zero h = and_left (t x) _ e
all_at t (x ∷ l) d e (suc i) h = all_at t l d (and_right (t x) _ e) i (let k = h in omega arith)

-- two lists of numbers are the same
abbrev pub same_list : List ℕ → List ℕ → Bool
same_list [] [] = true
same_list [] (y ∷ m) = false
same_list (x ∷ l) [] = false
same_list (x ∷ l) (y ∷ m) = eqb x y && same_list l m

pub same_list_lem : (l m : List ℕ) → same_list l m ≡ true → l ≡ m
same_list_lem [] [] e = refl
same_list_lem [] (y ∷ m) e = absurd_bool e refl
same_list_lem (x ∷ l) [] e = absurd_bool e refl
same_list_lem (x ∷ l) (y ∷ m) e = ap₂ ◌∷◌ (eqb-true x y (and_left (eqb x y) _ e)) (same_list_lem l m (and_right (eqb x y) _ e))

-- a mark as a number is 1 where it is set
pub is_1 : (b : Bool) → eqb (mark_number b 1) 1 ≡ b
is_1 true = refl
is_1 false = refl
