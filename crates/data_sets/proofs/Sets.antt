-- What the operations do to the set of the heads that pass a test.
use mathlib.Core.Path.{◌≡◌, refl, sym, ◌∙◌, ap, ap₂}
use mathlib.Core.Bool.{Bool, true, false, cond, ◌&&◌, ◌||◌}
use Prim.Native.Nat.{ℕ, zero, suc, ◌+◌, ◌-◌, ◌*◌, ◌/◌, ◌%◌, ◌^◌, ◌<◌}
use native.Mathlib.Nat.{not-suc-le-zero, pow-suc, one-mul, mul_assoc, add_comm, add-mul-div_right}
use native.Mathlib.Omega.{arith}
use lib.Dec.{eqb}
use lib.Pow.{pow_pos, pow-add, shl_exact, high, mod-pow-add}
use lib.Bits.{bit_and, bit_or, and_block, or_block, block_odd}
use borrow.Author.Tests.{eqb-true, eqb-false, eq-eqb, ne_eqb}
use Rattle.protocol.specs.Base.{◌⇒◌, all_below}
use Rattle.protocol.proofs.Tests.{cases, all_below_lem, below_all}
use Rattle.data_sets.specs.Sets.{set_below, set_of, with_head, has_all}

pub one_bit : (k : ℕ) → k < 16 → 1 * 2 ^ k % 65536 ≡ 2 ^ k
one_bit k h = shl_exact 1 k 16 (omega arith) (omega arith) ∙ one-mul (2 ^ k)

pub set_below_lem : (n : ℕ) (p : ℕ → Bool) → set_below n p < 2 ^ n
set_below_lem zero p = omega arith
set_below_lem (suc n) p = go (p n) (set_below_lem n p)
  where
    go : (b : Bool) → set_below n p < 2 ^ n → cond b 1 0 * 2 ^ n + set_below n p < 2 ^ suc n
    go true h = rw (pow-suc 2 n) (omega (arith, h))
    go false h = rw (pow-suc 2 n) (omega (arith, h))

pub set_ext : (n : ℕ) (p q : ℕ → Bool) → ((i : ℕ) → i < n → p i ≡ q i) → set_below n p ≡ set_below n q
set_ext zero p q h = refl
set_ext (suc n) p q h = ap₂ (λ (b : Bool) (x : ℕ). cond b 1 0 * 2 ^ n + x) (h n (omega arith)) (set_ext n p q (λ i l. h i (omega arith)))

pub set_and : (n : ℕ) (p q : ℕ → Bool) → bit_and (set_below n p) (set_below n q) ≡ set_below n (λ i. p i && q i)
set_and zero p q = refl
set_and (suc n) p q =
    and_block n (cond (p n) 1 0) (cond (q n) 1 0) (set_below n p) (set_below n q) (set_below_lem n p) (set_below_lem n q)
    ∙ ap₂ (λ (x y : ℕ). x * 2 ^ n + y) (top (p n) (q n)) (set_and n p q)
  where
    top : (a b : Bool) → bit_and (cond a 1 0) (cond b 1 0) ≡ cond (a && b) 1 0
    top true true = refl
    top true false = refl
    top false true = refl
    top false false = refl

pub set_or : (n : ℕ) (p q : ℕ → Bool) → bit_or (set_below n p) (set_below n q) ≡ set_below n (λ i. p i || q i)
set_or zero p q = refl
set_or (suc n) p q =
    or_block n (cond (p n) 1 0) (cond (q n) 1 0) (set_below n p) (set_below n q) (set_below_lem n p) (set_below_lem n q)
    ∙ ap₂ (λ (x y : ℕ). x * 2 ^ n + y) (top (p n) (q n)) (set_or n p q)
  where
    top : (a b : Bool) → bit_or (cond a 1 0) (cond b 1 0) ≡ cond (a || b) 1 0
    top true true = refl
    top true false = refl
    top false true = refl
    top false false = refl

-- the set of nobody, and of one head
pub set_none : (n : ℕ) (p : ℕ → Bool) → ((i : ℕ) → i < n → p i ≡ false) → set_below n p ≡ 0
set_none zero p h = refl
set_none (suc n) p h = rw (h n (omega arith), set_none n p (λ i l. h i (omega arith))) (omega arith)

pub set_one : (n q : ℕ) → q < n → set_below n (λ i. eqb i q) ≡ 2 ^ q
set_one zero q h = absurd (not-suc-le-zero h)
set_one (suc n) q h =
    cases (eqb n q)
    (λ t. let same = eqb-true n q t in rw (t, set_none n (λ i. eqb i q) (λ i l. ne_eqb i q (λ z. omega arith)), same) (omega arith))
    (λ t. rw (t, set_one n q (let z = eqb-false n q t in omega arith)) (omega arith))

-- one head more
pub set_with : (p : ℕ → Bool) (q : ℕ) → q < 16 → with_head (set_of p) q ≡ set_of (λ i. p i || eqb i q)
set_with p q h =
    ap (λ (k : ℕ). bit_or (set_of p) (2 ^ k)) (omega arith)
    ∙ ap (bit_or (set_of p)) (sym (set_one 16 q h))
    ∙ set_or 16 p (λ i. eqb i q)

-- a set's members are those that pass
pub set_has : (n : ℕ) (p : ℕ → Bool) (q : ℕ) → q < n → eqb (set_below n p / 2 ^ q % 2) 1 ≡ p q
set_has zero p q h = absurd (not-suc-le-zero h)
set_has (suc n) p q h =
    cases (eqb q n)
    (λ t. let same = eqb-true q n t in rw (same, high (cond (p n) 1 0) n (set_below_lem n p)) (top (p n)))
    (λ t. let z = eqb-false q n t in let lt : q < n = omega arith in ap (λ (x : ℕ). eqb x 1) (rest (cond (p n) 1 0) (n - suc q) (set_below n p) (omega arith)) ∙ set_has n p q lt)
  where
    top : (b : Bool) → eqb (cond b 1 0 % 2) 1 ≡ b
    top true = refl
    top false = refl

    rest : (b d r : ℕ) → n ≡ suc d + q → (b * 2 ^ n + r) / 2 ^ q % 2 ≡ r / 2 ^ q % 2
    rest b d r e =
        ap (λ (k : ℕ). (b * k + r) / 2 ^ q % 2) (ap (λ (k : ℕ). 2 ^ k) e ∙ pow-add 2 (suc d) q)
        ∙ ap (λ (k : ℕ). k / 2 ^ q % 2) (ap (λ (k : ℕ). k + r) (sym (mul_assoc b (2 ^ suc d) (2 ^ q))) ∙ add_comm _ r)
        ∙ ap (λ (k : ℕ). k % 2) (add-mul-div_right r (b * 2 ^ suc d) (pow_pos q) ∙ add_comm (r / 2 ^ q) _)
        ∙ block_odd b d (r / 2 ^ q)

-- a number is the set of its bits
bits_of : (n m : ℕ) → set_below n (λ i. eqb (m / 2 ^ i % 2) 1) ≡ m % 2 ^ n
bits_of zero m = omega arith
bits_of (suc n) m =
    ap₂ (λ (x y : ℕ). x * 2 ^ n + y) (top (m / 2 ^ n)) (bits_of n m)
    ∙ sym (mod-pow-add m 1 n)
    ∙ ap (λ (k : ℕ). m % 2 ^ k) (omega arith)
  where
    top : (x : ℕ) → cond (eqb (x % 2) 1) 1 0 ≡ x % 2
    top x = cases (eqb (x % 2) 1) (λ t. rw t (sym (eqb-true (x % 2) 1 t))) (λ t. rw t (let z = eqb-false (x % 2) 1 t in omega arith))

pub set_bits : (m : ℕ) → m < 2 ^ 16 → set_of (λ i. eqb (m / 2 ^ i % 2) 1) ≡ m
set_bits m h = bits_of 16 m ∙ omega arith

pub same_test : (a b : Bool) → (a ≡ true → b ≡ true) → (b ≡ true → a ≡ true) → a ≡ b
same_test true b f g = sym (f refl)
same_test false true f g = g refl
same_test false false f g = refl

-- the heads of a second test are all in the set if each of them passes the first
pub set_all : (p heads : ℕ → Bool) → has_all (set_of p) (set_of heads) ≡ all_below 16 (λ i. heads i ⇒ p i)
set_all p heads = rw (set_and 16 p heads) (same_test (eqb both (set_of heads)) (all_below 16 (λ i. heads i ⇒ p i)) to from)
  where
    both : ℕ
    both = set_of (λ i. p i && heads i)

    passes : (a b : Bool) → (a && b) ≡ b → (b ⇒ a) ≡ true
    passes true true e = refl
    passes true false e = refl
    passes false true e = e
    passes false false e = refl

    passed : (a b : Bool) → (b ⇒ a) ≡ true → (a && b) ≡ b
    passed true b e = refl
    passed false true e = e
    passed false false e = refl

    to : eqb both (set_of heads) ≡ true → all_below 16 (λ i. heads i ⇒ p i) ≡ true
    to e =
        below_all 16 (λ j. heads j ⇒ p j) (λ i l. passes (p i) (heads i)
        (sym (set_has 16 (λ j. p j && heads j) i l) ∙ ap (λ (m : ℕ). eqb (m / 2 ^ i % 2) 1) (eqb-true both (set_of heads) e) ∙ set_has 16 heads i l))

    from : all_below 16 (λ i. heads i ⇒ p i) ≡ true → eqb both (set_of heads) ≡ true
    from e = eq-eqb both (set_of heads) (set_ext 16 (λ j. p j && heads j) heads (λ i l. passed (p i) (heads i) (all_below_lem 16 (λ j. heads j ⇒ p j) e i l)))
