-- The earliest and the latest of the times of the heads that pass a test: every two of these times lie within a bound if these
-- two do.
-- Main result: `all_within`.
use Rattle.std.proofs.Common.{◌≡◌, ℕ, zero, suc, ◌+◌, ◌^◌, ◌<◌, ◌≤◌, min, max, Bool, true, false, cond, not, ◌&&◌, eqb, ltb, leb, sym, refl, ap, subst, le_trans, not-suc-le-zero, add-one, arith, ltb-false, ltb-true, ne_eqb, eqb-true, le-leb, leb-true}
use native.Mathlib.Nat.{min-le_left, min-le_right, le-max_left, le-max_right, min-eq_left, min-eq_right, max-eq_left, max-eq_right}
use borrow.Author.Tests.{eqb-false}
use Rattle.protocol.specs.Base.{◌⇒◌, all_below, distance}
use Rattle.protocol.proofs.Tests.{cases, cond_elim, not_true, and_left, and_right, and_both, implied, all_below_lem, below_all}
use Rattle.data_sets.proofs.Sets.{same_test}

-- at first a number above any time, and one below any
abbrev pub earliest : (ℕ → Bool) → (ℕ → ℕ) → ℕ → ℕ
earliest p t zero = 2 ^ 28 + 1
earliest p t (suc q) = cond (p q) (min (t q) (earliest p t q)) (earliest p t q)

abbrev pub latest : (ℕ → Bool) → (ℕ → ℕ) → ℕ → ℕ
latest p t zero = 1
latest p t (suc q) = cond (p q) (max (t q) (latest p t q)) (latest p t q)

one_of_min : (P : ℕ → Type 0) (a b : ℕ) → P a → P b → P (min a b)
one_of_min P a b x y =
    cases (ltb a b) (λ t. subst P (sym (min-eq_left (let z = ltb-true a b t in omega arith))) x) (λ t. subst P (sym (min-eq_right (ltb-false a b t))) y)

one_of_max : (P : ℕ → Type 0) (a b : ℕ) → P a → P b → P (max a b)
one_of_max P a b x y =
    cases (ltb a b) (λ t. subst P (sym (max-eq_right (let z = ltb-true a b t in omega arith))) y) (λ t. subst P (sym (max-eq_left (ltb-false a b t))) x)

module _ (p : ℕ → Bool) (t : ℕ → ℕ) where
  -- one head more
  pub first_more : (q : ℕ) {b : Bool} {x y : ℕ} → b ≡ p q → x ≡ t q → y ≡ earliest p t q → cond b (min x y) y ≡ earliest p t (q + 1)
  first_more q e f g = rw (e, f, g, add-one q) refl

  pub last_more : (q : ℕ) {b : Bool} {x y : ℕ} → b ≡ p q → x ≡ t q → y ≡ latest p t q → cond b (max x y) y ≡ latest p t (q + 1)
  last_more q e f g = rw (e, f, g, add-one q) refl

  earliest_at_most : (n a : ℕ) → a < n → p a ≡ true → earliest p t n ≤ t a
  earliest_at_most zero a h e = absurd (not-suc-le-zero h)
  earliest_at_most (suc n) a h e =
      cases (eqb a n)
      (λ f. subst (λ (x : ℕ). p x ≡ true → earliest p t (suc n) ≤ t x) (sym (eqb-true a n f)) (λ z. rw z (min-le_left (t n) (earliest p t n))) e)
      (λ f. let ih = earliest_at_most n a (let other = eqb-false a n f in omega arith) e in
      cond_elim (λ x. x ≤ t a) (p n) (λ _. le_trans (min-le_right (t n) (earliest p t n)) ih) (λ _. ih))

  latest_at_least : (n a : ℕ) → a < n → p a ≡ true → t a ≤ latest p t n
  latest_at_least zero a h e = absurd (not-suc-le-zero h)
  latest_at_least (suc n) a h e =
      cases (eqb a n)
      (λ f. subst (λ (x : ℕ). p x ≡ true → t x ≤ latest p t (suc n)) (sym (eqb-true a n f)) (λ z. rw z (le-max_left (t n) (latest p t n))) e)
      (λ f. let ih = latest_at_least n a (let other = eqb-false a n f in omega arith) e in
      cond_elim (λ x. t a ≤ x) (p n) (λ _. le_trans ih (le-max_right (t n) (latest p t n))) (λ _. ih))

  pub earliest_below : (n : ℕ) → earliest p t n ≤ 2 ^ 28 + 1
  earliest_below zero = omega arith
  earliest_below (suc n) =
      cond_elim (λ x. x ≤ 2 ^ 28 + 1) (p n) (λ _. le_trans (min-le_right (t n) (earliest p t n)) (earliest_below n)) (λ _. earliest_below n)

  -- each is one of the times, or there is none: what holds of each time holds of it
  earliest_is : (P : ℕ → Type 0) (n : ℕ) → P (2 ^ 28 + 1) → ((a : ℕ) → a < n → p a ≡ true → P (t a)) → P (earliest p t n)
  earliest_is P zero z f = z
  earliest_is P (suc n) z f =
      let rest = earliest_is P n z (λ a h e. f a (omega arith) e) in
      cond_elim P (p n) (λ e. one_of_min P (t n) (earliest p t n) (f n (omega arith) e) rest) (λ _. rest)

  latest_is : (P : ℕ → Type 0) (n : ℕ) → P 1 → ((a : ℕ) → a < n → p a ≡ true → P (t a)) → P (latest p t n)
  latest_is P zero z f = z
  latest_is P (suc n) z f =
      let rest = latest_is P n z (λ a h e. f a (omega arith) e) in
      cond_elim P (p n) (λ e. one_of_max P (t n) (latest p t n) (f n (omega arith) e) rest) (λ _. rest)

when : (a b : Bool) → (a ≡ true → b ≡ true) → (a ⇒ b) ≡ true
when true b f = f refl
when false b f = refl

-- the time of a head that was reached is one more than u, that of one that was not is 0
module _ (p r : ℕ → Bool) (t u : ℕ → ℕ) (n w : ℕ) (is : (q : ℕ) → q < n → t q ≡ cond (r q) (u q + 1) 0) (early : (q : ℕ) → u q < 2 ^ 28) where
  reached_is : (q : ℕ) → q < n → r q ≡ true → t q ≡ u q + 1
  reached_is q l e = rw e at (is q l)

  is_reached_lem : (q : ℕ) → q < n → 1 ≤ t q → r q ≡ true
  is_reached_lem q l h = cases (r q) (λ e. e) (λ e. absurd (let z : t q ≡ 0 = rw e at (is q l) in omega arith))

  abbrev first : ℕ
  first = earliest p t n

  abbrev last : ℕ
  last = latest p t n

  abbrev each_reached : Bool
  each_reached = all_below n (λ q. p q ⇒ r q)

  abbrev each_near : Bool
  each_near = all_below n (λ a. p a ⇒ all_below n (λ b. p b ⇒ leb (distance (u a) (u b)) w))

  pub all_within : (not (eqb first 0) && leb last (first + w)) ≡ (each_reached && each_near)
  all_within = same_test (not (eqb first 0) && leb last (first + w)) (each_reached && each_near) to from
    where
      to : (not (eqb first 0) && leb last (first + w)) ≡ true → (each_reached && each_near) ≡ true
      to h =
          let some = eqb-false first 0 (not_true (and_left (not (eqb first 0)) _ h)) in
          let most = leb-true last (first + w) (and_right (not (eqb first 0)) _ h) in
          let reached : (q : ℕ) → q < n → p q ≡ true → r q ≡ true = λ q l c. is_reached_lem q l (let m = earliest_at_most p t n q l c in omega arith) in
          and_both
          (below_all n (λ q. p q ⇒ r q) (λ q l. when (p q) (r q) (reached q l)))
          (below_all n (λ a. p a ⇒ all_below n (λ b. p b ⇒ leb (distance (u a) (u b)) w)) (λ a la. when (p a) _ (λ ca.
          below_all n (λ b. p b ⇒ leb (distance (u a) (u b)) w) (λ b lb. when (p b) _ (λ cb.
          let ua = reached_is a la (reached a la ca) in let ub = reached_is b lb (reached b lb cb) in
          let a1 = latest_at_least p t n a la ca in let b1 = latest_at_least p t n b lb cb in
          let a2 = earliest_at_most p t n a la ca in let b2 = earliest_at_most p t n b lb cb in
          le-leb (distance (u a) (u b)) w (omega arith))))))

      from : (each_reached && each_near) ≡ true → (not (eqb first 0) && leb last (first + w)) ≡ true
      from h =
          let at_each = all_below_lem n (λ q. p q ⇒ r q) (and_left each_reached _ h) in
          let reached : (q : ℕ) → q < n → p q ≡ true → t q ≡ u q + 1 = λ q l c. reached_is q l (implied (p q) (r q) (at_each q l) c) in
          let some : 1 ≤ first = earliest_is p t (λ x. 1 ≤ x) n (omega arith) (λ a l c. let e = reached a l c in omega arith) in
          let within : last ≤ first + w =
          latest_is p t (λ x. x ≤ first + w) n (omega arith) (λ a la ca.
          earliest_is p t (λ y. t a ≤ y + w) n (let e = reached a la ca in let m = early a in omega arith) (λ b lb cb.
          let inner = implied (p a) _ (all_below_lem n (λ a. p a ⇒ all_below n (λ b. p b ⇒ leb (distance (u a) (u b)) w)) (and_right each_reached _ h) a la) ca in
          let close = leb-true (distance (u a) (u b)) w (implied (p b) _ (all_below_lem n (λ b. p b ⇒ leb (distance (u a) (u b)) w) inner b lb) cb) in
          let ua = reached a la ca in let ub = reached b lb cb in omega arith)) in
          and_both (ap not (ne_eqb first 0 (λ z. omega arith))) (le-leb last (first + w) within)
