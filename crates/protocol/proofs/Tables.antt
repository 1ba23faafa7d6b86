-- Tables of a function's values, lists that hold them, and a buffer that is filled from its beginning on.
use mathlib.Core.Path.{◌≡◌, refl, sym, ◌∙◌, ap, subst}
use mathlib.Core.Bool.{Bool, false, cond}
use mathlib.Core.List.{List, [], ◌∷◌, ◌++◌, append_assoc}
use Prim.Native.Nat.{ℕ, zero, suc, ◌+◌, ◌*◌, ◌≤◌, ◌<◌}
use mathlib.Core.Logic.{◌≢◌}
use native.Mathlib.Nat.{not-suc-le-zero, mul-zero, mul-suc}
use native.Mathlib.Omega.{arith}
use lib.ListN.{length, get_or, set, drop, length-set, length-append, get_or-append}
use lib.Seq.{ext_get_or, get_or-set_same, get_or-set_other, get_or-append-add, set-append_seam, drop-cons}
use lib.Dec.{ltb, eqb}
use borrow.Author.Count.{below_more}
use borrow.Author.Tests.{eqb-true, eqb-false, ltb-true, ltb-false, lt-ltb, le-ltb}
use Rattle.protocol.proofs.Tests.{cases}
use Rattle.protocol.specs.Base.{table}

module _ {A : Type 0} where
  pub length_table : (f : ℕ → A) (i k : ℕ) → length (table f i k) ≡ k
  length_table f i zero = refl
  length_table f i (suc k) = ap suc (length_table f (suc i) k)

  pub table_from : (f : ℕ → A) (i k j : ℕ) (d : A) → j < k → get_or (table f i k) j d ≡ f (i + j)
  table_from f i zero j d h = absurd (not-suc-le-zero h)
  table_from f i (suc k) zero d h = ap f (omega arith)
  table_from f i (suc k) (suc j) d h = table_from f (suc i) k j d (omega arith) ∙ ap f (omega arith)

  pub table_at : (f : ℕ → A) (k j : ℕ) (d : A) → j < k → get_or (table f 0 k) j d ≡ f j
  table_at f k j d h = table_from f 0 k j d h ∙ ap f (omega arith)

  -- a list that holds the values is the table
  pub is_table : (f : ℕ → A) (k : ℕ) (d : A) (l : List A) → length l ≡ k → ((j : ℕ) → j < k → get_or l j d ≡ f j) → l ≡ table f 0 k
  is_table f k d l n h =
      ext_get_or d l (table f 0 k) (n ∙ sym (length_table f 0 k)) (λ j lt. let below : j < k = omega arith in h j below ∙ sym (table_at f k j d below))

  -- a table with one value changed
  pub set_table : (f h : ℕ → A) (k q : ℕ) (x d : A) → q < k → h q ≡ x → ((j : ℕ) → j < k → eqb j q ≡ false → h j ≡ f j) → set (table f 0 k) q x ≡ table h 0 k
  set_table f h k q x d l e o =
      is_table h k d (set (table f 0 k) q x) (length-set (table f 0 k) q x ∙ length_table f 0 k)
      (λ j lt. cases (eqb j q)
      (λ t. let same = eqb-true j q t in at same)
      (λ t. get_or-set_other (table f 0 k) q j x d (λ z. eqb-false j q t z) ∙ table_at f k j d lt ∙ sym (o j lt t)))
    where
      inside : q < length (table f 0 k)
      inside = rw (length_table f 0 k) l

      at : {j : ℕ} → j ≡ q → get_or (set (table f 0 k) q x) j d ≡ h j
      at {j} same = ap (λ (i : ℕ). get_or (set (table f 0 k) q x) i d) same ∙ get_or-set_same (table f 0 k) q x d inside ∙ sym e ∙ ap h (sym same)

  -- a list that is filled by a function of the index, one more
  pub fill_next : (f : ℕ → A) (l : List A) (i : ℕ) (x d : A) → i < length l → x ≡ f i → ((k : ℕ) → k < i → get_or l k d ≡ f k) → (k : ℕ) → k < i + 1 → get_or (set l i x) k d ≡ f k
  fill_next f l i x d h e ih =
      below_more _ i (λ k lt. get_or-set_other l i k x d (λ q. omega arith) ∙ ih k lt) (get_or-set_same l i x d h ∙ e)

  -- a list that holds one function's values below i and another's above, one more
  pub fill_over : (f h : ℕ → A) (l : List A) (k i : ℕ) (x d : A) → length l ≡ k → i < k → x ≡ f i
      → ((j : ℕ) → j < k → get_or l j d ≡ cond (ltb j i) (f j) (h j)) → (j : ℕ) → j < k → get_or (set l i x) j d ≡ cond (ltb j (i + 1)) (f j) (h j)
  fill_over f h l k i x d n lt e ih j b =
      cases (eqb j i)
      (λ t. let same = eqb-true j i t in at same)
      (λ t. get_or-set_other l i j x d (λ z. eqb-false j i t z) ∙ ih j b ∙ ap (λ (c : Bool). cond c (f j) (h j)) (not_i (λ z. eqb-false j i t z)))
    where
      at : {j : ℕ} → j ≡ i → get_or (set l i x) j d ≡ cond (ltb j (i + 1)) (f j) (h j)
      at {j} same =
          ap (λ (m : ℕ). get_or (set l i x) m d) same ∙ get_or-set_same l i x d (rw n lt) ∙ e ∙ ap f (sym same)
          ∙ ap (λ (c : Bool). cond c (f j) (h j)) (sym (lt-ltb j (i + 1) (omega arith)))

      not_i : j ≢ i → ltb j i ≡ ltb j (i + 1)
      not_i z = cases (ltb j i)
          (λ t. let below = ltb-true j i t in t ∙ sym (lt-ltb j (i + 1) (omega arith)))
          (λ t. let above = ltb-false j i t in t ∙ sym (le-ltb j (i + 1) (omega (arith, z))))

  -- one value more at the end
  table_more : (f : ℕ → A) (i k : ℕ) → table f i (suc k) ≡ table f i k ++ (f (i + k) ∷ [])
  table_more f i zero = ap (λ (j : ℕ). f j ∷ []) (omega arith)
  table_more f i (suc k) = ap (λ (l : List A). f i ∷ l) (table_more f (suc i) k ∙ ap (λ (j : ℕ). table f (suc i) k ++ (f j ∷ [])) (omega arith))

  pub table_last : (f : ℕ → A) (k : ℕ) → table f 0 (k + 1) ≡ table f 0 k ++ (f k ∷ [])
  table_last f k =
      let next : k + 1 ≡ suc k = omega arith in
      let same : 0 + k ≡ k = omega arith in
      ap (table f 0) next ∙ table_more f 0 k ∙ ap (λ (j : ℕ). table f 0 k ++ (f j ∷ [])) same

  -- the values of f at the k numbers from q on, each a list of w elements, one behind the other
  abbrev pub blocks : (ℕ → List A) → ℕ → ℕ → List A
  blocks f q zero = []
  blocks f q (suc k) = f q ++ blocks f (suc q) k

  module _ (f : ℕ → List A) (w : ℕ) (wide : (q : ℕ) → length (f q) ≡ w) where
    pub length_blocks : (q k : ℕ) → length (blocks f q k) ≡ w * k
    length_blocks q zero = sym (mul-zero w)
    length_blocks q (suc k) = length-append (f q) (blocks f (suc q) k) ∙ rw (wide q, length_blocks (suc q) k, mul-suc w k) (omega arith)

    pub block_at : (q k i j : ℕ) (rest : List A) (d : A) → i < k → j < w → get_or (blocks f q k ++ rest) (w * i + j) d ≡ get_or (f (q + i)) j d
    block_at q zero i j rest d h l = absurd (not-suc-le-zero h)
    block_at q (suc k) zero j rest d h l =
        let index : w * 0 + j ≡ j = rw (mul-zero w) (omega arith) in
        let number : q + 0 ≡ q = omega arith in
        rw (append_assoc, index, number) (get_or-append (f q) _ d j (rw (wide q) l))
    block_at q (suc k) (suc i) j rest d h l =
        let index : w * suc i + j ≡ length (f q) + (w * i + j) = rw (wide q, mul-suc w i) (omega arith) in
        let number : q + suc i ≡ suc q + i = omega arith in
        rw (append_assoc, index, number) (get_or-append-add (f q) _ (w * i + j) d ∙ block_at (suc q) k i j rest d (omega arith) l)

  -- three elements at an index, and what is behind them
  pub drop_three : (l : List A) (j k : ℕ) (d : A) → j + 3 ≡ k → k ≤ length l → drop j l ≡ get_or l j d ∷ get_or l (j + 1) d ∷ get_or l (j + 2) d ∷ drop k l
  drop_three l j k d e h =
      let one : j + 1 ≡ suc j = omega arith in
      let two : j + 2 ≡ suc (suc j) = omega arith in
      let three : suc (suc (suc j)) ≡ k = omega arith in
      rw (one, two, drop-cons l j d (omega arith), drop-cons l (suc j) d (omega arith), drop-cons l (suc (suc j)) d (omega arith), three) refl

  -- elements more behind those that have been written, one and three; later ones are kept
  pub one_more : (front before out : List A) (n m : ℕ) (a d : A) → length front ≡ n → n + 1 ≡ m → m ≤ length before
      → out ≡ front ++ drop n before → set out n a ≡ (front ++ a ∷ []) ++ drop m before
  one_more front before out n m a d long e room was =
      let next : suc n ≡ m = omega arith in
      let split = ap (λ (l : List A). front ++ l) (drop-cons before n d (omega arith)) in
      let stored = subst (λ (j : ℕ). set (front ++ get_or before n d ∷ drop (suc n) before) j a ≡ front ++ a ∷ drop (suc n) before) long (set-append_seam front (get_or before n d) (drop (suc n) before) a) in
      rw (was, split, stored, next, append_assoc) refl

  pub three_more : (front before out : List A) (n m : ℕ) (a b c d : A) → length front ≡ n → n + 3 ≡ m → m ≤ length before
      → out ≡ front ++ drop n before → set (set (set out n a) (n + 1) b) (n + 2) c ≡ (front ++ a ∷ b ∷ c ∷ []) ++ drop m before
  three_more front before out n m a b c d long e room was =
      let one = one_more front before out n (n + 1) a d long refl (omega arith) was in
      let two = one_more (front ++ a ∷ []) before _ (n + 1) (n + 2) b d (omega (arith, long, length-append front (a ∷ []))) (omega arith) (omega arith) one in
      let three = one_more ((front ++ a ∷ []) ++ b ∷ []) before _ (n + 2) m c d (omega (arith, long, length-append front (a ∷ []), length-append (front ++ a ∷ []) (b ∷ []))) (omega arith) room two in
      let same : ((front ++ a ∷ []) ++ b ∷ []) ++ c ∷ [] ≡ front ++ a ∷ b ∷ c ∷ [] = rw (append_assoc, append_assoc) refl in
      three ∙ ap (λ (l : List A). l ++ drop m before) same
