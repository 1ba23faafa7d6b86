-- What is noted of the words that the display shows, with one word more.
-- Main results: `same_head`, `other_head`, `more_shown`, `more_passed`; `of_head`, `read_by`, `displays`.
use mathlib.Core.Path.{◌≡◌, refl, sym, ◌∙◌, ap, subst}
use mathlib.Core.Bool.{Bool, true, false, ◌&&◌}
use mathlib.Core.List.{List, [], ◌∷◌, ◌++◌, append-nil}
use mathlib.Core.Logic.{◌≢◌}
use Prim.Native.Nat.{ℕ, suc, ◌+◌, ◌*◌, ◌/◌, ◌%◌, ◌≤◌, ◌<◌}
use native.Mathlib.Omega.{arith}
use lib.Dec.{ltb, eqb, lit<}
use lib.ListN.{length, get_or, set, take, length-set, length-append, get_or-append, get_or-eq_default}
use lib.Seq.{take-suc, get_or-append_seam, get_or-set_same, get_or-set_other}
use borrow.Author.Tests.{eqb-true, eqb-false, ltb-true, ltb-false}
use Rattle.std.proofs.Math.Bool.{and_comm}
use Rattle.protocol.specs.Words.{kind_of}
use Rattle.protocol.specs.Types.{Verdict}
use Rattle.protocol.specs.Results.{word_of}
use Rattle.protocol.specs.Readers.{shown_in, shown_at, is_head_of, kinds_fit, first_failed, read_verdict, tell, keep, is_shown, display}
use Rattle.protocol.proofs.Tests.{cases, all_same}
use Rattle.sheet_display.specs.Shown.{Notes}

-- ONE WORD MORE

keep_append : (p : ℕ → Bool) (a b : List ℕ) → keep p (a ++ b) ≡ keep p a ++ keep p b
keep_append p [] b = refl
keep_append p (w ∷ a) b = cases (p w) (λ t. rw (t, keep_append p a b) refl) (λ t. rw (t, keep_append p a b) refl)

keep_more : (words : List ℕ) (i : ℕ) → i < length words → keep is_shown (take (i + 1) words) ≡ keep is_shown (take i words) ++ keep is_shown (get_or words i 0 ∷ [])
keep_more words i h =
    let next : i + 1 ≡ suc i = omega arith in
    ap (λ (k : ℕ). keep is_shown (take k words)) next ∙ ap (keep is_shown) (take-suc words i 0 h) ∙ keep_append is_shown (take i words) (get_or words i 0 ∷ [])

-- the element at an index of a list with one element more: past the end of both lists it is 0
at_snoc : (l : List ℕ) (w m : ℕ) → m ≢ length l → get_or (l ++ (w ∷ [])) m 0 ≡ get_or l m 0
at_snoc l w m other =
    cases (ltb m (length l))
    (λ t. get_or-append l (w ∷ []) 0 m (ltb-true m (length l) t))
    (λ t. let far = ltb-false m (length l) t in
    get_or-eq_default (l ++ (w ∷ [])) 0 (omega (arith, other, length-append l (w ∷ []))) ∙ sym (get_or-eq_default l 0 (omega arith)))

kinds_more : (l : List ℕ) (w : ℕ) → kinds_fit 3 (l ++ (w ∷ [])) ≡ (eqb (kind_of w) (6 + length l % 3) && kinds_fit 3 l)
unfolding kinds_fit
kinds_more l w =
    let n = length l in
    let long : length (l ++ (w ∷ [])) ≡ suc n = length-append l (w ∷ []) ∙ omega arith in
    rw (long, get_or-append_seam l w [] 0)
    (ap (λ (b : Bool). eqb (kind_of w) (6 + n % 3) && b)
    (all_same n (λ i. eqb (kind_of (get_or (l ++ (w ∷ [])) i 0)) (6 + i % 3)) (λ i. eqb (kind_of (get_or l i 0)) (6 + i % 3))
    (λ i lt. ap (λ (x : ℕ). eqb (kind_of x) (6 + i % 3)) (get_or-append l (w ∷ []) 0 i lt))))

-- what is noted of one word more that is shown, at the head's place among three or at another
module _ (q : ℕ) (l : List ℕ) (w count : ℕ) (fits : Bool) (words_of_head : List ℕ) (was : Notes q l count fits words_of_head) where
  abbrev fits_now : Bool
  fits_now = fits && eqb (kind_of w) (6 + count % 3)

  count_more : count + 1 ≡ length (l ++ (w ∷ []))
  count_more = omega (arith, was.count_is, length-append l (w ∷ []))

  fits_more : fits_now ≡ kinds_fit 3 (l ++ (w ∷ []))
  fits_more = rw (was.count_is, was.fits_is) (and_comm (kinds_fit 3 l) (eqb (kind_of w) (6 + length l % 3)) ∙ sym (kinds_more l w))

  pub other_head : count / 3 ≢ q → Notes q (l ++ (w ∷ [])) (count + 1) fits_now words_of_head
  other_head other = record {
    count_is = count_more;
    fits_is = fits_more;
    has_three = was.has_three;
    word_is = λ j lt. was.word_is j lt ∙ sym (at_snoc l w (3 * q + j) (λ z. other (let c = was.count_is in omega arith)));
  }

  pub same_head : count / 3 ≡ q → Notes q (l ++ (w ∷ [])) (count + 1) fits_now (set words_of_head (count % 3) w)
  same_head same = record { count_is = count_more; fits_is = fits_more; has_three = length-set words_of_head (count % 3) w ∙ was.has_three; word_is = at }
    where
      at : (j : ℕ) → j < 3 → get_or (set words_of_head (count % 3) w) j 0 ≡ word_of 3 (l ++ (w ∷ [])) q j
      at j lt =
          cases (eqb j (count % 3))
          (λ t. let here = eqb-true j (count % 3) t in
          let index : 3 * q + j ≡ length l = let c = was.count_is in omega arith in
          rw (index, here, get_or-append_seam l w [] 0) (get_or-set_same words_of_head (count % 3) w 0 (let n = was.has_three in omega arith)))
          (λ t. let there = eqb-false j (count % 3) t in
          get_or-set_other words_of_head (count % 3) j w 0 there ∙ was.word_is j lt ∙ sym (at_snoc l w (3 * q + j) (λ z. there (let c = was.count_is in omega arith))))

-- the words up to an index, one more
module _ (q : ℕ) (words : List ℕ) (i : ℕ) (inside : i < length words) (count : ℕ) (fits : Bool) (words_of_head : List ℕ) where
  pub more_shown : is_shown (get_or words i 0) ≡ true
      → Notes q (keep is_shown (take i words) ++ (get_or words i 0 ∷ [])) count fits words_of_head → Notes q (keep is_shown (take (i + 1) words)) count fits words_of_head
  more_shown t = subst (λ (l : List ℕ). Notes q l count fits words_of_head) (sym (keep_more words i inside ∙ rw t refl))

  pub more_passed : is_shown (get_or words i 0) ≡ false → Notes q (keep is_shown (take i words)) count fits words_of_head → Notes q (keep is_shown (take (i + 1) words)) count fits words_of_head
  more_passed t = subst (λ (l : List ℕ). Notes q l count fits words_of_head) (sym (keep_more words i inside ∙ rw t (append-nil (keep is_shown (take i words)))))

-- no more words are shown than there are
pub shown_most : (p : ℕ → Bool) (ws : List ℕ) → length (keep p ws) ≤ length ws
shown_most p [] = omega arith
shown_most p (w ∷ ws) = let m = shown_most p ws in cases (p w) (λ t. rw t (omega arith)) (λ t. rw t (omega arith))

-- THE ANSWER

-- the head's words among those that are shown
pub of_head : {q : ℕ} {l : List ℕ} {count : ℕ} {fits : Bool} {h : List ℕ} → Notes q l count fits h → shown_in (get_or h 0 0) (get_or h 1 0) (get_or h 2 0) ≡ shown_at 3 l q
of_head was = rw (was.word_is 0 (lit< tt), was.word_is 1 (lit< tt), was.word_is 2 (lit< tt)) refl

-- the verdict of the words, by what is noted of them
pub read_by : (n q : ℕ) {l h : List ℕ} {count : ℕ} {fits b : Bool} {v : Verdict} → Notes q l count fits h → b ≡ is_head_of n q
    → v ≡ first_failed b (eqb count (3 * n)) fits → read_verdict 3 n q l ≡ v
unfolding read_verdict
read_by n q was is e = sym (e ∙ rw (is, was.count_is, was.fits_is) refl)

-- and the answer by the verdict
pub displays : (n q : ℕ) (words : List ℕ) (v : Verdict) → read_verdict 3 n q (keep is_shown words) ≡ v → display n q words ≡ tell v (shown_at 3 (keep is_shown words) q)
unfolding display
displays n q words v e = rw e refl
