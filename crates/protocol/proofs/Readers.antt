-- The readers of result words (document 02, No. 7) are right on what a replay leaves.
-- Main results: `display_right`, `plan_right`; of a replay's buffer: `display_of_replay`, `plan_of_replay`; `as_printed` (the numbers are
-- those that the program prints). Of any words: `planned_is_shown` (what the planner's reader reads, the display shows), `passes_over` and
-- `old_file` (words of another kind change nothing).
use mathlib.Core.Path.{◌≡◌, refl, sym, ◌∙◌, ap, ap₂, subst}
use mathlib.Core.Bool.{Bool, true, false}
use mathlib.Core.List.{List, [], ◌∷◌, ◌++◌, map, append-nil}
use Prim.Native.Nat.{ℕ, zero, suc, ◌+◌, ◌*◌, ◌/◌, ◌%◌, ◌≤◌, ◌<◌}
use native.Mathlib.Omega.{arith}
use lib.Dec.{leb, eqb}
use lib.ListN.{length, get_or, take, drop}
use lib.Seq.{ext_get_or, take-append_seam}
use lib.IntN.{ℤ, sub_ℕ}
use borrow.Author.Tests.{le-leb, eqb-true, ltb-true, lt-ltb, ne_eqb}
use mathlib.Core.Logic.{◌≢◌}
use Rattle.protocol.specs.Types.{HeadRecord, Setting, BadLength, BadFirstWord, BadEntry, Verdict, Accepted, Refused}
use Rattle.protocol.specs.Words.{kind_of, setting_at}
use Rattle.protocol.specs.Record.{reading_or0, chosen_start, outcome, correction}
use Rattle.protocol.specs.Run.{History, record_of, ran, run_sheet}
use Rattle.protocol.specs.Results.{if_adopted, outcome_word, adjustment_word, start_word, head_words, words_per_head, word_of, result_words, Replay, replay}
use Rattle.protocol.specs.Claim.{ending_in_words}
use Rattle.protocol.specs.Program.{decimal, signed, line, head_line}
use Rattle.protocol.specs.Board.{correction_if_adopted}
use Rattle.protocol.specs.Readers.{shown_in, counts_in, shown_at, is_head_of, kinds_fit, first_failed, read_verdict, Told, tell, keep, is_shown, display, plan, shown_of, counts_of, ShownRight, PlannedRight}
use Rattle.protocol.proofs.Tests.{cases, and_both, and_right, eqb_same, all_below_lem, below_all}
use Rattle.protocol.proofs.Tables.{blocks, length_blocks, block_at}
use Rattle.protocol.proofs.Effects.{votes, adjusts}
use Rattle.protocol.proofs.Valid.{Sheet, accepted_sheet}
use Rattle.protocol.proofs.Frames.{starts_counted, frames_counted}
use Rattle.protocol.proofs.Fits.{not_accepted}
use Rattle.protocol.proofs.ResultWords.{Says, result_says, length_words, result_at, filled}

-- A READER'S VERDICT

pub head_below : (n q : ℕ) → is_head_of n q ≡ true → q < n
head_below n q h = ltb-true q n (and_right (leb n 16) _ (and_right (leb 2 n) _ h))

module _ (k n q : ℕ) (ws : List ℕ) where
  pub not_a_head : is_head_of n q ≡ false → read_verdict k n q ws ≡ Refused BadFirstWord
  unfolding read_verdict
  not_a_head h = rw h refl

  pub not_its_length : is_head_of n q ≡ true → length ws ≢ k * n → read_verdict k n q ws ≡ Refused BadLength
  unfolding read_verdict
  not_its_length h l = rw (h, ne_eqb (length ws) (k * n) l) refl

  pub not_its_kinds : is_head_of n q ≡ true → length ws ≡ k * n → kinds_fit k ws ≡ false → read_verdict k n q ws ≡ Refused BadEntry
  unfolding read_verdict
  not_its_kinds h l f = rw (h, l, eqb_same (k * n), f) refl

  pub reads : is_head_of n q ≡ true → length ws ≡ k * n → kinds_fit k ws ≡ true → read_verdict k n q ws ≡ Accepted
  unfolding read_verdict
  reads h l f = rw (h, l, eqb_same (k * n), f) refl

  pub read_means : read_verdict k n q ws ≡ Accepted → (is_head_of n q ≡ true) × (length ws ≡ k * n) × (kinds_fit k ws ≡ true)
  unfolding read_verdict
  read_means = go (is_head_of n q) refl (eqb (length ws) (k * n)) refl (kinds_fit k ws) refl
    where
      go : (b : Bool) → is_head_of n q ≡ b → (c : Bool) → eqb (length ws) (k * n) ≡ c → (d : Bool) → kinds_fit k ws ≡ d
          → first_failed b c d ≡ Accepted → (is_head_of n q ≡ true) × (length ws ≡ k * n) × (kinds_fit k ws ≡ true)
      go false is c long d fit e = not_accepted _ e
      go true is false long d fit e = not_accepted _ e
      go true is true long false fit e = not_accepted _ e
      go true is true long true fit e = (is, eqb-true _ _ long, fit)

told_verdict : (v : Verdict) (l : List ℤ) → (tell v l).verdict ≡ v
told_verdict Accepted l = refl
told_verdict (Refused c) l = refl

-- what a reader's code leaves, where that is the definition's answer
pub answered : (P : Told → Type 0) (d x : Told) → P d → d ≡ x → (x.verdict ≡ d.verdict) × (x.numbers ≡ d.numbers) × P x
answered P d x right e = (ap (λ (t : Told). t.verdict) (sym e), ap (λ (t : Told). t.numbers) (sym e), subst P e right)

-- WHAT A HEAD'S WORDS SHOW

-- without outcome 2 adjustment and start reading are 0, and so is their difference
difference : (r : HeadRecord) → sub_ℕ (if_adopted r r.adjustment.0) (if_adopted r (reading_or0 (chosen_start r))) ≡ correction_if_adopted r
unfolding correction
difference r = cases (eqb (outcome r) 2) (λ t. rw t refl) (λ t. rw t refl)

shows : {q : ℕ} {r : HeadRecord} → Says q r → shown_in (outcome_word q r) (adjustment_word r) (start_word r) ≡ shown_of r
shows {q} {r} s =
    rw (s.outcome_is, s.candidate_is, s.adjuster_is, s.adjustment_is, s.start_is, difference r)
    (cases (eqb (outcome r) 2) (λ t. rw t refl) (λ t. rw t refl))

-- WORDS THAT BOTH READ: four a head, the kinds in their places

-- a word of kinds 6 to 8 is shown, one of kind 9 is not
is_shown_lem : (w j : ℕ) → kind_of w ≡ 6 + j → j < 3 → is_shown w ≡ true
is_shown_lem w j e lt = rw e (and_both (le-leb 6 (6 + j) (omega arith)) (le-leb (6 + j) 8 (omega arith)))

not_shown : (w : ℕ) → kind_of w ≡ 9 → is_shown w ≡ false
not_shown w e = rw e refl

-- the kinds are in their places where they are so head by head
places_fit : (k : ℕ) (l : List ℕ) → ((i : ℕ) → i < length l → kind_of (get_or l i 0) ≡ 6 + i % k) → kinds_fit k l ≡ true
unfolding kinds_fit
places_fit k l at = below_all (length l) (λ i. eqb (kind_of (get_or l i 0)) (6 + i % k)) (λ i lt. rw (at i lt) (eqb_same (6 + i % k)))

module _ (n : ℕ) (words : List ℕ) (long : length words ≡ 4 * n) (fit : kinds_fit 4 words ≡ true) where
  abbrev three_of : ℕ → List ℕ
  three_of p = word_of 4 words p 0 ∷ word_of 4 words p 1 ∷ word_of 4 words p 2 ∷ []

  abbrev four_of : ℕ → List ℕ
  four_of p = word_of 4 words p 0 ∷ word_of 4 words p 1 ∷ word_of 4 words p 2 ∷ word_of 4 words p 3 ∷ []

  four_at : (p j : ℕ) → j < 4 → get_or (four_of p) j 0 ≡ word_of 4 words p j
  four_at p zero h = refl
  four_at p (suc zero) h = refl
  four_at p (suc (suc zero)) h = refl
  four_at p (suc (suc (suc zero))) h = refl
  four_at p (suc (suc (suc (suc j)))) h = absurd (omega arith)

  three_at : (p j : ℕ) → j < 3 → get_or (three_of p) j 0 ≡ word_of 4 words p j
  three_at p zero h = refl
  three_at p (suc zero) h = refl
  three_at p (suc (suc zero)) h = refl
  three_at p (suc (suc (suc j))) h = absurd (omega arith)

  -- index i is that of word i % 4 of head i / 4
  words_are : words ≡ blocks four_of 0 n
  words_are = ext_get_or 0 words (blocks four_of 0 n) (long ∙ sym (length_blocks four_of 4 (λ p. refl) 0 n)) at
    where
      at : (i : ℕ) → i < length words → get_or words i 0 ≡ get_or (blocks four_of 0 n) i 0
      at i lt =
          let index : 4 * (i / 4) + i % 4 ≡ i = omega arith in
          let head : 0 + i / 4 ≡ i / 4 = omega arith in
          let block = block_at four_of 4 (λ p. refl) 0 n (i / 4) (i % 4) [] 0 (omega arith) (omega arith) in
          sym (subst (λ (m : ℕ). get_or (blocks four_of 0 n) m 0 ≡ get_or words m 0) index
          (ap (λ (l : List ℕ). get_or l (4 * (i / 4) + i % 4) 0) (sym (append-nil (blocks four_of 0 n))) ∙ block ∙ ap (λ (p : ℕ). get_or (four_of p) (i % 4) 0) head ∙ four_at (i / 4) (i % 4) (omega arith)))

  kind_at : (p j : ℕ) → p < n → j < 4 → kind_of (word_of 4 words p j) ≡ 6 + j
  unfolding kinds_fit
  kind_at p j low lt =
      let place : (4 * p + j) % 4 ≡ j = omega arith in
      eqb-true _ _ (all_below_lem (length words) (λ i. eqb (kind_of (get_or words i 0)) (6 + i % 4)) fit (4 * p + j) (omega arith)) ∙ ap (λ (i : ℕ). 6 + i) place

  -- three words are left of each head
  kept_from : (p k : ℕ) → p + k ≤ n → keep is_shown (blocks four_of p k) ≡ blocks three_of p k
  kept_from p zero le = refl
  kept_from p (suc k) le =
      let kind : (j : ℕ) → j < 4 → kind_of (word_of 4 words p j) ≡ 6 + j = λ j lt. kind_at p j (omega arith) lt in
      rw (
        is_shown_lem (word_of 4 words p 0) 0 (kind 0 (omega arith)) (omega arith),
        is_shown_lem (word_of 4 words p 1) 1 (kind 1 (omega arith)) (omega arith),
        is_shown_lem (word_of 4 words p 2) 2 (kind 2 (omega arith)) (omega arith),
        not_shown (word_of 4 words p 3) (kind 3 (omega arith)),
        kept_from (suc p) k (omega arith),
      ) refl

  kept_are : keep is_shown words ≡ blocks three_of 0 n
  kept_are = ap (keep is_shown) words_are ∙ kept_from 0 n (omega arith)

  kept_length : length (keep is_shown words) ≡ 3 * n
  kept_length = ap length kept_are ∙ length_blocks three_of 3 (λ p. refl) 0 n

  kept_at : (q j : ℕ) → q < n → j < 3 → word_of 3 (keep is_shown words) q j ≡ word_of 4 words q j
  kept_at q j low lt =
      let head : 0 + q ≡ q = omega arith in
      ap (λ (l : List ℕ). word_of 3 l q j) (kept_are ∙ sym (append-nil (blocks three_of 0 n))) ∙ block_at three_of 3 (λ p. refl) 0 n q j [] 0 low lt
      ∙ ap (λ (p : ℕ). get_or (three_of p) j 0) head ∙ three_at q j lt

  kept_fit : kinds_fit 3 (keep is_shown words) ≡ true
  kept_fit = places_fit 3 (keep is_shown words) at
    where
      at : (i : ℕ) → i < length (keep is_shown words) → kind_of (get_or (keep is_shown words) i 0) ≡ 6 + i % 3
      at i lt =
          let index : 3 * (i / 3) + i % 3 ≡ i = omega arith in
          let low : i / 3 < n = let few = subst (λ (m : ℕ). i < m) kept_length lt in omega arith in
          subst (λ (m : ℕ). kind_of (get_or (keep is_shown words) m 0) ≡ 6 + i % 3) index (ap kind_of (kept_at (i / 3) (i % 3) low (omega arith)) ∙ kind_at (i / 3) (i % 3) low (omega arith))

  shown_here : (q : ℕ) → is_head_of n q ≡ true → display n q words ≡ tell Accepted (shown_at 4 words q)
  unfolding display
  shown_here q is =
      let low = head_below n q is in
      rw (reads 3 n q (keep is_shown words) is kept_length kept_fit, kept_at q 0 low (omega arith), kept_at q 1 low (omega arith), kept_at q 2 low (omega arith)) refl

-- where the planner's reader gives an answer, the display gives it too, but for the counts
pub planned_is_shown : (n q : ℕ) (words : List ℕ) → (plan n q words).verdict ≡ Accepted
    → ((display n q words).verdict ≡ Accepted) × ((plan n q words).numbers ≡ (display n q words).numbers ++ counts_in (word_of 4 words q 3))
unfolding plan
planned_is_shown n q words e =
    let accepted : read_verdict 4 n q words ≡ Accepted = sym (told_verdict _ _) ∙ e in
    let facts = read_means 4 n q words accepted in
    let here = shown_here n words facts.1 facts.2 q facts.0 in
    (ap (λ (x : Told). x.verdict) here, rw (accepted, here) refl)

-- THE WORDS THAT A REPLAY LEAVES

module _ (g : Setting) (h : History) (a : Sheet g h) where
  word_is : (q j : ℕ) → q < g.n → j < 4 → word_of 4 (result_words g h) q j ≡ get_or (head_words q (record_of g h q)) j 0
  word_is q j low lt = subst (λ (l : List ℕ). word_of 4 l q j ≡ get_or (head_words q (record_of g h q)) j 0) (append-nil (result_words g h)) (result_at g h [] q j low lt)

  long : length (result_words g h) ≡ 4 * g.n
  unfolding result_words
  long = length_words (record_of g h) 0 g.n

  fit : kinds_fit 4 (result_words g h) ≡ true
  fit = places_fit 4 (result_words g h) at
    where
      at : (i : ℕ) → i < length (result_words g h) → kind_of (get_or (result_words g h) i 0) ≡ 6 + i % 4
      at i lt =
          let index : 4 * (i / 4) + i % 4 ≡ i = omega arith in
          let low : i / 4 < g.n = let few = subst (λ (m : ℕ). i < m) long lt in omega arith in
          subst (λ (m : ℕ). kind_of (get_or (result_words g h) m 0) ≡ 6 + i % 4) index
          (ap kind_of (word_is (i / 4) (i % 4) low (omega arith)) ∙ (result_says g h a (i / 4) low).kinds (i % 4) (omega arith))

  is_head : (q : ℕ) → q < g.n → is_head_of g.n q ≡ true
  is_head q low = rw (le-leb 2 g.n a.at_least_two, le-leb g.n 16 a.at_most_16, lt-ltb q g.n low) refl

  shown_is : (q : ℕ) → q < g.n → shown_at 4 (result_words g h) q ≡ shown_of (record_of g h q)
  shown_is q low = rw (word_is q 0 low (omega arith), word_is q 1 low (omega arith), word_is q 2 low (omega arith)) (shows (result_says g h a q low))

  counts_are : (q : ℕ) → q < g.n → counts_in (word_of 4 (result_words g h) q 3) ≡ counts_of h q
  counts_are q low =
      let s = result_says g h a q low in
      ap counts_in (word_is q 3 low (omega arith))
      ∙ rw (s.starts_is, s.votes_is, s.adjusts_is, starts_counted g a.valid q, frames_counted g votes a.valid q, frames_counted g adjusts a.valid q) refl

  planned : (q : ℕ) → q < g.n → plan g.n q (result_words g h) ≡ tell Accepted (shown_of (record_of g h q) ++ counts_of h q)
  unfolding plan
  planned q low = rw (reads 4 g.n q (result_words g h) (is_head q low) long fit) (ap (tell Accepted) (ap₂ ◌++◌ (shown_is q low) (counts_are q low)))

  shown : (q : ℕ) → q < g.n → display g.n q (result_words g h) ≡ tell Accepted (shown_of (record_of g h q))
  shown q low = shown_here g.n (result_words g h) long fit q (is_head q low) ∙ ap (tell Accepted) (shown_is q low)

pub plan_right : (n q : ℕ) (words : List ℕ) → PlannedRight n q words (plan n q words)
plan_right n q words ws h e same low is = rw (same, is) (planned (setting_at ws) h (accepted_sheet ws h e) q (subst (λ (m : ℕ). q < m) same low))

-- the display depends on the words that it shows alone
shows_kept : (n q : ℕ) (a b : List ℕ) → keep is_shown a ≡ keep is_shown b → display n q a ≡ display n q b
unfolding display
shows_kept n q a b same = rw same refl

pub display_right : (n q : ℕ) (words : List ℕ) → ShownRight n q words (display n q words)
display_right n q words ws h e same low is =
    shows_kept n q words (result_words (setting_at ws) h) is ∙ rw same (shown (setting_at ws) h (accepted_sheet ws h e) q (subst (λ (m : ℕ). q < m) same low))

-- words of kinds other than 6 to 8 change nothing
keep_keep : (p : ℕ → Bool) → ((w : ℕ) → is_shown w ≡ true → p w ≡ true) → (ws : List ℕ) → keep is_shown (keep p ws) ≡ keep is_shown ws
keep_keep p e [] = refl
keep_keep p e (w ∷ ws) =
    cases (is_shown w)
    (λ t. rw (e w t, t, keep_keep p e ws) refl)
    (λ t. cases (p w) (λ u. rw (u, t, keep_keep p e ws) refl) (λ u. rw (u, t, keep_keep p e ws) refl))

pub passes_over : (p : ℕ → Bool) → ((w : ℕ) → is_shown w ≡ true → p w ≡ true) → (n q : ℕ) (words : List ℕ) → display n q (keep p words) ≡ display n q words
passes_over p e n q words = shows_kept n q (keep p words) words (keep_keep p e words)

-- an old file of three words a head
pub old_file : (n q : ℕ) (words : List ℕ) → display n q (keep is_shown words) ≡ display n q words
old_file = passes_over is_shown (λ w t. t)

-- WHAT A REPLAY LEAVES

first_words : (ws out : List ℕ) (h : History) → run_sheet ws ≡ ran h → words_per_head * (setting_at ws).n ≤ length out
    → take (words_per_head * (setting_at ws).n) (replay ws out).buffer ≡ result_words (setting_at ws) h
unfolding result_words
first_words ws out h e f =
    let g = setting_at ws in
    let rest = drop (words_per_head * g.n) out in
    let left = ap (λ (x : Replay). take (words_per_head * g.n) x.buffer) (filled ws out h e f) in
    left ∙ ap (λ (m : ℕ). take m (result_words g h ++ rest)) (sym (length_words (record_of g h) 0 g.n)) ∙ take-append_seam (result_words g h) rest

module _ (ws out : List ℕ) (h : History) (e : run_sheet ws ≡ ran h) (f : words_per_head * (setting_at ws).n ≤ length out) (q : ℕ) (low : q < (setting_at ws).n) where
  pub display_of_replay : display (setting_at ws).n q (take (words_per_head * (setting_at ws).n) (replay ws out).buffer) ≡ tell Accepted (shown_of (record_of (setting_at ws) h q))
  display_of_replay = display_right _ q _ ws h e refl low (ap (keep is_shown) (first_words ws out h e f))

  pub plan_of_replay : plan (setting_at ws).n q (take (words_per_head * (setting_at ws).n) (replay ws out).buffer) ≡ tell Accepted (shown_of (record_of (setting_at ws) h q) ++ counts_of h q)
  plan_of_replay = plan_right _ q _ ws h e refl low (first_words ws out h e f)

  -- "as the replay program prints them"
  pub as_printed : head_line (result_words (setting_at ws) h) q (ending_in_words (result_words (setting_at ws) h) q) ≡ line (decimal q ∷ map signed (shown_of (record_of (setting_at ws) h q)))
  unfolding ending_in_words signed
  as_printed =
      let r = record_of (setting_at ws) h q in
      let s = result_says (setting_at ws) h (accepted_sheet ws h e) q low in
      let w = word_is (setting_at ws) h (accepted_sheet ws h e) q in
      rw (w 0 low (omega arith), w 1 low (omega arith), w 2 low (omega arith), s.outcome_is, s.candidate_is, s.adjuster_is, s.adjustment_is, s.start_is, difference r) refl
