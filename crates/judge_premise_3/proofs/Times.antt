-- The kept times of a history: whom a head's start reached, and whether the deliveries lie within the tightness.
-- Main results: `all_reached`; `within_by_extremes`, `not_within`.
use Rattle.std.proofs.Common.{◌≡◌, ℕ, ◌+◌, ◌*◌, ◌/◌, ◌%◌, ◌^◌, ◌<◌, ◌≤◌, Bool, true, false, cond, not, ◌&&◌, eqb, leb, ◌≢◌, List, get_or, sym, refl, ap, ◌∙◌, ap₂, arith, eq-eqb, ne_eqb}
use Rattle.protocol.specs.declared.Setting.{Setting}
use Rattle.protocol.specs.Base.{◌⇒◌, all_below}
use Rattle.protocol.specs.Words.{is_correct}
use Rattle.protocol.specs.Run.{History}
use Rattle.protocol.specs.Premises.{received, last_start, correct_all, start_within}
use Rattle.protocol.proofs.Tables.{table_at}
use Rattle.protocol.proofs.Tests.{all_same}
use Rattle.data_sets.proofs.Loops.{all_more, all_fails}
use Rattle.judge_premise_3.specs.Starts.{start_time, start_times}
use Rattle.judge_premise_3.proofs.Extremes.{earliest, latest, all_within}

-- what is kept of head p's start and head q
abbrev pub time_at : List ℕ → ℕ → ℕ → ℕ
time_at times p q = get_or times (p % 16 * 16 + q % 16) 0

-- 0 stands for no delivery
kept : (b : Bool) (x : ℕ) → not (eqb (cond b (x + 1) 0) 0) ≡ b
kept true x = ap not (ne_eqb (x + 1) 0 (λ z. omega arith))
kept false x = refl

-- THE LOOP OVER THE HEADS

-- head v's start reached head q, if that is correct
abbrev pub is_reached : Setting → List ℕ → ℕ → ℕ → Bool
is_reached g times v q = is_correct g q ⇒ not (eqb (time_at times v q) 0)

module _ (g : Setting) (times : List ℕ) (v q : ℕ) {b : Bool} {t : ℕ} (correct : b ≡ is_correct g q) (time : t ≡ time_at times v q) where
  reached_is : is_reached g times v q ≡ not (b && eqb t 0)
  reached_is = rw (correct, time) (either (is_correct g q) (eqb (time_at times v q) 0))
    where
      either : (a c : Bool) → (a ⇒ not c) ≡ not (a && c)
      either true c = refl
      either false c = refl

  pub reached_more : (b && eqb t 0) ≡ false → all_below q (is_reached g times v) ≡ true → all_below (q + 1) (is_reached g times v) ≡ true
  reached_more e h = all_more q (is_reached g times v) h (reached_is ∙ ap not e)

  pub not_reached : (b && eqb t 0) ≡ true → q < g.n → all_below g.n (is_reached g times v) ≡ false
  not_reached e l = all_fails g.n q (is_reached g times v) l (reached_is ∙ ap not e)

-- OF A HISTORY

module _ (g : Setting) (times : List ℕ) (s : History) (v : ℕ) (are : times ≡ start_times s) (hv : v < 16) (hn : g.n ≤ 16) where
  time_is : (q : ℕ) → q < g.n → time_at times v q ≡ start_time s v q
  unfolding start_times
  time_is q l =
      ap (λ (l : List ℕ). time_at l v q) are ∙ table_at (λ j. start_time s (j / 16) (j % 16)) 256 (v % 16 * 16 + q % 16) 0 (omega arith)
      ∙ ap₂ (start_time s) (omega arith) (omega arith)

  pub all_reached : all_below g.n (is_reached g times v) ≡ correct_all g (λ q. received 2 v 0 q s)
  all_reached =
      all_same g.n (is_reached g times v) (λ q. is_correct g q ⇒ received 2 v 0 q s)
      (λ q l. ap (λ (b : Bool). is_correct g q ⇒ b) (ap (λ (t : ℕ). not (eqb t 0)) (time_is q l) ∙ kept (received 2 v 0 q s) (last_start s v q)))

  -- the earliest and the latest of the heads below q, which are all
  module _ (early : (q : ℕ) → last_start s v q < 2 ^ 28) {q first last : ℕ} (end : q ≡ g.n)
      (is-first : first ≡ earliest (is_correct g) (time_at times v) q) (is_last : last ≡ latest (is_correct g) (time_at times v) q) where
    by_extremes : (not (eqb first 0) && leb last (first + g.tightness)) ≡ start_within g v s
    unfolding start_within
    by_extremes =
        rw (is-first, is_last, end) (all_within (is_correct g) (λ q. received 2 v 0 q s) (time_at times v) (last_start s v) g.n g.tightness time_is early)

    pub within_by_extremes : first ≢ 0 → leb last (first + g.tightness) ≡ start_within g v s
    within_by_extremes some = sym (ap (λ (b : Bool). not b && leb last (first + g.tightness)) (ne_eqb first 0 some)) ∙ by_extremes

    pub not_within : first ≡ 0 → not (eqb first 0) ≡ start_within g v s
    not_within none =
        let zero = ap not (eq-eqb first 0 none) in zero ∙ sym (ap (λ (b : Bool). b && leb last (first + g.tightness)) zero) ∙ by_extremes
