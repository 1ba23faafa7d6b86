-- What one more event changes: the kept times, and premise 3.
-- Main results: `times_delivered`, `times_kept`; `premise_3_delivered`, `premise_3_confirmed`, `premise_3_kept`.
use Rattle.std.proofs.Common.{◌≡◌, ℕ, ◌+◌, ◌*◌, ◌/◌, ◌%◌, ◌<◌, Bool, true, false, not, ◌&&◌, eqb, ◌≢◌, ◌∷◌, set, refl, ap, ◌∙◌, arith, eq-eqb, ne_eqb, eqb-true}
use borrow.Author.Tests.{eqb-false}
use Rattle.protocol.specs.declared.Setting.{Setting}
use Rattle.protocol.specs.Base.{◌⇒◌, table}
use Rattle.protocol.specs.Words.{is_correct}
use Rattle.protocol.specs.Run.{Event, History}
use Rattle.protocol.specs.Premises.{takes, receives, took, each, last_start, start_within, premise3}
use Rattle.protocol.proofs.Tests.{cases, and_left, and_right, and_both}
use Rattle.protocol.proofs.Tables.{length_table, table_at, is_table, set_table}
use Rattle.judge_premise_3.specs.Starts.{start_time, start_times}

module _ (e : Event) (s : History) where
  -- TIMES

  hit : (p q : ℕ) → receives 2 p 0 q e ≡ true → start_time (e ∷ s) p q ≡ e.entry.time.0 + 1
  unfolding last_start
  hit p q h = rw h refl

  miss : (p q : ℕ) → receives 2 p 0 q e ≡ false → start_time (e ∷ s) p q ≡ start_time s p q
  unfolding last_start
  miss p q h = rw h refl

  pub times_delivered : e.entry.action ≡ 2 → e.entry.head < 16 → e.entry.sender < 16 → e.entry.serial ≡ 0
      → set (start_times s) (e.entry.sender % 16 * 16 + e.entry.head % 16) (e.entry.time.0 + 1) ≡ start_times (e ∷ s)
  unfolding start_times
  times_delivered ha hq hp hk =
      set_table (λ j. start_time s (j / 16) (j % 16)) (λ j. start_time (e ∷ s) (j / 16) (j % 16)) 256 index _ 0 (omega arith)
      (hit (index / 16) (index % 16) (and_both (and_both (eq-eqb e.entry.head (index % 16) (omega arith)) (eq-eqb e.entry.action 2 ha))
      (and_both (eq-eqb e.entry.sender (index / 16) (omega arith)) (eq-eqb e.entry.serial 0 hk))))
      (λ j l d. miss (j / 16) (j % 16) (cases (receives 2 (j / 16) 0 (j % 16) e) (λ t. absurd (elsewhere j d t)) (λ t. t)))
    where
      index : ℕ
      index = e.entry.sender % 16 * 16 + e.entry.head % 16

      elsewhere : (j : ℕ) → eqb j index ≡ false → receives 2 (j / 16) 0 (j % 16) e ≡ true → ⊥
      elsewhere j d t =
          let head = eqb-true e.entry.head (j % 16) (and_left (eqb e.entry.head (j % 16)) _ (and_left (takes 2 (j % 16) e) _ t)) in
          let sender = eqb-true e.entry.sender (j / 16) (and_left (eqb e.entry.sender (j / 16)) _ (and_right (takes 2 (j % 16) e) _ t)) in
          eqb-false j index d (omega arith)

  pub times_kept : e.entry.action ≢ 2 → start_times (e ∷ s) ≡ start_times s
  unfolding start_times
  times_kept h =
      is_table (λ j. start_time s (j / 16) (j % 16)) 256 0 (table after 0 256) (length_table after 0 256)
      (λ j l. table_at after 256 j 0 l ∙ miss (j / 16) (j % 16) (other (eqb e.entry.head (j % 16)) _ (ne_eqb e.entry.action 2 h)))
    where
      after : ℕ → ℕ
      after j = start_time (e ∷ s) (j / 16) (j % 16)

      other : (a : Bool) {b : Bool} (c : Bool) → b ≡ false → ((a && b) && c) ≡ false
      other true c z = rw z refl
      other false c z = refl

  -- PREMISE 3

  module _ (g : Setting) where
    abbrev correct : Bool
    correct = is_correct g e.entry.head

    pub premise_3_delivered : e.entry.action ≡ 2 → premise3 g (e ∷ s) ≡ (not (correct && took 3 e.entry.sender s) && premise3 g s)
    unfolding premise3 each
    premise_3_delivered h =
        rw (eq-eqb e.entry.action 2 h, ne_eqb e.entry.action 3 (λ z. omega arith))
        (ap (λ (b : Bool). b && premise3 g s) (not_both correct (took 3 e.entry.sender s)))
      where
        not_both : (a b : Bool) → ((a && true) ⇒ not b) ≡ not (a && b)
        not_both true b = refl
        not_both false b = refl

    -- of another action nothing is asked of deliveries
    undelivered : (a b : Bool) → e.entry.action ≢ 2 → (a && ((correct && eqb e.entry.action 2) ⇒ b)) ≡ a
    undelivered a b h = rw (ne_eqb e.entry.action 2 h) (go a correct)
      where
        go : (a c : Bool) → (a && ((c && false) ⇒ b)) ≡ a
        go true true = refl
        go true false = refl
        go false c = refl

    pub premise_3_confirmed : e.entry.action ≡ 3 → premise3 g (e ∷ s) ≡ (start_within g e.entry.head s && premise3 g s)
    unfolding premise3 each
    premise_3_confirmed h =
        ap (λ (b : Bool). b && premise3 g s)
        (undelivered (eqb e.entry.action 3 ⇒ start_within g e.entry.head s) (not (took 3 e.entry.sender s)) (λ z. omega arith)
        ∙ ap (λ (b : Bool). b ⇒ start_within g e.entry.head s) (eq-eqb e.entry.action 3 h))

    pub premise_3_kept : e.entry.action ≢ 2 → e.entry.action ≢ 3 → premise3 g (e ∷ s) ≡ premise3 g s
    unfolding premise3 each
    premise_3_kept h2 h3 =
        ap (λ (b : Bool). b && premise3 g s)
        (undelivered (eqb e.entry.action 3 ⇒ start_within g e.entry.head s) (not (took 3 e.entry.sender s)) h2
        ∙ ap (λ (b : Bool). b ⇒ start_within g e.entry.head s) (ne_eqb e.entry.action 3 h3))
