-- How a round ended, by the numbers of a record's row.
use Rattle.protocol.specs.declared.Reading.{Reading}
use Rattle.std.specs.Prelude.{Option, Some, None, is_some, unwrap_or}
use mathlib.Core.Path.{◌≡◌, refl, sym, ◌∙◌, ap, ap₂, subst}
use mathlib.Core.Bool.{Bool, true, false, cond, ◌&&◌}
use mathlib.Core.List.{List, [], ◌∷◌}
use mathlib.Core.Logic.{◌≢◌}
use Prim.Native.Nat.{ℕ, ◌+◌, ◌-◌, ◌%◌, ◌^◌, ◌<◌}
use native.Mathlib.Omega.{arith}
use lib.Dec.{ltb, eqb}
use lib.ListN.{length, get_or}
use borrow.Author.Tests.{lt-ltb}
use Rattle.protocol.specs.declared.HeadRecord.{HeadRecord}
use Rattle.protocol.specs.declared.HeadRow.{HeadRow}
use Rattle.protocol.specs.Record.{reading_or0, start_of, chosen_start, outcome, votes}
use Rattle.protocol.specs.Step.{has_mark}
use Rattle.protocol.specs.Row.{number_plus1, reading_plus1, row_of}
use Rattle.protocol.specs.Board.{result_numbers}
use Rattle.protocol.proofs.Tests.{and_false}
use Rattle.protocol.proofs.Effects.{no_number}
use Rattle.protocol.proofs.Ranges.{InRange, in_range, SentInRange}
use Rattle.head_row.proofs.Rows.{start_read, absent_at_0}
use Rattle.head_open.proofs.Marks.{has_adjust_closed}
use Rattle.head_result.specs.Result.{IsResult}

-- what the words of a result come to, by the outcome
by_outcome : (r : HeadRecord) (o : ℕ) → outcome r ≡ o
    → o ∷ cond (eqb o 2) (unwrap_or r.vote.choice 0) 0 ∷ cond (eqb o 2) (unwrap_or r.adjust.choice 0) 0
    ∷ cond (eqb o 2) r.adjustment.0 0 ∷ cond (eqb o 2) (reading_or0 (chosen_start r)) 0 ∷ [] ≡ result_numbers r
by_outcome r o e = rw e refl

outcome_is : (r : HeadRecord) (c t : Bool) → r.adjust.closed ≡ c → (is_some (chosen_start r) && is_some r.adjust.choice) ≡ t → outcome r ≡ cond c (cond t 2 1) 0
unfolding outcome
outcome_is r c t p q = ap₂ (λ x y. cond x (cond y 2 1) 0) p q

some_is_more : (m : Option ℕ) → number_plus1 m ≢ 0 → m ≡ Some (number_plus1 m - 1)
some_is_more None e = absurd (e refl)
some_is_more (Some k) e = ap Some (omega arith)

no_reading_is_0 : (x : Option Reading) → reading_plus1 x ≡ 0 → x ≡ None
no_reading_is_0 None e = refl
no_reading_is_0 (Some x) e = absurd (go (ltb x.0 (2 ^ 28)) e)
  where
    go : (b : Bool) → cond b (x.0 + 1) (2 ^ 28 + 1) ≡ 0 → ⊥
    go true e = omega arith
    go false e = omega arith

reading_is_more : (x : Option Reading) → reading_or0 x < 2 ^ 28 → reading_plus1 x ≢ 0 → (is_some x ≡ true) × (reading_or0 x ≡ reading_plus1 x - 1)
reading_is_more None b e = absurd (e refl)
reading_is_more (Some x) b e = (refl, rw (lt-ltb _ _ b) (omega arith))

module _ (w : HeadRow) (r : HeadRecord) (is : w ≡ row_of r) where
  is_closed_lem : (b : Bool) → b ≡ has_mark w.marks.0 32 → b ≡ r.adjust.closed
  is_closed_lem b e = e ∙ ap (λ (v : HeadRow). has_mark v.marks.0 32) is ∙ has_adjust_closed r

  candidate_is : w.votes.choice ≡ number_plus1 r.vote.choice
  candidate_is = ap (λ (v : HeadRow). v.votes.choice) is

  adjuster_is : w.adjusts.choice ≡ number_plus1 r.adjust.choice
  adjuster_is = ap (λ (v : HeadRow). v.adjusts.choice) is

  adjustment_is : w.adjustment ≡ r.adjustment.0
  adjustment_is = ap (λ (v : HeadRow). v.adjustment) is

  -- the number of the candidate's start reading, where there is a candidate
  module _ (range : InRange r) (long : length r.senders ≡ 16) (some : w.votes.choice ≢ 0) where
    abbrev v : ℕ
    v = w.votes.choice - 1

    candidate_some : r.vote.choice ≡ Some v
    candidate_some = subst (λ (c : ℕ). r.vote.choice ≡ Some (c - 1)) (sym candidate_is) (some_is_more r.vote.choice (λ z. some (candidate_is ∙ z)))

    candidate_below : v < r.n
    candidate_below = let sent = subst (λ (m : Option ℕ). SentInRange r.n m r.vote.sent) candidate_some (range.phase votes) in omega arith

    start_is : (i : ℕ) → i ≡ (w.votes.choice - 1) % 16 → get_or w.start_readings i 0 ≡ reading_plus1 (start_of r v)
    start_is i index =
        let few = range.heads.1 in
        let below = candidate_below in
        let same : i ≡ v = omega arith in
        rw same (ap (λ (u : HeadRow). get_or u.start_readings v 0) is ∙ start_read r v)

    chosen_is : chosen_start r ≡ start_of r v
    unfolding chosen_start
    chosen_is = rw candidate_some refl

    start_below : reading_or0 (start_of r v) < 2 ^ 28
    start_below = ((range.kept v).below candidate_below).start

-- THE FIVE ENDS

five : {a b c d a' b' c' d' : ℕ} → a ≡ a' → b ≡ b' → c ≡ c' → d ≡ d' → ◌≡◌ {A = List ℕ} (2 ∷ a ∷ b ∷ c ∷ d ∷ []) (2 ∷ a' ∷ b' ∷ c' ∷ d' ∷ [])
five p q u v = rw (p, q, u, v) refl

module _ (w : HeadRow) (b : Bool) (test : b ≡ has_mark w.marks.0 32) where
  pub still_open : b ≡ false → IsResult w (0 ∷ 0 ∷ 0 ∷ 0 ∷ 0 ∷ [])
  still_open e = λ r is range long. by_outcome r 0 (outcome_is r false _ (sym (is_closed_lem w r is b test) ∙ e) refl)

  module _ (e : b ≡ true) where
    not_adopted : (r : HeadRecord) → w ≡ row_of r → (is_some (chosen_start r) && is_some r.adjust.choice) ≡ false → 1 ∷ 0 ∷ 0 ∷ 0 ∷ 0 ∷ [] ≡ result_numbers r
    not_adopted r is n = by_outcome r 1 (outcome_is r true false (sym (is_closed_lem w r is b test) ∙ e) n)

    pub no_candidate : w.votes.choice ≡ 0 → IsResult w (1 ∷ 0 ∷ 0 ∷ 0 ∷ 0 ∷ [])
    unfolding chosen_start
    no_candidate z = λ r is range long. not_adopted r is (rw (no_number r.vote.choice (absent_at_0 r.vote.choice (candidate_is w r is) z)) refl)

    pub no_adjuster : w.adjusts.choice ≡ 0 → IsResult w (1 ∷ 0 ∷ 0 ∷ 0 ∷ 0 ∷ [])
    no_adjuster z = λ r is range long. not_adopted r is (and_false (is_some (chosen_start r)) _ (absent_at_0 r.adjust.choice (adjuster_is w r is) z))

    pub no_start : (i : ℕ) → i ≡ (w.votes.choice - 1) % 16 → w.votes.choice ≢ 0 → get_or w.start_readings i 0 ≡ 0 → IsResult w (1 ∷ 0 ∷ 0 ∷ 0 ∷ 0 ∷ [])
    no_start i index c z =
        λ r is range long.
        not_adopted r is (ap (λ (x : Option Reading). is_some x && is_some r.adjust.choice) (chosen_is w r is (in_range range) long c ∙ no_reading_is_0 (start_of r (w.votes.choice - 1)) (sym (start_is w r is (in_range range) long c i index) ∙ z)))

    pub adopted : (i : ℕ) → i ≡ (w.votes.choice - 1) % 16 → w.votes.choice ≢ 0 → w.adjusts.choice ≢ 0 → get_or w.start_readings i 0 ≢ 0
        → IsResult w (2 ∷ (w.votes.choice - 1) ∷ (w.adjusts.choice - 1) ∷ w.adjustment ∷ (get_or w.start_readings i 0 - 1) ∷ [])
    adopted i index c a z =
        λ r is range long.
        let start = start_is w r is (in_range range) long c i index in
        let here = reading_is_more (start_of r (w.votes.choice - 1)) (start_below w r is (in_range range) long c) (λ u. z (start ∙ u)) in
        let adjuster = some_is_more r.adjust.choice (λ u. a (adjuster_is w r is ∙ u)) in
        let chosen = chosen_is w r is (in_range range) long c in
        five (ap (λ m. unwrap_or m 0) (sym (candidate_some w r is (in_range range) long c))) (ap (λ (m : ℕ). m - 1) (adjuster_is w r is) ∙ sym (ap (λ m. unwrap_or m 0) adjuster)) (adjustment_is w r is)
        (ap (λ (m : ℕ). m - 1) start ∙ sym here.1 ∙ sym (ap reading_or0 chosen))
        ∙ by_outcome r 2 (outcome_is r true true (sym (is_closed_lem w r is b test) ∙ e) (ap₂ ◌&&◌ (ap is_some chosen ∙ here.0) (ap is_some adjuster)))
