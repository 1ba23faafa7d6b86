-- Whether a head "either took all of 1, 3 and 4 or was delivered a vote", by its record. Before a correct vote close by entry it did
-- exactly if it took its vote turn or has a candidate: a turn comes after 1 and 3, a candidate of a turn or of a delivered vote, and
-- a vote that finds a head open gives it one. A head that has closed its vote early has a candidate anyway.
-- Main result: `took_part`.
use Rattle.std.specs.Prelude.{Some, is_some}
use mathlib.Core.Path.{◌≡◌, refl, sym, ◌∙◌, ap}
use mathlib.Core.Bool.{true, false, ◌&&◌, ◌||◌}
use mathlib.Core.List.{◌∷◌}
use Prim.Native.Nat.{ℕ}
use Rattle.protocol.specs.declared.Setting.{Setting}
use Rattle.protocol.specs.Base.{any}
use Rattle.protocol.specs.Words.{is_correct}
use Rattle.protocol.specs.Record.{votes, fresh}
use Rattle.protocol.specs.Run.{History, record_of}
use Rattle.protocol.specs.Premises.{takes, took, correct_closes, is_early}
use Rattle.protocol.proofs.Tests.{absurd_bool, cases, and_right, and_both, or_first, or_second, or_cases, eqb_same}
use Rattle.protocol.proofs.Effects.{none_is_some, some_number}
use Rattle.protocol.proofs.Valid.{Valid, start, more, by_head, started_took, confirmed_took, turn_took}
use Rattle.protocol.proofs.Ranges.{run_in_range}
use Rattle.protocol.proofs.Phases.{held, held_other, Origin, own, reached, Turn, sends_none, sends_one, turn, took_close}
use Rattle.protocol.proofs.Spoken.{early_holds, delivered_holds}
use Rattle.data_sets.proofs.Sets.{same_test}
use Rattle.judge_premises_5_to_8.proofs.Heads.{Heads}

module _ {g : Setting} where
  -- who has a candidate took its vote turn or was delivered a vote
  candidate_came : {s : History} → Valid g s → (q c : ℕ) → held g votes s q ≡ Some c → (took 4 q s || took 5 q s) ≡ true
  unfolding record_of fresh
  candidate_came start q c = none_is_some
  candidate_came (more {e = e} {s = s} t v) q c =
      by_head (λ q. held g votes (e ∷ s) q ≡ Some c → (took 4 q (e ∷ s) || took 5 q (e ∷ s)) ≡ true) e q
      (at_head (turn g votes t v) (candidate_came v e.entry.head c))
      (λ d h. still q (candidate_came v q c (sym (held_other g votes e s q d) ∙ h)))
    where
      still : (q : ℕ) → (took 4 q s || took 5 q s) ≡ true → (took 4 q (e ∷ s) || took 5 q (e ∷ s)) ≡ true
      still q h =
          or_cases (took 4 q s) (took 5 q s) h
          (λ x. or_first (took 4 q (e ∷ s)) _ (or_second (takes 4 q e) _ x))
          (λ x. or_second (took 4 q (e ∷ s)) _ (or_second (takes 5 q e) _ x))

      new : (c : ℕ) → Origin g votes s e c → (took 4 e.entry.head (e ∷ s) || took 5 e.entry.head (e ∷ s)) ≡ true
      new c (own _ _ x) = or_first (took 4 e.entry.head (e ∷ s)) _ (sym (turn_took g (more t v) e.entry.head) ∙ x)
      new c (reached x _) = or_second (took 4 e.entry.head (e ∷ s)) _ (rw (eqb_same e.entry.head, x) refl)

      at_head : Turn g votes s e → (held g votes s e.entry.head ≡ Some c → (took 4 e.entry.head s || took 5 e.entry.head s) ≡ true)
          → held g votes (e ∷ s) e.entry.head ≡ Some c → (took 4 e.entry.head (e ∷ s) || took 5 e.entry.head (e ∷ s)) ≡ true
      at_head (sends_none z) ih h = still e.entry.head (ih (sym z.held_same ∙ h))
      at_head (sends_one z) ih h = new z.choice z.origin

  pub took_part : {s : History} → Heads g → Valid g s → (p : ℕ) → is_correct g p ≡ true → any (correct_closes g votes) s ≡ false
      → (is_some (record_of g s p).vote.choice || (record_of g s p).vote.turn) ≡ (took 5 p s || (took 1 p s && (took 3 p s && took 4 p s)))
  took_part {s} H v p c unclosed =
      same_test (is_some (record_of g s p).vote.choice || (record_of g s p).vote.turn) (took 5 p s || (took 1 p s && (took 3 p s && took 4 p s)))
      (λ t. or_cases (is_some (record_of g s p).vote.choice) _ t
      (λ x. let m = some_number (record_of g s p).vote.choice x in
      or_cases (took 4 p s) (took 5 p s) (candidate_came v p m.0 m.1) turned (λ y. or_first (took 5 p s) _ y))
      (λ x. turned (sym (turn_took g v p) ∙ x)))
      (λ t. or_cases (took 5 p s) _ t
      (λ x. or_first (is_some (record_of g s p).vote.choice) _ (ap is_some (delivered x).1))
      (λ x. or_second (is_some (record_of g s p).vote.choice) _ (turn_took g v p ∙ and_right (took 3 p s) _ (and_right (took 1 p s) _ x))))
    where
      delivered : took 5 p s ≡ true → (m : ℕ) × (held g votes s p ≡ Some m)
      delivered x =
          cases (is_early g votes s p) (early_holds g votes H.few v p (H.below p c))
          (λ o. delivered_holds g votes H.few v p (H.below p c) x (cases (took 6 p s) (λ t. absurd_bool (took_close g votes v p c o t) unclosed) (λ t. t)))

      turned : took 4 p s ≡ true → (took 5 p s || (took 1 p s && (took 3 p s && took 4 p s))) ≡ true
      turned h =
          let marks = (run_in_range H.fit v p (H.below p c)).marks in
          let confirmed = marks.turn (turn_took g v p ∙ h) in
          or_second (took 5 p s) _ (and_both (sym (started_took g v p) ∙ marks.confirmed confirmed) (and_both (sym (confirmed_took g v p) ∙ confirmed) h))
