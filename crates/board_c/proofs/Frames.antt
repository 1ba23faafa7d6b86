-- A frame's numbers for C from those that a row has, and the correction by a result's numbers.
-- Main results: `vote_of_none`, `vote_of_reading`, `other_frame`; `adopted_correction`, `no_correction`.
use Rattle.std.specs.Prelude.{Some, None}
use mathlib.Core.Path.{◌≡◌, refl, sym, ◌∙◌, ap}
use mathlib.Core.Bool.{true}
use mathlib.Core.List.{List, [], ◌∷◌}
use mathlib.Core.Logic.{◌≢◌}
use Prim.Native.Nat.{ℕ, ◌+◌, ◌-◌, ◌^◌, ◌<◌}
use native.Mathlib.Omega.{arith}
use lib.Dec.{eqb}
use lib.ListN.{get_or}
use lib.IntN.{ℤ, pos, sub_ℕ}
use borrow.Author.Tests.{lt-ltb, eq-eqb, ne_eqb}
use Rattle.protocol.specs.declared.Reading.{Reading}
use Rattle.protocol.specs.declared.HeadRecord.{HeadRecord}
use Rattle.protocol.specs.Types.{NoFrame, Start, Vote, Adjust}
use Rattle.head_row.specs.declared.Sent.{Sent}
use Rattle.protocol.specs.Record.{outcome, correction}
use Rattle.protocol.specs.Row.{reading_plus1}
use Rattle.protocol.specs.Board.{result_numbers}
use Rattle.board_c.specs.Numbers.{AreNumbers, IsCorrection}

-- FRAMES

plus_1 : (x : Reading) → x.0 < 2 ^ 28 → reading_plus1 (Some x) ≡ x.0 + 1
plus_1 x h = rw (lt-ltb _ _ h) refl

module _ (s : Sent) where
  pub vote_of_none : s.kind ≡ 5 → s.carried ≡ 0 → AreNumbers s (5 ∷ s.serial ∷ s.choice ∷ 0 ∷ 1 ∷ [])
  vote_of_none k z NoFrame h is = absurd (let e = ap (λ (t : Sent). t.kind) is in omega arith)
  vote_of_none k z Start h is = absurd (let e = ap (λ (t : Sent). t.kind) is in omega arith)
  vote_of_none k z (Vote j c None) h is = rw is refl
  vote_of_none k z (Vote j c (Some x)) h is = absurd (let e = sym z ∙ ap (λ (t : Sent). t.carried) is ∙ plus_1 x h in omega arith)
  vote_of_none k z (Adjust j c x) h is = absurd (let e = ap (λ (t : Sent). t.kind) is in omega arith)

  pub vote_of_reading : s.kind ≡ 5 → s.carried ≢ 0 → AreNumbers s (5 ∷ s.serial ∷ s.choice ∷ (s.carried - 1) ∷ 0 ∷ [])
  vote_of_reading k z NoFrame h is = absurd (let e = ap (λ (t : Sent). t.kind) is in omega arith)
  vote_of_reading k z Start h is = absurd (let e = ap (λ (t : Sent). t.kind) is in omega arith)
  vote_of_reading k z (Vote j c None) h is = absurd (z (ap (λ (t : Sent). t.carried) is))
  vote_of_reading k z (Vote j c (Some x)) h is =
      let back : reading_plus1 (Some x) - 1 ≡ x.0 = ap (λ (m : ℕ). m - 1) (plus_1 x h) ∙ omega arith in
      rw is (ap (λ (m : ℕ). 5 ∷ j ∷ c ∷ m ∷ 0 ∷ []) back)
  vote_of_reading k z (Adjust j c x) h is = absurd (let e = ap (λ (t : Sent). t.kind) is in omega arith)

  pub other_frame : s.kind ≢ 5 → AreNumbers s (s.kind ∷ s.serial ∷ s.choice ∷ s.carried ∷ 0 ∷ [])
  other_frame k NoFrame h is = rw is refl
  other_frame k Start h is = rw is refl
  other_frame k (Vote j c x) h is = absurd (k (ap (λ (t : Sent). t.kind) is))
  other_frame k (Adjust j c x) h is = rw is refl

-- THE CORRECTION

module _ (x : List ℕ) where
  adopted : (r : HeadRecord) → x ≡ result_numbers r → get_or x 0 0 ≡ outcome r
  adopted r is = ap (λ (l : List ℕ). get_or l 0 0) is

  pub adopted_correction : get_or x 0 0 ≡ 2 → (z : ℤ) → z ≡ sub_ℕ (get_or x 3 0) (get_or x 4 0) → IsCorrection x z
  unfolding correction
  adopted_correction two z says r is =
      let e : eqb (outcome r) 2 ≡ true = eq-eqb (outcome r) 2 (sym (adopted r is) ∙ two) in
      says ∙ rw (is, e) refl

  pub no_correction : get_or x 0 0 ≢ 2 → IsCorrection x (pos 0)
  no_correction other r is = rw (ne_eqb (outcome r) 2 (λ z. other (adopted r is ∙ z))) refl
