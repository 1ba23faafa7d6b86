-- Premise 4 by the heads' rows.
-- Main results: `ended_more`, `not_ended`, `premise_4_is`.
use mathlib.Core.Path.{◌≡◌, refl, sym, ◌∙◌, ap, ap₂, subst}
use mathlib.Core.Bool.{Bool, true, false, not, ◌&&◌, ◌||◌}
use mathlib.Core.List.{List, []}
use Prim.Native.Nat.{ℕ, ◌+◌, ◌%◌, ◌<◌}
use native.Mathlib.Omega.{arith}
use lib.Dec.{eqb}
use lib.ListN.{get_or}
use Rattle.protocol.specs.declared.HeadRow.{HeadRow}
use Rattle.protocol.specs.declared.Setting.{Setting}
use Rattle.protocol.specs.Base.{◌⇒◌, all_below}
use Rattle.protocol.specs.Words.{is_correct, setting_at}
use Rattle.protocol.specs.Record.{votes, adjusts}
use Rattle.protocol.specs.Step.{has_mark}
use Rattle.protocol.specs.Row.{row_of}
use Rattle.protocol.specs.Run.{History, record_of}
use Rattle.protocol.specs.Premises.{took, is_early, premise4}
use Rattle.protocol.proofs.Tests.{all_same}
use Rattle.protocol.proofs.Valid.{Valid, adjust_turn_took, closed_took}
use Rattle.data_sets.proofs.Loops.{all_more, all_fails}
use Rattle.head_row.proofs.Rows.{early_read}
use Rattle.head_open.proofs.Marks.{has_vote_closed, has_adjust_turn, has_adjust_closed}
use Rattle.protocol.specs.Row.{no_row}
use Rattle.sheet_state.specs.Arrays.{Stands}
use Rattle.sheet_state.proofs.Standing.{valid_history, row_at}
use Rattle.judge_premise_3.proofs.Accepted.{few_heads}

-- what a row says after actions 6, 7 and 9, or early closes in their place
abbrev pub row_ended : HeadRow → Bool
row_ended row = has_mark row.marks.0 8 && ((has_mark row.marks.0 16 || eqb row.adjusts.early 1) && has_mark row.marks.0 32)

-- head q has ended, if it is correct
abbrev pub is_ended : Setting → List HeadRow → ℕ → Bool
is_ended g heads q = is_correct g q ⇒ row_ended (get_or heads (q % 16) no_row)

-- THE LOOP OVER THE HEADS

module _ (g : Setting) (heads : List HeadRow) (q : ℕ) {a b : Bool} {p : ℕ} (correct : a ≡ is_correct g q) (at : p ≡ q % 16)
    (ended : b ≡ row_ended (get_or heads p no_row)) where
  ended_is : is_ended g heads q ≡ not (a && not b)
  ended_is = rw (correct, ended, at) (either (is_correct g q) (row_ended (get_or heads (q % 16) no_row)))
    where
      either : (a b : Bool) → (a ⇒ b) ≡ not (a && not b)
      either true true = refl
      either true false = refl
      either false b = refl

  pub ended_more : (a && not b) ≡ false → all_below q (is_ended g heads) ≡ true → all_below (q + 1) (is_ended g heads) ≡ true
  ended_more e h = all_more q (is_ended g heads) h (ended_is ∙ ap not e)

  pub not_ended : (a && not b) ≡ true → q < g.n → all_below g.n (is_ended g heads) ≡ false
  not_ended e l = all_fails g.n q (is_ended g heads) l (ended_is ∙ ap not e)

-- OF A HISTORY

module _ {ws : List ℕ} {i : ℕ} {s : History} {heads : List HeadRow} (now : Stands ws i s heads) {g : Setting} (is : g ≡ setting_at ws) where
  -- premise 4 of head q: "an early adjust close counts as 7 and 9 taken"
  abbrev has_ended : ℕ → Bool
  has_ended q = (took 6 q s || is_early g votes s q) && ((took 7 q s && took 9 q s) || is_early g adjusts s q)

  both_or : (a b e : Bool) → ((a || e) && (b || e)) ≡ ((a && b) || e)
  both_or true b e = refl
  both_or false true true = refl
  both_or false false true = refl
  both_or false b false = refl

  ended_took : (q : ℕ) → q < 16 → row_ended (get_or heads (q % 16) no_row) ≡ has_ended q
  ended_took q l =
      let v : Valid g s = subst (λ (x : Setting). Valid x s) (sym is) (valid_history now) in
      let r = record_of g s q in
      let at : q % 16 ≡ q = omega arith in
      let row_is = ap (λ (p : ℕ). get_or heads p no_row) at ∙ row_at now q l ∙ ap (λ (x : Setting). row_of (record_of x s q)) (sym is) in
      let marks_are = ap (λ (row : HeadRow). row.marks.0) row_is in
      ap₂ ◌&&◌ (ap (λ (m : ℕ). has_mark m 8) marks_are ∙ has_vote_closed r ∙ closed_took g votes v q)
      (ap₂ ◌&&◌ (ap₂ ◌||◌ (ap (λ (m : ℕ). has_mark m 16) marks_are ∙ has_adjust_turn r) (early_read adjusts r row_is) ∙ adjust_turn_took g v q)
      (ap (λ (m : ℕ). has_mark m 32) marks_are ∙ has_adjust_closed r ∙ closed_took g adjusts v q)
      ∙ both_or (took 7 q s) (took 9 q s) (is_early g adjusts s q))

  pub premise_4_is : all_below g.n (is_ended g heads) ≡ premise4 g s
  unfolding premise4
  premise_4_is =
      all_same g.n (is_ended g heads) (λ q. is_correct g q ⇒ has_ended q)
      (λ q l. ap (λ (b : Bool). is_correct g q ⇒ b) (ended_took q (let few = few_heads now is in omega arith)))
