-- What premise 5 or 7 asks of a correct head before the first correct close, by the head's row and the sets that are kept.
-- Main results: `votes_by_row`, `adjusts_by_row`; `phase_by_heads`.
use Rattle.std.specs.Prelude.{Option, Some, None, is_some}
use mathlib.Core.Path.{◌≡◌, refl, sym, ◌∙◌, ap, ap₂, subst}
use mathlib.Core.Bool.{Bool, true, false, not, ◌&&◌, ◌||◌}
use mathlib.Core.List.{List, []}
use mathlib.Core.Logic.{◌≢◌}
use Prim.Native.Nat.{ℕ, ◌+◌, ◌%◌, ◌≤◌, ◌<◌, min}
use native.Mathlib.Omega.{arith}
use lib.Dec.{eqb}
use lib.ListN.{get_or}
use borrow.Author.Tests.{ne_eqb}
use Rattle.protocol.specs.declared.HeadRecord.{HeadRecord}
use Rattle.protocol.specs.declared.HeadRow.{HeadRow}
use Rattle.protocol.specs.declared.Setting.{Setting}
use Rattle.protocol.specs.Base.{◌⇒◌, any, all_below}
use Rattle.protocol.specs.Words.{is_correct, setting_at}
use Rattle.protocol.specs.declared.Kind.{Kind}
use Rattle.protocol.specs.Record.{votes, adjusts, phase_of, marks_number}
use Rattle.protocol.specs.Step.{has_mark}
use Rattle.protocol.specs.Row.{no_row, number_plus1, row_of, phase_in_row}
use Rattle.protocol.specs.Run.{History, record_of}
use Rattle.protocol.specs.Premises.{delivery, took, received, correct_all, correct_closes, is_early, frames_reached, votes_reached, adjusts_reached}
use Rattle.protocol.proofs.Tests.{not_true, not_false, all_same}
use Rattle.protocol.proofs.Valid.{Valid, started_took, adjust_turn_took}
use Rattle.protocol.proofs.Ranges.{votes_below}
use Rattle.head_row.proofs.Rows.{early_read}
use Rattle.head_open.proofs.Marks.{has_started, has_vote_turn, has_adjust_turn}
use Rattle.sheet_state.specs.Arrays.{Stands}
use Rattle.sheet_state.proofs.Standing.{valid_history, row_at}
use Rattle.judge_premises_5_to_8.specs.Closes.{receiver_sets, frame_reached, head_reached, phase_reached}
use Rattle.judge_premises_5_to_8.proofs.Heads.{Heads, heads_stand}
use Rattle.judge_premises_5_to_8.proofs.ReceiverSets.{reached_others}
use Rattle.judge_premises_5_to_8.proofs.Candidates.{took_part}

-- a number that is none is written 0
has_number : (m : Option ℕ) → not (eqb (number_plus1 m) 0) ≡ is_some m
has_number None = refl
has_number (Some k) = ap not (ne_eqb (k + 1) 0 (λ z. omega arith))

-- a correct head p, whose row stands at i
module _ {ws : List ℕ} {j : ℕ} {s : History} {rows : List HeadRow} (S : Stands ws j s rows) {g : Setting} (g-is : g ≡ setting_at ws) (p : ℕ) (c : is_correct g p ≡ true) (i : ℕ) (i-is : i ≡ p % 16) where
  H : Heads g
  H = subst Heads (sym g-is) (heads_stand S)

  v : Valid g s
  v = subst (λ (x : Setting). Valid x s) (sym g-is) (valid_history S)

  pub p_low : p < 16
  p_low = let z = H.below p c in let y = H.few in omega arith

  abbrev row : HeadRow
  row = get_or rows i no_row

  abbrev r : HeadRecord
  r = record_of g s p

  row_is : row ≡ row_of r
  row_is =
      let at : i ≡ p = let z = p_low in omega arith in
      ap (λ (k : ℕ). get_or rows k no_row) at ∙ row_at S p p_low ∙ ap (λ (x : Setting). row_of (record_of x s p)) (sym g-is)

  marks_are : row.marks.0 ≡ marks_number r
  marks_are = ap (λ (w : HeadRow). w.marks.0) row_is

  -- a phase's number of frames sent, and whether they reached all other correct heads
  sent_is : (k : Kind) → (phase_in_row k row).sent ≡ (phase_of k r).sent
  sent_is votes = ap (λ (w : HeadRow). w.votes.sent) row_is
  sent_is adjusts = ap (λ (w : HeadRow). w.adjusts.sent) row_is

  frames_are : {sets : List ℕ} → sets ≡ receiver_sets s → (k : Kind)
      → all_below (min (phase_in_row k row).sent 16) (frame_reached g sets (delivery k) p) ≡ frames_reached g (delivery k) (phase_of k r).sent s p
  unfolding frames_reached
  frames_are {sets} sets-are k =
      ap₂ (λ (n : ℕ) (l : List ℕ). all_below n (frame_reached g l (delivery k) p)) (ap (λ (n : ℕ). min n 16) (sent_is k) ∙ within) sets-are
      ∙ all_same (phase_of k r).sent _ _ (λ i l. reached_others k p i p_low (let z = most in omega arith) H s)
    where
      most : (phase_of k r).sent ≤ 16
      most = let z = votes_below H.fit k v p (H.below p c) in let y = H.few in omega arith

      within : min (phase_of k r).sent 16 ≡ (phase_of k r).sent
      within = let z = most in omega arith

  -- "either took all of 1, 3 and 4 or was delivered a vote"
  part_is : any (correct_closes g votes) s ≡ false → (not (eqb row.votes.choice 0) || has_mark row.marks.0 4) ≡ (took 5 p s || (took 1 p s && (took 3 p s && took 4 p s)))
  part_is o =
      ap₂ ◌||◌ (ap (λ (w : HeadRow). not (eqb w.votes.choice 0)) row_is ∙ has_number r.vote.choice) (ap (λ (x : ℕ). has_mark x 4) marks_are ∙ has_vote_turn r)
      ∙ took_part H v p c o

  start_is : has_mark row.marks.0 1 ≡ took 1 p s
  start_is = ap (λ (x : ℕ). has_mark x 1) marks_are ∙ has_started r ∙ started_took g v p

  -- "an early adjust close counts as 7 .. taken"
  adjust_turn_is : (has_mark row.marks.0 16 || eqb row.adjusts.early 1) ≡ (took 7 p s || is_early g adjusts s p)
  adjust_turn_is = ap₂ ◌||◌ (ap (λ (x : ℕ). has_mark x 16) marks_are ∙ has_adjust_turn r) (early_read adjusts r row_is) ∙ adjust_turn_took g v p

  module _ {sets : List ℕ} (sets-are : sets ≡ receiver_sets s) where
    pub votes_by_row : any (correct_closes g votes) s ≡ false → head_reached g votes s p
        ≡ ((not (eqb row.votes.choice 0) || has_mark row.marks.0 4)
        && ((has_mark row.marks.0 1 ⇒ correct_all g (λ q. received 2 p 0 q s)) && all_below (min row.votes.sent 16) (frame_reached g sets 5 p)))
    votes_by_row o = sym (ap₂ ◌&&◌ (part_is o) (ap₂ ◌&&◌ (ap (λ (b : Bool). b ⇒ correct_all g (λ q. received 2 p 0 q s)) start_is) (frames_are sets-are votes)))

    pub adjusts_by_row : head_reached g adjusts s p ≡ ((has_mark row.marks.0 16 || eqb row.adjusts.early 1) && all_below (min row.adjusts.sent 16) (frame_reached g sets 8 p))
    adjusts_by_row = sym (ap₂ ◌&&◌ adjust_turn_is (frames_are sets-are adjusts))

pub phase_by_heads : (g : Setting) (k : Kind) (s : History) → phase_reached g k s ≡ correct_all g (head_reached g k s)
unfolding votes_reached adjusts_reached
phase_by_heads g votes s = refl
phase_by_heads g adjusts s = refl
