-- NO PREMISE CAN BE LEFT OUT: for each of the eight there is an accepted sheet that breaks it alone and on which the third point's
-- claim does not hold. With all eight it does: `ThirdPointWithout 0` is the third point.
-- Main results: `broken_alone`, `none_left_out`, `with_all_eight`.
use mathlib.Core.Path.{◌≡◌, refl, sym, ◌∙◌, ap, subst}
use mathlib.Core.Bool.{Bool, true, false, not, ◌&&◌}
use mathlib.Core.List.{List, [], ◌∷◌, ◌++◌}
use Prim.Native.Nat.{ℕ, zero, suc, ◌-◌, ◌≤◌, ◌<◌}
use native.Mathlib.Omega.{arith}
use lib.Dec.{ltb, eqb}
use lib.ListN.{length, get_or, take, drop, take-append-drop}
use borrow.Author.Tests.{eqb-true, eqb-false, ne_eqb, ltb-true}
use Rattle.protocol.specs.Base.{◌⇒◌, all_below}
use Rattle.protocol.specs.declared.Setting.{Setting}
use Rattle.protocol.specs.Types.{Kept}
use Rattle.protocol.specs.Words.{setting_at}
use Rattle.protocol.specs.Run.{Event, History, Run, stopped, ran, run_sheet}
use Rattle.protocol.specs.Premises.{premises, first_broken, judge}
use Rattle.protocol.specs.Claim.{CorrectHead, Ending, LookedAt, bound_on_d, Agreement}
use Rattle.protocol.proofs.Tests.{absurd_bool, and_left, and_right, not_true, not_is_true, implied, all_below_lem}
use Rattle.protocol.proofs.ThirdPoint.{third_point}
use Rattle.protocol.proofs.Computed.{sheets_compute}
use Rattle.premises_needed.specs.Needed.{Failure, without_clock, candidates_differ, adjustments_differ, clocks_apart, keeps, keeps_others, ending, is_correct_head, differ, up_to, is_look, since, are_apart, fails, ThirdPointWithout, BrokenAlone}
use Rattle.premises_needed.specs.Sheets.{sheets, sheet_for}

-- A FAILING CLAUSE REFUTES THE CLAIM

module _ (g : Setting) (h : History) where
  correct_head : (q : ℕ) → is_correct_head g q ≡ true → CorrectHead g q
  correct_head q e = record { is_head = ltb-true q g.n (and_left (ltb q g.n) _ e); marked_correct = and_right (ltb q g.n) _ e }

  -- two correct heads that differ do not have the same number
  no_difference : (p q : ℕ) (number : Ending → ℕ) → differ g h p q number ≡ true
      → (CorrectHead g p → CorrectHead g q → number (ending g h p) ≡ number (ending g h q)) → ⊥
  no_difference p q number e same =
      let rest = and_right (is_correct_head g p) _ e in
      eqb-false _ _ (not_true (and_right (is_correct_head g q) _ rest))
      (same (correct_head p (and_left (is_correct_head g p) _ e)) (correct_head q (and_left (is_correct_head g q) _ rest)))

  -- what stands first in the history up to an entry is looked at, if its head's adjust phase had closed
  looked_at : (k : ℕ) {e : Event} {s : History} → drop k h ≡ e ∷ s → is_look g h e s ≡ true → LookedAt g h e.entry.head e
  looked_at k {e} {s} there t = record {
    later = take k h;
    earlier = s;
    in_history = sym (take-append-drop k h) ∙ ap (λ (x : History). take k h ++ x) there;
    at_head = refl;
    closed = and_right (is_correct_head g e.entry.head) _ t;
  }

  no_clocks_apart : (j k : ℕ) (s t : History) → drop j h ≡ s → drop k h ≡ t → are_apart g h s t ≡ true → Agreement g h (ending g h) → ⊥
  no_clocks_apart j k [] t there-j there-k e a = absurd_bool e refl
  no_clocks_apart j k (d ∷ s) [] there-j there-k e a = absurd_bool e refl
  no_clocks_apart j k (d ∷ s) (e ∷ t) there-j there-k test a =
      let look-d = and_left (is_look g h d s) _ test in
      let rest = and_right (is_look g h d s) _ test in
      let look-e = and_left (is_look g h e t) _ rest in
      let far = and_right (is_look g h e t) _ rest in
      let same = eqb-true _ _ (and_left (eqb d.entry.time.0 e.entry.time.0) _ far) in
      let beyond = ltb-true (bound_on_d g (since g h d) (since g h e)) _ (and_right (eqb d.entry.time.0 e.entry.time.0) _ far) in
      let within = a.clocks_together (correct_head _ (and_left (is_correct_head g d.entry.head) _ look-d))
      (correct_head _ (and_left (is_correct_head g e.entry.head) _ look-e)) (looked_at j there-j look-d) (looked_at k there-k look-e) same in
      omega (arith, beyond, within)

  refuted : (x : Failure) → fails g h x ≡ true → ¬ Agreement g h (ending g h)
  unfolding fails
  refuted (without_clock q) e a =
      eqb-false _ 2 (not_true (and_right (is_correct_head g q) _ e)) (a.has_clock (correct_head q (and_left (is_correct_head g q) _ e)))
  refuted (candidates_differ p q) e a = no_difference p q (λ x. x.candidate) e (λ cp cq. a.same_candidate cp cq)
  refuted (adjustments_differ p q) e a = no_difference p q (λ x. x.adjustment) e (λ cp cq. a.same_adjustment cp cq)
  refuted (clocks_apart i j) e a = no_clocks_apart (length h - suc i) (length h - suc j) (up_to h i) (up_to h j) refl refl e a

-- THE EIGHT SHEETS

-- a run that ends, breaks premise i alone and fails the claim so
abbrev passes : ℕ → Setting → Failure → Run → Bool
passes i g x (stopped c p) = false
passes i g x (ran h) = not (keeps g h i) && (keeps_others g h i && fails g h x)

pass : ℕ → Bool
pass i = passes i (setting_at (sheet_for i).words) (sheet_for i).failure (run_sheet (sheet_for i).words)

all_pass : all_below 8 (λ j. pass (suc j)) ≡ true
unfolding sheets_compute pass sheets keeps_others fails
all_pass = refl

-- what a run that passes shows
shown_by : (i : ℕ) (ws : List ℕ) (x : Failure) (r : Run) → run_sheet ws ≡ r → passes i (setting_at ws) x r ≡ true → BrokenAlone i ws x
shown_by i ws x (stopped c p) is e = absurd_bool e refl
shown_by i ws x (ran h) is e =
    let g = setting_at ws in
    let rest = and_right (not (keeps g h i)) _ e in
    let fails-so = and_right (keeps_others g h i) _ rest in
    record {
      history = h;
      accepted = is;
      broken = not_true (and_left (not (keeps g h i)) _ e);
      others_kept = and_left (keeps_others g h i) _ rest;
      clause_fails = fails-so;
      no_agreement = refuted g h x fails-so;
    }

-- sheet i is accepted, breaks premise i, keeps the seven others, and fails the claim by the clause that is named with it
pub broken_alone : (i : ℕ) → 1 ≤ i → i ≤ 8 → BrokenAlone i (sheet_for i).words (sheet_for i).failure
unfolding pass
broken_alone zero low high = absurd (omega arith)
broken_alone (suc j) low high = shown_by (suc j) _ _ (run_sheet (sheet_for (suc j)).words) refl (all_below_lem 8 (λ j. pass (suc j)) all_pass j (omega arith))

-- so the third point does not hold without premise i
pub none_left_out : (i : ℕ) → 1 ≤ i → i ≤ 8 → ¬ ThirdPointWithout i
none_left_out i low high third =
    let x = broken_alone i low high in
    x.no_agreement (third (sheet_for i).words x.history x.accepted x.others_kept)

-- AND WITH ALL EIGHT IT HOLDS

all_kept : (i : ℕ) (l : List Bool) → ((k : ℕ) → k < length l → get_or l k true ≡ true) → first_broken i l ≡ Kept
unfolding first_broken
all_kept i [] f = refl
all_kept i (b ∷ l) f = rw (f 0 (omega arith)) (all_kept (suc i) l (λ k below. f (suc k) (omega arith)))

-- with none left out it is the third point
pub with_all_eight : ThirdPointWithout 0
unfolding keeps_others judge
with_all_eight ws h is kept = third_point ws (rw is (all_kept 1 (premises g h) each_kept)) h is
  where
    g : Setting
    g = setting_at ws

    each_kept : (k : ℕ) → k < 8 → get_or (premises g h) k true ≡ true
    each_kept k below =
        let at = all_below_lem 8 (λ j. not (eqb (suc j) 0) ⇒ keeps g h (suc j)) kept k below in
        let here = implied (not (eqb (suc k) 0)) _ at (not_is_true (ne_eqb (suc k) 0 (λ z. omega arith))) in
        subst (λ (j : ℕ). get_or (premises g h) j true ≡ true) (let one : suc k - 1 ≡ k = omega arith in one) here
