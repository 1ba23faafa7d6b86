-- Where a premise is broken: the first entry after which it is stays that of every longer run (`TellsWhere`).
-- Main results: `before_first`, `one_on`, `here`, `all_kept`, `refused_anyway`; `of_sheet`, `turned_back`.
use mathlib.Core.Path.{◌≡◌, refl, sym, ◌∙◌, ap, subst}
use mathlib.Core.Bool.{Bool, true, false, not}
use mathlib.Core.List.{List, ◌∷◌}
use mathlib.Core.Logic.{◌≢◌}
use Prim.Native.Nat.{ℕ, zero, suc, ◌+◌, ◌-◌, ◌%◌, ◌≤◌, ◌<◌}
use native.Mathlib.Omega.{arith}
use lib.Dec.{eqb}
use lib.ListN.{length, get_or}
use Rattle.protocol.specs.declared.Setting.{Setting}
use Rattle.protocol.specs.declared.Cause.{Cause}
use Rattle.protocol.specs.Types.{Verdict, Accepted, Refused}
use Rattle.protocol.specs.Words.{setting_at, entry_count}
use Rattle.protocol.specs.Causes.{sheet_verdict}
use Rattle.protocol.specs.Run.{History, stopped, ran, run_of, run_sheet}
use Rattle.protocol.specs.Premises.{premises, kept_up_to, broken_at}
use Rattle.protocol.proofs.Tests.{not_true, not_false}
use Rattle.protocol.proofs.Broken.{prior, run_length, kept_on, fails_now, stays_failed}
use Rattle.judge_run.specs.Where.{IsAskedAtEntries, TellsWhere}

-- ENTRY BY ENTRY

same_run : {s h : History} → ran s ≡ ran h → s ≡ h
same_run e = cc

module _ (ws : List ℕ) (g : Setting) (p : ℕ) where
  pub before_first : TellsWhere g (run_of ws 0) p 0
  unfolding run_of broken_at kept_up_to
  before_first h e asked = ap (λ (s : History). broken_at g p s) (same_run e)

  -- an accepted entry, with what was found after it
  module _ (i : ℕ) (before : TellsWhere g (run_of ws i) p i) (s : History) (now : run_of ws (i + 1) ≡ ran s) {b : Bool} (tells : IsAskedAtEntries p → b ≡ not (get_or (premises g s) (p - 1) true)) where
    abbrev test : History → Bool
    test h = get_or (premises g h) (p - 1) true

    kept_before : (h : History) → run_of ws i ≡ ran h → IsAskedAtEntries p → kept_up_to test h ≡ length h
    unfolding broken_at
    kept_before h e asked = sym (before h e asked) ∙ sym (run_length ws i h e)

    at_suc : {h : History} → run_of ws (i + 1) ≡ ran h → run_of ws (suc i) ≡ ran h
    at_suc {h} e = subst (λ (m : ℕ). run_of ws m ≡ ran h) (let m : i + 1 ≡ suc i = omega arith in m) e

    pub one_on : b ≡ false → TellsWhere g (run_of ws (i + 1)) p (i + 1)
    unfolding broken_at
    one_on fine h e asked =
        let q = prior ws i s (at_suc now) in
        let holds : test (q.event ∷ q.past) ≡ true = subst (λ (h : History). test h ≡ true) q.history_is (not_false (sym (tells asked) ∙ fine)) in
        let kept = kept_on test q.event q.past (kept_before q.past q.past_is asked) holds in
        let long = run_length ws i q.past q.past_is in
        let here : i + 1 ≡ kept_up_to test (q.event ∷ q.past) = omega arith in
        here ∙ ap (kept_up_to test) (sym q.history_is ∙ same_run (sym now ∙ e))

    pub here : b ≡ true → (count : ℕ) → i < count → TellsWhere g (run_of ws count) p i
    unfolding broken_at
    here broken count lt h e asked =
        let q = prior ws i s (at_suc now) in
        let fails : test (q.event ∷ q.past) ≡ false = subst (λ (h : History). test h ≡ false) q.history_is (not_true (sym (tells asked) ∙ broken)) in
        let failed = fails_now test q.event q.past (kept_before q.past q.past_is asked) fails in
        let long = run_length ws i q.past q.past_is in
        let up_to : kept_up_to test s ≡ i = ap (kept_up_to test) q.history_is ∙ failed ∙ long in
        let more : count ≡ (count - suc i) + suc i = omega arith in
        sym (stays_failed test ws (count - suc i) (suc i) s h (at_suc now) (omega arith) (subst (λ (m : ℕ). run_of ws m ≡ ran h) more e) ∙ up_to)

  pub all_kept : (i count : ℕ) → i ≤ count → count ≤ i → TellsWhere g (run_of ws i) p i → TellsWhere g (run_of ws count) p count
  all_kept i count le ge now = let same : i ≡ count = omega arith in subst (λ (m : ℕ). TellsWhere g (run_of ws m) p m) same now

  pub refused_anyway : (count : ℕ) {c : Cause} {q k : ℕ} → run_of ws count ≡ stopped c q → TellsWhere g (run_of ws count) p k
  refused_anyway count stop h e asked = absurd (let z : ◌≡◌ {A = ℕ} 0 1 = cc in omega arith)

-- OF A SHEET

module _ (ws : List ℕ) (p : ℕ) (v : Verdict) (is : v ≡ sheet_verdict ws) where
  pub of_sheet : v ≡ Accepted → {k : ℕ} (count : ℕ) → count ≡ entry_count ws → TellsWhere (setting_at ws) (run_of ws count) p k → TellsWhere (setting_at ws) (run_sheet ws) p k
  unfolding run_sheet
  of_sheet accepted count all tells = rw (← is, accepted, ← all) tells

  pub turned_back : (c : Cause) → v ≡ Refused c → (k : ℕ) → TellsWhere (setting_at ws) (run_sheet ws) p k
  unfolding run_sheet
  turned_back c refused k = rw (← is, refused) (λ h e asked. absurd (let z : ◌≡◌ {A = ℕ} 0 1 = cc in omega arith))
