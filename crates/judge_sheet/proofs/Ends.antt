-- How a replay ends after the pass over the entries: turned back by cause 5, stopped in the run, or with the result words.
-- Main results: `short_buffer`, `stopped_run`, `filled_run`; `turned_back`, `whole_run`.
use mathlib.Core.Path.{◌≡◌, refl, sym, ◌∙◌, ap, subst}
use mathlib.Core.Bool.{Bool, true, false}
use mathlib.Core.List.{List, [], ◌∷◌, ◌++◌}
use Prim.Native.Nat.{ℕ, suc, ◌*◌, ◌≤◌, ◌<◌}
use native.Mathlib.Omega.{arith}
use lib.Dec.{ltb}
use lib.ListN.{length, drop}
use borrow.Author.Tests.{lt-ltb, le-ltb}
use Rattle.protocol.specs.declared.HeadRow.{HeadRow}
use Rattle.protocol.specs.declared.Setting.{Setting}
use Rattle.protocol.specs.declared.Cause.{Cause}
use Rattle.protocol.specs.declared.Cause.TheVariants.{ShortBuffer}
use Rattle.protocol.specs.Types.{Verdict, Accepted, Refused, Replayed, Filled, TurnedBack, Judged, Unjudged}
use Rattle.std.specs.Prelude.{Option, Ok}
use Rattle.protocol.specs.Words.{heads_fit, setting_at, entry_count}
use Rattle.protocol.specs.Causes.{sheet_verdict}
use Rattle.protocol.specs.Run.{History, record_of, stopped, ran, run_of, run_sheet}
use Rattle.protocol.specs.Results.{Replay, words_from, words_per_head, result_words, replay}
use Rattle.protocol.specs.Premises.{premises, first_broken, judge_run, judge}
use Rattle.protocol.proofs.Fits.{sheet_fits}
use Rattle.protocol.proofs.Valid.{valid_run, heads_fit_lem, fixed}
use Rattle.protocol.proofs.Ranges.{run_in_range, range_test}
use Rattle.sheet_results.specs.Written.{RecordInRange, Writes}
use Rattle.judge_run.specs.Pass.{Passes}
use Rattle.judge_sheet.specs.Replays.{filled_by, Replays}

-- AFTER THE PASS

-- a run that went to its end is judged by the premises
not_unjudged : {A : Type 0} (i : ℕ) (l : List Bool) (c : Cause) (p : ℕ) → Unjudged c p ≡ first_broken i l → A
unfolding first_broken
not_unjudged i [] c p e = absurd (let z : ◌≡◌ {A = ℕ} 0 1 = cc in omega arith)
not_unjudged i (true ∷ l) c p e = not_unjudged (suc i) l c p e
not_unjudged i (false ∷ l) c p e = absurd (let z : ◌≡◌ {A = ℕ} 0 1 = cc in omega arith)

-- the answer of one
pub told_judged : (j : Judged) (x : Option ℕ) → j ≡ Ok x → (c : Cause) (p : ℕ) → j ≡ Unjudged c p → ⊥
told_judged j x k c p u = let z : ◌≡◌ {A = ℕ} 0 1 = cc in omega arith

module _ (j : Judged) (n : ℕ) (heads : List HeadRow) (out : List ℕ) where
  pub short_buffer : length out < words_per_head * n → Replays j n heads out (TurnedBack ShortBuffer 0) out
  short_buffer h g run passes n_is range =
      rw (lt-ltb (length out) (words_per_head * g.n) (subst (λ (m : ℕ). length out < words_per_head * m) n_is h)) (refl, refl)

  module _ (room : words_per_head * n ≤ length out) where
    has_room : (g : Setting) → n ≡ g.n → ltb (length out) (words_per_head * g.n) ≡ false
    has_room g n_is = le-ltb (length out) (words_per_head * g.n) (subst (λ (m : ℕ). words_per_head * m ≤ length out) n_is room)

    pub stopped_run : (c : Cause) (p : ℕ) → j ≡ Unjudged c p → Replays j n heads out (TurnedBack c p) out
    stopped_run c p e g (stopped d q) passes n_is range =
        let same : Unjudged c p ≡ Unjudged d q = sym e ∙ passes.judged_is in
        rw (has_room g n_is) (cc, refl)
    stopped_run c p e g (ran s) passes n_is range = not_unjudged 1 (premises g s) c p (sym e ∙ passes.judged_is)

    pub filled_run : ((c : Cause) (p : ℕ) → j ≡ Unjudged c p → ⊥) → (after : List ℕ) → Writes n heads out after → Replays j n heads out Filled after
    unfolding result_words
    filled_run judged after writes g (stopped d q) passes n_is range = absurd (judged d q passes.judged_is)
    filled_run judged after writes g (ran s) passes n_is range =
        let words = writes (record_of g s) (passes.heads_are s refl) (range s refl) in
        rw (has_room g n_is) (refl, subst (λ (m : ℕ). after ≡ words_from (record_of g s) 0 m ++ drop (words_per_head * m) out) n_is words)

-- OF A WHOLE SHEET

-- "in its ranges": every head's record of an accepted run is
all_in_range : (ws : List ℕ) (k : ℕ) → heads_fit (setting_at ws).n (setting_at ws).f ≡ true
    → (s : History) → run_of ws k ≡ ran s → (q : ℕ) → q < (setting_at ws).n → RecordInRange (record_of (setting_at ws) s q)
all_in_range ws k fit s e q lt =
    let v = valid_run ws k s e in
    (range_test (run_in_range fit v q lt), (fixed (setting_at ws) v q).size_is)

module _ (ws : List ℕ) (v : Verdict) (is : v ≡ sheet_verdict ws) where
  pub turned_back : (c : Cause) (out : List ℕ) → v ≡ Refused c
      → (TurnedBack c 0 ≡ (replay ws out).answer) × (Unjudged c 0 ≡ judge ws) × (out ≡ (replay ws out).buffer)
  unfolding replay judge run_sheet
  turned_back c out e = rw (← is, e) (refl, refl, refl)

  judged_run : v ≡ Accepted → (j : Judged) → j ≡ judge_run (setting_at ws) (run_of ws (entry_count ws)) → j ≡ judge ws
  unfolding judge run_sheet
  judged_run e j says = rw (← is, e) says

  replayed_run : v ≡ Accepted → (out : List ℕ) → filled_by (setting_at ws) (run_of ws (entry_count ws)) out ≡ replay ws out
  unfolding replay
  replayed_run e out = rw (← is, e) refl

  module _ (e : v ≡ Accepted) (g : Setting) (g-is : g ≡ setting_at ws) where
    pub few_heads : g.n ≤ 16
    few_heads = rw g-is (heads_fit_lem (setting_at ws).n (setting_at ws).f (sheet_fits ws (sym is ∙ e)).heads).1

    pub whole_run : (count : ℕ) → count ≡ entry_count ws → (j : Judged) (heads : List HeadRow) → Passes (setting_at ws) (run_of ws count) j heads
        → (out : List ℕ) (r : Replayed) (after : List ℕ) → Replays j g.n heads out r after
        → (r ≡ (replay ws out).answer) × (j ≡ judge ws) × (after ≡ (replay ws out).buffer)
    whole_run count all j heads passes out r after replays =
        let p : Passes (setting_at ws) (run_of ws (entry_count ws)) j heads = subst (λ (m : ℕ). Passes (setting_at ws) (run_of ws m) j heads) all passes in
        let fit = (sheet_fits ws (sym is ∙ e)).heads in
        let n_is : g.n ≡ (setting_at ws).n = ap (λ (h : Setting). h.n) g-is in
        let done = replays (setting_at ws) (run_of ws (entry_count ws)) p n_is (λ s h q lt. all_in_range ws (entry_count ws) fit s h q (subst (λ (m : ℕ). q < m) n_is lt)) in
        (done.0 ∙ ap (λ (x : Replay). x.answer) (replayed_run e out), judged_run e j p.judged_is, done.1 ∙ ap (λ (x : Replay). x.buffer) (replayed_run e out))
