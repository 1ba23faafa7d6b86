-- Where a test on the history first fails, as a run goes on: it is kept entry by entry up to there, and what comes after changes
-- nothing. A run's history has as many events as it has entries.
-- Main results: `prior`, `run_length`; `kept_on`, `fails_now`, `failed_before`, `stays_failed`.
use mathlib.Core.Path.{◌≡◌, refl, sym, ◌∙◌, ap, subst}
use mathlib.Core.Bool.{Bool, true, false}
use mathlib.Core.List.{List, ◌∷◌}
use Prim.Native.Nat.{ℕ, zero, suc, ◌+◌, ◌<◌}
use native.Mathlib.Omega.{arith}
use lib.ListN.{length}
use borrow.Author.Tests.{eq-eqb, ne_eqb}
use Rattle.protocol.specs.Types.{Setting, Verdict, Accepted, Refused, Stepped}
use Rattle.protocol.specs.Words.{setting_at, place_of, entry_at, entry_fits_at}
use Rattle.protocol.specs.Run.{Event, History, Run, stopped, ran, step_entry, extend, and_then, run_of}
use Rattle.protocol.specs.Premises.{kept_up_to}

-- A RUN'S LAST ENTRY

pub record Prior (ws : List ℕ) (i : ℕ) (h : History) : Type 0 where
  pub past : History
  pub event : Event
  pub past_is : run_of ws i ≡ ran past
  pub history_is : h ≡ event ∷ past

same_run : {s h : History} → ran s ≡ ran h → s ≡ h
same_run e = cc

-- a run of one entry more that is not refused was none before
pub prior : (ws : List ℕ) (i : ℕ) (h : History) → run_of ws (suc i) ≡ ran h → Prior ws i h
unfolding run_of and_then
prior ws i h = go (run_of ws i) refl
  where
    g : Setting
    g = setting_at ws

    taken : (s : History) (t : Stepped) (v : Verdict) → run_of ws i ≡ ran s → extend (place_of i) s (entry_at ws i) t v ≡ ran h → Prior ws i h
    taken s t Accepted e is = record { past = s; event = record { entry = entry_at ws i; after = t.after; frame = t.frame }; past_is = e; history_is = sym (same_run is) }
    taken s t (Refused c) e is = absurd (let z : ◌≡◌ {A = ℕ} 0 1 = cc in omega arith)

    go : (r : Run) → run_of ws i ≡ r → and_then g r (place_of i) (entry_fits_at ws i) (entry_at ws i) ≡ ran h → Prior ws i h
    go (stopped c p) e is = absurd (let z : ◌≡◌ {A = ℕ} 0 1 = cc in omega arith)
    go (ran s) e is = taken s (step_entry g s (entry_fits_at ws i) (entry_at ws i)) (step_entry g s (entry_fits_at ws i) (entry_at ws i)).verdict e is

pub run_length : (ws : List ℕ) (i : ℕ) (s : History) → run_of ws i ≡ ran s → length s ≡ i
unfolding run_of
run_length ws zero s e = ap (λ (h : History). length h) (sym (same_run e))
run_length ws (suc i) s e =
    let p = prior ws i s e in
    ap (λ (h : History). length h) p.history_is ∙ ap suc (run_length ws i p.past p.past_is)

-- WHERE A TEST FAILS

module _ (t : History → Bool) where
  module _ (e : Event) (s : History) (kept : kept_up_to t s ≡ length s) where
    pub kept_on : t (e ∷ s) ≡ true → kept_up_to t (e ∷ s) ≡ suc (length s)
    unfolding kept_up_to
    kept_on holds = rw (eq-eqb (kept_up_to t s) (length s) kept, holds) refl

    pub fails_now : t (e ∷ s) ≡ false → kept_up_to t (e ∷ s) ≡ length s
    unfolding kept_up_to
    fails_now fails = rw (eq-eqb (kept_up_to t s) (length s) kept, fails) kept

  pub failed_before : (e : Event) (s : History) → kept_up_to t s < length s → kept_up_to t (e ∷ s) ≡ kept_up_to t s
  unfolding kept_up_to
  failed_before e s less = rw (ne_eqb (kept_up_to t s) (length s) (λ same. omega arith)) refl

  -- of a run that goes on
  pub stays_failed : (ws : List ℕ) (d i : ℕ) (s h : History) → run_of ws i ≡ ran s → kept_up_to t s < i → run_of ws (d + i) ≡ ran h → kept_up_to t h ≡ kept_up_to t s
  stays_failed ws zero i s h now less e = ap (kept_up_to t) (sym (same_run (sym now ∙ subst (λ (m : ℕ). run_of ws m ≡ ran h) (let m : 0 + i ≡ i = omega arith in m) e)))
  stays_failed ws (suc d) i s h now less e =
      let p = prior ws (d + i) h (subst (λ (m : ℕ). run_of ws m ≡ ran h) (let m : suc d + i ≡ suc (d + i) = omega arith in m) e) in
      let same = stays_failed ws d i s p.past now less p.past_is in
      let long = run_length ws (d + i) p.past p.past_is in
      ap (kept_up_to t) p.history_is ∙ failed_before p.event p.past (omega arith) ∙ same
