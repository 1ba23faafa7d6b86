-- The judge's answer, and where the first broken premise was broken, are all of the last line.
-- Main results: `kept_line`, `broken_line_lem`, `refused_line_lem`; `cause_line`, `sheet_line`.
use mathlib.Core.Path.{◌≡◌, refl, sym, ◌∙◌, ap}
use mathlib.Core.Bool.{Bool, true, false}
use mathlib.Core.List.{List, [], ◌∷◌}
use Prim.Native.Nat.{ℕ, zero, suc, ◌+◌, ◌≤◌, ◌<◌}
use native.Mathlib.Omega.{arith}
use lib.ListN.{length}
use Rattle.std.specs.Prelude.{Result, Ok, Err}
use Rattle.protocol.specs.declared.Refusal.{Refusal}
use Rattle.protocol.specs.declared.Cause.{Cause}
use Rattle.protocol.specs.Types.{Verdict, Accepted, Refused, Judged, Kept, Broken, Unjudged}
use Rattle.protocol.specs.Words.{setting_at}
use Rattle.protocol.specs.Run.{Run, stopped, ran, run_sheet}
use Rattle.protocol.specs.Premises.{premises, first_broken, judge_run, judge, is_asked_at_end}
use Rattle.protocol.specs.Program.{big_endian, bytes_verdict, refused_line, premises_line, broken_line, last_line_of, last_line, last_line_of_bytes}
use Rattle.protocol.proofs.Tests.{absurd_bool, cases}
use Rattle.judge_run.specs.Where.{TellsWhere}

-- the line of a refusal: `cc` takes equal records apart no further
abbrev line_of : {A : Type 0} → Result A Refusal → List ℕ
line_of (Ok _) = []
line_of (Err x) = refused_line x.cause x.place

-- A SHEET'S LINE

-- the first broken one is among the premises
among : (a i : ℕ) (l : List Bool) → first_broken a l ≡ Broken i → (a ≤ i) × (i < a + length l)
unfolding first_broken
among a i [] e = absurd (let z : ◌≡◌ {A = ℕ} 0 1 = cc in omega arith)
among a i (true ∷ l) e = let r = among (suc a) i l e in (let x = r.0 in omega arith, let x = r.1 in omega arith)
among a i (false ∷ l) e = let same : a ≡ i = cc in (omega arith, omega arith)

-- a premise that is asked at the end is told without an entry
no_entry_lem : (i k m : ℕ) → is_asked_at_end i ≡ true → broken_line i k ≡ broken_line i m
unfolding broken_line
no_entry_lem i k m e = rw e refl

not_first : (i : ℕ) → is_asked_at_end i ≡ false → 1 ≤ i → 1 < i
not_first zero e l = absurd (omega arith)
not_first (suc zero) e l = absurd_bool refl e
not_first (suc (suc i)) e l = omega arith

module _ (ws : List ℕ) (j : Judged) (is : j ≡ judge ws) where
  judge_of : (x : Run) → run_sheet ws ≡ x → j ≡ judge_run (setting_at ws) x
  unfolding judge
  judge_of x e = is ∙ ap (judge_run (setting_at ws)) e

  pub kept_line : j ≡ Kept → premises_line 0 ≡ last_line ws
  unfolding last_line
  kept_line k = rw (← is, k) (go (run_sheet ws) refl)
    where
      go : (x : Run) → run_sheet ws ≡ x → premises_line 0 ≡ last_line_of (setting_at ws) Kept x
      go (stopped c p) e = absurd (let z : ◌≡◌ {A = ℕ} 0 1 = cc (judge_of (stopped c p) e) in omega arith)
      go (ran h) e = refl

  pub refused_line_lem : (c : Cause) (p : ℕ) → j ≡ Unjudged c p → refused_line c p ≡ last_line ws
  unfolding last_line
  refused_line_lem c p k = rw (← is, k) (go (run_sheet ws) refl)
    where
      go : (x : Run) → run_sheet ws ≡ x → refused_line c p ≡ last_line_of (setting_at ws) (Unjudged c p) x
      go (stopped d q) e = let same : Unjudged c p ≡ Unjudged d q = sym k ∙ judge_of (stopped d q) e in ap (λ (x : Judged). line_of x) same
      go (ran h) e = refl

  pub broken_line_lem : (i k : ℕ) → j ≡ Broken i → TellsWhere (setting_at ws) (run_sheet ws) i k → broken_line i k ≡ last_line ws
  unfolding last_line
  broken_line_lem i k b tells = rw (← is, b) (go (run_sheet ws) refl)
    where
      go : (x : Run) → run_sheet ws ≡ x → broken_line i k ≡ last_line_of (setting_at ws) (Broken i) x
      go (stopped c p) e = absurd (let z : ◌≡◌ {A = ℕ} 0 1 = cc (judge_of (stopped c p) e) in omega arith)
      go (ran h) e =
          let range = among 1 i (premises (setting_at ws) h) (sym (judge_of (ran h) e) ∙ b) in
          cases (is_asked_at_end i) (λ t. no_entry_lem i k _ t)
          (λ t. ap (broken_line i) (tells h e (not_first i t range.0, range.1, t)))

-- OF A SHEET'S BYTES

module _ (bytes : List ℕ) (v : Verdict) (says : v ≡ bytes_verdict bytes) where
  pub cause_line : (c : Cause) → v ≡ Refused c → refused_line c 0 ≡ last_line_of_bytes bytes
  unfolding last_line_of_bytes
  cause_line c e = rw (← says, e) refl

  pub sheet_line : v ≡ Accepted → (ws : List ℕ) → ws ≡ big_endian bytes → last_line ws ≡ last_line_of_bytes bytes
  unfolding last_line_of_bytes
  sheet_line e ws is = rw (← says, e, is) refl
