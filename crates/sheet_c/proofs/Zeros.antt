-- What the number 0 says: main results `agrees_in_numbers`, `recorded-if-accepted`.
use Rattle.std.specs.Prelude.{Err}
use mathlib.Core.Path.{◌≡◌, refl, sym, ◌∙◌, ap}
use mathlib.Core.Bool.{Bool, true, false}
use mathlib.Core.List.{List, [], ◌∷◌}
use Prim.Native.Nat.{ℕ, suc, ◌<◌}
use native.Mathlib.Omega.{arith}
use lib.ListN.{get_or}
use Rattle.protocol.specs.declared.Setting.{Setting}
use Rattle.protocol.specs.declared.Cause.{Cause}
use Rattle.protocol.specs.declared.Cause.TheVariants.{TooManyWords, BadLength, BadFirstWord, BadSecondWord, ShortBuffer, BadEntry, TimeFell, ReadingFell, ActionClosed, BadRecord, CounterTooFar, BadField, TimeTooFar}
use Rattle.protocol.specs.Types.{Verdict, Accepted, Refused, Replayed, Filled, TurnedBack, Judged, Kept}
use Rattle.protocol.specs.Causes.{cause_number, verdict_number}
use Rattle.protocol.specs.Run.{Run, stopped, ran, run_sheet}
use Rattle.protocol.specs.Premises.{premises, first_broken, judge_run, judge}
use Rattle.protocol.specs.declared.Report.{Report}
use Rattle.protocol.specs.Claim.{AgreesInWords}
use Rattle.sheet_c.specs.Numbers.{AgreesInNumbers, answer_numbers, judged_number}

pub cause_range : (c : Cause) → (0 < cause_number c) × (cause_number c < 14)
cause_range TooManyWords = (omega arith, omega arith)
cause_range BadLength = (omega arith, omega arith)
cause_range BadFirstWord = (omega arith, omega arith)
cause_range BadSecondWord = (omega arith, omega arith)
cause_range ShortBuffer = (omega arith, omega arith)
cause_range BadEntry = (omega arith, omega arith)
cause_range TimeFell = (omega arith, omega arith)
cause_range ReadingFell = (omega arith, omega arith)
cause_range ActionClosed = (omega arith, omega arith)
cause_range BadRecord = (omega arith, omega arith)
cause_range CounterTooFar = (omega arith, omega arith)
cause_range BadField = (omega arith, omega arith)
cause_range TimeTooFar = (omega arith, omega arith)

-- premises are numbered from 1 on
none_broken : (i : ℕ) (l : List Bool) → 0 < i → judged_number (first_broken i l) ≡ 0 → first_broken i l ≡ Kept
unfolding first_broken
none_broken i [] l e = refl
none_broken i (true ∷ l) h e = none_broken (suc i) l (omega arith) e
none_broken i (false ∷ l) h e = absurd (omega (arith, e))

run_kept : (g : Setting) (x : Run) → judged_number (judge_run g x) ≡ 0 → judge_run g x ≡ Kept
run_kept g (stopped c p) e = absurd (omega (arith, e))
run_kept g (ran h) e = none_broken 1 (premises g h) (omega arith) e

kept_at_0 : (ws : List ℕ) → judged_number (judge ws) ≡ 0 → judge ws ≡ Kept
unfolding judge
kept_at_0 ws e = run_kept _ (run_sheet ws) e

filled_at_0 : (r : Replayed) (j : Judged) → ◌≡◌ {A = ℕ} (get_or (answer_numbers r j) 0 0) 0 → r ≡ Filled
filled_at_0 Filled j e = refl
filled_at_0 (Err x) j e = absurd (omega (arith, e, cause_range x.cause))

-- the claim of the report is that of its numbers
pub agrees_in_numbers : (ws out answer : List ℕ) (k : ℕ) (r : Report) → r.judged ≡ judge ws → k ≡ judged_number r.judged
    → answer ≡ answer_numbers r.replayed r.judged → AgreesInWords ws r out → AgreesInNumbers ws k answer out
agrees_in_numbers ws out answer k r is number numbers claim k0 cause0 _ _ h e =
    let kept = is ∙ kept_at_0 ws (ap judged_number (sym is) ∙ sym number ∙ k0) in
    let filled = filled_at_0 r.replayed r.judged (sym (ap (λ (l : List ℕ). get_or l 0 0) numbers) ∙ cause0) in
    claim kept filled h e

-- and so for what the writer and the draft are for
accepted_at_0 : (v : Verdict) → verdict_number v ≡ 0 → v ≡ Accepted
accepted_at_0 Accepted e = refl
accepted_at_0 (Refused c) e = absurd (omega (arith, e, cause_range c))

pub if_accepted : {A : Type 0} (k : ℕ) (v : Verdict) → k ≡ verdict_number v → (v ≡ Accepted → A) → k ≡ 0 → A
if_accepted k v number claim k0 = claim (accepted_at_0 v (sym number ∙ k0))
