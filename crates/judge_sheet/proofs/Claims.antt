-- The third point of what the judge answers, and of the words that the replay leaves.
-- Main results: `claim`, `reported`.
use mathlib.Core.Path.{◌≡◌, refl, sym, ◌∙◌, subst}
use mathlib.Core.Bool.{Bool, true, false, cond}
use mathlib.Core.List.{List}
use Prim.Native.Nat.{ℕ, ◌*◌, ◌≤◌}
use native.Mathlib.Omega.{arith}
use lib.Dec.{ltb}
use lib.ListN.{length}
use borrow.Author.Tests.{ltb-false}
use Rattle.protocol.specs.declared.Cause.{Cause}
use Rattle.protocol.specs.declared.Cause.TheVariants.{ShortBuffer}
use Rattle.protocol.specs.Types.{Verdict, Accepted, Refused, Filled, TurnedBack, Judged}
use Rattle.protocol.specs.declared.Report.{Report}
use Rattle.protocol.specs.Words.{setting_at, entry_count}
use Rattle.protocol.specs.Causes.{sheet_verdict}
use Rattle.protocol.specs.Run.{stopped, run_of}
use Rattle.protocol.specs.Results.{words_per_head, fill, fill_after, replay}
use Rattle.protocol.specs.Premises.{judge}
use Rattle.protocol.specs.Claim.{Agrees, AgreesInWords}
use Rattle.protocol.proofs.ThirdPoint.{third_point}
use Rattle.protocol.proofs.ResultWords.{agreement_in_words}

pub claim : (ws : List ℕ) (j : Judged) → j ≡ judge ws → Agrees ws j
claim ws j is k = third_point ws (sym is ∙ k)

-- a replay that filled the buffer had room
not_filled : {A : Type 0} (c : Cause) (p : ℕ) → TurnedBack c p ≡ Filled → A
not_filled c p e = absurd (let z : ◌≡◌ {A = ℕ} 0 1 = cc in omega arith)

had_room : (ws out : List ℕ) → (replay ws out).answer ≡ Filled → words_per_head * (setting_at ws).n ≤ length out
unfolding replay
had_room ws out = at (sheet_verdict ws)
  where
    by_room : (b : Bool) → ltb (length out) (words_per_head * (setting_at ws).n) ≡ b
        → (cond b (fill (setting_at ws) out (stopped ShortBuffer 0)) (fill (setting_at ws) out (run_of ws (entry_count ws)))).answer ≡ Filled → words_per_head * (setting_at ws).n ≤ length out
    by_room true t f = not_filled ShortBuffer 0 f
    by_room false t f = ltb-false (length out) (words_per_head * (setting_at ws).n) t

    at : (v : Verdict) → (fill_after v ws out).answer ≡ Filled → words_per_head * (setting_at ws).n ≤ length out
    at (Refused c) f = not_filled c 0 f
    at Accepted f = by_room (ltb (length out) (words_per_head * (setting_at ws).n)) refl f

-- the same of the words that the replay left
claim_in_words : (ws out : List ℕ) (r : Report) → r.replayed ≡ (replay ws out).answer → Agrees ws r.judged → AgreesInWords ws r (replay ws out).buffer
claim_in_words ws out r says agrees k f h e = agreement_in_words ws out h e (had_room ws out (sym says ∙ f)) (agrees k h e)

-- all that a report's contract says
pub reported : (ws out after : List ℕ) (r : Report) → (r.replayed ≡ (replay ws out).answer) × (r.judged ≡ judge ws) × (after ≡ (replay ws out).buffer)
    → (r.replayed ≡ (replay ws out).answer) × (r.judged ≡ judge ws) × (after ≡ (replay ws out).buffer) × AgreesInWords ws r after
reported ws out after r e =
    (e.0, e.1, e.2, subst (AgreesInWords ws r) (sym e.2) (claim_in_words ws out r e.0 (claim ws r.judged e.1)))
