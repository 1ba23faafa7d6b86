-- A sheet that passes causes 1 to 4 is ready for its pass, and the pass over its first entries is their run.
-- Main results: `has_two`, `first_fits`, `ready`; `run_turned_back`, `run_passes`.
use mathlib.Core.Path.{◌≡◌, refl, sym, ◌∙◌}
use mathlib.Core.Bool.{true}
use mathlib.Core.List.{List, []}
use Prim.Native.Nat.{ℕ, ◌+◌, ◌*◌, ◌≤◌, min}
use native.Mathlib.Omega.{arith}
use lib.ListN.{length, get_or}
use Rattle.protocol.specs.declared.HeadRow.{HeadRow}
use Rattle.protocol.specs.declared.Setting.{Setting}
use Rattle.protocol.specs.declared.Cause.{Cause}
use Rattle.protocol.specs.Types.{Verdict, Accepted, Refused, Judged, Unjudged}
use Rattle.protocol.specs.Words.{setting_at, first_word_fits, entry_count}
use Rattle.protocol.specs.Causes.{sheet_verdict}
use Rattle.protocol.specs.Run.{run_of, run_first}
use Rattle.protocol.proofs.Fits.{sheet_fits}
use Rattle.sheet_state.specs.Arrays.{head_rows}
use Rattle.judge_run.specs.declared.Pass.{Pass}
use Rattle.judge_run.specs.Pass.{Keeps, Passes}

module _ (ws : List ℕ) (v : Verdict) (is : v ≡ sheet_verdict ws) where
  module _ (accepted : v ≡ Accepted) where
    pub has_two : 2 ≤ length ws
    has_two = (sheet_fits ws (sym is ∙ accepted)).at_least_two

    pub first_fits : first_word_fits (get_or ws 0 0) ≡ true
    first_fits = (sheet_fits ws (sym is ∙ accepted)).first_fits

    -- what a pass asks for
    pub ready : {p : Pass} → Keeps ws 0 p → (count : ℕ) → count ≤ entry_count ws → (2 + 3 * count ≤ length ws) × (length ws ≤ 12290) × Keeps ws 0 p
    ready kept count le =
        let f = sheet_fits ws (sym is ∙ accepted) in
        let whole = f.whole_entries in
        let most = f.most_entries in
        (omega arith, omega arith, kept)

    pub run_passes : (k count : ℕ) → count ≡ min k (entry_count ws) → {j : Judged} {heads : List HeadRow} → Passes (setting_at ws) (run_of ws count) j heads → Passes (setting_at ws) (run_first ws k) j heads
    unfolding run_first
    run_passes k count all p = rw (← is, accepted, ← all) p

  pub run_turned_back : (k : ℕ) (c : Cause) → v ≡ Refused c → (heads : List HeadRow) → Passes (setting_at ws) (run_first ws k) (Unjudged c 0) heads
  unfolding run_first
  run_turned_back k c e heads =
      rw (← is, e) (record { judged_is = refl; heads_are = λ s h. absurd (let z : ◌≡◌ {A = ℕ} 0 1 = cc in omega arith) })
