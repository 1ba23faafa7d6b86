-- The places of a sheet's refusals are small: main results `replay_place`, `judge_place`.
use mathlib.Core.Path.{◌≡◌, refl}
use mathlib.Core.Bool.{Bool, true, false, cond}
use mathlib.Core.List.{List, [], ◌∷◌}
use Prim.Native.Nat.{ℕ, zero, suc, ◌+◌, ◌*◌, ◌^◌, ◌≤◌, ◌<◌}
use native.Mathlib.Omega.{arith}
use lib.Dec.{ltb}
use lib.ListN.{length}
use Rattle.protocol.specs.declared.Setting.{Setting}
use Rattle.protocol.specs.declared.Entry.{Entry}
use Rattle.protocol.specs.declared.Stepped.{Stepped}
use Rattle.protocol.specs.declared.Cause.TheVariants.{ShortBuffer}
use Rattle.protocol.specs.Types.{Verdict, Accepted, Refused}
use Rattle.protocol.specs.Words.{setting_at, entry_count, place_of, entry_at, entry_fits_at}
use Rattle.protocol.specs.Causes.{sheet_verdict}
use Rattle.protocol.specs.Run.{History, Run, stopped, ran, step_entry, extend, and_then, run_of, after_verdict, run_sheet}
use Rattle.protocol.specs.Results.{words_per_head, fill, fill_after, replay, replayed_numbers}
use Rattle.protocol.specs.Premises.{premises, first_broken, judge_run, judge, judged_numbers}
use Rattle.protocol.proofs.Fits.{sheet_fits}
use Rattle.sheet_c.specs.Numbers.{place_in}

-- where a run stopped
abbrev place : Run → ℕ
place (stopped c p) = p
place (ran h) = 0

extended : (at : ℕ) (s : History) (e : Entry) (t : Stepped) (v : Verdict) → place (extend at s e t v) ≤ at
extended at s e t Accepted = omega arith
extended at s e t (Refused c) = omega arith

further : (g : Setting) (x : Run) (at : ℕ) (fits : Bool) (e : Entry) → place x ≤ at → place (and_then g x at fits e) ≤ at
unfolding and_then
further g (stopped c p) at fits e l = l
further g (ran s) at fits e l = extended at s e (step_entry g s fits e) (step_entry g s fits e).verdict

run_place : (ws : List ℕ) (k : ℕ) → place (run_of ws k) ≤ 2 + 3 * k
unfolding run_of
run_place ws zero = omega arith
run_place ws (suc i) =
    let m = further (setting_at ws) (run_of ws i) (place_of i) (entry_fits_at ws i) (entry_at ws i) (run_place ws i) in
    omega (arith, m)

-- of all entries of a sheet that passes causes 1 to 4
whole_place : (ws : List ℕ) → sheet_verdict ws ≡ Accepted → place (run_of ws (entry_count ws)) < 2 ^ 32
whole_place ws e = omega (arith, run_place ws (entry_count ws), (sheet_fits ws e).most_entries)

fill_place : (g : Setting) (out : List ℕ) (x : Run) → place x < 2 ^ 32 → place_in (replayed_numbers (fill g out x).answer) < 2 ^ 32
fill_place g out (stopped c p) l = l
fill_place g out (ran h) l = omega arith

pub replay_place : (ws out : List ℕ) → place_in (replayed_numbers (replay ws out).answer) < 2 ^ 32
unfolding replay
replay_place ws out = at (sheet_verdict ws) refl
  where
    by_room : (b : Bool) → sheet_verdict ws ≡ Accepted
        → place_in (replayed_numbers (cond b (fill (setting_at ws) out (stopped ShortBuffer 0)) (fill (setting_at ws) out (run_of ws (entry_count ws)))).answer) < 2 ^ 32
    by_room true e = omega arith
    by_room false e = fill_place (setting_at ws) out (run_of ws (entry_count ws)) (whole_place ws e)

    at : (v : Verdict) → sheet_verdict ws ≡ v → place_in (replayed_numbers (fill_after v ws out).answer) < 2 ^ 32
    at (Refused c) e = omega arith
    at Accepted e = by_room (ltb (length out) (words_per_head * (setting_at ws).n)) e

-- a judge that names a premise names no place
broken_place : (i : ℕ) (l : List Bool) → place_in (judged_numbers (first_broken i l)) ≡ 0
unfolding first_broken
broken_place i [] = refl
broken_place i (true ∷ l) = broken_place (suc i) l
broken_place i (false ∷ l) = refl

judged_place : (g : Setting) (x : Run) → place x < 2 ^ 32 → place_in (judged_numbers (judge_run g x)) < 2 ^ 32
judged_place g (stopped c p) l = l
judged_place g (ran h) l = omega (arith, broken_place 1 (premises g h))

pub judge_place : (ws : List ℕ) → place_in (judged_numbers (judge ws)) < 2 ^ 32
unfolding judge run_sheet
judge_place ws = at (sheet_verdict ws) refl
  where
    at : (v : Verdict) → sheet_verdict ws ≡ v → place_in (judged_numbers (judge_run (setting_at ws) (after_verdict v (run_of ws (entry_count ws))))) < 2 ^ 32
    at (Refused c) e = omega arith
    at Accepted e = judged_place (setting_at ws) (run_of ws (entry_count ws)) (whole_place ws e)
