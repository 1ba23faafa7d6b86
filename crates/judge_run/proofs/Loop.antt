-- The pass over the entries: what it keeps of the history so far, one entry on, and at the end.
-- Main results: `first_keeps`; `entry_refused`, `keeps_next`; `pass_refused`, `found_now`, `pass_ends`.
use mathlib.Core.Path.{◌≡◌, refl, sym, ◌∙◌, ap, subst}
use mathlib.Core.Bool.{Bool, true, ◌&&◌}
use mathlib.Core.List.{List, [], ◌∷◌}
use Prim.Native.Nat.{ℕ, suc, ◌+◌, ◌-◌, ◌≤◌, ◌<◌}
use native.Mathlib.Numerals.{add-one}
use native.Mathlib.Omega.{arith}
use lib.ListN.{get_or, replicate, get_or-replicate}
use Rattle.protocol.specs.declared.HeadRow.{HeadRow}
use Rattle.protocol.specs.declared.Setting.{Setting}
use Rattle.protocol.specs.declared.Entry.{Entry}
use Rattle.protocol.specs.declared.Cause.{Cause}
use Rattle.protocol.specs.Types.{Verdict, Accepted, Refused, Judged, Unjudged}
use Rattle.protocol.specs.Words.{setting_at, first_word_fits, place_of, entry_at, entry_fits_at}
use Rattle.protocol.specs.Run.{History, last_time, frame_sent, stopped, ran, run_of}
use Rattle.protocol.specs.Premises.{premise2}
use Rattle.protocol.proofs.Tables.{is_table}
use Rattle.protocol.proofs.Runs.{goes_on, stops, stays_stopped}
use Rattle.sheet_state.specs.Arrays.{head_rows, choices_of, carried_of, answer_at, event_at, Stands, Carries}
use Rattle.judge_entry.specs.declared.Judge.{Judge}
use Rattle.judge_entry.specs.State.{drifts_of, keeps_premise_2, JudgeState, judge_of}
use Rattle.judge_entry.proofs.Changes.{judge_parts, judge_whole, with_premise_2}
use Rattle.judge_run.specs.declared.Pass.{Pass}
use Rattle.judge_run.specs.Pass.{Keeps, Found, Passes, JudgedAt}

-- BEFORE THE FIRST ENTRY

no_choices : replicate 512 0 ≡ choices_of []
unfolding choices_of frame_sent
no_choices = is_table _ 512 0 (replicate 512 0) refl (λ j lt. get_or-replicate 512 j 0 0 lt)

no_carried : replicate 512 0 ≡ carried_of []
unfolding carried_of frame_sent
no_carried = is_table _ 512 0 (replicate 512 0) refl (λ j lt. get_or-replicate 512 j 0 0 lt)

pub first_keeps : (ws : List ℕ) (g : Setting) (heads : List HeadRow) (judge : Judge) → first_word_fits (get_or ws 0 0) ≡ true → g ≡ setting_at ws → heads ≡ head_rows g [] → judge ≡ judge_of g []
    → Keeps ws 0 (record { setting = g; heads = heads; choices = replicate 512 0; carried = replicate 512 0; time = 0; judge = judge })
unfolding run_of
first_keeps ws g heads judge first is fresh judge_is =
    record {
      setting_is = is;
      history = [];
      stands = record { first_fits = first; is_run = refl; heads_are = fresh ∙ ap (λ (h : Setting). head_rows h []) is };
      carries = record { choices_are = no_choices; carried_are = no_carried };
      judge_is = judge_is;
      time_is = refl;
    }

-- ONE ENTRY: what the verdict on it promises

module _ {ws : List ℕ} {i : ℕ} {p : Pass} (k : Keeps ws i p) {e : Entry} {fits : Bool} (e-is : e ≡ entry_at ws i) (fits_is : fits ≡ entry_fits_at ws i) {v : Verdict}
    (verdict : (us : List ℕ) (j : ℕ) (s : History) → Stands us j s p.heads → p.time ≡ last_time s → e ≡ entry_at us j → fits ≡ entry_fits_at us j → v ≡ (answer_at us j s).verdict) where
  verdict_is : v ≡ (answer_at ws i k.history).verdict
  verdict_is = verdict ws i k.history k.stands k.time_is e-is fits_is

  pub entry_refused : {c : Cause} → v ≡ Refused c → run_of ws (i + 1) ≡ stopped c (place_of i)
  entry_refused {c} r = rw add-one (stops ws i k.stands.is_run c (sym verdict_is ∙ r))

  -- where it is accepted: what the judge and the step promise
  pub keeps_next : v ≡ Accepted → {asked judge : Judge} → asked.drifts ≡ p.judge.drifts → asked.steady ≡ p.judge.steady
      → ((us : List ℕ) (j : ℕ) (s : History) → Stands us j s p.heads → p.setting ≡ setting_at us → e ≡ entry_at us j → (answer_at us j s).verdict ≡ Accepted
      → JudgeState p.setting s p.judge → JudgeState p.setting (event_at us j s ∷ s) asked)
      → judge ≡ record asked { drifts = judge.drifts; steady = judge.steady }
      → ((us : List ℕ) (j : ℕ) (s : History) (heads : List HeadRow) → Stands us j s heads → p.setting ≡ setting_at us → e ≡ entry_at us j → (answer_at us j s).verdict ≡ Accepted
      → asked.drifts ≡ drifts_of p.setting s
      → (judge.drifts ≡ drifts_of p.setting (event_at us j s ∷ s)) × (judge.steady ≡ (keeps_premise_2 p.setting e s && asked.steady))
      × ((keeps_premise_2 p.setting e s && premise2 p.setting s) ≡ premise2 p.setting (event_at us j s ∷ s)))
      → {heads : List HeadRow} {choices carried : List ℕ}
      → ((us : List ℕ) (j : ℕ) (s : History) → Stands us j s p.heads → Carries s p.choices p.carried → e ≡ entry_at us j → (answer_at us j s).verdict ≡ Accepted
      → (heads ≡ head_rows (setting_at us) (event_at us j s ∷ s)) × Carries (event_at us j s ∷ s) choices carried)
      → Keeps ws (i + 1) (record { setting = p.setting; heads = heads; choices = choices; carried = carried; time = e.time.0; judge = judge })
  keeps_next accepted drifts_stay steady_stays asks others_stay drifts takes =
      let s = k.history in
      let answers : (answer_at ws i s).verdict ≡ Accepted = sym verdict_is ∙ accepted in
      let taken = takes ws i s k.stands k.carries e-is answers in
      let asked_is = asks ws i s k.stands k.setting_is e-is answers (judge_parts k.judge_is) in
      let two = drifts ws i s p.heads k.stands k.setting_is e-is answers (drifts_stay ∙ ap (λ (j : Judge). j.drifts) k.judge_is) in
      let kept = two.1 ∙ ap (λ (b : Bool). keeps_premise_2 p.setting e s && b) (steady_stays ∙ ap (λ (j : Judge). j.steady) k.judge_is) ∙ two.2 in
      record {
        setting_is = k.setting_is;
        history = event_at ws i s ∷ s;
        stands = record { first_fits = k.stands.first_fits; is_run = rw add-one (goes_on ws i k.stands.is_run answers); heads_are = taken.0 };
        carries = taken.1;
        judge_is = others_stay ∙ judge_whole (with_premise_2 asked_is) two.0 kept;
        time_is = ap (λ (x : Entry). x.time.0) e-is;
      }

-- ALL ENTRIES

-- the run of one entry more is refused
pub run_refused : (ws : List ℕ) (i count : ℕ) (c : Cause) (q : ℕ) → run_of ws (i + 1) ≡ stopped c q → i < count → run_of ws count ≡ stopped c q
run_refused ws i count c q stop lt =
    let more : (count - suc i) + suc i ≡ count = omega arith in
    subst (λ (m : ℕ). run_of ws m ≡ stopped c q) more (stays_stopped ws (suc i) (count - suc i) c q (rw add-one at stop))

pub pass_refused : (ws : List ℕ) (i count : ℕ) (c : Cause) (q : ℕ) → run_of ws (i + 1) ≡ stopped c q → i < count → {after : List HeadRow} → Passes (setting_at ws) (run_of ws count) (Unjudged c q) after
pass_refused ws i count c q stop lt =
    let ended = run_refused ws i count c q stop lt in
    record {
      judged_is = rw ended refl;
      heads_are = λ s is. absurd (let z : ◌≡◌ {A = ℕ} 0 1 = cc in omega arith);
    }

same_history : {s h : History} → ran s ≡ ran h → s ≡ h
same_history e = cc

pub found_now : {ws : List ℕ} {i : ℕ} {p : Pass} (k : Keeps ws i p) → Found (setting_at ws) k.history p.judge
found_now {ws} {i} {p} k =
    let is = k.judge_is ∙ ap (λ (g : Setting). judge_of g k.history) k.setting_is in
    record { steady_is = ap (λ (j : Judge). j.steady) is; in_time_is = ap (λ (j : Judge). j.in_time) is; votes_are = ap (λ (j : Judge). j.votes) is; adjusts_are = ap (λ (j : Judge). j.adjusts) is }

pub pass_ends : {ws : List ℕ} {i count : ℕ} {p : Pass} → Keeps ws i p → i ≤ count → count ≤ i → {j : Judged} → JudgedAt p.setting p.heads p.judge j → Passes (setting_at ws) (run_of ws count) j p.heads
pass_ends {ws} {i} {count} {p} k le ge judged =
    let all : i ≡ count = omega arith in
    let run : run_of ws count ≡ ran k.history = subst (λ (m : ℕ). run_of ws m ≡ ran k.history) all k.stands.is_run in
    let found = rw (← k.setting_is) at (found_now k) in
    record {
      judged_is = judged ws i k.history k.stands k.setting_is found ∙ rw (k.setting_is, run) refl;
      heads_are = λ s e. k.stands.heads_are ∙ rw (same_history (sym run ∙ e)) refl;
    }
