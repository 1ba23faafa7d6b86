-- What an accepted entry changes in what the judge keeps, action by action, but for premise 2, which is asked at every entry.
-- Main results: `judge_is`, `judge_parts`, `judge_whole`, `with_premise_2`; `found_were`; `after_start_delivered`, `after_start_confirmed`, `after_frame`, `after_close`, `after_other`.
use mathlib.Core.Path.{◌≡◌, refl, sym, ◌∙◌, ap, ap₂}
use mathlib.Core.Bool.{Bool, not, ◌&&◌}
use mathlib.Core.List.{List, ◌∷◌}
use mathlib.Core.Logic.{◌≢◌}
use Prim.Native.Nat.{ℕ}
use native.Mathlib.Omega.{arith}
use Rattle.protocol.specs.declared.Setting.{Setting}
use Rattle.protocol.specs.declared.Entry.{Entry}
use Rattle.protocol.specs.Words.{is_correct, entry_at}
use Rattle.protocol.specs.declared.Kind.{Kind}
use Rattle.protocol.specs.Record.{votes, adjusts}
use Rattle.protocol.specs.Run.{Event, History}
use Rattle.protocol.specs.Premises.{delivery, closing, took, start_within, premise2, premise3}
use Rattle.sheet_state.specs.Arrays.{event_at}
use Rattle.judge_premise_2.specs.declared.Drift.{Drift}
use Rattle.judge_premise_3.specs.declared.StartTimes.{StartTimes}
use Rattle.judge_premise_3.specs.Starts.{start_times}
use Rattle.judge_premise_3.proofs.Events.{times_kept, premise_3_delivered, premise_3_confirmed, premise_3_kept}
use Rattle.judge_premises_5_to_8.specs.declared.Findings.{Findings}
use Rattle.judge_premises_5_to_8.specs.declared.Receivers.{Receivers}
use Rattle.judge_premises_5_to_8.specs.Closes.{receiver_sets, findings_of}
use Rattle.judge_premises_5_to_8.proofs.ReceiverSets.{receivers_same}
use Rattle.judge_premises_5_to_8.proofs.Found.{findings_same}
use Rattle.judge_entry.specs.declared.Judge.{Judge}
use Rattle.judge_entry.specs.State.{drifts_of, JudgeState, judge_of}

-- all parts of what is kept
pub judge_is : (j : Judge) {d : List Drift} {b c : Bool} {t r : List ℕ} {v a : Findings} → j.drifts ≡ d → j.steady ≡ b → j.times.0 ≡ t → j.in_time ≡ c → j.receivers.0 ≡ r → j.votes ≡ v
    → j.adjusts ≡ a → j ≡ record { drifts = d; steady = b; times = record { 0 = t }; in_time = c; receivers = record { 0 = r }; votes = v; adjusts = a }
judge_is j d b t c r v a = rw (← d, ← b, ← t, ← c, ← r, ← v, ← a) refl

abbrev pub with_phase : Kind → Findings → Judge → Judge
with_phase votes f j = record j { votes = f }
with_phase adjusts f j = record j { adjusts = f }

abbrev phase_in : Kind → Judge → Findings
phase_in votes j = j.votes
phase_in adjusts j = j.adjusts

-- the state and what is kept for premise 2 are all that is kept
pub judge_parts : {g : Setting} {s : History} {j : Judge} → j ≡ judge_of g s → JudgeState g s j
judge_parts is =
    record {
      times_are = ap (λ (k : Judge). k.times.0) is;
      in_time_is = ap (λ (k : Judge). k.in_time) is;
      receivers_are = ap (λ (k : Judge). k.receivers.0) is;
      votes_are = ap (λ (k : Judge). k.votes) is;
      adjusts_are = ap (λ (k : Judge). k.adjusts) is;
    }

pub judge_whole : {g : Setting} {s : History} {j : Judge} → JudgeState g s j → j.drifts ≡ drifts_of g s → j.steady ≡ premise2 g s → j ≡ judge_of g s
judge_whole {g} {s} {j} state drifts steady = judge_is j drifts steady state.times_are state.in_time_is state.receivers_are state.votes_are state.adjusts_are

-- whatever is kept for premise 2
pub with_premise_2 : {g : Setting} {s : History} {j : Judge} → JudgeState g s j → {d : List Drift} {b : Bool} → JudgeState g s (record j { drifts = d; steady = b })
with_premise_2 state =
    record { times_are = state.times_are; in_time_is = state.in_time_is; receivers_are = state.receivers_are; votes_are = state.votes_are; adjusts_are = state.adjusts_are }

-- the history s and then entry e
module _ (ws : List ℕ) (i : ℕ) (s : History) {e : Entry} (is : e ≡ entry_at ws i) (g : Setting) {j : Judge} (were : JudgeState g s j) where
  abbrev event : Event
  event = event_at ws i s

  abbrev after : History
  after = event ∷ s

  acts : {a : ℕ} → e.action ≡ a → event.entry.action ≡ a
  acts h = ap (λ (x : Entry). x.action) (sym is) ∙ h

  other : {a : ℕ} → e.action ≢ a → event.entry.action ≢ a
  other n z = n (ap (λ (x : Entry). x.action) is ∙ z)

  pub found_were : (k : Kind) → phase_in k j ≡ findings_of g s k
  found_were votes = were.votes_are
  found_were adjusts = were.adjusts_are

  times_stay : e.action ≢ 2 → j.times.0 ≡ start_times after
  times_stay n = were.times_are ∙ sym (times_kept event s (other n))

  in_time_stays : e.action ≢ 2 → e.action ≢ 3 → j.in_time ≡ premise3 g after
  in_time_stays n m = were.in_time_is ∙ sym (premise_3_kept event s g (other n) (other m))

  receivers_stay : ((k : Kind) → e.action ≢ delivery k) → j.receivers.0 ≡ receiver_sets after
  receivers_stay n = were.receivers_are ∙ sym (receivers_same event s (λ k. other (n k)))

  votes_stay : e.action ≢ 5 → e.action ≢ 6 → j.votes ≡ findings_of g after votes
  votes_stay n m = were.votes_are ∙ sym (findings_same g event s votes (other n) (other m))

  adjusts_stay : e.action ≢ 8 → e.action ≢ 9 → j.adjusts ≡ findings_of g after adjusts
  adjusts_stay n m = were.adjusts_are ∙ sym (findings_same g event s adjusts (other n) (other m))

  no_frame : e.action ≢ 5 → e.action ≢ 8 → (k : Kind) → e.action ≢ delivery k
  no_frame n m votes = n
  no_frame n m adjusts = m

  pub after_start_delivered : e.action ≡ 2 → {t : StartTimes} {b : Bool} → (t.0 ≡ start_times after) × (b ≡ not (is_correct g e.head && took 3 e.sender s))
      → JudgeState g after (record j { times = t; in_time = b && j.in_time })
  after_start_delivered a start =
      record {
        times_are = start.0;
        in_time_is = ap₂ ◌&&◌ (start.1 ∙ ap (λ (x : Entry). not (is_correct g x.head && took 3 x.sender s)) is) were.in_time_is ∙ sym (premise_3_delivered event s g (acts a));
        receivers_are = receivers_stay (no_frame (λ z. omega arith) (λ z. omega arith));
        votes_are = votes_stay (λ z. omega arith) (λ z. omega arith);
        adjusts_are = adjusts_stay (λ z. omega arith) (λ z. omega arith);
      }

  pub after_start_confirmed : e.action ≡ 3 → {b : Bool} → b ≡ start_within g e.head s → JudgeState g after (record j { in_time = b && j.in_time })
  after_start_confirmed a start =
      record {
        times_are = times_stay (λ z. omega arith);
        in_time_is = ap₂ ◌&&◌ (start ∙ ap (λ (x : Entry). start_within g x.head s) is) were.in_time_is ∙ sym (premise_3_confirmed event s g (acts a));
        receivers_are = receivers_stay (no_frame (λ z. omega arith) (λ z. omega arith));
        votes_are = votes_stay (λ z. omega arith) (λ z. omega arith);
        adjusts_are = adjusts_stay (λ z. omega arith) (λ z. omega arith);
      }

  -- a frame of a phase is delivered, or a phase closed
  pub after_frame : (k : Kind) → e.action ≡ delivery k → {r : Receivers} {f : Findings} → r.0 ≡ receiver_sets after → f ≡ findings_of g after k
      → JudgeState g after (with_phase k f (record j { receivers = r }))
  after_frame votes a sets found =
      record {
        times_are = times_stay (λ z. omega arith);
        in_time_is = in_time_stays (λ z. omega arith) (λ z. omega arith);
        receivers_are = sets;
        votes_are = found;
        adjusts_are = adjusts_stay (λ z. omega arith) (λ z. omega arith);
      }
  after_frame adjusts a sets found =
      record {
        times_are = times_stay (λ z. omega arith);
        in_time_is = in_time_stays (λ z. omega arith) (λ z. omega arith);
        receivers_are = sets;
        votes_are = votes_stay (λ z. omega arith) (λ z. omega arith);
        adjusts_are = found;
      }

  pub after_close : (k : Kind) → e.action ≡ closing k → {f : Findings} → f ≡ findings_of g after k → JudgeState g after (with_phase k f j)
  after_close votes a found =
      record {
        times_are = times_stay (λ z. omega arith);
        in_time_is = in_time_stays (λ z. omega arith) (λ z. omega arith);
        receivers_are = receivers_stay (no_frame (λ z. omega arith) (λ z. omega arith));
        votes_are = found;
        adjusts_are = adjusts_stay (λ z. omega arith) (λ z. omega arith);
      }
  after_close adjusts a found =
      record {
        times_are = times_stay (λ z. omega arith);
        in_time_is = in_time_stays (λ z. omega arith) (λ z. omega arith);
        receivers_are = receivers_stay (no_frame (λ z. omega arith) (λ z. omega arith));
        votes_are = votes_stay (λ z. omega arith) (λ z. omega arith);
        adjusts_are = found;
      }

  -- another than the six actions at which a premise is asked
  pub after_other : e.action ≢ 2 → e.action ≢ 3 → e.action ≢ 5 → e.action ≢ 6 → e.action ≢ 8 → e.action ≢ 9 → JudgeState g after j
  after_other n2 n3 n5 n6 n8 n9 =
      record {
        times_are = times_stay n2;
        in_time_is = in_time_stays n2 n3;
        receivers_are = receivers_stay (no_frame n5 n8);
        votes_are = votes_stay n5 n6;
        adjusts_are = adjusts_stay n8 n9;
      }
