-- What the judge keeps of a history from one entry to the next.
use Rattle.std.specs.Prelude.{◌≡◌, Bool, cond, List, [], ◌∷◌, ℕ, ◌^◌, eqb, pos}
use Rattle.protocol.specs.declared.Setting.{Setting}
use Rattle.protocol.specs.declared.Entry.{Entry}
use Rattle.protocol.specs.Base.{table}
use Rattle.protocol.specs.Record.{votes, adjusts}
use Rattle.protocol.specs.Words.{is_correct}
use Rattle.protocol.specs.Run.{History}
use Rattle.protocol.specs.Premises.{premise2, premise3}
use Rattle.judge_premise_2.specs.declared.Drift.{Drift}
use Rattle.judge_premise_2.specs.Drift.{drift_of, least_of, stays_steady}
use Rattle.judge_premise_3.specs.Starts.{start_times}
use Rattle.judge_premises_5_to_8.specs.Closes.{receiver_sets, findings_of}
use Rattle.judge_entry.specs.declared.Judge.{Judge}

-- at first a number above any
abbrev pub no_drift : Drift
no_drift = record { gain = pos (2 ^ 62); loss = pos (2 ^ 62) }

-- the least gain and the least loss of a head's entries
unfoldable pub least_drift : ℕ → History → ℕ → Drift
least_drift drift [] q = no_drift
least_drift drift (e ∷ s) q = cond (eqb e.entry.head q) (least_of (least_drift drift s q) (drift_of drift e.entry 0)) (least_drift drift s q)

unfoldable pub drifts_of : Setting → History → List Drift
drifts_of g s = table (least_drift g.drift s) 0 16

-- an entry after a history keeps premise 2 with the entries of its head before it
abbrev pub keeps_premise_2 : Setting → Entry → History → Bool
keeps_premise_2 g e s = stays_steady (is_correct g e.head) g.drift e (least_drift g.drift s e.head)

-- what is kept of a history for the other premises that are asked at entries
pub record JudgeState (g : Setting) (s : History) (j : Judge) : Type 0 where
  pub times_are : j.times.0 ≡ start_times s
  pub in_time_is : j.in_time ≡ premise3 g s
  pub receivers_are : j.receivers.0 ≡ receiver_sets s
  pub votes_are : j.votes ≡ findings_of g s votes
  pub adjusts_are : j.adjusts ≡ findings_of g s adjusts

-- all of it
abbrev pub judge_of : Setting → History → Judge
judge_of g s =
    record {
      drifts = drifts_of g s;
      steady = premise2 g s;
      times = record { 0 = start_times s };
      in_time = premise3 g s;
      receivers = record { 0 = receiver_sets s };
      votes = findings_of g s votes;
      adjusts = findings_of g s adjusts;
    }
