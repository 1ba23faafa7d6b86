-- What one pass over a sheet's entries keeps and leaves.
use Rattle.std.specs.Prelude.{◌≡◌, List, ℕ}
use Rattle.protocol.specs.declared.HeadRow.{HeadRow}
use Rattle.protocol.specs.declared.Setting.{Setting}
use Rattle.protocol.specs.Types.{Judged}
use Rattle.protocol.specs.Record.{votes, adjusts}
use Rattle.protocol.specs.Run.{History, Run, last_time, ran}
use Rattle.protocol.specs.Words.{setting_at}
use Rattle.protocol.specs.Premises.{premise2, premise3, premises, first_broken, judge_run}
use Rattle.sheet_state.specs.Arrays.{head_rows, Stands, Carries}
use Rattle.judge_premises_5_to_8.specs.Closes.{findings_of}
use Rattle.judge_entry.specs.declared.Judge.{Judge}
use Rattle.judge_entry.specs.State.{judge_of}
use Rattle.judge_run.specs.declared.Pass.{Pass}

-- what a pass says of the first i entries, none of which is refused
pub record Keeps (ws : List ℕ) (i : ℕ) (p : Pass) : Type 0 where
  pub setting_is : p.setting ≡ setting_at ws
  pub history : History
  pub stands : Stands ws i history p.heads
  pub carries : Carries history p.choices p.carried
  pub judge_is : p.judge ≡ judge_of p.setting history
  pub time_is : p.time ≡ last_time history

-- what the judge found of the premises that are asked at entries
pub record Found (g : Setting) (s : History) (j : Judge) : Type 0 where
  pub steady_is : j.steady ≡ premise2 g s
  pub in_time_is : j.in_time ≡ premise3 g s
  pub votes_are : j.votes ≡ findings_of g s votes
  pub adjusts_are : j.adjusts ≡ findings_of g s adjusts

-- the judge's answer of a run, and, where no entry was refused, the heads' rows after it
pub record Passes (g : Setting) (run : Run) (j : Judged) (heads : List HeadRow) : Type 0 where
  pub judged_is : j ≡ judge_run g run
  pub heads_are : (s : History) → run ≡ ran s → heads ≡ head_rows g s

-- the judge's answer after the last entry, from what was found
abbrev pub JudgedAt : Setting → List HeadRow → Judge → Judged → Type 0
JudgedAt g heads judge j = (ws : List ℕ) (i : ℕ) (s : History) → Stands ws i s heads → g ≡ setting_at ws → Found g s judge → j ≡ first_broken 1 (premises g s)
