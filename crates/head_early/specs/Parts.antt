-- The test at the end of an action, in parts that the code has as functions of their own.
use Rattle.std.specs.Prelude.{Bool, true, not, ◌&&◌, ℕ, min, eqb, get_or}
use Rattle.protocol.specs.declared.HeadRecord.{HeadRecord}
use Rattle.protocol.specs.declared.PhaseRow.{PhaseRow}
use Rattle.protocol.specs.Base.{all_below}
use Rattle.protocol.specs.Record.{votes, adjusts}
use Rattle.protocol.specs.Step.{close_early}

-- all_spoken, of a phase's numbers: there is a choice and all n latest frames name it
abbrev pub spoken_by : PhaseRow → ℕ → Bool
spoken_by w n = not (eqb w.choice 0) && all_below (min n 16) (λ q. eqb (get_or w.latest q 0) w.choice)

-- the test at the end of an action, if it is made
abbrev pub closes : HeadRecord → HeadRecord
closes r = close_early adjusts true (close_early votes true r)
