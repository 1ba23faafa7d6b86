use Rattle.protocol.specs.Words.{setting_at}
use Rattle.protocol.specs.Run.{run_of}
use Rattle.judge_run.specs.Pass.{Keeps}
use Rattle.judge_run.specs.Where.{TellsWhere}
use Rattle.judge_run.proofs.Pass.broken_at.Given as goal

abbrev pub invariant-loop-i : goal.invariant-loop-i
invariant-loop-i l = record { keeps : Keeps l.sheet l.i l.self; not_yet : TellsWhere (setting_at l.sheet) (run_of l.sheet l.i) l.premise l.i }
