use Rattle.judge_run.specs.Pass.{Keeps}
use Rattle.judge_run.proofs.Pass.run.Given as goal

abbrev pub invariant-loop-i : goal.invariant-loop-i
invariant-loop-i l = Keeps l.sheet l.i l.self
