use mathlib.Core.Path.{◌≡◌}
use mathlib.Core.Bool.{true}
use Rattle.protocol.specs.Base.{all_below}
use Rattle.judge_end.proofs.Ended.{is_ended}
use Rattle.judge_end.proofs.premise_4.Given as goal

abbrev pub invariant-loop-q : goal.invariant-loop-q
invariant-loop-q l = all_below l.q (is_ended l.g l.heads) ≡ true
