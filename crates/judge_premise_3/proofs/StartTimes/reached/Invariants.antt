use Rattle.std.proofs.Common.{◌≡◌, true}
use Rattle.protocol.specs.Base.{all_below}
use Rattle.judge_premise_3.proofs.Times.{is_reached}
use Rattle.judge_premise_3.proofs.StartTimes.reached.Given as goal

abbrev pub invariant-loop-q : goal.invariant-loop-q
invariant-loop-q l = all_below l.q (is_reached l.g l.self.0 l.v) ≡ true
