use Rattle.std.proofs.Common.{◌≡◌}
use Rattle.protocol.specs.Words.{is_correct}
use Rattle.judge_premise_3.proofs.Extremes.{earliest, latest}
use Rattle.judge_premise_3.proofs.Times.{time_at}
use Rattle.judge_premise_3.proofs.StartTimes.within.Given as goal

abbrev pub invariant-loop-q : goal.invariant-loop-q
invariant-loop-q l = record { first_is : l.first ≡ earliest (is_correct l.g) (time_at l.self.0 l.v) l.q; last_is : l.last ≡ latest (is_correct l.g) (time_at l.self.0 l.v) l.q }
