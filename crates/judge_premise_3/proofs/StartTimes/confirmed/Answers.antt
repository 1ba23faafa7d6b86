use Rattle.judge_premise_3.proofs.Accepted.{few_heads, head_small, starts_early}
use Rattle.judge_premise_3.proofs.StartTimes.confirmed.Goals as goal

pub returns : goal.returns
returns c = λ ws i s heads now gs es acc are. c.within.ensures s are (head_small now es) (few_heads now gs) (starts_early now es acc _)
