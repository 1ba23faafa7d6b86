use Rattle.protocol.specs.Base.{count_below}
use Rattle.protocol.specs.Words.{is_correct}
use Rattle.protocol.specs.Premises.{premise1}
use Rattle.judge_end.proofs.Counts.{leb_minus}
use Rattle.judge_end.proofs.premise_1.Goals as goal

pub returns : goal.returns
unfolding premise1
returns c = rw c.correct_heads.ensures.0 (let g = c.args.g in leb_minus g.n (count_below g.n (is_correct g)) g.f)
