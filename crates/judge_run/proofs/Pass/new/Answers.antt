use Rattle.judge_run.proofs.Loop.{first_keeps}
use Rattle.judge_run.proofs.Pass.new.Goals as goal

pub returns : goal.returns
returns c = λ ws first is. first_keeps ws _ _ _ first is c.fresh_heads.ensures (c.new.ensures c.args.g)
