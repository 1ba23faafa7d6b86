use Rattle.judge_sheet.proofs.Claims.{claim}
use Rattle.judge_sheet.proofs.judge.Goals as goal

pub returns : goal.returns
returns c = let says = c.replay_and_judge-report.ensures.1 in (says, claim _ _ says)
