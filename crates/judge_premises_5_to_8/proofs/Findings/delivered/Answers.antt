use Rattle.sheet_state.specs.Arrays.{event_at}
use Rattle.judge_premises_5_to_8.proofs.Found.{found_delivered}
use Rattle.judge_premises_5_to_8.proofs.Findings.delivered.Goals as goal

pub returns : goal.returns
returns c = λ ws i s k is act was. rw (was, c.is_correct.ensures, is) (found_delivered c.args.g (event_at ws i s) s k (rw is at act))
