use Rattle.judge_sheet.proofs.Ends.{short_buffer, told_judged, stopped_run, filled_run}
use Rattle.judge_sheet.proofs.replay_of.Goals as goal

pub returns-then-out-n : goal.returns-then-out-n
returns-then-out-n c = short_buffer _ _ _ _ c.if-out-n.true

pub returns-in-Err : goal.returns-in-Err
returns-in-Err c = stopped_run _ _ _ _ c.if-out-n.false _ _ c.in-Err.is

pub returns-in-Ok : goal.returns-in-Ok
returns-in-Ok c = filled_run _ _ _ _ c.if-out-n.false (told_judged _ _ c.in-Ok.is) _ c.write_words.ensures
