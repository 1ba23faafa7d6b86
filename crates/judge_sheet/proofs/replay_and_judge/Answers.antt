use Rattle.judge_run.proofs.Ready.{has_two, first_fits, ready}
use Rattle.judge_sheet.proofs.Ends.{few_heads, turned_back, whole_run}
use Rattle.judge_sheet.proofs.Claims.{reported}
use native.Mathlib.Omega.{arith}
use Rattle.judge_sheet.proofs.replay_and_judge.Goals as goal

pub setting_at-g-requires : goal.setting_at-g-requires
setting_at-g-requires c = has_two _ _ c.sheet_verdict.ensures c.in-Ok.is

pub entry_count-requires : goal.entry_count-requires
entry_count-requires c = has_two _ _ c.sheet_verdict.ensures c.in-Ok.is

pub run-judged-requires : goal.run-judged-requires
run-judged-requires c =
    let verdict = c.sheet_verdict.ensures in
    ready _ _ verdict c.in-Ok.is (c.new-pass.ensures _ (first_fits _ _ verdict c.in-Ok.is) c.setting_at-g.ensures) _ (omega (arith, c.entry_count.ensures))

pub replay_of-replayed-requires : goal.replay_of-replayed-requires
replay_of-replayed-requires c = few_heads _ _ c.sheet_verdict.ensures c.in-Ok.is _ c.setting_at-g.ensures

pub returns-in-Err : goal.returns-in-Err
returns-in-Err c = reported _ _ _ _ (turned_back _ _ c.sheet_verdict.ensures _ _ c.in-Err.is)

pub returns-in-Ok : goal.returns-in-Ok
returns-in-Ok c = reported _ _ _ _ (whole_run _ _ c.sheet_verdict.ensures c.in-Ok.is _ c.setting_at-g.ensures _ c.entry_count.ensures _ _ c.run-judged.ensures _ _ _ c.replay_of-replayed.ensures)
