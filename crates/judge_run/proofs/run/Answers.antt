use native.Mathlib.Omega.{arith}
use Rattle.judge_run.proofs.Ready.{has_two, first_fits, ready, run_passes, run_turned_back}
use Rattle.judge_run.proofs.run.Goals as goal

pub setting_at-requires : goal.setting_at-requires
setting_at-requires c = has_two _ _ c.sheet_verdict.ensures c.in-Ok.is

pub entry_count-requires : goal.entry_count-requires
entry_count-requires c = has_two _ _ c.sheet_verdict.ensures c.in-Ok.is

pub returns-in-Err : goal.returns-in-Err
returns-in-Err c = run_turned_back _ _ c.sheet_verdict.ensures _ _ c.in-Err.is _

pub run-judged-requires : goal.run-judged-requires
run-judged-requires c =
    ready _ _ c.sheet_verdict.ensures c.in-Ok.is (c.new-pass.ensures c.args.sheet.now (first_fits _ _ c.sheet_verdict.ensures c.in-Ok.is) c.setting_at.ensures) c.min.result
    (omega (arith, c.min.ensures, c.entry_count.ensures))

pub returns-in-Ok : goal.returns-in-Ok
returns-in-Ok c = run_passes _ _ c.sheet_verdict.ensures c.in-Ok.is c.args.k c.min.result (omega (arith, c.min.ensures, c.entry_count.ensures)) c.run-judged.ensures
