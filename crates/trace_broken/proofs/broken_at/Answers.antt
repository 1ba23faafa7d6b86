-- `broken_at`: the pass over the entries of a sheet that passes causes 1 to 4.
use Rattle.judge_run.proofs.Ready.{has_two, first_fits, ready}
use Rattle.judge_run.proofs.Where.{of_sheet, turned_back}
use native.Mathlib.Omega.{arith}
use Rattle.trace_broken.proofs.broken_at.Goals as goal

pub setting_at-requires : goal.setting_at-requires
setting_at-requires c = has_two _ _ c.sheet_verdict.ensures c.in-Ok.is

pub entry_count-requires : goal.entry_count-requires
entry_count-requires c = has_two _ _ c.sheet_verdict.ensures c.in-Ok.is

pub broken_at-requires : goal.broken_at-requires
broken_at-requires c =
    let verdict = c.sheet_verdict.ensures in
    ready _ _ verdict c.in-Ok.is (c.new-pass.ensures _ (first_fits _ _ verdict c.in-Ok.is) c.setting_at.ensures) _ (omega (arith, c.entry_count.ensures))

pub returns-in-Err : goal.returns-in-Err
returns-in-Err c = turned_back _ _ _ c.sheet_verdict.ensures _ c.in-Err.is _

pub returns-in-Ok : goal.returns-in-Ok
returns-in-Ok c = of_sheet _ _ _ c.sheet_verdict.ensures c.in-Ok.is _ c.entry_count.ensures c.broken_at.ensures
