use native.Mathlib.Omega.{arith}
use Rattle.judge_run.proofs.Loop.{run_refused, found_now}
use Rattle.judge_run.proofs.Where.{before_first, one_on, here, all_kept, refused_anyway}
use Rattle.judge_run.proofs.Pass.broken_at.Goals as goal

pub loop-i-init : goal.loop-i-init
loop-i-init c = record { keeps = c.requires.2; not_yet = before_first _ _ _ }

pub take-requires : goal.take-requires
take-requires c = let p = c.requires in (omega (arith, p.0, c.loop-i-test.true), p.1, c.loop-i.invariant.keeps, c.open_actions-table.ensures)

pub returns-in-Err : goal.returns-in-Err
returns-in-Err c = refused_anyway _ _ _ _ (run_refused _ _ _ _ _ c.in-Err.ensures c.loop-i-test.true)

pub returns-then-is_broken : goal.returns-then-is_broken
returns-then-is_broken c =
    let k = c.in-Ok.ensures in
    here _ _ _ _ c.loop-i.invariant.not_yet k.history k.stands.is_run (c.is_broken.ensures _ _ (found_now k)) c.if-is_broken.true _ c.loop-i-test.true

pub loop-i-preserved : goal.loop-i-preserved
loop-i-preserved c =
    let k = c.in-Ok.ensures in
    record { keeps = k; not_yet = one_on _ _ _ _ c.loop-i.invariant.not_yet k.history k.stands.is_run (c.is_broken.ensures _ _ (found_now k)) c.if-is_broken.false }

pub returns : goal.returns
returns c = all_kept _ _ _ _ _ c.loop-i.auto.i-end c.loop-i-test.false c.loop-i.invariant.not_yet
