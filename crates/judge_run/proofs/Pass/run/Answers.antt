use native.Mathlib.Omega.{arith}
use Rattle.std.proofs.lemmas.Result.{err_from_is_err_and}
use Rattle.judge_run.proofs.Loop.{pass_refused, pass_ends}
use Rattle.judge_run.proofs.Pass.run.Goals as goal

pub take-requires : goal.take-requires
take-requires c = let p = c.requires in (omega (arith, p.0, c.loop-i-test.true), p.1, c.loop-i.invariant, c.open_actions-table.ensures)

pub returns : goal.returns
returns c = pass_ends c.loop-i.invariant c.loop-i.auto.i-end c.loop-i-test.false c.first_broken.ensures

pub returns-in_err-take : goal.returns-in_err-take
returns-in_err-take c =
    let p = err_from_is_err_and c.from_residual.result c.from_residual.ensures.1 in
    rw (p.1, p.2) (pass_refused c.args.sheet.now c.loop-i.i c.args.count _ _ c.in_err-take.ensures c.loop-i-test.true)
