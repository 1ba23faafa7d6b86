-- The answer by the verdict, and by the words of the head asked for.
use mathlib.Core.Path.{◌≡◌, sym, ◌∙◌, ap}
use Prim.Native.Nat.{◌+◌, ◌*◌}
use native.Mathlib.Omega.{arith}
use Rattle.protocol.specs.Types.{Accepted, Refused}
use Rattle.protocol.specs.Readers.{tell, PlannedRight}
use Rattle.protocol.proofs.Readers.{answered, plan_right}
use Rattle.std.proofs.lemmas.Result.{err_from_is_err_and}
use Rattle.sheet_plan.proofs.Planned.{read_by, plans}
use Rattle.sheet_plan.proofs.plan.Goals as goal

pub returns : goal.returns
returns c =
    let A = c.args in
    let verdict = read_by A.n A.head A.words.now c.is_head_of.ensures c.kinds_fit-fits.ensures (sym c.in_ok-first_failed.was ∙ c.first_failed.ensures) in
    let first : 4 * A.head + 0 ≡ 4 * A.head = omega arith in
    answered (PlannedRight A.n A.head A.words.now) _ _ (plan_right A.n A.head A.words.now) (plans A.n A.head A.words.now Accepted verdict ∙ ap (tell Accepted) (sym (rw first c.told_in.ensures)))

pub returns-in_err-first_failed : goal.returns-in_err-first_failed
returns-in_err-first_failed c =
    let A = c.args in
    let p = err_from_is_err_and c.from_residual.result c.from_residual.ensures.1 in
    let verdict = read_by A.n A.head A.words.now c.is_head_of.ensures c.kinds_fit-fits.ensures (sym c.in_err-first_failed.was ∙ c.first_failed.ensures) in
    rw (p.1, p.2) (answered (PlannedRight A.n A.head A.words.now) _ _ (plan_right A.n A.head A.words.now) (plans A.n A.head A.words.now (Refused _) verdict))
