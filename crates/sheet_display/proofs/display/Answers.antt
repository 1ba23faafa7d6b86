-- The answer by the verdict, and by the words of the head asked for.
use mathlib.Core.Path.{sym, ◌∙◌, ap}
use Rattle.protocol.specs.Types.{Accepted, Refused}
use Rattle.protocol.specs.Readers.{tell, ShownRight}
use Rattle.protocol.proofs.Readers.{answered, display_right}
use Rattle.std.proofs.lemmas.Result.{err_from_is_err_and}
use Rattle.sheet_display.proofs.Shown.{of_head, read_by, displays}
use Rattle.sheet_display.proofs.display.Goals as goal

pub returns : goal.returns
returns c =
    let k = c.keep_shown-kept.ensures in
    let A = c.args in
    let verdict = read_by A.n A.head k c.is_head_of.ensures (sym c.in_ok-first_failed.was ∙ c.first_failed.ensures) in
    answered (ShownRight A.n A.head A.words.now) _ _ (display_right A.n A.head A.words.now) (displays A.n A.head A.words.now Accepted verdict ∙ ap (tell Accepted) (sym (c.shown_in.ensures ∙ of_head k)))

pub returns-in_err-first_failed : goal.returns-in_err-first_failed
returns-in_err-first_failed c =
    let k = c.keep_shown-kept.ensures in
    let A = c.args in
    let p = err_from_is_err_and c.from_residual.result c.from_residual.ensures.1 in
    let verdict = read_by A.n A.head k c.is_head_of.ensures (sym c.in_err-first_failed.was ∙ c.first_failed.ensures) in
    rw (p.1, p.2) (answered (ShownRight A.n A.head A.words.now) _ _ (display_right A.n A.head A.words.now) (displays A.n A.head A.words.now (Refused _) verdict))
