-- `write_sheet` meets its contract: what passes the tests is written, what does not leaves the buffer as it was.
use mathlib.Core.Path.{sym, ◌∙◌}
use Rattle.sheet_numbers.specs.Numbered.{numbered_setting}
use Rattle.sheet_writer.proofs.Words.{wrote, turned_back}
use Rattle.std.proofs.lemmas.Result.{err_from_is_err_and}
use Rattle.sheet_writer.proofs.write_sheet.Goals as goal

pub returns : goal.returns
returns c =
    let A = c.args in
    wrote (numbered_setting A.setting) A.numbers.now A.out.now _ _ (sym c.write_verdict.ensures ∙ c.in_ok-write_verdict.was) c.write_setting.ensures c.write_entries.ensures

pub returns-in_err-write_verdict : goal.returns-in_err-write_verdict
returns-in_err-write_verdict c =
    let A = c.args in
    let p = err_from_is_err_and c.from_residual.result c.from_residual.ensures.1 in
    rw (p.1, p.2)
    (turned_back (numbered_setting A.setting) A.numbers.now A.out.now _ (sym c.write_verdict.ensures ∙ c.in_err-write_verdict.was))
