-- `draft_sheet` meets its contract: what passes the tests is written, what does not leaves the buffer as it was.
use mathlib.Core.Path.{sym, ◌∙◌}
use Rattle.protocol.proofs.Valid.{heads_fit_lem}
use Rattle.protocol.proofs.Drafts.{fits}
use Rattle.std.proofs.lemmas.Result.{err_from_is_err_and}
use Rattle.sheet_draft.proofs.Sheet.{setting_fits, wrote, turned_back}
use borrow.Author.Tests.{ltb-true}
use native.Mathlib.Omega.{arith}
use borrow.Author.Rules.{rules}
use Rattle.sheet_draft.proofs.draft_sheet.Goals as goal

pub all_correct-requires : goal.all_correct-requires
all_correct-requires c = let x = fits _ _ _ _ _ (sym c.draft_verdict.ensures ∙ c.in_ok-draft_verdict.was) in (heads_fit_lem _ _ x.heads).1

pub write_setting-requires : goal.write_setting-requires
write_setting-requires c =
    let x = fits _ _ _ _ _ (sym c.draft_verdict.ensures ∙ c.in_ok-draft_verdict.was) in
    let h = heads_fit_lem _ _ x.heads in
    let room = x.enough in
    (setting_fits _ _ _ h.1 h.2 c.all_correct.ensures.1, omega arith)

pub overflow_cast-n : goal.overflow_cast-n
overflow_cast-n c =
    let A = c.args in
    let x = fits _ _ _ _ _ (sym c.draft_verdict.ensures ∙ c.in_ok-draft_verdict.was) in
    let h = heads_fit_lem A.n A.f x.heads in search rules

pub write_round-requires : goal.write_round-requires
write_round-requires c =
    let x = fits _ _ _ _ _ (sym c.draft_verdict.ensures ∙ c.in_ok-draft_verdict.was) in
    let h = heads_fit_lem _ _ x.heads in
    let room = x.enough in
    (h.0, h.1, ltb-true _ _ x.in_time_lem, search rules)

pub returns : goal.returns
returns c =
    let A = c.args in
    wrote A.n A.f A.first A.spacing A.out.now _ _ _ (sym c.draft_verdict.ensures ∙ c.in_ok-draft_verdict.was)
    c.all_correct.ensures.0 c.write_setting.ensures c.write_round.ensures

pub returns-in_err-draft_verdict : goal.returns-in_err-draft_verdict
returns-in_err-draft_verdict c =
    let A = c.args in
    let p = err_from_is_err_and c.from_residual.result c.from_residual.ensures.1 in
    rw (p.1, p.2) (turned_back A.n A.f A.first A.spacing A.out.now _ (sym c.draft_verdict.ensures ∙ c.in_err-draft_verdict.was))
