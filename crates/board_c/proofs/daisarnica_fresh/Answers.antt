use Rattle.board_c.proofs.Rows.{fresh_made, fresh_refused}
use borrow.Author.Rules.{rules}
use Rattle.board_c.proofs.daisarnica_fresh.Goals as goal

pub returns : goal.returns
returns c = fresh_made _ _ _ _ _ c.fresh_verdict.ensures c.in_default.is _ c.fresh_row.ensures

pub returns-in-Err : goal.returns-in-Err
returns-in-Err c = fresh_refused _ _ _ _ _ c.fresh_verdict.ensures _ c.in-Err.is _ c.from.ensures
