use Rattle.board_c.proofs.Rows.{result_read, not_in_range}
use borrow.Author.Rules.{rules}
use Rattle.board_c.proofs.daisarnica_result.Goals as goal

pub returns-then-row_in_range : goal.returns-then-row_in_range
returns-then-row_in_range c = result_read _ _ c.row_in_range.ensures c.sized.ensures c.if-row_in_range.true _ c.result_numbers.ensures

pub returns-else-row_in_range : goal.returns-else-row_in_range
returns-else-row_in_range c = not_in_range _ _ c.row_in_range.ensures c.if-row_in_range.false
