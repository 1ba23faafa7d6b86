use mathlib.Core.Path.{◌∙◌}
use Rattle.board_c.proofs.Rows.{correction_read, no_correction_read}
use borrow.Author.Rules.{rules}
use Rattle.board_c.proofs.daisarnica_correction.Goals as goal

pub returns-then-row_in_range : goal.returns-then-row_in_range
returns-then-row_in_range c = correction_read _ _ c.row_in_range.ensures c.sized.ensures c.if-row_in_range.true _ c.result_numbers.ensures _ (λ r is. ◌∙◌ {b = c.correction_of.result} (search rules) (c.correction_of.ensures r is))

pub returns-else-row_in_range : goal.returns-else-row_in_range
returns-else-row_in_range c = no_correction_read _ _ c.row_in_range.ensures c.if-row_in_range.false
