use Rattle.board_c.proofs.Rows.{action_taken, action_refused}
use borrow.Author.Rules.{rules}
use Rattle.board_c.proofs.daisarnica_action.Goals as goal

pub returns : goal.returns
returns c = rw (← c.input_in-i.ensures) (action_taken _ _ c.sized.ensures _ c.row_verdict.ensures c.in_default.is _ _ c.act.ensures _ c.frame_numbers.ensures)

pub returns-in-Err : goal.returns-in-Err
returns-in-Err c = rw (← c.input_in-i.ensures) (action_refused _ _ _ c.row_verdict.ensures _ c.in-Err.is _ c.from.ensures)
