use borrow.Author.Rules.{rules}
use Rattle.board_c.proofs.numbers.input_in.Goals as goal

pub returns : goal.returns
returns c = simp c.action_in.ensures
