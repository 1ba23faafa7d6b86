use mathlib.Core.Path.{◌∙◌}
use Rattle.board_c.proofs.Frames.{adopted_correction, no_correction}
use borrow.Author.Rules.{rules}
use Rattle.board_c.proofs.numbers.correction_of.Goals as goal

pub returns-then-x-eq2 : goal.returns-then-x-eq2
returns-then-x-eq2 c = adopted_correction _ c.if-x-eq2.true _ (◌∙◌ {b = c.difference.result} (search rules) c.difference.ensures)

pub returns-else-x-eq2 : goal.returns-else-x-eq2
returns-else-x-eq2 c = no_correction _ c.if-x-eq2.false
