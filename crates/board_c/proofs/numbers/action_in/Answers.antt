use borrow.Author.Tests.{lt-ltb, le-ltb}
use Rattle.board_c.proofs.numbers.action_in.Goals as goal

pub returns-then-none-lt2 : goal.returns-then-none-lt2
returns-then-none-lt2 c = simp (lt-ltb _ _ c.if-none-lt2.true)

pub returns-else-none-lt2 : goal.returns-else-none-lt2
returns-else-none-lt2 c = simp (le-ltb _ _ c.if-none-lt2.false)
