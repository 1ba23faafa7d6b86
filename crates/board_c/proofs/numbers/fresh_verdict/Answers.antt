use borrow.Author.Tests.{lt-ltb, le-ltb}
use Rattle.protocol.specs.Board.{fresh_verdict}
use borrow.Author.Rules.{rules}
use Rattle.board_c.proofs.numbers.fresh_verdict.Goals as goal

pub returns-then-own-n : goal.returns-then-own-n
unfolding fresh_verdict
returns-then-own-n c = simp (← c.heads_fit.ensures, c.if-not-heads_fit.false, lt-ltb _ _ c.if-own-n.true)

pub returns-else-own-n : goal.returns-else-own-n
unfolding fresh_verdict
returns-else-own-n c = simp (← c.heads_fit.ensures, c.if-not-heads_fit.false, le-ltb _ _ c.if-own-n.false)

pub returns-then-not-heads_fit : goal.returns-then-not-heads_fit
unfolding fresh_verdict
returns-then-not-heads_fit c = simp (← c.heads_fit.ensures, c.if-not-heads_fit.true)
