use Rattle.board_c.proofs.Frames.{vote_of_none, vote_of_reading, other_frame}
use borrow.Author.Rules.{rules}
use Rattle.board_c.proofs.numbers.frame_numbers.Goals as goal

pub returns-then-s-eq0 : goal.returns-then-s-eq0
returns-then-s-eq0 c = vote_of_none c.args.s c.if-s-eq5.true c.if-s-eq0.true

pub returns-then-s-eq5 : goal.returns-then-s-eq5
returns-then-s-eq5 c = vote_of_reading c.args.s c.if-s-eq5.true c.if-s-eq0.false

pub returns : goal.returns
returns c = other_frame c.args.s c.if-s-eq5.false
