use Rattle.head_record.proofs.Frames.{is_start, is_vote, is_adjust, is_none}
use borrow.Author.Rules.{rules}
use Rattle.head_record.proofs.frame_in.Goals as goal

pub returns-in-2 : goal.returns-in-2
returns-in-2 c = is_start _ c.in-2.is

pub returns-in-5 : goal.returns-in-5
returns-in-5 c = is_vote _ _ c.in-5.is (simp (c.reading_in.ensures, c.byte-in-5.ensures, c.byte.ensures))

pub returns-in-8 : goal.returns-in-8
returns-in-8 c = is_adjust _ _ c.in-8.is (simp (c.byte-in-8-2.ensures, c.byte-in-8.ensures))

pub returns-in_default : goal.returns-in_default
returns-in_default c =
    let rest = c.in_default.in_default-own.rest in
    is_none _ rest.0.0.1 rest.0.1 rest.1
