use mathlib.Core.Path.{refl}
use Rattle.head_causes.proofs.Verdicts.{by_sender, by_marks_alone}
use borrow.Author.Rules.{rules}
use Rattle.protocol.specs.Step.{closed_by}
use Rattle.head_causes.proofs.is_closed.Goals as goal

pub returns-in-5 : goal.returns-in-5
unfolding closed_by
returns-in-5 c = by_sender c.args.i c.args.own c.args.marks.0 5 refl refl c.in-5.is _ refl

pub returns-in-8 : goal.returns-in-8
unfolding closed_by
returns-in-8 c = by_sender c.args.i c.args.own c.args.marks.0 8 refl refl c.in-8.is _ refl

pub returns-in_default : goal.returns-in_default
returns-in_default c = let r = c.in_default.in_default-own.rest in by_marks_alone c.args.i c.args.own c.args.marks.0 r.0.1 r.1 _ c.closed_by.ensures
