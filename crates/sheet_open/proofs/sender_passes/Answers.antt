use mathlib.Core.Path.{◌∙◌}
use Rattle.protocol.specs.Record.{votes, adjusts}
use Rattle.sheet_open.proofs.Open.{start_passes, frame_passes, others_pass}
use native.Mathlib.Omega.{arith}
use borrow.Author.Rules.{rules}
use Rattle.sheet_open.proofs.sender_passes.Goals as goal

pub returns-then-a-eq2 : goal.returns-then-a-eq2
returns-then-a-eq2 c = λ ws i s now is. c.has.ensures ∙ start_passes now is _ c.head_index-p.ensures c.if-a-eq2.true

pub returns-then-a-lt5 : goal.returns-then-a-lt5
returns-then-a-lt5 c = λ ws i s now is. let low = c.if-a-lt5.true in others_pass s c.args.e c.if-a-eq2.false (λ z. omega arith) (λ z. omega arith)

pub returns-in-5 : goal.returns-in-5
returns-in-5 c = λ ws i s now is. frame_passes now is votes _ c.head_index-p.ensures c.in-5.is

pub returns-in-8 : goal.returns-in-8
returns-in-8 c = λ ws i s now is. frame_passes now is adjusts _ c.head_index-p.ensures c.in-8.is

pub returns-in_default : goal.returns-in_default
returns-in_default c = λ ws i s now is. others_pass s c.args.e c.if-a-eq2.false c.in_default.in_default-own.rest.0.1 c.in_default.in_default-own.rest.1
