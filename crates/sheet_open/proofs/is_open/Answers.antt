use Rattle.sheet_open.proofs.Open.{at_index, closed_there, open_there}
use borrow.Author.Rules.{rules}
use Rattle.sheet_open.proofs.is_open.Goals as goal

pub open_index-i-requires : goal.open_index-i-requires
open_index-i-requires c = at_index c.args.heads.now c.args.e _ c.head_index-h.ensures c.requires.0

pub returns-then-table-i-eq48 : goal.returns-then-table-i-eq48
returns-then-table-i-eq48 c =
    let p = c.requires in
    λ ws i s now is. closed_there now is _ p.1 p.0 _ _ c.head_index-h.ensures c.open_index-i.ensures.0 c.if-table-i-eq48.true _ c.is_spent.ensures

pub returns : goal.returns
returns c =
    let p = c.requires in
    λ ws i s now is. open_there now is _ p.1 p.0 _ _ c.head_index-h.ensures c.open_index-i.ensures.0 c.if-table-i-eq48.false _ (c.sender_passes.ensures ws i s now is)
