use Rattle.sheet_entry.proofs.Frames.{stores_frame, keeps_frames}
use borrow.Author.Rules.{rules}
use Rattle.sheet_entry.proofs.keep_frame.Goals as goal

pub returns-then-x-ge5 : goal.returns-then-x-ge5
returns-then-x-ge5 c =
    λ ws i s heads now kept taken head is.
    stores_frame now kept taken is head c.if-x-ge5.true c.frame_index-j.ensures.0

pub returns-else-x-ge5 : goal.returns-else-x-ge5
returns-else-x-ge5 c = λ ws i s heads now kept taken head is. keeps_frames now kept taken is c.if-x-ge5.false
