use Rattle.std.proofs.Common.{rules}
use Rattle.head_frames.proofs.Sends.{propose_adjusts, propose_waits}
use Rattle.head_frames.proofs.propose.Goals as goal

pub returns-then-may_adjust : goal.returns-then-may_adjust
returns-then-may_adjust c =
    propose_adjusts _ _ c.may_adjust.ensures _ _ _ c.if-may_adjust.true
    c.vote_median-x.ensures c.adjust.ensures

pub returns : goal.returns
returns c = propose_waits _ _ c.may_adjust.ensures _ c.if-may_adjust.false c.no_frame.ensures
