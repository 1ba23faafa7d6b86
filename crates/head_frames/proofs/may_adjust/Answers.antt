use Rattle.std.proofs.Common.{rules}
use Rattle.head_frames.proofs.Sends.{may_adjust_with, may_not_adjust, may_not_adjust_again}
use Rattle.head_frames.proofs.may_adjust.Goals as goal

pub returns-then-row-eq0 : goal.returns-then-row-eq0
returns-then-row-eq0 c = may_adjust_with _ _ c.if-row-ne0.true c.if-row-eq0.true c.votes_held.ensures

pub returns-else-row-eq0 : goal.returns-else-row-eq0
returns-else-row-eq0 c = may_not_adjust_again _ c.if-row-eq0.false

pub returns-else-row-ne0 : goal.returns-else-row-ne0
returns-else-row-ne0 c = may_not_adjust _ c.if-row-ne0.false
