use Rattle.std.proofs.Common.{rules}
use Rattle.head_frames.proofs.Sends.{may_lead_with, may_not_lead}
use Rattle.head_frames.proofs.may_lead.Goals as goal

pub returns-then-waits : goal.returns-then-waits
returns-then-waits c = may_lead_with _ _ c.waits.ensures _ c.if-waits.true c.starts_held.ensures

pub returns-else-waits : goal.returns-else-waits
returns-else-waits c = may_not_lead _ _ c.waits.ensures c.if-waits.false
