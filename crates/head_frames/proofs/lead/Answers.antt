use Rattle.std.proofs.Common.{rules}
use Rattle.head_frames.proofs.Sends.{lead_votes, lead_waits}
use Rattle.head_frames.proofs.lead.Goals as goal

pub returns-then-may_lead : goal.returns-then-may_lead
returns-then-may_lead c = lead_votes _ _ c.may_lead.ensures _ _ c.if-may_lead.true c.vote.ensures

pub returns : goal.returns
returns c = lead_waits _ _ c.may_lead.ensures _ c.if-may_lead.false c.no_frame.ensures
