use Rattle.judge_premises_5_to_8.proofs.ReceiverSets.{frame_received}
use Rattle.judge_premises_5_to_8.proofs.Receivers.delivered.Goals as goal

pub returns : goal.returns
returns c = λ ws i s k is act sets. frame_received ws i s c.args.e k c.args.self.now.0 _ _ is act sets c.frame_index-j.ensures.0 c.with_head.ensures
