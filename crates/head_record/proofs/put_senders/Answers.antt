use Rattle.std.proofs.Common.{◌≡◌, length, arith, rules}
use Rattle.head_record.proofs.Filled.{next_written, all_written}
use Rattle.head_record.proofs.put_senders.Goals as goal

pub loop-i-preserved : goal.loop-i-preserved
loop-i-preserved c = next_written c.args.senders c.args.row.now _ _ _ c.loop-i.invariant c.put_sender.ensures

pub returns : goal.returns
returns c =
    let long : length c.args.senders ≡ 16 = search rules in
    all_written _ long _ _ c.loop-i.i (omega arith) c.loop-i.invariant
