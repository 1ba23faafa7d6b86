use Rattle.protocol.specs.Record.{no_sender}
use Rattle.protocol.specs.declared.Sender.{Sender}
use Rattle.std.proofs.Common.{◌≡◌, length, sym, ap, arith, rules}
use lib.ListN.{get_or-eq_default}
use Rattle.head_by_value.proofs.ending.start_at.Goals as goal

pub returns-else-p-lt16 : goal.returns-else-p-lt16
returns-else-p-lt16 c =
    let l = c.args.senders in
    let size : length l ≡ 16 = search rules in
    sym (ap (λ (e : Sender). e.start) (get_or-eq_default l no_sender (omega arith)))
