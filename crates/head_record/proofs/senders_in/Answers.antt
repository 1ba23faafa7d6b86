use Rattle.std.proofs.Common.{◌≡◌, refl, ◌∙◌, arith, length-set}
use Rattle.protocol.specs.Record.{no_sender}
use Rattle.protocol.specs.Row.{sender_in}
use Rattle.protocol.proofs.Tables.{fill_next}
use Rattle.head_record.specs.Bytes.{cut_sender}
use Rattle.head_record.proofs.Cutting.{first_read, all_read}
use Rattle.head_record.proofs.senders_in.Goals as goal

pub loop-i-init : goal.loop-i-init
loop-i-init c = (refl, first_read c.args.row.now _ c.sender_in-first.ensures)

pub loop-i-preserved : goal.loop-i-preserved
loop-i-preserved c =
    let loop = c.loop-i in
    let row = c.args.row.now in (
      length-set loop.l loop.i _ ∙ loop.invariant.0,
      fill_next (λ p. cut_sender (sender_in row p)) loop.l loop.i _ no_sender (omega (arith, loop.invariant.0)) c.sender_in.ensures loop.invariant.1,
    )

pub returns : goal.returns
returns c =
    let loop = c.loop-i in
    all_read c.args.row.now loop.l loop.invariant.0 (λ p lt. loop.invariant.1 p (omega arith))
