-- `print`: the text of the printout, from the buffer's first byte on.
use native.Mathlib.Omega.{arith}
use Rattle.print_text.proofs.Texts.{from_first}
use Rattle.print_replay.proofs.Lengths.{printed_short}
use Rattle.print_replay.proofs.print.Goals as goal

pub returns : goal.returns
returns c =
    let w = rw c.of.ensures.text at c.put.ensures in
    let bound = from_first _ _ _ _ 1024 (printed_short c.args.bytes.now) (omega arith) w in
    (w.0, bound.0, bound.1)
