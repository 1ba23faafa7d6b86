-- `put_entry_line`: the line, from the buffer's first byte on.
use native.Mathlib.Omega.{arith}
use Rattle.print_text.proofs.Texts.{from_first}
use Rattle.trace_text.proofs.Lengths.{entry_short}
use Rattle.trace_text.proofs.put_entry_line.Goals as goal

pub returns : goal.returns
returns c =
    let w = rw c.of.ensures.text at c.put.ensures in
    let bound = from_first _ _ _ _ 175 (rw c.of.ensures.text at (entry_short c.of.result)) (omega arith) w in
    (w.0, bound.0, bound.1)
