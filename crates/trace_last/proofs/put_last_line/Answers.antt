-- `put_last_line`: the line, from the buffer's first byte on.
use native.Mathlib.Omega.{arith}
use Rattle.print_text.proofs.Texts.{from_first}
use Rattle.trace_last.proofs.put_last_line.Goals as goal

pub returns : goal.returns
returns c =
    let w = rw c.last_line.ensures.text at c.put.ensures in
    let bound = from_first _ _ _ _ 64 (rw c.last_line.ensures.text at c.last_line.ensures.short) (omega arith) w in
    (w.0, bound.0, bound.1)
