-- `print_entries`: the rows, the frames sent and the real time are those after the first i entries.
use Rattle.trace_entries.specs.Follows.{Follows}
use Rattle.trace.proofs.print_entries.Given as goal

abbrev pub invariant-loop-i : goal.invariant-loop-i
invariant-loop-i g l = Follows l.sheet l.i l.heads l.choices l.carried l.time
