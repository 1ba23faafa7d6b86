-- One entry's words more at each turn; the rest of the buffer stays.
use mathlib.Core.Path.{◌≡◌}
use Rattle.sheet_writer.specs.Buffer.{entries_behind}
use Rattle.sheet_writer.proofs.write_entries.Given as goal

abbrev pub invariant-loop-i : goal.invariant-loop-i
invariant-loop-i l = l.out ≡ entries_behind l.initial.out l.numbers l.i
