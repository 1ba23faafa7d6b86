-- One entry more at each turn.
use mathlib.Core.Path.{◌≡◌}
use Rattle.protocol.specs.Base.{all, table}
use Rattle.protocol.specs.Recorder.{entry_in, entry_in_width, entry_in_range}
use Rattle.sheet_numbers.proofs.test_entries.Given as goal

abbrev pub invariant-loop-i : goal.invariant-loop-i
invariant-loop-i l = (l.in_width ≡ all entry_in_width (table (entry_in l.numbers) 0 l.i)) × (l.in_range ≡ all (entry_in_range l.n) (table (entry_in l.numbers) 0 l.i))
