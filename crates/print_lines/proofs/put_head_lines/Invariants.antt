-- `put_head_lines`: what it has written so far are the lines of the heads passed.
use mathlib.Core.Path.{◌≡◌}
use lib.ListN.{length}
use Rattle.protocol.specs.Program.{head_lines}
use Rattle.print_text.proofs.Texts.{Wrote}
use Rattle.print_lines.proofs.put_head_lines.Given as goal

abbrev pub invariant-loop-q : goal.invariant-loop-q
invariant-loop-q l = (length l.out ≡ length l.initial.out) × Wrote l.initial.out l.out l.at l.p (head_lines l.results l.q)
