-- `put_text`: what it has written so far is the front of the text.
use mathlib.Core.Path.{◌≡◌}
use lib.ListN.{length, take}
use Rattle.print_text.proofs.Texts.{Wrote}
use Rattle.print_text.proofs.put_text.Given as goal

abbrev pub invariant-loop-i : goal.invariant-loop-i
invariant-loop-i l = (length l.out ≡ length l.initial.out) × Wrote l.initial.out l.out l.at l.p (take l.i l.text)
