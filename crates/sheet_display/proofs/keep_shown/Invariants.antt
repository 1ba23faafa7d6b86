-- What is noted of the words up to the index; a word that is shown is noted, another passed over.
use lib.ListN.{take}
use Rattle.protocol.specs.Readers.{keep, is_shown}
use Rattle.sheet_display.specs.Shown.{Notes}
use Rattle.sheet_display.proofs.keep_shown.Given as goal

abbrev pub invariant-loop-w : goal.invariant-loop-w
invariant-loop-w l = Notes l.head (keep is_shown (take l.w-index l.words)) l.kept.count l.kept.kinds_fit l.kept.of_head
