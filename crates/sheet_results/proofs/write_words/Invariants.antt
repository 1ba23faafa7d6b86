-- One head's words more at each turn; the rest of the buffer stays.
use Rattle.sheet_results.specs.Written.{Writes}
use Rattle.sheet_results.proofs.write_words.Given as goal

abbrev pub invariant-loop-q : goal.invariant-loop-q
invariant-loop-q l = Writes l.q l.heads l.initial.out l.out
