-- what is left to look at decides of the whole
use mathlib.Core.Path.{◌≡◌}
use lib.Dec.{eqb}
use lib.ListN.{get_or}
use Rattle.protocol.specs.Base.{all_below}
use Rattle.head_early.proofs.all_name.Given as goal

abbrev pub invariant-loop-q : goal.invariant-loop-q
invariant-loop-q l = all_below l.n (λ p. eqb (get_or l.latest p 0) l.choice) ≡ all_below l.q (λ p. eqb (get_or l.latest p 0) l.choice)
