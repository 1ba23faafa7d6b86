use mathlib.Core.Path.{refl, ◌∙◌}
use Rattle.protocol.specs.Premises.{premise5, premise6, premise7, premise8}
use Rattle.judge_run.proofs.Pass.first_broken.Goals as goal

pub returns : goal.returns
unfolding premise5 premise6 premise7 premise8
returns c = λ ws i s S is found.
    c.first_broken.ensures ∙ rw (c.premise_1.ensures, found.steady_is, found.in_time_is, c.premise_4.ensures ws i s S is, found.votes_are, found.adjusts_are) refl
