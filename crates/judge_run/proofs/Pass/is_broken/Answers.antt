use mathlib.Core.Path.{refl}
use Rattle.protocol.specs.Premises.{premise5, premise6, premise7, premise8}
use Rattle.judge_run.proofs.Pass.is_broken.Goals as goal

pub returns-in-5 : goal.returns-in-5
unfolding premise5
returns-in-5 c = λ g s found asked. rw (c.in-5.is, found.votes_are) refl

pub returns-in-6 : goal.returns-in-6
unfolding premise6
returns-in-6 c = λ g s found asked. rw (c.in-6.is, found.votes_are) refl

pub returns-in-7 : goal.returns-in-7
unfolding premise7
returns-in-7 c = λ g s found asked. rw (c.in-7.is, found.adjusts_are) refl

pub returns-in-8 : goal.returns-in-8
unfolding premise8
returns-in-8 c = λ g s found asked. rw (c.in-8.is, found.adjusts_are) refl
