use Rattle.head_step.proofs.Effects.{vote_passed_over, vote_taken_lem}
use Rattle.std.proofs.Common.{rules}
use Rattle.head_step.proofs.actions.vote_delivered.Goals as goal

pub returns-then-passed_over : goal.returns-then-passed_over
returns-then-passed_over c =
    λ lp ls lc y e ly r is fit.
    vote_passed_over _ _ _ _ _ _ _ _ c.head_index.ensures c.has.ensures c.passed_over.ensures
    lp ls lc y e ly r is fit _ c.if-passed_over.true c.no_frame.ensures

pub returns : goal.returns
returns c =
    λ lp ls lc y e ly r is fit.
    vote_taken_lem _ _ _ _ _ _ _ _ c.head_index.ensures c.has.ensures c.passed_over.ensures
    lp ls lc y e ly r is fit _ _ _ c.if-passed_over.false c.take_vote-s.ensures c.close_early.ensures
