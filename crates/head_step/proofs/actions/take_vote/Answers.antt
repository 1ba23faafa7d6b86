use Rattle.std.proofs.Common.{◌≡◌, refl}
use Rattle.head_step.proofs.Effects.{vote_adopted, vote_kept}
use Rattle.head_step.proofs.actions.take_vote.Goals as goal

pub returns-then-adopts : goal.returns-then-adopts
returns-then-adopts c =
    λ lp ls lc y e ly r is fit.
    vote_adopted _ _ _ _ _ _ _ _ _ _ _ c.head_index-q.ensures refl c.outranks-adopts.ensures c.names_candidate.ensures
    c.reading_if.ensures refl lp ls lc y e ly r is fit _ _ c.if-adopts.true (rw c.keep.ensures at c.vote.ensures)

pub returns : goal.returns
returns c =
    λ lp ls lc y e ly r is fit.
    rw c.keep.ensures (vote_kept _ _ _ _ _ _ _ _ _ _ _ c.head_index-q.ensures refl c.outranks-adopts.ensures c.names_candidate.ensures
    c.reading_if.ensures refl lp ls lc y e ly r is fit _ c.if-adopts.false c.no_frame.ensures)
