use mathlib.Core.Path.{◌≡◌, sym, ◌∙◌}
use native.Mathlib.Omega.{arith}
use lib.ListN.{length}
use Rattle.head_median.proofs.Counts.{vote_found, none_found}
use Rattle.head_median.proofs.reading_at.Goals as goal

pub returns-then-stands_at : goal.returns-then-stands_at
returns-then-stands_at c =
    let found = vote_found _ _ _ (sym c.stands_at.ensures ∙ c.if-stands_at.true) in
    (c.reading_of.ensures.0 ∙ found.1, c.reading_of.ensures.1 found.0)

pub returns : goal.returns
returns c =
    let end : c.loop-x.x-index ≡ length c.args.readings.now = omega arith in
    (none_found _ _ _ (rw end at c.loop-x.invariant), omega arith)
