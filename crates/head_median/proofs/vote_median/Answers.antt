use native.Mathlib.Omega.{arith}
use Rattle.head_median.proofs.Ranks.{least_above}
use Rattle.head_median.proofs.Records.{no_median_read, odd_read, same_read, least_read}
use Rattle.head_median.proofs.vote_median.Goals as goal

pub returns-then-k-eq0 : goal.returns-then-k-eq0
returns-then-k-eq0 c = no_median_read c.args.row.now _ (rw c.head_count.ensures at c.readings_below-k.ensures) c.if-k-eq0.true

pub returns-then-k-eq1 : goal.returns-then-k-eq1
returns-then-k-eq1 c =
    odd_read c.args.row.now _ _ (rw c.head_count.ensures at c.readings_below-k.ensures) (rw c.head_count.ensures at c.reading_at-lower.ensures.0) c.if-k-eq1.true

pub returns-then-k-readings_below : goal.returns-then-k-readings_below
returns-then-k-readings_below c =
    same_read c.args.row.now _ _ (rw c.head_count.ensures at c.readings_below-k.ensures) (rw c.head_count.ensures at c.reading_at-lower.ensures.0)
    c.if-k-eq0.false c.if-k-eq1.false _ (rw c.head_count.ensures at c.readings_below.ensures) c.if-k-readings_below.true

pub overflow_sub-result : goal.overflow_sub-result
overflow_sub-result c =
    let above = least_above _ _ _ c.reading_at-lower.ensures.1 c.least_from-upper.ensures in
    omega arith

pub returns : goal.returns
returns c =
    least_read c.args.row.now _ _ (rw c.head_count.ensures at c.readings_below-k.ensures) (rw c.head_count.ensures at c.reading_at-lower.ensures.0)
    c.if-k-eq0.false c.if-k-eq1.false _ (rw c.head_count.ensures at c.readings_below.ensures) _ c.if-k-readings_below.false
    (rw c.head_count.ensures at c.least_from-upper.ensures)
