use Rattle.head_by_value.proofs.Counts.{counts, too_far}
use Rattle.std.proofs.Common.{rules}
use Rattle.head_by_value.proofs.counter.counter_reading.Goals as goal

pub returns-then-t-lt-TIME_LIMIT : goal.returns-then-t-lt-TIME_LIMIT
returns-then-t-lt-TIME_LIMIT c =
    let args = c.args in
    counts args.counter args.base c.wrapping_sub_u32-t.result (search rules) (search rules) (search rules)
    c.wrapping_sub_u32-t.ensures.value c.if-t-lt-TIME_LIMIT.true

pub returns-else-t-lt-TIME_LIMIT : goal.returns-else-t-lt-TIME_LIMIT
returns-else-t-lt-TIME_LIMIT c =
    let args = c.args in
    too_far args.counter args.base c.wrapping_sub_u32-t.result (search rules) (search rules) (search rules)
    c.wrapping_sub_u32-t.ensures.value c.if-t-lt-TIME_LIMIT.false
