use Rattle.head_result.proofs.Results.{still_open, no_candidate, no_adjuster, no_start, adopted}
use Rattle.head_result.proofs.result_numbers.Goals as goal

pub returns-then-not-has : goal.returns-then-not-has
returns-then-not-has c = still_open _ _ c.has.ensures c.if-not-has.true

pub returns-then-c-eq0 : goal.returns-then-c-eq0
returns-then-c-eq0 c = no_candidate _ _ c.has.ensures c.if-not-has.false c.if-c-eq0.true

pub returns-then-a-eq0 : goal.returns-then-a-eq0
returns-then-a-eq0 c = no_adjuster _ _ c.has.ensures c.if-not-has.false c.if-a-eq0.true

pub returns-then-start-eq0 : goal.returns-then-start-eq0
returns-then-start-eq0 c = no_start _ _ c.has.ensures c.if-not-has.false _ c.head_index.ensures c.if-c-eq0.false c.if-start-eq0.true

pub returns : goal.returns
returns c = adopted _ _ c.has.ensures c.if-not-has.false _ c.head_index.ensures c.if-c-eq0.false c.if-a-eq0.false c.if-start-eq0.false
