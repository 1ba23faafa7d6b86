use Rattle.std.proofs.Common.{sym, ◌∙◌}
use Rattle.data_sets.proofs.Loops.{all_until}
use Rattle.judge_premise_3.proofs.Times.{is_reached, reached_more, not_reached, all_reached}
use Rattle.judge_premise_3.proofs.StartTimes.reached.Goals as goal

pub loop-q-preserved : goal.loop-q-preserved
loop-q-preserved c =
    let A = c.args in
    let L = c.loop-q in
    reached_more A.g A.self.now.0 A.v L.q c.is_correct.ensures c.at.ensures c.if-is_correct-at.false L.invariant

pub returns-then-is_correct-at : goal.returns-then-is_correct-at
returns-then-is_correct-at c =
    λ s are small few.
    let A = c.args in
    sym (not_reached A.g A.self.now.0 A.v c.loop-q.q c.is_correct.ensures c.at.ensures c.if-is_correct-at.true c.loop-q-test.true)
    ∙ all_reached A.g A.self.now.0 s A.v are small few

pub returns : goal.returns
returns c =
    λ s are small few.
    let A = c.args in
    let L = c.loop-q in
    sym (all_until A.g.n L.q (is_reached A.g A.self.now.0 A.v) L.auto.q-end c.loop-q-test.false L.invariant)
    ∙ all_reached A.g A.self.now.0 s A.v are small few
