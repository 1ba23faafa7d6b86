use mathlib.Core.Path.{sym, ◌∙◌}
use Rattle.data_sets.proofs.Loops.{all_until}
use Rattle.judge_end.proofs.Ended.{is_ended, ended_more, not_ended, premise_4_is}
use Rattle.judge_end.proofs.premise_4.Goals as goal

pub returns-then-is_correct-has_ended : goal.returns-then-is_correct-has_ended
returns-then-is_correct-has_ended c =
    λ ws i s stands is.
    let A = c.args in
    sym (not_ended A.g A.heads.now c.loop-q.q c.is_correct.ensures c.head_index.ensures c.has_ended.ensures c.if-is_correct-has_ended.true c.loop-q-test.true) ∙ premise_4_is stands is

pub loop-q-preserved : goal.loop-q-preserved
loop-q-preserved c =
    let A = c.args in
    ended_more A.g A.heads.now c.loop-q.q c.is_correct.ensures c.head_index.ensures c.has_ended.ensures c.if-is_correct-has_ended.false c.loop-q.invariant

pub returns : goal.returns
returns c =
    λ ws i s stands is.
    let A = c.args in
    let L = c.loop-q in
    sym (all_until A.g.n L.q (is_ended A.g A.heads.now) L.auto.q-end c.loop-q-test.false L.invariant) ∙ premise_4_is stands is
