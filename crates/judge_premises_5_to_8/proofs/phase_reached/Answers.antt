use mathlib.Core.Path.{sym, ◌∙◌}
use Rattle.protocol.specs.Base.{◌⇒◌}
use Rattle.protocol.specs.Words.{is_correct}
use Rattle.protocol.proofs.Tests.{not_true, not_false}
use Rattle.data_sets.proofs.Loops.{all_more, all_fails, all_until, if_true, if_false}
use Rattle.judge_premises_5_to_8.specs.Closes.{head_reached}
use Rattle.judge_premises_5_to_8.proofs.Reached.{phase_by_heads}
use Rattle.judge_premises_5_to_8.proofs.phase_reached.Goals as goal
use Rattle.judge_premises_5_to_8.proofs.phase_reached.Goals.{else-is_correct-via-then-is_correct+else-not-head_reached, else-is_correct-via-else-is_correct}

pub returns-then-not-head_reached : goal.returns-then-not-head_reached
returns-then-not-head_reached c =
    let A = c.args in
    λ ws i s S g-is sets times unclosed.
    let correct = sym c.is_correct.ensures ∙ c.if-is_correct.true in
    sym (phase_by_heads A.g A.kind s
    ∙ all_fails A.g.n c.loop-p.p (λ q. is_correct A.g q ⇒ head_reached A.g A.kind s q) c.loop-p-test.true
    (if_true _ _ correct ∙ sym (c.head_reached.ensures ws i s S g-is sets times correct unclosed) ∙ not_true {b = c.head_reached.result} c.if-not-head_reached.true-raw))

pub returns : goal.returns
returns c =
    let A = c.args in
    λ ws i s S g-is sets times unclosed.
    sym (phase_by_heads A.g A.kind s
    ∙ all_until A.g.n c.loop-p.p (λ q. is_correct A.g q ⇒ head_reached A.g A.kind s q) c.loop-p.auto.p-end c.loop-p-test.false
    (c.loop-p.invariant ws i s S g-is sets times unclosed))

pub loop-p-preserved : goal.loop-p-preserved
loop-p-preserved c =
    let A = c.args in
    λ ws i s S g-is sets times unclosed.
    all_more c.loop-p.p (λ q. is_correct A.g q ⇒ head_reached A.g A.kind s q)
    (c.loop-p.invariant ws i s S g-is sets times unclosed)
    (elim c.else-is_correct.branch [
      | else-is_correct-via-then-is_correct+else-not-head_reached w ↦
          let correct = sym c.is_correct.ensures ∙ w.if-is_correct.true in
          if_true _ _ correct ∙ sym (w.head_reached.ensures ws i s S g-is sets times correct unclosed) ∙ not_false {b = w.head_reached.result} w.if-not-head_reached.false-raw
      | else-is_correct-via-else-is_correct w ↦ if_false _ _ (sym c.is_correct.ensures ∙ w.if-is_correct.false)
    ])
