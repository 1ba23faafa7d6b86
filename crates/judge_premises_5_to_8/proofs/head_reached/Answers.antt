use mathlib.Core.Path.{refl, sym, ◌∙◌}
use Rattle.protocol.proofs.Tests.{absurd_bool}
use Rattle.judge_premise_3.proofs.Accepted.{few_heads}
use Rattle.judge_premises_5_to_8.proofs.Reached.{p_low, votes_by_row, adjusts_by_row}
use Rattle.judge_premises_5_to_8.proofs.head_reached.Goals as goal
use Rattle.judge_premises_5_to_8.proofs.head_reached.Goals.{then-heads-i, else-heads-i}

pub returns-then-own_start_reached : goal.returns-then-own_start_reached
returns-then-own_start_reached c =
    let A = c.args in
    let i-is = c.head_index-i.ensures in
    λ ws j s S g-is sets times correct unclosed.
    elim c.if-heads-i.branch [
      | then-heads-i w ↦
          let start = w.own_start_reached.ensures s times (p_low S g-is A.p correct _ i-is) (few_heads S g-is) in
          rw c.in-Votes.is (sym (votes_by_row S g-is A.p correct _ i-is sets (rw c.in-Votes.is at unclosed)
          ∙ rw (← c.has.ensures, w.if-heads-i.true, ← start, ← w.value-is, c.if-own_start_reached.true) (sym c.has_reached.ensures)))
      | else-heads-i w ↦ absurd_bool c.if-own_start_reached.true (w.value-is ∙ w.if-heads-i.false)
    ]

pub returns-else-own_start_reached : goal.returns-else-own_start_reached
returns-else-own_start_reached c =
    let A = c.args in
    let i-is = c.head_index-i.ensures in
    λ ws j s S g-is sets times correct unclosed.
    elim c.if-heads-i.branch [
      | then-heads-i w ↦
          let start = w.own_start_reached.ensures s times (p_low S g-is A.p correct _ i-is) (few_heads S g-is) in
          rw c.in-Votes.is (c.if-own_start_reached.false ∙ sym (votes_by_row S g-is A.p correct _ i-is sets (rw c.in-Votes.is at unclosed)
          ∙ rw (← c.has.ensures, w.if-heads-i.true, ← start, ← w.value-is, c.if-own_start_reached.false) refl))
      | else-heads-i w ↦
          rw c.in-Votes.is (c.if-own_start_reached.false ∙ sym (votes_by_row S g-is A.p correct _ i-is sets (rw c.in-Votes.is at unclosed)
          ∙ rw (← c.has.ensures, w.if-heads-i.false) refl))
    ]

pub returns-then-has-heads : goal.returns-then-has-heads
returns-then-has-heads c =
    λ ws j s S g-is sets times correct unclosed.
    rw c.in-Adjusts.is (sym (adjusts_by_row S g-is c.args.p correct _ c.head_index-i.ensures sets ∙ rw (← c.has-in-Adjusts.ensures, c.if-has-heads.true) (sym c.has_reached-then-has-heads.ensures)))

pub returns-else-has-heads : goal.returns-else-has-heads
returns-else-has-heads c =
    λ ws j s S g-is sets times correct unclosed.
    rw c.in-Adjusts.is (c.if-has-heads.false ∙ sym (adjusts_by_row S g-is c.args.p correct _ c.head_index-i.ensures sets ∙ rw (← c.has-in-Adjusts.ensures, c.if-has-heads.false) refl))
