use Rattle.std.proofs.Common.{◌≡◌, refl, ◌∙◌, sym, arith}
use Rattle.protocol.specs.Words.{is_correct}
use Rattle.judge_premise_3.proofs.Extremes.{earliest_below, first_more, last_more}
use Rattle.judge_premise_3.proofs.Times.{time_at, within_by_extremes, not_within}
use Rattle.judge_premise_3.proofs.StartTimes.within.Goals as goal
use Rattle.judge_premise_3.proofs.StartTimes.within.Goals.{then-is_correct, else-is_correct}

pub loop-q-preserved : goal.loop-q-preserved
loop-q-preserved c =
    let A = c.args in
    let L = c.loop-q in
    elim c.if-is_correct.branch [
      | then-is_correct w ↦
          let correct = sym w.if-is_correct.true ∙ c.is_correct.ensures in
          record {
            first_is = w.first-is ∙ w.min-first.ensures ∙ first_more (is_correct A.g) (time_at A.self.now.0 A.v) L.q correct w.at-t.ensures L.invariant.first_is;
            last_is = w.last-is ∙ w.max-last.ensures ∙ last_more (is_correct A.g) (time_at A.self.now.0 A.v) L.q correct w.at-t.ensures L.invariant.last_is;
          }
      | else-is_correct w ↦
          let faulty = sym w.if-is_correct.false ∙ c.is_correct.ensures in
          record {
            first_is = w.first-is ∙ first_more (is_correct A.g) (time_at A.self.now.0 A.v) L.q faulty refl L.invariant.first_is;
            last_is = w.last-is ∙ last_more (is_correct A.g) (time_at A.self.now.0 A.v) L.q faulty refl L.invariant.last_is;
          }
    ]

pub overflow_add-result : goal.overflow_add-result
overflow_add-result c =
    let A = c.args in
    let L = c.loop-q in
    record { fits = omega (arith, L.invariant.first_is, c.from.ensures, earliest_below (is_correct A.g) (time_at A.self.now.0 A.v) L.q) }

pub returns-then-first-ne0 : goal.returns-then-first-ne0
returns-then-first-ne0 c =
    λ s are small few early.
    let A = c.args in
    let L = c.loop-q in
    let end : L.q ≡ A.g.n = omega (arith, c.loop-q-test.false) in
    rw c.from.ensures (within_by_extremes A.g A.self.now.0 s A.v are small few early end L.invariant.first_is L.invariant.last_is c.if-first-ne0.true)

pub returns-else-first-ne0 : goal.returns-else-first-ne0
returns-else-first-ne0 c =
    λ s are small few early.
    let A = c.args in
    let L = c.loop-q in
    let end : L.q ≡ A.g.n = omega (arith, c.loop-q-test.false) in
    not_within A.g A.self.now.0 s A.v are small few early end L.invariant.first_is L.invariant.last_is c.if-first-ne0.false
