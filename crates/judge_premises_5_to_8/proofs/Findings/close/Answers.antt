use mathlib.Core.Path.{refl, sym, ◌∙◌, ap}
use Rattle.protocol.specs.declared.PhaseRow.{PhaseRow}
use Rattle.protocol.proofs.Tests.{not_true, not_false}
use Rattle.sheet_state.specs.Arrays.{event_at}
use Rattle.judge_premises_5_to_8.proofs.Closing.{close_of_faulty, not_after_early, is_correct_close}
use Rattle.judge_premises_5_to_8.proofs.Found.{found_unclosed, found_closed, found_first}
use Rattle.judge_premises_5_to_8.proofs.Findings.close.Goals as goal

pub returns-then-not-is_correct : goal.returns-then-not-is_correct
returns-then-not-is_correct c =
    λ ws i s S g-is is ok act sets times was.
    let faulty = sym c.is_correct.ensures ∙ not_true {b = c.is_correct.result} c.if-not-is_correct.true-raw in
    was ∙ found_unclosed c.args.g (event_at ws i s) s c.args.kind (rw is at act) (close_of_faulty S g-is is ok c.args.kind act _ refl faulty)

pub returns-then-phase-eq1 : goal.returns-then-phase-eq1
returns-then-phase-eq1 c =
    λ ws i s S g-is is ok act sets times was.
    let early = rw c.phase.ensures at c.if-phase-eq1.true in
    was ∙ found_unclosed c.args.g (event_at ws i s) s c.args.kind (rw is at act) (not_after_early S g-is is ok c.args.kind act _ c.head_index.ensures early)

pub returns-then-self : goal.returns-then-self
returns-then-self c =
    λ ws i s S g-is is ok act sets times was.
    let correct = sym c.is_correct.ensures ∙ not_false {b = c.is_correct.result} c.if-not-is_correct.false-raw in
    let still_open = rw c.phase.ensures at c.if-phase-eq1.false in
    rw was (found_closed c.args.g (event_at ws i s) s c.args.kind (rw is at act)
    (is_correct_close S g-is is ok c.args.kind act _ c.head_index.ensures correct still_open) (rw was at c.if-self.true))

pub returns : goal.returns
returns c =
    λ ws i s S g-is is ok act sets times was.
    let correct = sym c.is_correct.ensures ∙ not_false {b = c.is_correct.result} c.if-not-is_correct.false-raw in
    let still_open = rw c.phase.ensures at c.if-phase-eq1.false in
    let unclosed = rw was at c.if-self.false in
    rw (was, c.phase_reached-self.ensures ws i s S g-is sets times unclosed) (found_first c.args.g (event_at ws i s) s c.args.kind (rw is at act)
    (is_correct_close S g-is is ok c.args.kind act _ c.head_index.ensures correct still_open) unclosed)
