use Rattle.std.proofs.Common.{◌≡◌, sym, ◌∙◌, ap, rules}
use Rattle.protocol.specs.declared.PhaseRow.{PhaseRow}
use Rattle.head_step.proofs.Effects.{spent_close, close_acts}
use Rattle.head_step.proofs.actions.close.Goals as goal

pub returns-then-phase-eq1 : goal.returns-then-phase-eq1
returns-then-phase-eq1 c = spent_close c.args.kind _ _ (ap (λ (p : PhaseRow). p.early) (sym c.phase.ensures) ∙ c.if-phase-eq1.true) c.no_frame.ensures

pub returns : goal.returns
returns c = close_acts _ _ _ c.close_early.ensures _ c.no_frame-2.ensures c.args.kind (rw (← c.phase.ensures) c.if-phase-eq1.false) (rw (← c.close_mark.ensures) c.with-row.ensures)
