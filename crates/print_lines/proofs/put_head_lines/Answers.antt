-- `put_head_lines`: each turn writes one line more.
use mathlib.Core.Path.{refl, ◌∙◌}
use native.Mathlib.Omega.{arith}
use Rattle.protocol.specs.Program.{head_lines}
use Rattle.print_text.proofs.Texts.{nothing}
use Rattle.print_lines.proofs.Lines.{next_line}
use Rattle.print_lines.proofs.put_head_lines.Goals as goal

pub loop-q-init : goal.loop-q-init
unfolding head_lines
loop-q-init c = (refl, nothing _ _ (omega arith))

pub loop-q-preserved : goal.loop-q-preserved
loop-q-preserved c =
    let l = c.loop-q in
    let w = c.put-p in
    (w.auto.out ∙ l.invariant.0, next_line c.args.results.now c.args.out.now l.out _ c.args.at l.p _ l.q c.well_formed.1.1.0.0 l.invariant.1 (rw c.of.ensures at w.ensures))
