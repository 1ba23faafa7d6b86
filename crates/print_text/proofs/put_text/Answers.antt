-- `put_text`: each turn writes one byte more of the text.
use mathlib.Core.Path.{refl, ◌∙◌}
use lib.Seq.{take_all}
use Rattle.print_text.proofs.Texts.{nothing, next_byte}
use native.Mathlib.Omega.{arith}
use Rattle.print_text.proofs.put_text.Goals as goal

pub loop-i-init : goal.loop-i-init
loop-i-init c = (refl, nothing _ _ (omega arith))

pub loop-i-preserved : goal.loop-i-preserved
loop-i-preserved c =
    let s = c.args in
    let l = c.loop-i in
    (c.put-p.auto.out ∙ l.invariant.0, next_byte s.out.now l.out _ s.at l.p _ l.i s.text.now c.well_formed.0.0 (omega arith) l.invariant.1 c.put-p.ensures)

pub returns : goal.returns
returns c =
    let l = c.loop-i in
    let t = c.args.text.now in
    rw (take_all l.i t c.loop-i-test.false) at l.invariant.1
