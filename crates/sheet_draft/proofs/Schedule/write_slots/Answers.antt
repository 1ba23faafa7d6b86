use mathlib.Core.Path.{refl}
use Rattle.sheet_draft.proofs.Page.{none_left, next_fits, next_slot}
use native.Mathlib.Omega.{arith}
use borrow.Author.Rules.{rules}
use Rattle.sheet_draft.proofs.Schedule.write_slots.Goals as goal

pub loop-q-init : goal.loop-q-init
loop-q-init c = (refl, record { fit = c.requires.4; same = refl })

pub write_slot-at-requires : goal.write_slot-at-requires
write_slot-at-requires c =
    let A = c.args in
    let pre = c.requires in
    let L = c.loop-q in
    let fit = next_fits A.self.n A.self.spacing A.action L.q A.to L.at.place L.at.time L.out L.invariant.1 c.loop-q-test.true in
    (pre.0, fit.1, pre.2, omega arith, fit.0)

pub overflow_add-at : goal.overflow_add-at
overflow_add-at c =
    let A = c.args in
    let L = c.loop-q in
    let fit = next_fits A.self.n A.self.spacing A.action L.q A.to L.at.place L.at.time L.out L.invariant.1 c.loop-q-test.true in
    search rules

pub loop-q-preserved : goal.loop-q-preserved
loop-q-preserved c =
    let A = c.args in
    let L = c.loop-q in
    (search rules, next_slot A.self.n A.self.spacing A.action L.q A.to L.at.place L.at.time L.out L.invariant.1 c.loop-q-test.true _ _ c.write_slot-at.ensures)

pub returns : goal.returns
returns c =
    let A = c.args in
    let L = c.loop-q in
    none_left A.self.n A.self.spacing A.action L.q A.to L.at.place L.at.time L.out L.invariant.1 c.loop-q-test.false
