-- `write_phase` meets its contract: its four blocks, one after the other, are the phase.
use Rattle.sheet_draft.specs.Page.{page_at}
use Rattle.sheet_draft.proofs.Round.{turn_fits, frame_fits, turns_fit, frames_fit, phase_done}
use native.Mathlib.Omega.{arith}
use Rattle.sheet_draft.proofs.Schedule.write_phase.Goals as goal

pub write_slots-requires : goal.write_slots-requires
write_slots-requires c =
    let A = c.args in
    let pre = c.requires in
    (pre.0, pre.1, omega arith, omega arith, turn_fits A.self.n A.self.spacing A.turn A.delivery (page_at A.at.now A.out.now) pre.4)

pub write_slots-requires-2 : goal.write_slots-requires-2
write_slots-requires-2 c =
    let A = c.args in
    let pre = c.requires in
    (pre.0, pre.1, omega arith, omega arith, frame_fits A.self.n A.self.spacing A.turn A.delivery (page_at A.at.now A.out.now) pre.4 _ c.write_slots.ensures)

pub write_slots-requires-3 : goal.write_slots-requires-3
write_slots-requires-3 c =
    let A = c.args in
    let pre = c.requires in (
      pre.0,
      pre.1,
      omega arith,
      omega arith,
      turns_fit A.self.n A.self.spacing A.turn A.delivery (page_at A.at.now A.out.now) pre.4 _ c.write_slots.ensures _ c.write_slots-2.ensures,
    )

pub write_slots-requires-4 : goal.write_slots-requires-4
write_slots-requires-4 c =
    let A = c.args in
    let pre = c.requires in (
      pre.0,
      pre.1,
      omega arith,
      omega arith,
      frames_fit A.self.n A.self.spacing A.turn A.delivery (page_at A.at.now A.out.now) pre.4 _ c.write_slots.ensures _ c.write_slots-2.ensures _ c.write_slots-3.ensures,
    )

pub returns : goal.returns
returns c =
    let A = c.args in
    let pre = c.requires in
    phase_done A.self.n A.self.spacing A.turn A.delivery (page_at A.at.now A.out.now) pre.4 _ c.write_slots.ensures _ c.write_slots-2.ensures _ c.write_slots-3.ensures _ c.write_slots-4.ensures
