-- `write_round` meets its contract: its seven blocks, one after the other, are the round.
-- c1 to c9 are the places behind the blocks that begin with actions 1 to 9.
use Rattle.sheet_draft.proofs.Round.{block_asks, fit_1, fit_2, fit_3, fit_4, fit_6, fit_7, fit_9, round_done}
use native.Mathlib.Omega.{arith}
use Rattle.sheet_draft.proofs.write_round.Goals as goal

pub write_slots-requires : goal.write_slots-requires
write_slots-requires c =
    let A = c.args in
    let pre = c.requires in
    block_asks A.n A.first A.spacing pre.0 pre.2 pre.1 (omega arith) (omega arith)
    (fit_1 A.n A.first A.spacing pre.0 pre.2 A.out.now pre.3)

pub write_slots-requires-2 : goal.write_slots-requires-2
write_slots-requires-2 c =
    let A = c.args in
    let pre = c.requires in
    block_asks A.n A.first A.spacing pre.0 pre.2 pre.1 (omega arith) (omega arith)
    (fit_2 A.n A.first A.spacing pre.0 pre.2 A.out.now pre.3 _ c.write_slots.ensures)

pub write_slots-requires-3 : goal.write_slots-requires-3
write_slots-requires-3 c =
    let A = c.args in
    let pre = c.requires in
    block_asks A.n A.first A.spacing pre.0 pre.2 pre.1 (omega arith) (omega arith)
    (fit_3 A.n A.first A.spacing pre.0 pre.2 A.out.now pre.3 _ c.write_slots.ensures _ c.write_slots-2.ensures)

pub write_phase-requires : goal.write_phase-requires
write_phase-requires c =
    let A = c.args in
    let pre = c.requires in
    block_asks A.n A.first A.spacing pre.0 pre.2 pre.1 (omega arith) (omega arith)
    (fit_4 A.n A.first A.spacing pre.0 pre.2 A.out.now pre.3 _ c.write_slots.ensures _ c.write_slots-2.ensures _ c.write_slots-3.ensures)

pub write_slots-requires-4 : goal.write_slots-requires-4
write_slots-requires-4 c =
    let A = c.args in
    let pre = c.requires in
    block_asks A.n A.first A.spacing pre.0 pre.2 pre.1 (omega arith) (omega arith)
    (fit_6 A.n A.first A.spacing pre.0 pre.2 A.out.now pre.3 _ c.write_slots.ensures _ c.write_slots-2.ensures _ c.write_slots-3.ensures _ c.write_phase.ensures)

pub write_phase-requires-2 : goal.write_phase-requires-2
write_phase-requires-2 c =
    let A = c.args in
    let pre = c.requires in
    block_asks A.n A.first A.spacing pre.0 pre.2 pre.1 (omega arith) (omega arith)
    (fit_7 A.n A.first A.spacing pre.0 pre.2 A.out.now pre.3 _ c.write_slots.ensures _ c.write_slots-2.ensures _ c.write_slots-3.ensures _ c.write_phase.ensures _ c.write_slots-4.ensures)

pub write_slots-requires-5 : goal.write_slots-requires-5
write_slots-requires-5 c =
    let A = c.args in
    let pre = c.requires in
    block_asks A.n A.first A.spacing pre.0 pre.2 pre.1 (omega arith) (omega arith)
    (fit_9 A.n A.first A.spacing pre.0 pre.2 A.out.now pre.3 _ c.write_slots.ensures _ c.write_slots-2.ensures _ c.write_slots-3.ensures _ c.write_phase.ensures _ c.write_slots-4.ensures _ c.write_phase-2.ensures)

pub returns : goal.returns
returns c =
    let A = c.args in
    let pre = c.requires in
    round_done A.n A.first A.spacing pre.0 pre.2 A.out.now pre.3 _ c.write_slots.ensures _ c.write_slots-2.ensures _ c.write_slots-3.ensures _ c.write_phase.ensures _ c.write_slots-4.ensures _ c.write_phase-2.ensures _ c.write_slots-5.ensures
