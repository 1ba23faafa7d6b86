use mathlib.Core.Path.{sym, ◌∙◌, ap}
use Rattle.protocol.specs.Recorder.{entry_in_width}
use Rattle.protocol.proofs.Tests.{or_first}
use Rattle.sheet_draft.proofs.Page.{entry_fits_lem, none_delivered, all_delivered, has_room, next_delivery, no_delivery_lem}
use native.Mathlib.Omega.{arith}
use Rattle.sheet_draft.proofs.write_deliveries.Goals as goal
use Rattle.sheet_draft.proofs.write_deliveries.Goals.{then-is_receiver, else-is_receiver}

pub loop-q-init : goal.loop-q-init
loop-q-init c = none_delivered _ _ _ _ _ _

pub write_entry-requires : goal.write_entry-requires
write_entry-requires c =
    let A = c.args in
    let pre = c.requires in
    let L = c.loop-q in
    let below = c.loop-q-test.true in (
      ap entry_in_width c.draft_entry.ensures ∙ entry_fits_lem A.time A.action L.q A.sender pre.1 pre.2 (omega arith) pre.3 (or_first _ _ pre.4),
      has_room A.time A.action A.sender A.n A.place A.out.now L.out L.at L.q L.invariant below (sym c.is_receiver.ensures ∙ c.if-is_receiver.true) pre.5,
    )

pub returns : goal.returns
returns c = all_delivered _ _ _ _ _ _ _ _ _ c.loop-q.invariant c.loop-q-test.false

pub loop-q-preserved : goal.loop-q-preserved
loop-q-preserved c =
    let A = c.args in
    let pre = c.requires in
    let L = c.loop-q in
    let below = c.loop-q-test.true in
    let is = c.is_receiver.ensures in
    elim c.if-is_receiver.branch [
      | then-is_receiver w ↦ rw w.at-is (next_delivery A.time A.action A.sender A.n A.place A.out.now L.out L.at L.q L.invariant below (sym is ∙ w.if-is_receiver.true) pre.5 _ _ w.draft_entry.ensures (w.out-is ∙ w.write_entry.ensures))
      | else-is_receiver w ↦ rw (w.out-is, w.at-is) (no_delivery_lem A.time A.action A.sender A.n A.place A.out.now L.out L.at L.q L.invariant below (sym is ∙ w.if-is_receiver.false))
    ]
