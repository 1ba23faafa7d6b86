-- `write_slot` meets its contract: a slot is one entry, or the deliveries of a frame.
use mathlib.Core.Path.{refl, sym, ◌∙◌, ap}
use Rattle.protocol.specs.Words.{has_sender}
use Rattle.protocol.specs.Recorder.{entry_in_width}
use Rattle.protocol.proofs.Tests.{or_second}
use Rattle.sheet_draft.proofs.Page.{entry_fits_lem, delivers, acts, one_written}
use native.Mathlib.Omega.{arith}
use Rattle.sheet_draft.proofs.write_slot.Goals as goal

pub write_deliveries-requires : goal.write_deliveries-requires
write_deliveries-requires c =
    let A = c.args in
    let pre = c.requires in
    let sends = ap has_sender (sym c.from.ensures) ∙ sym c.has_sender.ensures ∙ c.if-has_sender.true in
    (pre.0, pre.1, pre.2, pre.3, sends, rw (delivers A.n A.time A.action A.head sends) at pre.4)

pub returns-then-has_sender : goal.returns-then-has_sender
returns-then-has_sender c =
    let A = c.args in
    let sends = ap has_sender (sym c.from.ensures) ∙ sym c.has_sender.ensures ∙ c.if-has_sender.true in
    rw (delivers A.n A.time A.action A.head sends) c.write_deliveries.ensures

pub write_entry-requires : goal.write_entry-requires
write_entry-requires c =
    let A = c.args in
    let pre = c.requires in
    let none = ap has_sender (sym c.from.ensures) ∙ sym c.has_sender.ensures ∙ c.if-has_sender.false in (
      ap entry_in_width c.draft_entry.ensures ∙ entry_fits_lem A.time A.action A.head 0 pre.1 pre.2 pre.3 (omega arith) (or_second (has_sender A.action) _ refl),
      rw (acts A.n A.time A.action A.head none) at pre.4,
    )

pub returns : goal.returns
returns c =
    let A = c.args in
    let none = ap has_sender (sym c.from.ensures) ∙ sym c.has_sender.ensures ∙ c.if-has_sender.false in
    one_written A.n A.time A.action A.head none _ _ _ _ c.draft_entry.ensures c.write_entry.ensures
