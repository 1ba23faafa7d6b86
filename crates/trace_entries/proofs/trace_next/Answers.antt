use mathlib.Core.Path.{refl, sym, ◌∙◌, ap}
use Rattle.protocol.specs.declared.Setting.{Setting}
use Rattle.sheet_open.proofs.Open.{in_table}
use Rattle.trace_entries.proofs.Entries.{sheet_sized, entry_inside, refused_next, accepted_next, ended_next}
use Rattle.trace_entries.proofs.trace_next.Goals as goal

pub entry_count-requires : goal.entry_count-requires
entry_count-requires c = (sheet_sized _ c.requires.0.sheet).0

pub read_entry-r-requires : goal.read_entry-r-requires
read_entry-r-requires c =
    let sheet = c.requires.0.sheet in
    (entry_inside _ sheet c.entry_count.ensures c.if-entry_count-i.false, (sheet_sized _ sheet).1, ap (λ (g : Setting). g.n) c.setting_at.ensures)

pub entry_verdict-requires : goal.entry_verdict-requires
entry_verdict-requires c =
    let p = c.requires in
    let r = c.read_entry-r.ensures in
    (λ fits. in_table p.0.stands r.0 (sym r.1 ∙ fits), p.1)

pub returns-in-Err : goal.returns-in-Err
returns-in-Err c =
    let f = c.requires.0 in
    let says = c.entry_verdict.ensures _ _ f.past f.stands f.time_is c.read_entry-r.ensures.0 c.read_entry-r.ensures.1 in
    refused_next f c.entry_count.ensures c.if-entry_count-i.false _ (sym says ∙ c.in-Err.is)

pub returns-in-Ok : goal.returns-in-Ok
returns-in-Ok c =
    let f = c.requires.0 in
    let e-is = c.read_entry-r.ensures.0 in
    let says = c.entry_verdict.ensures _ _ f.past f.stands f.time_is e-is c.read_entry-r.ensures.1 in
    let accepted = sym says ∙ c.in-Ok.is in
    accepted_next f c.entry_count.ensures c.if-entry_count-i.false accepted
    (c.take_entry.ensures _ _ f.past f.stands f.carries e-is accepted) _ _ _ _ _ e-is c.head_index-h.ensures refl refl c.line_of.ensures

pub returns-then-entry_count-i : goal.returns-then-entry_count-i
returns-then-entry_count-i c = ended_next c.requires.0 c.entry_count.ensures c.if-entry_count-i.true
