-- `put`: the word, the number, and what stands behind it.
use mathlib.Core.List.{[], ◌∷◌}
use Rattle.protocol.specs.Program.{decimal, line, premises_word, refused_word, entry_word, end_word, premises_line, refused_line}
use Rattle.print_lines.proofs.Lines.{field_then}
use Rattle.print_lines.proofs.LastLine.put.Goals as goal

pub returns-in-Premises : goal.returns-in-Premises
unfolding premises_line
returns-in-Premises c =
    let x = c.in-Premises in
    rw x.is (field_then c.args.out.now _ _ c.args.at _ _ premises_word (decimal x.premise) [] c.well_formed.1.0.0 c.put_text-p.ensures (λ h. c.put_last.ensures))

pub returns-in-BrokenAtEnd : goal.returns-in-BrokenAtEnd
unfolding line
returns-in-BrokenAtEnd c =
    let x = c.in-BrokenAtEnd in
    rw x.is
    (field_then c.args.out.now _ _ c.args.at _ _ premises_word (decimal x.premise) (end_word ∷ []) c.well_formed.1.0.0 c.put_text-p-in-BrokenAtEnd.ensures (λ h.
    field_then _ _ _ _ _ _ (decimal x.premise) end_word [] h c.put_field-p.ensures (λ h. c.put_text.ensures)))

pub returns-in-BrokenAt : goal.returns-in-BrokenAt
returns-in-BrokenAt c =
    let x = c.in-BrokenAt in
    rw x.is
    (field_then c.args.out.now _ _ c.args.at _ _ premises_word (decimal x.premise) (entry_word ∷ decimal x.entry ∷ []) c.well_formed.1.0.0 c.put_text-p-in-BrokenAt.ensures (λ h.
    field_then _ _ _ _ _ _ (decimal x.premise) entry_word (decimal x.entry ∷ []) h c.put_field-p-in-BrokenAt.ensures (λ h.
    field_then _ _ _ _ _ _ entry_word (decimal x.entry) [] h c.put_text-p-in-BrokenAt-2.ensures (λ h. c.put_last-in-BrokenAt.ensures))))

pub returns-in-Refused : goal.returns-in-Refused
unfolding refused_line
returns-in-Refused c =
    let x = c.in-Refused in
    rw (x.is, ← c.from.ensures)
    (field_then c.args.out.now _ _ c.args.at _ _ refused_word (decimal c.from.result) (decimal x.place ∷ []) c.well_formed.1.0.0 c.put_text-p-in-Refused.ensures (λ h.
    field_then _ _ _ _ _ _ (decimal c.from.result) (decimal x.place) [] h c.put_field-p-in-Refused.ensures (λ h. c.put_last-in-Refused.ensures)))
