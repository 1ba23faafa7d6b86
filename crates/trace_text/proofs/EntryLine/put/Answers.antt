-- `put`: the nine fields of the line, and the newline.
use mathlib.Core.List.{[], ◌∷◌}
use Rattle.protocol.specs.Program.{decimal}
use Rattle.print_lines.proofs.Lines.{field_then, last_field}
use Rattle.trace_text.specs.Text.{choice_text, early_text, line_text}
use Rattle.trace_text.proofs.EntryLine.put.Goals as goal

pub returns : goal.returns
unfolding line_text
returns c =
    let x = c.args.self in
    let t = decimal x.time in
    let h = decimal x.head in
    let n = decimal x.action in
    let k = choice_text x.candidate in
    let a = choice_text x.adjuster in
    let j = choice_text x.adjustment in
    let o = decimal x.outcome in
    let y = early_text x.early.votes x.early.adjusts in
    field_then c.args.out.now _ _ c.args.at _ _ (decimal x.index) t (h ∷ n ∷ k ∷ a ∷ j ∷ o ∷ y ∷ []) c.well_formed.1.0.0 c.put_field-p.ensures (λ l.
    field_then _ _ _ _ _ _ t h (n ∷ k ∷ a ∷ j ∷ o ∷ y ∷ []) l c.put_field-p-2.ensures (λ l.
    field_then _ _ _ _ _ _ h n (k ∷ a ∷ j ∷ o ∷ y ∷ []) l c.put_field-p-3.ensures (λ l.
    field_then _ _ _ _ _ _ n k (a ∷ j ∷ o ∷ y ∷ []) l c.put_field-p-4.ensures (λ l.
    field_then _ _ _ _ _ _ k a (j ∷ o ∷ y ∷ []) l c.put_choice-p.ensures (λ l.
    field_then _ _ _ _ _ _ a j (o ∷ y ∷ []) l c.put_choice-p-2.ensures (λ l.
    field_then _ _ _ _ _ _ j o (y ∷ []) l c.put_choice-p-3.ensures (λ l.
    field_then _ _ _ _ _ _ o y [] l c.put_field-p-5.ensures (λ l.
    last_field _ _ _ _ _ _ y l (rw (c.as_bytes.ensures.value, c.early_word.ensures) at c.put_text-p.ensures) c.put.ensures))))))))
