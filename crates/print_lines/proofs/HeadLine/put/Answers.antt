-- `put`: the seven fields of the line, and the newline.
use mathlib.Core.List.{[], ◌∷◌}
use lib.IntN.{sub_ℕ}
use Rattle.protocol.specs.Program.{decimal, signed}
use Rattle.print_lines.specs.Lines.{head_text}
use Rattle.print_lines.proofs.Lines.{field_then, last_field}
use Rattle.print_lines.proofs.HeadLine.put.Goals as goal

pub returns : goal.returns
unfolding head_text
returns c =
    let x = c.args.self in
    let o = decimal x.outcome in
    let k = decimal x.candidate in
    let a = decimal x.adjuster in
    let j = decimal x.adjustment in
    let s = decimal x.start in
    let d = signed (sub_ℕ x.adjustment x.start) in
    field_then c.args.out.now _ _ c.args.at _ _ (decimal x.head) o (k ∷ a ∷ j ∷ s ∷ d ∷ []) c.well_formed.1.0.0 c.put_field-p.ensures (λ h.
    field_then _ _ _ _ _ _ o k (a ∷ j ∷ s ∷ d ∷ []) h c.put_field-p-2.ensures (λ h.
    field_then _ _ _ _ _ _ k a (j ∷ s ∷ d ∷ []) h c.put_field-p-3.ensures (λ h.
    field_then _ _ _ _ _ _ a j (s ∷ d ∷ []) h c.put_field-p-4.ensures (λ h.
    field_then _ _ _ _ _ _ j s (d ∷ []) h c.put_field-p-5.ensures (λ h.
    field_then _ _ _ _ _ _ s d [] h c.put_field-p-6.ensures (λ h.
    last_field _ _ _ _ _ _ d h c.put_difference-p.ensures c.put.ensures))))))
