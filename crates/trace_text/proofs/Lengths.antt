-- How long an entry's line can be.
-- Main result: `entry_short`.
use mathlib.Core.Bool.{Bool, true, false}
use mathlib.Core.List.{[], ◌∷◌}
use Prim.Native.Nat.{ℕ, ◌≤◌}
use native.Mathlib.Omega.{arith}
use lib.ListN.{length}
use Rattle.std.specs.Prelude.{Option, Some, None}
use Rattle.protocol.specs.Program.{decimal}
use Rattle.print_lines.proofs.Lengths.{any_number, length_line}
use Rattle.trace_text.specs.declared.EntryLine.{EntryLine}
use Rattle.trace_text.specs.Text.{choice_text, early_text, line_text}

choice_short : (k : Option ℕ) → length (choice_text k) ≤ 20
choice_short None = omega arith
choice_short (Some k) = any_number k

early_short : (votes adjusts : Bool) → length (early_text votes adjusts) ≤ 6
early_short true true = omega arith
early_short true false = omega arith
early_short false true = omega arith
early_short false false = omega arith

pub entry_short : (x : EntryLine) → length (line_text x) ≤ 175
unfolding line_text
entry_short x =
    let a = any_number x.index in
    let b = any_number x.time in
    let c = any_number x.head in
    let d = any_number x.action in
    let e = choice_short x.candidate in
    let f = choice_short x.adjuster in
    let g = choice_short x.adjustment in
    let h = any_number x.outcome in
    let j = early_short x.early.votes x.early.adjusts in
    rw (length_line
    (decimal x.index ∷ decimal x.time ∷ decimal x.head ∷ decimal x.action ∷ choice_text x.candidate ∷ choice_text x.adjuster
    ∷ choice_text x.adjustment ∷ decimal x.outcome ∷ early_text x.early.votes x.early.adjusts ∷ [])) (omega arith)
