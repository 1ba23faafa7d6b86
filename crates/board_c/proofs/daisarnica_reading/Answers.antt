use mathlib.Core.List.{[], ◌∷◌}
use Prim.Native.Nat.{ℕ}
use Rattle.protocol.specs.Counter.{counted_numbers}
use mathlib.Core.Path.{sym, ◌∙◌, ap}
use borrow.Author.Rules.{rules}
use Rattle.board_c.proofs.daisarnica_reading.Goals as goal

pub returns-in-Ok : goal.returns-in-Ok
returns-in-Ok c =
    let counts = sym c.counter_reading.ensures ∙ c.in-Ok.is in
    ap counted_numbers (sym counts)

pub returns-in-Err : goal.returns-in-Err
returns-in-Err c =
    let far = sym c.counter_reading.ensures ∙ c.in-Err.is in
    ap (λ (k : ℕ). k ∷ 0 ∷ 0 ∷ []) c.from.ensures ∙ ap counted_numbers (sym far)
