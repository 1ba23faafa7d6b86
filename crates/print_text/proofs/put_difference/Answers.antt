-- `put_difference`: the sign, then the distance.
use mathlib.Core.List.{[], ◌∷◌}
use Prim.Native.Nat.{◌-◌}
use Rattle.protocol.specs.Program.{decimal}
use Rattle.print_text.proofs.Texts.{then}
use Rattle.print_text.proofs.Digits.{negative, positive}
use Rattle.print_text.proofs.put_difference.Goals as goal

pub returns-then-a-b : goal.returns-then-a-b
returns-then-a-b c =
    rw (← negative c.args.a c.args.b c.if-a-b.true)
    (then c.args.out.now _ _ c.args.at _ _ (45 ∷ []) (decimal (c.args.b - c.args.a)) c.well_formed.0.0 c.put-p.ensures c.put_decimal.ensures)

pub returns-else-a-b : goal.returns-else-a-b
returns-else-a-b c = rw (← positive c.args.a c.args.b c.if-a-b.false) c.put_decimal-else-a-b.ensures
