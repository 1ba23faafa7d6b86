-- `put_decimal`: one digit, or those of a tenth of the number and then one.
use Rattle.std.proofs.Common.{[], ◌∷◌, ◌+◌, ◌/◌, ◌%◌, arith}
use Rattle.protocol.specs.Program.{decimal}
use Rattle.print_text.proofs.Texts.{then}
use Rattle.print_text.proofs.Digits.{one_digit, more_digits}
use Rattle.print_text.proofs.+put_decimal.Goals as goal

pub returns-then-x-lt10 : goal.returns-then-x-lt10
returns-then-x-lt10 t c = rw (← one_digit c.args.x c.if-x-lt10.true) c.put.ensures

pub returns-else-x-lt10 : goal.returns-else-x-lt10
returns-else-x-lt10 t c =
    rw (← more_digits c.args.x c.if-x-lt10.false (omega arith))
    (then c.args.out.now _ _ c.args.at _ _ (decimal (c.args.x / 10)) ((48 + c.args.x % 10) ∷ []) c.well_formed.0.0 c.put_decimal-p.ensures c.put-else-x-lt10.ensures)
