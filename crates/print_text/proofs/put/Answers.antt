-- `put`: within the buffer, past its end, and at the largest position.
use native.Mathlib.Omega.{arith}
use Rattle.print_text.proofs.Texts.{one_byte, no_room, no_position}
use Rattle.print_text.proofs.put.Goals as goal

pub returns-then-at-out : goal.returns-then-at-out
returns-then-at-out c = one_byte c.args.out.now c.args.at c.args.b (omega (arith, c.well_formed.0.0))

pub returns-then-at-lt-LAST_POSITION : goal.returns-then-at-lt-LAST_POSITION
returns-then-at-lt-LAST_POSITION c = no_room c.args.out.now c.args.at c.args.b c.if-at-out.false c.if-at-lt-LAST_POSITION.true

pub returns-else-at-lt-LAST_POSITION : goal.returns-else-at-lt-LAST_POSITION
returns-else-at-lt-LAST_POSITION c = no_position c.args.out.now c.args.at c.args.b c.if-at-out.false (omega arith) c.if-at-lt-LAST_POSITION.false
