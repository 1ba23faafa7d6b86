-- A number from 16 on shifts all of the 16 bits out.
use Prim.Native.Nat.{◌<◌, ◌^◌}
use native.Mathlib.Nat.{div-eq_of_lt}
use borrow.Author.Rules.{rules}
use borrow.Author.Tests.{le-ltb}
use Rattle.data_words.proofs.Shifts.{below_power}
use Rattle.data_words.proofs.is_correct.Goals as goal

pub returns-else-q-lt16 : goal.returns-else-q-lt16
returns-else-q-lt16 c =
    let small : c.args.g.correct < 2 ^ 16 = search rules in
    simp (le-ltb _ _ c.if-q-lt16.false, div-eq_of_lt (below_power c.args.q small c.if-q-lt16.false))
