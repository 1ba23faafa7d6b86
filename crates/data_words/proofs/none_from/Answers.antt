-- Nothing is left of the bits exactly where they are below the power.
use Prim.Native.Nat.{◌<◌, ◌^◌}
use borrow.Author.Rules.{rules}
use borrow.Author.Tests.{lt-ltb, le-leb}
use Rattle.data_words.proofs.Shifts.{left_none, below_power}
use Rattle.data_words.proofs.none_from.Goals as goal

pub returns-then-n-ge16 : goal.returns-then-n-ge16
returns-then-n-ge16 c =
    let small : c.args.correct < 2 ^ 16 = search rules in
    simp (le-leb _ _ c.if-n-ge16.true, lt-ltb _ _ (below_power c.args.n small c.if-n-ge16.true))

pub returns-else-n-ge16 : goal.returns-else-n-ge16
returns-else-n-ge16 c = left_none c.args.correct c.args.n
