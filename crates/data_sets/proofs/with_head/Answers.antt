use mathlib.Core.Path.{ap}
use Prim.Native.Nat.{◌%◌}
use native.Mathlib.Nat.{mod-lt}
use native.Mathlib.Omega.{arith}
use lib.Bits.{bit_or}
use Rattle.data_sets.proofs.Sets.{one_bit}
use Rattle.data_sets.proofs.with_head.Goals as goal

pub returns : goal.returns
returns c = ap (bit_or c.args.m) (one_bit (c.args.q % 16) (mod-lt c.args.q (omega arith)))
