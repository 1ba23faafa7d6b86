use mathlib.Core.Path.{◌≡◌}
use Prim.Native.Nat.{ℕ, ◌<◌}
use lib.ListN.{length, get_or}
use Rattle.protocol.specs.Program.{big_endian}
use Rattle.data_bytes.proofs.big_endian.Given as goal

abbrev pub invariant-loop-i : goal.invariant-loop-i
invariant-loop-i l = (length l.words ≡ 12290) × ((k : ℕ) → k < l.i → get_or l.words k 0 ≡ get_or (big_endian l.bytes) k 0)
