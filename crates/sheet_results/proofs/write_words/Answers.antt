use mathlib.Core.Path.{refl}
use Prim.Native.Nat.{◌+◌, ◌-◌, ◌*◌}
use Rattle.sheet_results.proofs.Words.{next_head}
use native.Mathlib.Omega.{arith}
use Rattle.sheet_results.proofs.write_words.Goals as goal

pub loop-q-preserved : goal.loop-q-preserved
loop-q-preserved c =
    let L = c.loop-q in next_head L.q (4 * L.q + 4 - 4 * L.q) (omega arith) c.args.out.now L.out _ _ (rw c.copy_from_slice.ensures.after refl) c.args.heads.now (omega arith) L.invariant c.head_words.ensures
