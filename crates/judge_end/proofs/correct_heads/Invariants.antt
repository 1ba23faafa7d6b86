use mathlib.Core.Path.{◌≡◌}
use Prim.Native.Nat.{◌≤◌}
use Rattle.protocol.specs.Base.{count_below}
use Rattle.protocol.specs.Words.{is_correct}
use Rattle.judge_end.proofs.correct_heads.Given as goal

abbrev pub invariant-loop-q : goal.invariant-loop-q
invariant-loop-q l = record { few : l.k ≤ l.q; count_is : l.k ≡ count_below l.q (is_correct l.g) }
