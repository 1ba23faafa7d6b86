use mathlib.Core.Path.{◌≡◌}
use lib.ListN.{replicate}
use Rattle.protocol.specs.declared.Setting.{Setting}
use Rattle.sheet_state.proofs.Fresh.{fresh_of, Numbered}
use Rattle.sheet_state.proofs.fresh_heads.Given as goal

abbrev pub invariant-loop-q : goal.invariant-loop-q
invariant-loop-q l = (g : Setting) → l.initial.heads ≡ replicate 16 (fresh_of g 0) → Numbered g l.q l.heads
