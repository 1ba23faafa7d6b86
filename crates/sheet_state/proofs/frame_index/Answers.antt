use borrow.Author.Tests.{eq-eqb, ne_eqb}
use native.Mathlib.Omega.{arith}
use borrow.Author.Rules.{rules}
use Rattle.sheet_state.proofs.frame_index.Goals as goal

pub returns-then-a-eq8 : goal.returns-then-a-eq8
returns-then-a-eq8 c = (simp (eq-eqb _ _ c.if-a-eq8.true), omega arith)

pub returns-else-a-eq8 : goal.returns-else-a-eq8
returns-else-a-eq8 c = (simp (ne_eqb _ _ c.if-a-eq8.false), omega arith)
