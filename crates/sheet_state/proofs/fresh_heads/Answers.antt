use mathlib.Core.Path.{◌≡◌, ap}
use native.Mathlib.Omega.{arith}
use lib.ListN.{replicate}
use Rattle.sheet_state.proofs.Fresh.{none_numbered, one_numbered, all_numbered}
use Rattle.sheet_state.proofs.fresh_heads.Goals as goal

pub loop-q-init : goal.loop-q-init
loop-q-init c = λ g is. none_numbered g _ is

pub loop-q-preserved : goal.loop-q-preserved
loop-q-preserved c = λ g is. one_numbered g c.loop-q.heads _ (omega arith) (c.loop-q.invariant g is)

pub returns : goal.returns
returns c = all_numbered c.args.g _ _ (omega arith) (c.loop-q.invariant c.args.g (ap (replicate 16) c.fresh_row-fresh.ensures))
