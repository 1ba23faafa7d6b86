use mathlib.Core.Path.{refl}
use Rattle.protocol.specs.Step.{closed_by}
use Rattle.protocol.specs.OpenTable.{open_entry, open_actions}
use Rattle.sheet_open.proofs.Table.{as_tested}
use Rattle.sheet_open.proofs.open_actions.Goals as goal

pub returns : goal.returns
unfolding open_actions closed_by
returns c = as_tested open_entry 0 _ refl
