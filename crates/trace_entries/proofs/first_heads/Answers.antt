use Rattle.trace_entries.proofs.Entries.{sheet_sized, first_follows}
use Rattle.trace_entries.proofs.first_heads.Goals as goal

pub setting_at-requires : goal.setting_at-requires
setting_at-requires c = (sheet_sized _ c.requires).0

pub returns : goal.returns
returns c = first_follows _ _ _ c.requires c.setting_at.ensures c.fresh_heads.ensures
