use mathlib.Core.Path.{refl}
use borrow.Author.Rules.{rules}
use Rattle.head_record.proofs.row_of.Goals as goal

pub returns : goal.returns
returns c = c.put_senders.ensures c.args.r c.bare_row-row.ensures refl
