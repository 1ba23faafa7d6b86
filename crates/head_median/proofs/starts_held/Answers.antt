use mathlib.Core.Path.{◌∙◌}
use Rattle.head_median.proofs.Records.{starts_read}
use Rattle.head_median.proofs.starts_held.Goals as goal

pub returns : goal.returns
returns c = λ r is f. (rw c.head_count.ensures at c.readings_below.ensures) ∙ starts_read c.args.row.now r is f
