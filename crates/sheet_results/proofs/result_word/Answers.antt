-- `result_word`: a word of the slice, or none.
use mathlib.Core.Path.{sym}
use lib.ListN.{get_or-eq_default}
use Rattle.sheet_results.proofs.result_word.Goals as goal

pub returns-else-at-results : goal.returns-else-at-results
returns-else-at-results c = sym (get_or-eq_default c.args.results.now 0 c.if-at-results.false)
