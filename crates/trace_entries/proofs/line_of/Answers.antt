use Rattle.trace_entries.proofs.Lines.{line_is}
use Rattle.trace_entries.proofs.line_of.Goals as goal

pub returns : goal.returns
returns c = line_is _ _ _ _ _ _ _ c.number_in.ensures c.number_in-2.ensures c.result_numbers-x.ensures
