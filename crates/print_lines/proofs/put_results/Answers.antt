-- `put_results`: the heads' lines, then that of the premises.
use Rattle.protocol.specs.Program.{head_lines, premises_line}
use Rattle.print_lines.specs.Lines.{result_lines}
use Rattle.print_lines.proofs.Lines.{and_then}
use Rattle.print_lines.proofs.put_results.Goals as goal

pub returns : goal.returns
unfolding result_lines
returns c = and_then c.args.out.now _ _ c.args.at _ _ (head_lines c.args.results.now c.args.n) (premises_line c.args.premise) c.well_formed.1.1.1.0.0 c.put_head_lines-p.ensures (λ h. c.put.ensures)
