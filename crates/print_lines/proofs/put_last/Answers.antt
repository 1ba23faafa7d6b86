-- `put_last`: a number, and the byte behind it.
use Rattle.protocol.specs.Program.{decimal}
use Rattle.print_lines.proofs.Lines.{last_field}
use Rattle.print_lines.proofs.put_last.Goals as goal

pub returns : goal.returns
returns c = last_field c.args.out.now _ _ c.args.at _ _ (decimal c.args.x) c.well_formed.1.0.0 c.put_decimal-p.ensures c.put.ensures
