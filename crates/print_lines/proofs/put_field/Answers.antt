-- `put_field`: a number, and the byte behind it.
use mathlib.Core.List.{[], ◌∷◌}
use Rattle.protocol.specs.Program.{decimal}
use Rattle.print_text.proofs.Texts.{then}
use Rattle.print_lines.proofs.put_field.Goals as goal

pub returns : goal.returns
returns c = then c.args.out.now _ _ c.args.at _ _ (decimal c.args.x) (32 ∷ []) c.well_formed.1.0.0 c.put_decimal-p.ensures c.put.ensures
