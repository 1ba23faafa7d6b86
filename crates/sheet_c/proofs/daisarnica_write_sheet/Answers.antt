-- `daisarnica_write_sheet` meets its contract: the writer's own clauses, its verdict as a number.
use mathlib.Core.Path.{◌∙◌, ap}
use Rattle.protocol.specs.Causes.{verdict_number}
use Rattle.sheet_c.proofs.Zeros.{if_accepted}
use Rattle.sheet_c.proofs.daisarnica_write_sheet.Goals as goal

pub returns : goal.returns
returns c =
    let W = c.write_sheet.ensures in (
      c.verdict_number.ensures ∙ ap verdict_number W.0,
      W.1,
      if_accepted _ _ c.verdict_number.ensures W.2,
    )
