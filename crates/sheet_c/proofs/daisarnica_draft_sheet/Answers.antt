-- `daisarnica_draft_sheet` meets its contract: the draft's own clauses, its verdict as a number.
use mathlib.Core.Path.{◌∙◌, ap}
use Rattle.protocol.specs.Causes.{verdict_number}
use Rattle.sheet_c.proofs.Zeros.{if_accepted}
use Rattle.sheet_c.proofs.daisarnica_draft_sheet.Goals as goal

pub returns : goal.returns
returns c =
    let D = c.draft_sheet.ensures in (
      c.verdict_number.ensures ∙ ap verdict_number D.0,
      D.1,
      if_accepted _ _ c.verdict_number.ensures D.2,
    )
