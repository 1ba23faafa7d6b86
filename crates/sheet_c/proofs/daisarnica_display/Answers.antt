-- `daisarnica_display` meets its contract: the display's own clauses, its verdict as a number.
use mathlib.Core.Path.{◌∙◌, ap}
use Rattle.protocol.specs.Causes.{verdict_number}
use Rattle.protocol.specs.Readers.{Told}
use Rattle.sheet_c.proofs.daisarnica_display.Goals as goal

pub returns : goal.returns
returns c =
    let D = c.display.ensures in (
      c.verdict_number.ensures ∙ ap verdict_number D.0,
      D.1,
      λ ws h e same low is.
          let right = D.2 ws h e same low is in
          (c.verdict_number.ensures ∙ ap (λ (x : Told). verdict_number x.verdict) right, ap (λ (x : Told). x.numbers) right),
    )
