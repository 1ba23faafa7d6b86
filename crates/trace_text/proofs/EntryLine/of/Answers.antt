-- `of`: the numbers made wider, and the adjustment beside an adjuster.
use Rattle.std.proofs.Common.{ap, ◌∙◌}
use Rattle.trace_text.specs.Text.{choice_text}
use Rattle.trace_text.proofs.Fields.{same_choice, same_number, entry_line}
use Rattle.trace_text.proofs.EntryLine.of.Goals as goal

pub returns-clause-text : goal.returns-clause-text
returns-clause-text c =
    let l = c.args.line in
    entry_line c.args.index l _ _ _ (same_choice _ _ c.map.ensures.cases) (same_choice _ _ c.map-2.ensures.cases)
    (ap choice_text c.and.ensures ∙ same_number l.adjuster l.adjustment.0)
