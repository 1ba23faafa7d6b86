-- `line_of_sheet`: one line for each answer of the judge.
use Rattle.std.proofs.Common.{Ok, ap, ◌∙◌}
use Rattle.trace_last.proofs.Last.{kept_line, broken_line_lem, refused_line_lem}
use Rattle.trace_last.proofs.line_of_sheet.Goals as goal

pub returns-in-Ok-None : goal.returns-in-Ok-None
returns-in-Ok-None c = kept_line _ _ c.judge.ensures.0 (c.in-Ok-None.is ∙ ap Ok c.in-Ok-None.field-0-is)

pub returns-in-Ok-Some : goal.returns-in-Ok-Some
returns-in-Ok-Some c = c.broken.ensures ∙ broken_line_lem _ _ c.judge.ensures.0 _ _ (c.in-Ok-Some.is ∙ ap Ok c.in-Ok-Some.field-0-is) c.broken_at.ensures

pub returns-in-Err : goal.returns-in-Err
returns-in-Err c = refused_line_lem _ _ c.judge.ensures.0 _ _ c.in-Err.is
