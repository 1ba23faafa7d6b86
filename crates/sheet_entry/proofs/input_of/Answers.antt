use mathlib.Core.Path.{◌∙◌}
use Rattle.sheet_entry.proofs.Inputs.{vote_input, adjust_input, plain_input}
use borrow.Author.Rules.{rules}
use Rattle.sheet_entry.proofs.input_of.Goals as goal

pub returns-in-5 : goal.returns-in-5
returns-in-5 c =
    λ ws i s heads now kept is.
    c.input_with.ensures ∙ vote_input now kept is c.in-5.is _ c.frame_index-j.ensures.0 _ c.vote_reading.ensures

pub returns-in-8 : goal.returns-in-8
returns-in-8 c = λ ws i s heads now kept is. c.input_with-in-8.ensures ∙ adjust_input now kept is c.in-8.is _ c.frame_index-j.ensures.0

pub returns-in_default : goal.returns-in_default
returns-in_default c = λ ws i s heads now kept is. c.input_with-in_default.ensures ∙ plain_input now kept is c.in_default.in_default-own.rest.0.1 c.in_default.in_default-own.rest.1
