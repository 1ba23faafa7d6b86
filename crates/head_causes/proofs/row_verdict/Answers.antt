use mathlib.Core.Path.{sym, ◌∙◌}
use Rattle.head_causes.proofs.Verdicts.{out_of_range, does_not_fit, reading_falls, spent_is_taken, is_shut, is_taken_lem}
use borrow.Author.Rules.{rules}
use Rattle.head_causes.proofs.row_verdict.Goals as goal

pub returns-then-not-row_in_range : goal.returns-then-not-row_in_range
returns-then-not-row_in_range c = out_of_range _ c.args.i (sym c.row_in_range.ensures ∙ c.if-not-row_in_range.true)

pub returns-then-not-input_fits : goal.returns-then-not-input_fits
returns-then-not-input_fits c = does_not_fit _ c.args.i (sym c.row_in_range.ensures ∙ c.if-not-row_in_range.false) (sym c.input_fits.ensures ∙ c.if-not-input_fits.true)

pub returns-then-i-row : goal.returns-then-i-row
returns-then-i-row c = reading_falls _ c.args.i (sym c.row_in_range.ensures ∙ c.if-not-row_in_range.false) (sym c.input_fits.ensures ∙ c.if-not-input_fits.false) c.if-i-row.true

pub returns-then-is_spent : goal.returns-then-is_spent
returns-then-is_spent c = spent_is_taken _ c.args.i (sym c.row_in_range.ensures ∙ c.if-not-row_in_range.false) (sym c.input_fits.ensures ∙ c.if-not-input_fits.false) _ c.is_spent.ensures c.if-i-row.false c.if-is_spent.true

pub returns-then-is_closed : goal.returns-then-is_closed
returns-then-is_closed c = is_shut _ c.args.i (sym c.row_in_range.ensures ∙ c.if-not-row_in_range.false) (sym c.input_fits.ensures ∙ c.if-not-input_fits.false) _ c.is_spent.ensures c.if-i-row.false c.if-is_spent.false _ c.is_closed.ensures c.if-is_closed.true

pub returns : goal.returns
returns c = is_taken_lem _ c.args.i (sym c.row_in_range.ensures ∙ c.if-not-row_in_range.false) (sym c.input_fits.ensures ∙ c.if-not-input_fits.false) _ c.is_spent.ensures c.if-i-row.false c.if-is_spent.false _ c.is_closed.ensures c.if-is_closed.false
