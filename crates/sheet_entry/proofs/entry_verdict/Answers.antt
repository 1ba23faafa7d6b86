use mathlib.Core.Path.{sym, ◌∙◌}
use mathlib.Core.Bool.{true, false}
use Rattle.protocol.proofs.Tests.{not_false}
use Rattle.sheet_entry.proofs.Verdicts.{bad_entry, time_fell, reading_fell, rest_is_open}
use borrow.Author.Rules.{rules}
use Rattle.sheet_entry.proofs.entry_verdict.Goals as goal

pub returns-then-not-fits : goal.returns-then-not-fits
returns-then-not-fits c = λ ws i s now time is fits. bad_entry now time is fits c.if-not-fits.true-raw

pub returns-then-e-time : goal.returns-then-e-time
returns-then-e-time c = λ ws i s now time is fits. time_fell now time is fits c.if-not-fits.false-raw c.if-e-time.true

pub returns-then-e-heads : goal.returns-then-e-heads
returns-then-e-heads c =
    λ ws i s now time is fits.
    reading_fell now time is fits c.if-not-fits.false-raw c.if-e-time.false _ c.head_index.ensures c.if-e-heads.true

pub is_open-requires : goal.is_open-requires
is_open-requires c = let p = c.requires in (p.0 (not_false c.if-not-fits.false-raw), p.1)

pub returns-then-is_open : goal.returns-then-is_open
returns-then-is_open c =
    λ ws i s now time is fits.
    rest_is_open now time is fits c.if-not-fits.false-raw c.if-e-time.false _ c.head_index.ensures c.if-e-heads.false true (sym (c.is_open.ensures ws i s now is) ∙ c.if-is_open.true)

pub returns : goal.returns
returns c =
    λ ws i s now time is fits.
    rest_is_open now time is fits c.if-not-fits.false-raw c.if-e-time.false _ c.head_index.ensures c.if-e-heads.false false (sym (c.is_open.ensures ws i s now is) ∙ c.if-is_open.false)
