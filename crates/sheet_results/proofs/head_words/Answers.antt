use mathlib.Core.Path.{refl}
use Rattle.sheet_results.proofs.Words.{outcome_is, adjustment_is, start_is, frames_is}
use Rattle.sheet_results.proofs.head_words.Goals as goal

pub returns : goal.returns
returns c =
    λ r is range.
    let words = c.word_6.ensures in
    let result = c.result_numbers.ensures in
    let low = c.requires in
    rw (
      outcome_is _ _ _ _ low result words r is range,
      adjustment_is _ _ _ _ low result words r is range,
      start_is _ _ _ _ low result words r is range,
      frames_is c.args.row.now c.word_9.result (rw (← c.has.ensures, ← c.from-started.ensures) c.word_9.ensures) r is range,
    ) refl
