use mathlib.Core.Path.{◌∙◌, ap, ap₂}
use Rattle.sheet_c.specs.Numbers.{answer_numbers, judged_number}
use Rattle.sheet_c.proofs.Places.{replay_place, judge_place}
use Rattle.sheet_c.proofs.Zeros.{agrees_in_numbers}
use Rattle.sheet_c.proofs.daisarnica_replay_and_judge.Goals as goal

pub answer_numbers-requires : goal.answer_numbers-requires
answer_numbers-requires c =
    let A = c.args in
    let R = c.replay_and_judge-report in
    (rw R.ensures.0 (replay_place A.sheet.now A.out.now), rw R.ensures.1 (judge_place A.sheet.now))

pub returns : goal.returns
returns c =
    let A = c.args in
    let R = c.replay_and_judge-report in
    let E = R.ensures in (
      c.judged_number.ensures ∙ ap judged_number E.1,
      c.answer_numbers.ensures ∙ ap₂ answer_numbers E.0 E.1,
      E.2,
      agrees_in_numbers A.sheet.now _ _ _ R.result E.1 c.judged_number.ensures c.answer_numbers.ensures E.3,
    )
