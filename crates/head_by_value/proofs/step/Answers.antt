use Rattle.std.proofs.Common.{◌≡◌, length, rules}
use Rattle.head_by_value.proofs.Steps.{refused_step, taken_step}
use Rattle.head_by_value.proofs.step.Goals as goal

pub returns : goal.returns
returns c =
    let of = c.row_of-row in
    let args = c.args in
    let long : length of.result.start_readings ≡ 16 = search rules in
    taken_step args.r args.i of.result of.ensures long _ c.row_verdict.ensures
    c.in_default.is _ _ c.act-sent.ensures _ c.record_in.ensures _ c.frame_in.ensures

pub returns-in-Err : goal.returns-in-Err
returns-in-Err c =
    let of = c.row_of-row in
    let args = c.args in
    let long : length of.result.start_readings ≡ 16 = search rules in
    refused_step args.r args.i of.result of.ensures long _ c.row_verdict.ensures _ c.in-Err.is
