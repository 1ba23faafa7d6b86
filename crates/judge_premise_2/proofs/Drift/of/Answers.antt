use mathlib.Core.Path.{ap₂}
use lib.IntN.{ℤ}
use native.Mathlib.Omega.{arith}
use Rattle.judge_premise_2.specs.declared.Drift.{Drift}
use Rattle.judge_premise_2.proofs.Differences.{Bounded, loss_allowed_fits, loss_fits, gain_fits, gain_is, loss_is}
use Rattle.judge_premise_2.proofs.Drift.of.Goals as goal

pub overflow_sub-result-2 : goal.overflow_sub-result-2
overflow_sub-result-2 c =
    let b : Bounded c.args.drift c.args.e.time.0 c.args.e.reading.0 c.args.slack = record { drift = omega arith; time = omega arith; reading = omega arith; slack = omega arith } in
    gain_fits b

pub overflow_sub-result-4 : goal.overflow_sub-result-4
overflow_sub-result-4 c =
    let b : Bounded c.args.drift c.args.e.time.0 c.args.e.reading.0 c.args.slack = record { drift = omega arith; time = omega arith; reading = omega arith; slack = omega arith } in
    loss_allowed_fits b

pub overflow_sub-result-5 : goal.overflow_sub-result-5
overflow_sub-result-5 c =
    let b : Bounded c.args.drift c.args.e.time.0 c.args.e.reading.0 c.args.slack = record { drift = omega arith; time = omega arith; reading = omega arith; slack = omega arith } in
    loss_fits b

pub returns : goal.returns
returns c =
    let b : Bounded c.args.drift c.args.e.time.0 c.args.e.reading.0 c.args.slack = record { drift = omega arith; time = omega arith; reading = omega arith; slack = omega arith } in
    ap₂ (λ (x y : ℤ). record { gain = x; loss = y }) (gain_is b) (loss_is b)
