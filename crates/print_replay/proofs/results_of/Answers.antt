-- `results_of`: the refusal, or what the replay leaves.
use Rattle.std.proofs.Common.{arith, ap, ◌∙◌, replicate}
use Rattle.protocol.specs.declared.Setting.{Setting}
use Rattle.protocol.specs.Premises.{premise_number}
use Rattle.print_replay.proofs.Sheets.{turned_back, has_setting, prints_refusal, prints_results}
use Rattle.print_replay.proofs.results_of.Goals as goal

pub setting_at-requires : goal.setting_at-requires
setting_at-requires c = has_setting _ (replicate 64 0) (omega arith) _ c.replay_and_judge-report.ensures.0 c.in_ok-report.was

pub returns-in_err-report : goal.returns-in_err-report
returns-in_err-report c =
    turned_back _ _ c.from_residual.ensures.1 ∙ prints_refusal _ (replicate 64 0) (omega arith) _ _ _ c.replay_and_judge-report.ensures.0 c.in_err-report.was

pub returns : goal.returns
returns c =
    let e = c.replay_and_judge-report.ensures in
    prints_results _ (replicate 64 0) (omega arith) _ _ _ _ e.0 e.2 c.in_ok-report.was (ap (λ (g : Setting). g.n) c.setting_at.ensures) (c.premise_number.ensures ∙ ap premise_number e.1)
