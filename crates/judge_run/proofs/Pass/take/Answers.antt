use mathlib.Core.Path.{sym, ◌∙◌}
use Rattle.sheet_open.proofs.Open.{in_table}
use Rattle.judge_run.proofs.Loop.{entry_refused, keeps_next}
use Rattle.judge_run.proofs.Pass.take.Goals as goal

pub entry_verdict-requires : goal.entry_verdict-requires
entry_verdict-requires c =
    let r = c.read_entry-r.ensures in
    (λ fits. in_table c.requires.2.stands r.0 (sym r.1 ∙ fits), c.requires.3)

pub returns-in-Err : goal.returns-in-Err
returns-in-Err c =
    let r = c.read_entry-r.ensures in
    entry_refused c.requires.2 r.0 r.1 c.entry_verdict.ensures c.in-Err.is

pub returns-in-Ok : goal.returns-in-Ok
returns-in-Ok c =
    let r = c.read_entry-r.ensures in
    keeps_next c.requires.2 r.0 r.1 c.entry_verdict.ensures c.in-Ok.is c.ask.ensures.premise_2.0 c.ask.ensures.premise_2.1 c.ask.ensures.others c.keep_drift.ensures.others c.keep_drift.ensures.premise_2 c.take_entry.ensures
