use mathlib.Core.Path.{refl}
use Rattle.judge_entry.proofs.Steady.{drifts_next, least_held, kept_next}
use Rattle.judge_entry.proofs.Judge.keep_drift.Goals as goal

pub returns-clause-premise_2 : goal.returns-clause-premise_2
returns-clause-premise_2 c =
    λ ws i s heads now gs es acc are.
    let at = c.head_index-h.ensures in
    let held = least_held now acc c.args.g es are at in
    let next = drifts_next now acc c.args.g es are at in
    (rw (c.least.ensures, c.of.ensures) next, rw (c.stays_steady.ensures, c.is_correct.ensures, held) refl, kept_next now acc c.args.g es are at gs)
