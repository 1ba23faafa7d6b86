use Rattle.std.proofs.Common.{not, ◌&&◌, refl, ap, ap₂}
use Rattle.judge_premise_3.proofs.Accepted.{confirmed_mark, times_after}
use Rattle.judge_premise_3.proofs.StartTimes.delivered.Goals as goal

pub returns : goal.returns
returns c =
    λ ws i s now gs es acc two are.
    let at-sender = c.head_index-p.ensures in (
      times_after now es acc two are at-sender c.head_index.ensures refl,
      ap not (ap₂ ◌&&◌ c.is_correct.ensures (confirmed_mark now es at-sender c.has.ensures)),
    )
