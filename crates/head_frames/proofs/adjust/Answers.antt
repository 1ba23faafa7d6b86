use Rattle.std.proofs.Common.{refl, ◌≡◌, rules}
use Rattle.head_frames.proofs.Sends.{adjust_gives}
use Rattle.head_frames.proofs.adjust.Goals as goal

pub returns : goal.returns
returns c small r is fit =
    rw c.choose-serial.ensures.serial (adjust_gives _ _ _ _ _ _ refl c.head_index-own.ensures c.choose-serial.ensures.after small r is fit)
