use Rattle.std.proofs.Common.{◌≡◌, refl}
use Rattle.head_frames.proofs.Sends.{vote_gives}
use Rattle.head_frames.proofs.vote.Goals as goal

pub returns : goal.returns
returns c small r is fit =
    rw (c.choose-serial.ensures.serial, c.choose-serial.ensures.after, c.drop_others.ensures)
    (vote_gives _ _ _ _ _ _ _ c.with-row.ensures refl refl c.head_index-own.ensures c.head_index.ensures small r is fit)
