-- A frame in numbers, as a row's functions send it.
use Rattle.std.specs.Prelude.{Option}
use Rattle.protocol.specs.Types.{Frame, NoFrame, Start, Vote, Adjust}
use Rattle.protocol.specs.Row.{reading_plus1}
use Rattle.head_row.specs.declared.Sent.{Sent}

abbrev pub sent_of : Frame → Sent
sent_of NoFrame = record { kind = 0; serial = 0; choice = 0; carried = 0 }
sent_of Start = record { kind = 2; serial = 0; choice = 0; carried = 0 }
sent_of (Vote k c x) = record { kind = 5; serial = k; choice = c; carried = reading_plus1 x }
sent_of (Adjust k c x) = record { kind = 8; serial = k; choice = c; carried = x.0 }
