-- The record that a row holds and the frame that numbers stand for, where a head number, a count or a serial becomes a byte.
use Rattle.std.specs.Prelude.{◌≡◌, true, List, map, ℕ, ◌%◌, ◌^◌, ◌<◌, eqb}
use Rattle.protocol.specs.declared.Sender.{Sender}
use Rattle.protocol.specs.declared.Phase.{Phase}
use Rattle.protocol.specs.declared.HeadRecord.{HeadRecord}
use Rattle.protocol.specs.declared.HeadRow.{HeadRow}
use Rattle.head_row.specs.declared.Sent.{Sent}
use Rattle.protocol.specs.Types.{Frame, NoFrame, Start, Vote, Adjust}
use Rattle.protocol.specs.Record.{reading_or0}
use Rattle.protocol.specs.Step.{has_mark}
use Rattle.protocol.specs.Row.{number_in, record_in, row_in_range}
use Rattle.head_row.specs.Sent.{sent_of}
use Rattle.data_values.specs.Numbers.{cut_number}

-- the eight lowest bits of each
abbrev pub cut_sender : Sender → Sender
cut_sender k = record { start = k.start; vote = k.vote; voted = cut_number k.voted; adjusted = cut_number k.adjusted; candidate = cut_number k.candidate; adjuster = cut_number k.adjuster }

abbrev pub cut_phase : Phase → Phase
cut_phase p = record { turn = p.turn; closed = p.closed; early = p.early; choice = cut_number p.choice; sent = p.sent % 256 }

unfoldable pub cut : HeadRecord → HeadRecord
cut r =
    record {
      n = r.n % 256;
      f = r.f % 256;
      own = r.own % 256;
      last = r.last;
      started = r.started;
      confirmed = r.confirmed;
      vote = cut_phase r.vote;
      adjust = cut_phase r.adjust;
      adjustment = r.adjustment;
      senders = map cut_sender r.senders;
    }

-- r is the record that the row holds, if the row is in its ranges
abbrev pub Holds : HeadRow → HeadRecord → Type 0
Holds w r = row_in_range w ≡ true → r ≡ record_in w

-- a frame whose serial and choice are bytes, and whose reading has 28 bits
abbrev pub FrameSized : Frame → Type 0
FrameSized NoFrame = Unit {0}
FrameSized Start = Unit {0}
FrameSized (Vote k c x) = (k < 256) × (c < 256) × (reading_or0 x < 2 ^ 28)
FrameSized (Adjust k c x) = (k < 256) × (c < 256) × (x.0 < 2 ^ 28)

-- y is the frame whose numbers s has
abbrev pub StandsFor : Sent → Frame → Type 0
StandsFor s y = (x : Frame) → FrameSized x → s ≡ sent_of x → y ≡ x
