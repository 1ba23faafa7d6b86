-- The declared types and their constructors, under one module.
use Rattle.protocol.specs.declared.Frame as declared
use Rattle.protocol.specs.declared.Frame.TheVariants as frame
use Rattle.std.specs.Prelude.{Result, Ok, Err, ⊤, Option, Some, None, ℕ}
pub use Rattle.protocol.specs.declared.RealTime.{RealTime}
pub use Rattle.protocol.specs.declared.Reading.{Reading}
pub use Rattle.protocol.specs.declared.Sender.{Sender}
pub use Rattle.protocol.specs.declared.Kind.{Kind}
pub use Rattle.protocol.specs.declared.Kind.TheVariants.{Votes, Adjusts}
pub use Rattle.protocol.specs.declared.Phase.{Phase}
pub use Rattle.protocol.specs.declared.HeadRecord.{HeadRecord}
pub use Rattle.protocol.specs.declared.Mark.{Mark}
pub use Rattle.protocol.specs.declared.Marks.{Marks}
pub use Rattle.protocol.specs.declared.PhaseRow.{PhaseRow}
pub use Rattle.protocol.specs.declared.HeadRow.{HeadRow}
pub use Rattle.protocol.specs.declared.Action.{Action}
pub use Rattle.protocol.specs.declared.Action.TheVariants.{Look, StartSent, StartDelivered, StartConfirmed, VoteTurn, VoteDelivered, VoteClose, AdjustTurn, AdjustDelivered, AdjustClose}
pub use Rattle.protocol.specs.declared.Cause.{Cause}
pub use Rattle.protocol.specs.declared.Cause.TheVariants.{TooManyWords, BadLength, BadFirstWord, BadSecondWord, ShortBuffer, BadEntry, TimeFell, ReadingFell, ActionClosed, BadRecord, CounterTooFar, BadField, TimeTooFar}
pub use Rattle.protocol.specs.declared.Stepped.{Stepped}
pub use Rattle.protocol.specs.declared.Input.{Input}
pub use Rattle.protocol.specs.declared.Setting.{Setting}
pub use Rattle.protocol.specs.declared.Entry.{Entry}
pub use Rattle.protocol.specs.declared.Refusal.{Refusal}
pub use Rattle.protocol.specs.declared.Report.{Report}

-- whether an action or a sheet is taken
abbrev pub Verdict : Type 0
Verdict = Result ⊤ Cause

pattern abbrev pub Accepted : Verdict
Accepted = Ok tt

pattern abbrev pub Refused : Cause → Verdict
Refused c = Err c

-- what a replay answers; a refusal has its cause and its place
abbrev pub Replayed : Type 0
Replayed = Result ⊤ Refusal

pattern abbrev pub Filled : Replayed
Filled = Ok tt

abbrev pub TurnedBack : Cause → ℕ → Replayed
TurnedBack c p = Err (record { cause = c; place = p })

-- what the judge answers: all premises kept, or the first broken one; or a refusal
abbrev pub Judged : Type 0
Judged = Result (Option ℕ) Refusal

pattern abbrev pub Kept : Judged
Kept = Ok None

pattern abbrev pub Broken : ℕ → Judged
Broken i = Ok (Some i)

abbrev pub Unjudged : Cause → ℕ → Judged
Unjudged c p = Err (record { cause = c; place = p })

-- the frame that a step sends, if any
abbrev pub Frame : Type 0
Frame = Option declared.Frame

pattern abbrev pub NoFrame : Frame
NoFrame = None

pattern abbrev pub Start : Frame
Start = Some frame.Start

pattern abbrev pub Vote : ℕ → ℕ → Option Reading → Frame
Vote k c x = Some (frame.Vote k c x)

pattern abbrev pub Adjust : ℕ → ℕ → Reading → Frame
Adjust k a x = Some (frame.Adjust k a x)
