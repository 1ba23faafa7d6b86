-- The board's answer to an action.
use Rattle.std.specs.Prelude.{Result, Ok, Err}
use Rattle.protocol.specs.declared.Cause.{Cause}
use Rattle.protocol.specs.declared.Stepped.{Stepped}
use Rattle.protocol.specs.Types.{Verdict, Accepted, Refused, Frame}

-- the frame to send, if any, or why the action is refused; then there is no frame
abbrev pub answer : Verdict → Frame → Result Frame Cause
answer Accepted x = Ok x
answer (Refused c) x = Err c

-- what a step tells beside the record
abbrev pub answer_of : Stepped → Result Frame Cause
answer_of s = answer s.verdict s.frame
