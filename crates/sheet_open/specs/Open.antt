-- Cause 9 of an entry: when it is open, and which of that is asked of its sender.
use Rattle.std.specs.Prelude.{Bool, not, ◌&&◌, ◌||◌, List, [], ℕ, ◌%◌, ◌<◌, eqb, get_or}
use Rattle.protocol.specs.declared.HeadRow.{HeadRow}
use Rattle.protocol.specs.declared.Setting.{Setting}
use Rattle.protocol.specs.declared.Entry.{Entry}
use Rattle.protocol.specs.Words.{has_sender, has_serial}
use Rattle.protocol.specs.Step.{is_closed, taken_as, action_of}
use Rattle.protocol.specs.Run.{History, record_of, frame_of, is_frame, input_of}
use Rattle.protocol.specs.Row.{no_row}

-- the frame that the entry delivers, if any, was sent, and its action, as it is taken, is not closed
unfoldable pub is_open : Setting → History → Entry → Bool
is_open g s e = (not (has_sender e.action) || is_frame (frame_of s e)) && not (is_closed (record_of g s e.head) (taken_as (record_of g s e.head) (action_of (input_of e (frame_of s e)))))

-- document 02, "Tests on the sender": that frame was sent, and a vote or an adjust not by the head itself
abbrev pub sender_passes : History → Entry → Bool
sender_passes s e = (not (has_sender e.action) || is_frame (frame_of s e)) && not (has_serial e.action && eqb e.sender e.head)

-- the marks that the rows have of a head
abbrev pub marks_at : List HeadRow → ℕ → ℕ
marks_at heads q = (get_or heads (q % 16) no_row).marks.0

-- the table has the entry's action with its head's marks
abbrev pub IsInTable : Entry → List HeadRow → Type 0
IsInTable e heads = (e.action < 10) × (marks_at heads e.head < 128)
