-- What a trace keeps from entry to entry, and what one entry of it promises.
use Rattle.std.specs.Prelude.{◌≡◌, Bool, true, List, ℕ, ◌+◌, ◌≤◌, length}
use Rattle.protocol.specs.declared.HeadRecord.{HeadRecord}
use Rattle.protocol.specs.declared.HeadRow.{HeadRow}
use Rattle.protocol.specs.declared.Entry.{Entry}
use Rattle.protocol.specs.Types.{Accepted}
use Rattle.protocol.specs.Words.{entry_count}
use Rattle.protocol.specs.Record.{record_in_range}
use Rattle.protocol.specs.Row.{row_of}
use Rattle.protocol.specs.Causes.{sheet_verdict}
use Rattle.protocol.specs.Run.{History, last_time}
use Rattle.sheet_state.specs.Arrays.{Stands, Carries}
use Rattle.trace_entries.specs.declared.Line.{Line}
use Rattle.trace_entries.specs.Trace.{Traced, After, line_of}

-- the sheet's first i entries are accepted; the heads' rows, the frames sent and the real time are those after them
pub record Follows (ws : List ℕ) (i : ℕ) (heads : List HeadRow) (choices carried : List ℕ) (time : ℕ) : Type 0 where
  pub sheet : sheet_verdict ws ≡ Accepted
  pub reached : i ≤ entry_count ws
  pub past : History
  pub stands : Stands ws i past heads
  pub carries : Carries past choices carried
  pub time_is : time ≡ last_time past

-- after entry i is shown, what is left is that of one entry more
abbrev pub GoesOn : List ℕ → ℕ → Traced → List HeadRow → List ℕ → List ℕ → Type 0
GoesOn ws i t heads choices carried = (l : Line) → t ≡ After l → Follows ws (i + 1) heads choices carried l.time.0

-- l is the line of the entry, for the record in its ranges that the row is of
abbrev pub IsLine : Entry → Bool → Bool → HeadRow → Line → Type 0
IsLine e votes_before adjusts_before row l = (r : HeadRecord) → row ≡ row_of r → record_in_range r ≡ true → length r.senders ≡ 16 → l ≡ line_of e votes_before adjusts_before r
