-- What a function on a head's row promises: it reads off the row, or does to it, what a definition says of the record.
use Rattle.std.specs.Prelude.{◌≡◌, ℕ, ◌^◌, ◌≤◌, ◌<◌, length}
use Rattle.protocol.specs.declared.HeadRecord.{HeadRecord}
use Rattle.protocol.specs.declared.HeadRow.{HeadRow}
use Rattle.protocol.specs.declared.Stepped.{Stepped}
use Rattle.head_row.specs.declared.Sent.{Sent}
use Rattle.protocol.specs.declared.Kind.{Kind}
use Rattle.protocol.specs.Record.{phase_of, reading_or0, vote_of}
use Rattle.protocol.specs.Row.{row_of}
use Rattle.head_row.specs.Sent.{sent_of}

-- as much of a record's ranges as a step needs; an action's parts keep it
pub record Fits (r : HeadRecord) : Type 0 where
  pub some : 0 < r.n
  pub heads : r.n ≤ 16
  pub own : r.own < 16
  pub last : r.last.0 < 2 ^ 28
  pub sent : (k : Kind) → (phase_of k r).sent < 2 ^ 16
  pub senders : length r.senders ≡ 16
  pub readings : (p : ℕ) → reading_or0 (vote_of r p) < 2 ^ 28

-- x is what f says of the record that the row is of
abbrev pub Reads : {A : Type 0} → (HeadRecord → A) → HeadRow → A → Type 0
Reads f row x = (r : HeadRecord) → row ≡ row_of r → Fits r → x ≡ f r

-- the row and the frame are those of an act's result
abbrev pub Gives : Stepped → HeadRow → Sent → Type 0
Gives t row x = (row ≡ row_of t.after) × (x ≡ sent_of t.frame)

-- the row becomes that of the record after the act, and x is the frame that the act sends
abbrev pub Acts : (HeadRecord → Stepped) → HeadRow → HeadRow → Sent → Type 0
Acts act before after x = (r : HeadRecord) → before ≡ row_of r → Fits r → Gives (act r) after x

-- as much of a record's ranges as the test at a step's end needs; what comes before the test keeps it
pub record HasHeads (r : HeadRecord) : Type 0 where
  pub some : 0 < r.n
  pub heads : r.n ≤ 16
  pub senders : length r.senders ≡ 16

-- the row becomes that of the record which f makes
abbrev pub Becomes : (HeadRecord → HeadRecord) → HeadRow → HeadRow → Type 0
Becomes f before after = (r : HeadRecord) → before ≡ row_of r → HasHeads r → after ≡ row_of (f r)
