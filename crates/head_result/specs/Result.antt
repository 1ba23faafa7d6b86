-- What is read off a row as the end of its head's round.
use Rattle.std.specs.Prelude.{◌≡◌, true, List, ℕ, length}
use Rattle.protocol.specs.declared.HeadRecord.{HeadRecord}
use Rattle.protocol.specs.declared.HeadRow.{HeadRow}
use Rattle.protocol.specs.Record.{record_in_range}
use Rattle.protocol.specs.Row.{row_of}
use Rattle.protocol.specs.Board.{result_numbers}

-- x are the result's numbers of the record in its ranges that the row is of
abbrev pub IsResult : HeadRow → List ℕ → Type 0
IsResult row x = (r : HeadRecord) → row ≡ row_of r → record_in_range r ≡ true → length r.senders ≡ 16 → x ≡ result_numbers r
