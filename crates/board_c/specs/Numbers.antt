-- What numbers stand for, where they are made from other numbers.
use Rattle.std.specs.Prelude.{◌≡◌, List, ℕ, ◌^◌, ◌<◌, ℤ}
use Rattle.protocol.specs.declared.HeadRecord.{HeadRecord}
use Rattle.protocol.specs.Types.{Frame}
use Rattle.head_row.specs.declared.Sent.{Sent}
use Rattle.protocol.specs.Record.{reading_or0}
use Rattle.protocol.specs.Run.{carried_reading}
use Rattle.head_row.specs.Sent.{sent_of}
use Rattle.protocol.specs.Board.{frame_numbers, result_numbers, correction_if_adopted}

-- of the frame that s is of
abbrev pub AreNumbers : Sent → List ℕ → Type 0
AreNumbers s l = (x : Frame) → reading_or0 (carried_reading x) < 2 ^ 28 → s ≡ sent_of x → l ≡ frame_numbers x

-- of the record that the result's numbers are of
abbrev pub IsCorrection : List ℕ → ℤ → Type 0
IsCorrection x z = (r : HeadRecord) → x ≡ result_numbers r → z ≡ correction_if_adopted r
