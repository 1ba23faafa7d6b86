-- Document 01, "Board counter": "The counter runs on past 4,294,967,295 to 0. A reading is counter now minus counter at
-- the base, wrapped to 32 bits"; "counter difference of 2²⁸ or more" is cause 11.
use Rattle.std.specs.Prelude.{cond, List, [], ◌∷◌, ℕ, ◌+◌, ◌-◌, ◌%◌, ◌^◌, Result, Ok, Err}
use Rattle.protocol.specs.Types.{CounterTooFar, Reading, Cause}
use Rattle.protocol.specs.Words.{is_time}
use Rattle.protocol.specs.Record.{reading}
use Rattle.protocol.specs.Causes.{cause_number}

abbrev pub since_base : ℕ → ℕ → ℕ
since_base counter base = (counter + 2 ^ 32 - base) % 2 ^ 32

unfoldable pub counter_reading : ℕ → ℕ → Result Reading Cause
counter_reading counter base = cond (is_time (since_base counter base)) (Ok (reading (since_base counter base))) (Err CounterTooFar)

-- the cause's number, 0 for none, the place 0, and the reading
abbrev pub counted_numbers : Result Reading Cause → List ℕ
counted_numbers (Ok x) = 0 ∷ 0 ∷ x.0 ∷ []
counted_numbers (Err c) = cause_number c ∷ 0 ∷ 0 ∷ []
