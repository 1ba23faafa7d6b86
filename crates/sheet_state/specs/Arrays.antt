-- What a run keeps of its history: each head's row, and what each vote and adjust that was sent carries, by sender and serial.
use Rattle.std.specs.Prelude.{◌≡◌, true, cond, List, ℕ, ◌/◌, ◌%◌, ltb, get_or}
use Rattle.protocol.specs.declared.Setting.{Setting}
use Rattle.protocol.specs.declared.HeadRow.{HeadRow}
use Rattle.protocol.specs.Types.{Frame}
use Rattle.protocol.specs.declared.Stepped.{Stepped}
use Rattle.protocol.specs.Base.{table}
use Rattle.protocol.specs.Words.{setting_at, first_word_fits, entry_at, entry_fits_at}
use Rattle.protocol.specs.Row.{row_of}
use Rattle.head_row.specs.Sent.{sent_of}
use Rattle.protocol.specs.Run.{Event, History, record_of, frame_sent, carried_choice, step_entry, ran, run_of}

abbrev pub head_rows : Setting → History → List HeadRow
head_rows g s = table (λ q. row_of (record_of g s q)) 0 16

-- votes stand at head × 16 + serial, adjusts 256 further: the action that delivers, the head and the serial at an index
abbrev pub action_at : ℕ → ℕ
action_at j = cond (ltb j 256) 5 8

abbrev pub head_at : ℕ → ℕ
head_at j = j % 256 / 16

abbrev pub serial_at : ℕ → ℕ
serial_at j = j % 16

abbrev pub frame_at : History → ℕ → Frame
frame_at s j = frame_sent s (action_at j) (head_at j) (serial_at j)

unfoldable pub choices_of : History → List ℕ
choices_of s = table (λ j. carried_choice (frame_at s j)) 0 512

unfoldable pub carried_of : History → List ℕ
carried_of s = table (λ j. (sent_of (frame_at s j)).carried) 0 512

-- entry i after the history s: its answer, and the event that it is if it is accepted
abbrev pub answer_at : List ℕ → ℕ → History → Stepped
answer_at ws i s = step_entry (setting_at ws) s (entry_fits_at ws i) (entry_at ws i)

abbrev pub event_at : List ℕ → ℕ → History → Event
event_at ws i s = record { entry = entry_at ws i; after = (answer_at ws i s).after; frame = (answer_at ws i s).frame }

-- the first i entries of a sheet are accepted, s is their history, and the rows are those of the heads after them
pub record Stands (ws : List ℕ) (i : ℕ) (s : History) (heads : List HeadRow) : Type 0 where
  pub first_fits : first_word_fits (get_or ws 0 0) ≡ true
  pub is_run : run_of ws i ≡ ran s
  pub heads_are : heads ≡ head_rows (setting_at ws) s

-- the frames sent, by what they carry
pub record Carries (s : History) (choices carried : List ℕ) : Type 0 where
  pub choices_are : choices ≡ choices_of s
  pub carried_are : carried ≡ carried_of s
