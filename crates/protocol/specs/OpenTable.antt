-- Document 02, No. 2, "Open actions looked up": "a constant table of 1,280 yes-or-no entries, for ten actions and the 128 settings of
-- seven marks (the six and "has a candidate"). Tests on the sender stay outside it."
use Rattle.std.specs.Prelude.{◌≡◌, cond, ◌||◌, List, ℕ, ◌+◌, ◌*◌, ◌/◌, ◌%◌, eqb, get_or}
use Rattle.protocol.specs.Base.{table}
use Rattle.protocol.specs.Types.{HeadRecord, Action}
use Rattle.protocol.specs.Record.{marks_number}
use Rattle.protocol.specs.Step.{number, is_own_frame, is_closed, closed_by}

-- "yes-or-no": the characters 1 and 0
abbrev pub yes : ℕ
yes = 49

abbrev pub no : ℕ
no = 48

-- "for ten actions and the 128 settings": the actions by their numbers, and for each the settings by their numbers; marks_number says
-- which mark has which weight
abbrev pub open_index : ℕ → ℕ → ℕ
open_index a m = a * 128 + m

abbrev pub open_entry : ℕ → ℕ
open_entry i = cond (closed_by (i / 128) (i % 128)) no yes

unfoldable pub open_actions : List ℕ
open_actions = table open_entry 0 1280

-- "Its rule": an action is closed exactly if the table says no, or its sender, which the table does not know, is the head itself
abbrev pub OpenRule : List ℕ → Type 0
OpenRule t = (r : HeadRecord) (a : Action) → is_closed r a ≡ (is_own_frame r a || eqb (get_or t (open_index (number a) (marks_number r)) 0) no)
