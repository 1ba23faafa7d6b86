-- The table of open actions: one test over all its entries, and its rule at each.
-- Main results: `as_tested`, `open_rule`.
use mathlib.Core.Path.{◌≡◌, refl, sym, ◌∙◌, ap, ap₂}
use mathlib.Core.Bool.{Bool, true, false, cond, ◌&&◌, ◌||◌}
use mathlib.Core.List.{List, [], ◌∷◌}
use Prim.Native.Nat.{ℕ, suc, ◌+◌, ◌*◌, ◌/◌, ◌%◌, ◌<◌}
use native.Mathlib.Omega.{arith}
use lib.Dec.{eqb, lit<}
use lib.ListN.{length, get_or}
use borrow.Author.Tests.{eqb-true}
use Rattle.protocol.specs.declared.Action.{Action}
use Rattle.protocol.specs.declared.Action.TheVariants.{Look, StartSent, StartDelivered, StartConfirmed, VoteTurn, VoteDelivered, VoteClose, AdjustTurn, AdjustDelivered, AdjustClose}
use Rattle.protocol.specs.Base.{table}
use Rattle.protocol.specs.Record.{marks_number}
use Rattle.protocol.specs.Step.{number, is_own_frame, is_closed, closed_by}
use Rattle.protocol.specs.OpenTable.{yes, no, open_index, open_entry, open_actions, OpenRule}
use Rattle.protocol.proofs.Tests.{and_left, and_right}
use Rattle.protocol.proofs.Tables.{table_at}
use Rattle.head_open.proofs.Marks.{marks_below_128, closed_by_marks}

-- the test: each entry of a list is a function's value at its index, the first at i
abbrev pub are_values : (ℕ → ℕ) → ℕ → List ℕ → Bool
are_values f i [] = true
are_values f i (x ∷ l) = eqb x (f i) && are_values f (suc i) l

pub as_tested : (f : ℕ → ℕ) (i : ℕ) (l : List ℕ) → are_values f i l ≡ true → l ≡ table f i (length l)
as_tested f i [] t = refl
as_tested f i (x ∷ l) t = ap₂ ◌∷◌ (eqb-true x (f i) (and_left (eqb x (f i)) _ t)) (as_tested f (suc i) l (and_right (eqb x (f i)) _ t))

-- what the table says of an action with such marks
entry_at : (a m : ℕ) → a < 10 → m < 128 → get_or open_actions (open_index a m) 0 ≡ cond (closed_by a m) no yes
unfolding open_actions
entry_at a m la lm =
    let row : (a * 128 + m) / 128 ≡ a = omega arith in
    let column : (a * 128 + m) % 128 ≡ m = omega arith in
    table_at open_entry 1280 (a * 128 + m) 0 (omega arith) ∙ rw (row, column) refl

says_no : (b : Bool) → eqb (cond b no yes) no ≡ b
says_no true = refl
says_no false = refl

number_below : (a : Action) → number a < 10
number_below Look = lit< tt
number_below StartSent = lit< tt
number_below (StartDelivered p) = lit< tt
number_below StartConfirmed = lit< tt
number_below VoteTurn = lit< tt
number_below (VoteDelivered p k c x) = lit< tt
number_below VoteClose = lit< tt
number_below AdjustTurn = lit< tt
number_below (AdjustDelivered p k a x) = lit< tt
number_below AdjustClose = lit< tt

pub open_rule : OpenRule open_actions
unfolding is_closed
open_rule r a =
    let says = ap (λ (x : ℕ). eqb x no) (entry_at (number a) (marks_number r) (number_below a) (marks_below_128 r)) ∙ says_no (closed_by (number a) (marks_number r)) in
    ap (λ (b : Bool). is_own_frame r a || b) (closed_by_marks r a ∙ sym says)
