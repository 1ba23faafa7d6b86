-- A head's marks as one number: which marks it has, what one more makes of it, and which actions it closes.
use Rattle.std.proofs.Common.{◌≡◌, ℕ, zero, suc, ◌+◌, ◌*◌, ◌/◌, ◌%◌, ◌^◌, ◌<◌, ◌≤◌, Bool, true, false, cond, ◌&&◌, eqb, ◌≢◌, List, [], ◌∷◌, length, get_or, set, sym, refl, ap, ◌∙◌, le_of_suc-le-suc, not-suc-le-zero, arith, lit<, ne_eqb, is_some}
use native.Mathlib.Nat.{pow-succ', div-div-eq-div-mul}
use Rattle.protocol.specs.declared.Reading.{Reading}
use Rattle.protocol.specs.declared.HeadRecord.{HeadRecord}
use Rattle.protocol.specs.declared.Marks.{Marks}
use Rattle.protocol.specs.declared.Input.{Input}
use Rattle.protocol.specs.declared.Action.{Action}
use Rattle.protocol.specs.declared.Action.TheVariants.{Look, StartSent, StartDelivered, StartConfirmed, VoteTurn, VoteDelivered, VoteClose, AdjustTurn, AdjustDelivered, AdjustClose}
use Rattle.protocol.specs.Words.{has_serial}
use Rattle.protocol.specs.Record.{mark_number, marks_number}
use Rattle.protocol.specs.Step.{take_turn, close, choose, with_marks, with_vote, with_adjust, number, is_own_frame, is_closed_by_marks, has_mark, closed_by, is_spent, actions_of, action_of}
use Rattle.protocol.proofs.Tests.{cases, is_1}

pub marks_are : (m : Marks) {n : ℕ} → m.0 ≡ n → m ≡ record { 0 = n }
marks_are m e = rw (sym e) refl

-- ANY MARKS: the first has weight 1, each further one twice the weight of the one before
abbrev pub weight_of : List Bool → ℕ
weight_of [] = 0
weight_of (b ∷ l) = mark_number b 1 + 2 * weight_of l

at_most_1 : (b : Bool) → mark_number b 1 ≤ 1
at_most_1 true = omega arith
at_most_1 false = omega arith

weight_below : (l : List Bool) → weight_of l < 2 ^ length l
weight_below [] = omega arith
weight_below (b ∷ l) = let one = at_most_1 b in let ih = weight_below l in rw (pow-succ' 2 (length l)) (omega arith)

-- half of the number stands for the marks but the first
has_further : (b : Bool) (x k : ℕ) → has_mark (mark_number b 1 + 2 * x) (2 ^ suc k) ≡ has_mark x (2 ^ k)
has_further b x k =
    let half : (mark_number b 1 + 2 * x) / 2 ≡ x = let one = at_most_1 b in omega arith in
    let all = mark_number b 1 + 2 * x in
    ap (λ (y : ℕ). eqb (y % 2) 1) (ap (λ (y : ℕ). all / y) (pow-succ' 2 k) ∙ sym (div-div-eq-div-mul all 2 (2 ^ k)) ∙ ap (λ (y : ℕ). y / 2 ^ k) half)

has_at : (l : List Bool) (k : ℕ) → k < length l → has_mark (weight_of l) (2 ^ k) ≡ get_or l k false
has_at [] k h = absurd (not-suc-le-zero h)
has_at (b ∷ l) zero h =
    let first : (mark_number b 1 + 2 * weight_of l) / 1 % 2 ≡ mark_number b 1 = let one = at_most_1 b in omega arith in rw first (is_1 b)
has_at (b ∷ l) (suc k) h = has_further b (weight_of l) k ∙ has_at l k (le_of_suc-le-suc h)

set_again : (l : List Bool) (k : ℕ) → get_or l k false ≡ true → set l k true ≡ l
set_again [] k e = refl
set_again (b ∷ l) zero e = rw e refl
set_again (b ∷ l) (suc k) e = ap (λ (m : List Bool). b ∷ m) (set_again l k e)

one_more : (l : List Bool) (k : ℕ) → k < length l → get_or l k false ≡ false → weight_of (set l k true) ≡ weight_of l + 2 ^ k
one_more [] k h e = absurd (not-suc-le-zero h)
one_more (b ∷ l) zero h e = rw e (omega arith)
one_more (b ∷ l) (suc k) h e = let ih = one_more l k (le_of_suc-le-suc h) e in rw (pow-succ' 2 k) (omega arith)

-- A HEAD'S MARKS, in the order of their weights
abbrev pub seven_marks : HeadRecord → List Bool
seven_marks r =
    r.started ∷ r.confirmed ∷ r.vote.turn ∷ r.vote.closed ∷ r.adjust.turn ∷ r.adjust.closed ∷ is_some r.vote.choice ∷ []

times : (b : Bool) (w : ℕ) → mark_number b w ≡ w * mark_number b 1
times true w = omega arith
times false w = omega arith

number_is : (r : HeadRecord) → marks_number r ≡ weight_of (seven_marks r)
unfolding marks_number
number_is r =
    rw (
      times r.confirmed 2,
      times r.vote.turn 4,
      times r.vote.closed 8,
      times r.adjust.turn 16,
      times r.adjust.closed 32,
      times (is_some r.vote.choice) 64,
    ) (omega arith)

pub marks_below_128 : (r : HeadRecord) → marks_number r < 128
marks_below_128 r = rw (number_is r) (weight_below (seven_marks r))

-- mark k has weight 2 ^ k
pub has_mark_lem : (r : HeadRecord) (k : ℕ) → k < 7 → has_mark (marks_number r) (2 ^ k) ≡ get_or (seven_marks r) k false
has_mark_lem r k h = rw (number_is r) (has_at (seven_marks r) k h)

pub has_started : (r : HeadRecord) → has_mark (marks_number r) 1 ≡ r.started
has_started r = has_mark_lem r 0 (lit< tt)

pub has_confirmed : (r : HeadRecord) → has_mark (marks_number r) 2 ≡ r.confirmed
has_confirmed r = has_mark_lem r 1 (lit< tt)

pub has_vote_turn : (r : HeadRecord) → has_mark (marks_number r) 4 ≡ r.vote.turn
has_vote_turn r = has_mark_lem r 2 (lit< tt)

pub has_vote_closed : (r : HeadRecord) → has_mark (marks_number r) 8 ≡ r.vote.closed
has_vote_closed r = has_mark_lem r 3 (lit< tt)

pub has_adjust_turn : (r : HeadRecord) → has_mark (marks_number r) 16 ≡ r.adjust.turn
has_adjust_turn r = has_mark_lem r 4 (lit< tt)

pub has_adjust_closed : (r : HeadRecord) → has_mark (marks_number r) 32 ≡ r.adjust.closed
has_adjust_closed r = has_mark_lem r 5 (lit< tt)

pub has_candidate : (r : HeadRecord) → has_mark (marks_number r) 64 ≡ is_some r.vote.choice
has_candidate r = has_mark_lem r 6 (lit< tt)

-- ONE MARK MORE: the number with mark k is that of every record which has r's marks and mark k
abbrev pub with_mark : ℕ → ℕ → ℕ
with_mark m weight = cond (has_mark m weight) m ((m + weight) % 2 ^ 32)

pub with_mark_lem : (r s : HeadRecord) (k : ℕ) → k < 7 → seven_marks s ≡ set (seven_marks r) k true → with_mark (marks_number r) (2 ^ k) ≡ marks_number s
with_mark_lem r s k h e =
    let after : marks_number s ≡ weight_of (set (seven_marks r) k true) = number_is s ∙ ap weight_of e in
    cases (get_or (seven_marks r) k false)
    (λ had. rw (has_mark_lem r k h, had) (number_is r ∙ sym (after ∙ ap weight_of (set_again (seven_marks r) k had))))
    (λ lacked.
    let sum : marks_number r + 2 ^ k ≡ marks_number s = rw (number_is r) (sym (after ∙ one_more (seven_marks r) k h lacked)) in
    let small = marks_below_128 s in
    rw (has_mark_lem r k h, lacked, sum) (omega arith))

pub with_started : (r : HeadRecord) → with_mark (marks_number r) 1 ≡ marks_number (with_marks r true r.confirmed)
with_started r = with_mark_lem r _ 0 (lit< tt) refl

pub with_confirmed : (r : HeadRecord) → with_mark (marks_number r) 2 ≡ marks_number (with_marks r r.started true)
with_confirmed r = with_mark_lem r _ 1 (lit< tt) refl

pub with_vote_turn : (r : HeadRecord) → with_mark (marks_number r) 4 ≡ marks_number (with_vote r (take_turn r.vote))
with_vote_turn r = with_mark_lem r _ 2 (lit< tt) refl

pub with_vote_closed : (r : HeadRecord) → with_mark (marks_number r) 8 ≡ marks_number (with_vote r (close r.vote))
with_vote_closed r = with_mark_lem r _ 3 (lit< tt) refl

pub with_adjust_turn : (r : HeadRecord) (x : Reading) → with_mark (marks_number r) 16 ≡ marks_number (with_adjust r (take_turn r.adjust) x)
with_adjust_turn r x = with_mark_lem r _ 4 (lit< tt) refl

pub with_adjust_closed : (r : HeadRecord) (x : Reading) → with_mark (marks_number r) 32 ≡ marks_number (with_adjust r (close r.adjust) x)
with_adjust_closed r x = with_mark_lem r _ 5 (lit< tt) refl

pub with_candidate_lem : (r : HeadRecord) (c : ℕ) → with_mark (marks_number r) 64 ≡ marks_number (with_vote r (choose c r.vote))
with_candidate_lem r c = with_mark_lem r _ 6 (lit< tt) refl

-- CLOSED ACTIONS, by the record and by the number
pub closed_by_marks : (r : HeadRecord) (a : Action) → is_closed_by_marks r a ≡ closed_by (number a) (marks_number r)
unfolding closed_by
closed_by_marks r Look = refl
closed_by_marks r StartSent = rw (has_started r, has_candidate r, has_vote_closed r) refl
closed_by_marks r (StartDelivered p) = refl
closed_by_marks r StartConfirmed = rw (has_started r, has_confirmed r) refl
closed_by_marks r VoteTurn = rw (has_confirmed r, has_vote_turn r) refl
closed_by_marks r (VoteDelivered p k c x) = refl
closed_by_marks r VoteClose = rw (has_vote_closed r) refl
closed_by_marks r AdjustTurn = rw (has_vote_closed r, has_adjust_turn r, has_adjust_closed r) refl
closed_by_marks r (AdjustDelivered p k c x) = refl
closed_by_marks r AdjustClose = rw (has_vote_closed r, has_adjust_closed r) refl

-- an action made from a caller's numbers: its number, and whether its sender is the head itself
made : (r : HeadRecord) (i : Input) (k : ℕ) → k ≤ 9
    → (number (get_or (actions_of i) k Look) ≡ k) × (is_own_frame r (get_or (actions_of i) k Look) ≡ (has_serial k && eqb i.sender r.own))
made r i zero h = (refl, refl)
made r i (suc zero) h = (refl, refl)
made r i (suc (suc zero)) h = (refl, refl)
made r i (suc (suc (suc zero))) h = (refl, refl)
made r i (suc (suc (suc (suc zero)))) h = (refl, refl)
made r i (suc (suc (suc (suc (suc zero))))) h = (refl, refl)
made r i (suc (suc (suc (suc (suc (suc zero)))))) h = (refl, refl)
made r i (suc (suc (suc (suc (suc (suc (suc zero))))))) h = (refl, refl)
made r i (suc (suc (suc (suc (suc (suc (suc (suc zero)))))))) h = (refl, refl)
made r i (suc (suc (suc (suc (suc (suc (suc (suc (suc zero))))))))) h = (refl, refl)
made r i (suc (suc (suc (suc (suc (suc (suc (suc (suc (suc k)))))))))) h = absurd (omega arith)

pub made_of : (r : HeadRecord) (i : Input) → i.action ≤ 9
    → (number (action_of i) ≡ i.action) × (is_own_frame r (action_of i) ≡ (has_serial i.action && eqb i.sender r.own))
unfolding action_of
made_of r i h = made r i i.action h

-- none but 6, 7 and 9 is spent
pub not_spent : (a : ℕ) (vote adjust : Bool) → a ≢ 6 → a ≢ 7 → a ≢ 9 → false ≡ is_spent a vote adjust
not_spent a vote adjust n6 n7 n9 = rw (ne_eqb a 6 n6, ne_eqb a 7 n7, ne_eqb a 9 n9) refl
