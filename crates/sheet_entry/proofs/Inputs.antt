-- An entry's input, made from the arrays of frames sent.
-- Main results: `vote_input`, `adjust_input`, `plain_input`.
use Rattle.std.specs.Prelude.{Some, None, is_some}
use mathlib.Core.Path.{◌≡◌, refl, sym, ◌∙◌, ap, subst}
use mathlib.Core.Bool.{Bool, true, false, not, ◌&&◌}
use mathlib.Core.List.{List}
use mathlib.Core.Logic.{◌≢◌}
use Prim.Native.Nat.{ℕ, ◌+◌, ◌-◌, ◌^◌, ◌<◌}
use native.Mathlib.Omega.{arith}
use lib.Dec.{eqb}
use lib.ListN.{get_or}
use borrow.Author.Tests.{lt-ltb, ne_eqb}
use Rattle.protocol.specs.declared.HeadRow.{HeadRow}
use Rattle.protocol.specs.declared.Entry.{Entry}
use Rattle.protocol.specs.declared.Input.{Input}
use Rattle.protocol.specs.Types.{Frame, NoFrame, Start, Vote, Adjust}
use Rattle.protocol.specs.Words.{entry_at}
use Rattle.protocol.specs.declared.Kind.{Kind}
use Rattle.protocol.specs.Record.{votes, adjusts, reading_or0}
use Rattle.protocol.specs.Premises.{delivery}
use Rattle.head_row.specs.Sent.{sent_of}
use Rattle.protocol.specs.Run.{History, is_delivered_by, frame_sent, frame_of, is_frame, carried_choice, carried_reading, input_of}
use Rattle.protocol.proofs.Tests.{absurd_bool, and_left}
use Rattle.protocol.proofs.Tables.{table_at}
use Rattle.protocol.proofs.Valid.{frame_fits}
use Rattle.protocol.proofs.Ranges.{frames_in_range}
use Rattle.sheet_state.specs.Indices.{frame_index}
use Rattle.sheet_state.specs.Arrays.{frame_at, choices_of, carried_of, Stands, Carries}
use Rattle.sheet_state.proofs.Indices.{index_fields, frame_at_index}
use Rattle.sheet_state.proofs.Standing.{entry_sized, heads_few, valid_history}

-- WHAT A FRAME CARRIES, by the numbers that are kept of it

-- the frame is one that action a delivers
abbrev Delivers : ℕ → ℕ → Frame → Type 0
Delivers a j x = is_frame x ≡ true → is_delivered_by a j x ≡ true

vote_carries : (j : ℕ) (x : Frame) → Delivers 5 j x → reading_or0 (carried_reading x) < 2 ^ 28
    → ((sent_of x).carried - 1 ≡ reading_or0 (carried_reading x)) × (eqb (sent_of x).carried 0 ≡ not (is_some (carried_reading x)))
vote_carries j NoFrame d b = (refl, refl)
vote_carries j Start d b = absurd_bool (d refl) refl
vote_carries j (Vote i c None) d b = (refl, refl)
vote_carries j (Vote i c (Some x)) d b = rw (lt-ltb x.0 (2 ^ 28) b) (omega arith, ne_eqb (x.0 + 1) 0 (λ z. omega arith))
vote_carries j (Adjust i c x) d b = absurd_bool (d refl) refl

adjust_carries : (j : ℕ) (x : Frame) → Delivers 8 j x → (sent_of x).carried ≡ reading_or0 (carried_reading x)
adjust_carries j NoFrame d = refl
adjust_carries j Start d = refl
adjust_carries j (Vote i c x) d = absurd_bool (d refl) refl
adjust_carries j (Adjust i c x) d = refl

plain_carries : (a j : ℕ) (x : Frame) → Delivers a j x → eqb a 5 ≡ false → eqb a 8 ≡ false → (0 ≡ carried_choice x) × (0 ≡ reading_or0 (carried_reading x))
plain_carries a j NoFrame d u w = (refl, refl)
plain_carries a j Start d u w = (refl, refl)
plain_carries a j (Vote i c x) d u w = absurd_bool (and_left (eqb a 5) _ (d refl)) u
plain_carries a j (Adjust i c x) d u w = absurd_bool (and_left (eqb a 8) _ (d refl)) w

-- THE INPUT

-- an entry's numbers, with what a frame carries
abbrev pub input_with : Entry → ℕ → ℕ → Bool → Input
input_with e choice carried none =
    record { action = e.action; reading = e.reading.0; sender = e.sender; serial = e.serial; choice = choice; carried = carried; none = none }

input_is : (e : Entry) (x : Frame) {choice carried : ℕ} {none : Bool} → choice ≡ carried_choice x → carried ≡ reading_or0 (carried_reading x)
    → none ≡ (eqb e.action 5 && not (is_some (carried_reading x))) → input_with e choice carried none ≡ input_of e x
unfolding input_of
input_is e x p q r = λ i. input_with e (p i) (q i) (r i)

module _ {ws : List ℕ} {i : ℕ} {s : History} {heads : List HeadRow} (now : Stands ws i s heads)
    {choices carried : List ℕ} (kept : Carries s choices carried) {e : Entry} (is : e ≡ entry_at ws i) where
  delivers : {a : ℕ} → e.action ≡ a → Delivers a e.serial (frame_of s e)
  delivers a = subst (λ (a : ℕ). Delivers a e.serial (frame_of s e)) a (frame_fits s e.action e.sender e.serial)

  module _ (k : Kind) (a : e.action ≡ delivery k) (at : ℕ) (u : at ≡ frame_index e.action e.sender e.serial) where
    at_is : at ≡ frame_index (delivery k) e.sender e.serial
    at_is = u ∙ ap (λ (a : ℕ). frame_index a e.sender e.serial) a

    sender_sized : e.sender < 16
    sender_sized = subst (λ (e : Entry). e.sender < 16) (sym is) (entry_sized ws i).1

    serial_sized : e.serial < 16
    serial_sized = subst (λ (e : Entry). e.serial < 16) (sym is) (entry_sized ws i).2

    inside : at < 512
    inside = rw at_is (index_fields k e.sender e.serial sender_sized serial_sized).0

    frame_is : frame_at s at ≡ frame_of s e
    frame_is =
        ap (frame_at s) at_is ∙ frame_at_index s k e.sender e.serial sender_sized serial_sized
        ∙ ap (λ (a : ℕ). frame_sent s a e.sender e.serial) (sym a)

    choice_kept : get_or choices at 0 ≡ carried_choice (frame_of s e)
    unfolding choices_of
    choice_kept =
        ap (λ (l : List ℕ). get_or l at 0) kept.choices_are ∙ table_at (λ j. carried_choice (frame_at s j)) 512 at 0 inside ∙ ap carried_choice frame_is

    carried_kept : get_or carried at 0 ≡ (sent_of (frame_of s e)).carried
    unfolding carried_of
    carried_kept =
        ap (λ (l : List ℕ). get_or l at 0) kept.carried_are ∙ table_at (λ j. (sent_of (frame_at s j)).carried) 512 at 0 inside
        ∙ ap (λ (x : Frame). (sent_of x).carried) frame_is

  pub vote_input : e.action ≡ 5 → (at : ℕ) → at ≡ frame_index e.action e.sender e.serial → (x : ℕ) → x ≡ get_or carried at 0 - 1
      → input_with e (get_or choices at 0) x (eqb (get_or carried at 0) 0) ≡ input_of e (frame_of s e)
  vote_input a at u x less =
      let carries = vote_carries e.serial (frame_of s e) (delivers a) (frames_in_range (heads_few now) (valid_history now) e.action e.sender e.serial).reading in
      let c = carried_kept votes a at u in
      input_is e (frame_of s e) (choice_kept votes a at u) (less ∙ ap (λ (x : ℕ). x - 1) c ∙ carries.0) (ap (λ (x : ℕ). eqb x 0) c ∙ carries.1 ∙ rw a refl)

  pub adjust_input : e.action ≡ 8 → (at : ℕ) → at ≡ frame_index e.action e.sender e.serial
      → input_with e (get_or choices at 0) (get_or carried at 0) false ≡ input_of e (frame_of s e)
  adjust_input a at u =
      input_is e (frame_of s e) (choice_kept adjusts a at u) (carried_kept adjusts a at u ∙ adjust_carries e.serial (frame_of s e) (delivers a)) (rw a refl)

  pub plain_input : e.action ≢ 5 → e.action ≢ 8 → input_with e 0 0 false ≡ input_of e (frame_of s e)
  plain_input a b =
      let vote = ne_eqb e.action 5 a in
      let carries = plain_carries e.action e.serial (frame_of s e) (delivers refl) vote (ne_eqb e.action 8 b) in
      input_is e (frame_of s e) carries.0 carries.1 (rw vote refl)
