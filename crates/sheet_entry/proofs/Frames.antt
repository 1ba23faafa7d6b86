-- The arrays of frames sent, after an accepted entry: a vote or adjust that it sends is stored at its own index, which nothing
-- stood at; any other frame leaves them.
-- Main results: `stores_frame`, `keeps_frames`.
use Rattle.std.specs.Prelude.{unwrap_or}
use mathlib.Core.Path.{◌≡◌, refl, sym, ◌∙◌, ap, ap₂, subst}
use mathlib.Core.Bool.{Bool, true, false, ◌&&◌}
use mathlib.Core.List.{List, ◌∷◌}
use Prim.Native.Nat.{ℕ, ◌%◌, ◌≤◌, ◌<◌}
use native.Mathlib.Omega.{arith}
use lib.Dec.{ltb, eqb}
use lib.ListN.{set}
use borrow.Author.Tests.{eqb-true, eqb-false}
use Rattle.protocol.specs.declared.HeadRow.{HeadRow}
use Rattle.protocol.specs.declared.Setting.{Setting}
use Rattle.head_row.specs.declared.Sent.{Sent}
use Rattle.protocol.specs.Types.{Frame, NoFrame, Start, Vote, Adjust, Accepted}
use Rattle.protocol.specs.Base.{table}
use Rattle.protocol.specs.Words.{setting_at, entry_at}
use Rattle.protocol.specs.declared.Kind.{Kind}
use Rattle.protocol.specs.Record.{votes, adjusts}
use Rattle.protocol.specs.Premises.{delivery}
use Rattle.head_row.specs.Sent.{sent_of}
use Rattle.protocol.specs.Run.{Event, History, is_delivered_by, carried_choice}
use Rattle.protocol.proofs.Tests.{absurd_bool, cases, cond_elim, and_left, and_right, eqb_same, and_false}
use Rattle.protocol.proofs.Tables.{length_table, table_at, is_table, set_table}
use Rattle.protocol.proofs.Effects.{named, serial_of}
use Rattle.protocol.proofs.Valid.{Taken, Valid, more}
use Rattle.protocol.proofs.Ranges.{FrameInRange, frames_in_range}
use Rattle.protocol.proofs.Runs.{sent_before, sent_now}
use Rattle.sheet_state.specs.Indices.{frame_index}
use Rattle.sheet_state.specs.Arrays.{action_at, head_at, serial_at, frame_at, choices_of, carried_of, answer_at, event_at, Stands, Carries}
use Rattle.sheet_state.proofs.Indices.{index_fields, frame_at_index, fields_index}
use Rattle.sheet_state.proofs.Standing.{heads_few, at_most_16, valid_history, next_taken}

-- THE PLACES OF ONE FRAME

-- the event's frame is the one that stands at index j
abbrev stands_at : Event → ℕ → Bool
stands_at e j = eqb e.entry.head (head_at j) && is_delivered_by (action_at j) (serial_at j) e.frame

-- a vote or adjust is delivered by one action, under one serial
delivered_once : (k : Kind) (i a j : ℕ) (x : Frame) → is_delivered_by (delivery k) i x ≡ true → is_delivered_by a j x ≡ true → (a ≡ delivery k) × (j ≡ i)
delivered_once votes i a j NoFrame p q = absurd_bool p refl
delivered_once votes i a j Start p q = absurd_bool p refl
delivered_once votes i a j (Vote m c x) p q = (eqb-true a 5 (and_left (eqb a 5) _ q), sym (eqb-true m j (and_right (eqb a 5) _ q)) ∙ eqb-true m i p)
delivered_once votes i a j (Adjust m c x) p q = absurd_bool p refl
delivered_once adjusts i a j NoFrame p q = absurd_bool p refl
delivered_once adjusts i a j Start p q = absurd_bool p refl
delivered_once adjusts i a j (Vote m c x) p q = absurd_bool p refl
delivered_once adjusts i a j (Adjust m c x) p q = (eqb-true a 8 (and_left (eqb a 8) _ q), sym (eqb-true m j (and_right (eqb a 8) _ q)) ∙ eqb-true m i p)

-- so it stands at its own index only
other_index : (e : Event) (k : Kind) (i : ℕ) → is_delivered_by (delivery k) i e.frame ≡ true → (j : ℕ) → j < 512 → eqb j (frame_index (delivery k) e.entry.head i) ≡ false
    → stands_at e j ≡ false
other_index e k i d j below other =
    cases (stands_at e j)
    (λ t. let head = eqb-true e.entry.head (head_at j) (and_left (eqb e.entry.head (head_at j)) _ t) in
    let once = delivered_once k i (action_at j) (serial_at j) e.frame d (and_right (eqb e.entry.head (head_at j)) _ t) in
    absurd (eqb-false j _ other (sym (fields_index k j below once.0) ∙ ap₂ (frame_index (delivery k)) (sym head) once.1)))
    (λ t. t)

-- what is neither stands nowhere
no_index : (x : Frame) → (sent_of x).kind < 5 → (j : ℕ) → is_delivered_by (action_at j) (serial_at j) x ≡ false
no_index NoFrame h j = refl
no_index Start h j = cond_elim (λ (a : ℕ). eqb a 2 ≡ false) (ltb j 256) (λ _. refl) (λ _. refl)
no_index (Vote i c x) h j = absurd (omega arith)
no_index (Adjust i c x) h j = absurd (omega arith)

-- ONE ARRAY: part is what it keeps of a frame

module _ (part : Frame → ℕ) where
  abbrev array_of : History → List ℕ
  array_of s = table (λ j. part (frame_at s j)) 0 512

  stored : {g : Setting} {s : History} {e : Event} → Taken g s e → Valid g s → e.entry.head < 16 → (k : Kind) (i : ℕ) → i < 16 → is_delivered_by (delivery k) i e.frame ≡ true
      → set (array_of s) (frame_index (delivery k) e.entry.head i) (part e.frame) ≡ array_of (e ∷ s)
  stored {g} {s} {e} t v head k i serial d =
      set_table (λ j. part (frame_at s j)) (λ j. part (frame_at (e ∷ s) j)) 512 _ (part e.frame) 0 (index_fields k e.entry.head i head serial).0
      (ap part (frame_at_index (e ∷ s) k e.entry.head i head serial ∙ sent_now g k t v i d))
      (λ j below other. ap part (sent_before e s (action_at j) (head_at j) (serial_at j) (other_index e k i d j below other)))

  unchanged : (s : History) (e : Event) → (sent_of e.frame).kind < 5 → array_of s ≡ array_of (e ∷ s)
  unchanged s e h =
      is_table (λ j. part (frame_at (e ∷ s) j)) 512 0 (array_of s) (length_table (λ j. part (frame_at s j)) 0 512)
      (λ j below. table_at (λ j. part (frame_at s j)) 512 j 0 below
      ∙ ap part (sym (sent_before e s (action_at j) (head_at j) (serial_at j) (and_false (eqb e.entry.head (head_at j)) _ (no_index e.frame h j)))))

-- BOTH ARRAYS

-- a vote or adjust, by the numbers that its head's step gives
record IsKept (x : Frame) : Type 0 where
  phase : Kind
  kind_is : (sent_of x).kind ≡ delivery phase
  delivered : is_delivered_by (delivery phase) (sent_of x).serial x ≡ true

is_kept_lem : (x : Frame) → 5 ≤ (sent_of x).kind → IsKept x
is_kept_lem NoFrame h = absurd (omega arith)
is_kept_lem Start h = absurd (omega arith)
is_kept_lem (Vote j c y) h = record { phase = votes; kind_is = refl; delivered = eqb_same j }
is_kept_lem (Adjust j c y) h = record { phase = adjusts; kind_is = refl; delivered = eqb_same j }

choice_is : (x : Frame) → (sent_of x).choice ≡ carried_choice x
choice_is NoFrame = refl
choice_is Start = refl
choice_is (Vote j c y) = refl
choice_is (Adjust j c y) = refl

pub choice_named : (x : Frame) → carried_choice x ≡ unwrap_or (named x) 0
choice_named NoFrame = refl
choice_named Start = refl
choice_named (Vote j c y) = refl
choice_named (Adjust j c y) = refl

serial_is : (x : Frame) → (sent_of x).serial ≡ serial_of x
serial_is NoFrame = refl
serial_is Start = refl
serial_is (Vote j c y) = refl
serial_is (Adjust j c y) = refl

module _ {ws : List ℕ} {i : ℕ} {s : History} {heads : List HeadRow} (now : Stands ws i s heads) {choices carried : List ℕ} (kept : Carries s choices carried)
    (taken : (answer_at ws i s).verdict ≡ Accepted) {x : Sent} (is : x ≡ sent_of (answer_at ws i s).frame) where
  pub keeps_frames : x.kind < 5 → Carries (event_at ws i s ∷ s) choices carried
  unfolding choices_of carried_of
  keeps_frames h =
      let small : (sent_of (event_at ws i s).frame).kind < 5 = subst (λ (x : Sent). x.kind < 5) is h in
      record {
        choices_are = kept.choices_are ∙ unchanged carried_choice s (event_at ws i s) small;
        carried_are = kept.carried_are ∙ unchanged (λ x. (sent_of x).carried) s (event_at ws i s) small;
      }

  pub stores_frame : {h : ℕ} → h ≡ (entry_at ws i).head → 5 ≤ x.kind → {at : ℕ} → at ≡ frame_index (x.kind % 256) h (x.serial % 256)
      → Carries (event_at ws i s ∷ s) (set choices at (x.choice % 256)) (set carried at x.carried)
  unfolding choices_of carried_of
  stores_frame {h} head large {at} place =
      record {
        choices_are = ap₂ (λ (l : List ℕ) (c : ℕ). set l at c) kept.choices_are choice_stored ∙ store carried_choice;
        carried_are = ap₂ (λ (l : List ℕ) (c : ℕ). set l at c) kept.carried_are (ap (λ (x : Sent). x.carried) is) ∙ store (λ x. (sent_of x).carried);
      }
    where
      y : Frame
      y = (answer_at ws i s).frame

      k : IsKept (answer_at ws i s).frame
      k = is_kept_lem (answer_at ws i s).frame (subst (λ (x : Sent). 5 ≤ x.kind) is large)

      t : Taken (setting_at ws) s (event_at ws i s)
      t = next_taken now taken

      v : Valid (setting_at ws) s
      v = valid_history now

      in_range : FrameInRange (setting_at ws).n (answer_at ws i s).frame
      in_range =
          subst (FrameInRange (setting_at ws).n) (sent_now (setting_at ws) k.phase t v (sent_of y).serial k.delivered)
          (frames_in_range (heads_few now) (more t v) (delivery k.phase) (entry_at ws i).head (sent_of y).serial)

      head_below : (entry_at ws i).head < 16
      head_below = let a = t.head_below in let b = at_most_16 now in omega arith

      serial_below : (sent_of y).serial < 16
      serial_below = rw (serial_is y) (let a = in_range.serial in omega arith)

      choice_below : carried_choice y < 16
      choice_below = rw (choice_named y) (let a = in_range.choice in let b = at_most_16 now in omega arith)

      choice_stored : x.choice % 256 ≡ carried_choice y
      choice_stored = ap (λ (x : Sent). x.choice % 256) is ∙ ap (λ (c : ℕ). c % 256) (choice_is y) ∙ (let a = choice_below in omega arith)

      at_is : at ≡ frame_index (delivery k.phase) (entry_at ws i).head (sent_of y).serial
      at_is =
          place ∙ ap₂ (λ (x : Sent) (h : ℕ). frame_index (x.kind % 256) h (x.serial % 256)) is head
          ∙ ap₂ (λ (a j : ℕ). frame_index (a % 256) (entry_at ws i).head j) k.kind_is (let a = serial_below in omega arith)
          ∙ ap (λ (a : ℕ). frame_index a (entry_at ws i).head (sent_of y).serial) (small k.phase)
        where
          small : (k : Kind) → delivery k % 256 ≡ delivery k
          small votes = refl
          small adjusts = refl

      store : (part : Frame → ℕ) → set (table (λ j. part (frame_at s j)) 0 512) at (part y) ≡ table (λ j. part (frame_at (event_at ws i s ∷ s) j)) 0 512
      store part = rw at_is (stored part t v head_below k.phase (sent_of y).serial serial_below k.delivered)
