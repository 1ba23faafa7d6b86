-- The order of a drafted round: which entry has its place in which of the 9n slots.
-- Main results: `At`, `in_slot` (an entry with its place in a slot is one of that slot), `fits` (and no slot has others), `last_entry`, `facts`.
use mathlib.Core.Path.{◌≡◌, refl, sym, ◌∙◌, ap, ap₂, subst}
use mathlib.Core.Bool.{true, false, cond}
use mathlib.Core.List.{List, [], ◌∷◌, ◌++◌}
use mathlib.Core.Logic.{◌≢◌}
use Prim.Native.Nat.{ℕ, suc, ◌+◌, ◌-◌, ◌*◌, ◌≤◌, ◌<◌, min}
use native.Mathlib.Omega.{arith}
use lib.Dec.{ltb}
use lib.ListN.{length, get_or, take, get_or-append, length-append, take-append-drop, drop_of_length-le}
use lib.Seq.{get_or-append-add, drop-cons, length-take-le}
use borrow.Author.Tests.{ltb-true, ltb-false, eqb-false, ne_eqb}
use Rattle.protocol.specs.Words.{has_serial, has_sender, zero_where_unused}
use Rattle.protocol.specs.declared.Kind.{Kind}
use Rattle.protocol.specs.Record.{votes, adjusts}
use Rattle.protocol.specs.Premises.{turning, delivery, closing}
use Rattle.protocol.specs.Draft.{Slot, slots, phase_order, round_order, draft_entry, is_receiver, entries_from, draft_entries, last_slot_time}
use Rattle.protocol.proofs.Tests.{absurd_bool, cases, not_true}
use Rattle.protocol.proofs.Tables.{table_from}
use Rattle.protocol.proofs.DraftRoom.{slot, entries_join, slots_length, phase_length, order_length}

-- a phase's first slot, and the first of its closes
abbrev pub opens : ℕ → Kind → ℕ
opens n votes = 3 * n
opens n adjusts = 6 * n

abbrev pub shuts : ℕ → Kind → ℕ
shuts n votes = 5 * n
shuts n adjusts = 8 * n

-- the action of the head, with the sender, has its place in slot i
pub data At (n : ℕ) : ℕ → ℕ → ℕ → ℕ → Type 0 where
  starts : {q : ℕ} → q < n → At n 1 q 0 q
  start_heard : {q p : ℕ} → q < n → p < n → At n 2 q p (n + p)
  confirms : {q : ℕ} → q < n → At n 3 q 0 (2 * n + q)
  leads : (k : Kind) → 0 < n → At n (turning k) 0 0 (opens n k)
  first_heard : (k : Kind) {q : ℕ} → 0 < q → q < n → At n (delivery k) q 0 (opens n k + 1)
  turns : (k : Kind) {q : ℕ} → 0 < q → q < n → At n (turning k) q 0 (opens n k + 1 + q)
  heard : (k : Kind) {q p : ℕ} → q ≢ p → q < n → 0 < p → p < n → At n (delivery k) q p (opens n k + n + p)
  closes : (k : Kind) {q : ℕ} → q < n → At n (closing k) q 0 (shuts n k + q)

pub above_0 : (q : ℕ) → q ≢ 0 → 0 < q
above_0 q d = omega arith

turn_plain : (k : Kind) → has_sender (turning k) ≡ false
turn_plain votes = refl
turn_plain adjusts = refl

close_plain : (k : Kind) → has_sender (closing k) ≡ false
close_plain votes = refl
close_plain adjusts = refl

frame_serial : (k : Kind) → (has_sender (delivery k) ≡ true) × (has_serial (delivery k) ≡ true)
frame_serial votes = (refl, refl)
frame_serial adjusts = (refl, refl)

-- the slot that has an entry
abbrev pub slot_of : ℕ → ℕ → ℕ → Slot
slot_of a q p = slot a (cond (has_sender a) p q)

-- WHAT THE SLOTS HAVE

-- all entries of the slot have their place in slot i
pub data Fit (n i : ℕ) (x : Slot) : Type 0 where
  acts : has_sender x.action ≡ false → At n x.action x.head 0 i → Fit n i x
  delivers : has_sender x.action ≡ true → ((q : ℕ) → q < n → is_receiver x.action x.head q ≡ true → At n x.action q x.head i) → Fit n i x

abbrev nowhere : Slot
nowhere = slot 0 0

-- slots fit where they stand, from slot m on
record FitFrom (n m : ℕ) (xs : List Slot) : Type 0 where
  fit : (i : ℕ) → i < length xs → Fit n (m + i) (get_or xs i nowhere)

module _ (n : ℕ) where
  fit_both : {m j : ℕ} (k : ℕ) (xs ys : List Slot) → length xs ≡ k → m + k ≡ j → FitFrom n m xs → FitFrom n j ys → FitFrom n m (xs ++ ys)
  fit_both {m} {j} k xs ys e at x y =
      record {
        fit = λ i l. cases (ltb i k)
            (λ t. let lt = ltb-true i k t in
            subst (Fit n (m + i)) (sym (get_or-append xs ys nowhere i (omega arith))) (x.fit i (omega arith)))
            (λ t. let le = ltb-false i k t in
            let size = length-append xs ys in
            let here : i ≡ length xs + (i - k) = omega arith in
            let there : j + (i - k) ≡ m + i = omega arith in
            subst (λ (u : ℕ). Fit n u (get_or (xs ++ ys) i nowhere)) there
            (subst (Fit n (j + (i - k))) (sym (ap (λ (u : ℕ). get_or (xs ++ ys) u nowhere) here ∙ get_or-append-add xs ys (i - k) nowhere)) (y.fit (i - k) (omega arith))));
      }

  fit_slots : {m : ℕ} (a from to : ℕ) → ((q i : ℕ) → from ≤ q → q < to → i + from ≡ m + q → Fit n i (slot a q)) → FitFrom n m (slots a from to)
  fit_slots {m} a from to h =
      record {
        fit = λ i l. let size = slots_length a from to in
            subst (Fit n (m + i)) (sym (table_from (slot a) from (to - from) i nowhere (omega arith))) (h (from + i) (m + i) (omega arith) (omega arith) (omega arith));
      }

  at_slot : {a q p i : ℕ} (j : ℕ) → At n a q p j → j ≡ i → At n a q p i
  at_slot {a} {q} {p} j x e = subst (At n a q p) e x

  fit_phase : (k : Kind) → 0 < n → FitFrom n (opens n k) (phase_order n (turning k) (delivery k))
  unfolding phase_order
  fit_phase k pos =
      let o = opens n k in
      fit_both 1 (slots (turning k) 0 1) _ (slots_length (turning k) 0 1) refl
      (fit_slots (turning k) 0 1 (λ q i l h e. let z : 0 ≡ q = omega arith in subst (λ (q : ℕ). Fit n i (slot (turning k) q)) z (acts (turn_plain k) (at_slot o (leads k pos) (omega arith)))))
      (fit_both 1 (slots (delivery k) 0 1) _ (slots_length (delivery k) 0 1) refl
      (fit_slots (delivery k) 0 1 (λ p i l h e. let z : 0 ≡ p = omega arith in subst (λ (p : ℕ). Fit n i (slot (delivery k) p)) z
      (delivers (frame_serial k).0 (λ q lq r. at_slot (o + 1) (first_heard k (above_0 q (not_own k 0 q r)) lq) (omega arith)))))
      (fit_both (n - 1) (slots (turning k) 1 n) _ (slots_length (turning k) 1 n) refl
      (fit_slots (turning k) 1 n (λ q i l h e. acts (turn_plain k) (at_slot (o + 1 + q) (turns k (omega arith) h) (omega arith))))
      (fit_slots (delivery k) 1 n (λ p i l h e. delivers (frame_serial k).0 (λ q lq r. at_slot (o + n + p) (heard k (not_own k p q r) lq (omega arith) h) (omega arith))))))
    where
      not_own : (k : Kind) (p q : ℕ) → is_receiver (delivery k) p q ≡ true → q ≢ p
      not_own votes p q r = eqb-false q p (not_true r)
      not_own adjusts p q r = eqb-false q p (not_true r)

  fit_closes : (k : Kind) → FitFrom n (shuts n k) (slots (closing k) 0 n)
  fit_closes k = fit_slots (closing k) 0 n (λ q i l h e. acts (close_plain k) (at_slot (shuts n k + q) (closes k h) (omega arith)))

  fit_round : 0 < n → FitFrom n 0 (round_order n)
  unfolding round_order
  fit_round pos =
      fit_both {j = n} (n - 0) (slots 1 0 n) _ (slots_length 1 0 n) (omega arith) (fit_slots 1 0 n (λ q i l h e. acts refl (at_slot q (starts h) (omega arith))))
      (fit_both {j = 2 * n} (n - 0) (slots 2 0 n) _ (slots_length 2 0 n) (omega arith) (fit_slots 2 0 n (λ p i l h e. delivers refl (λ q lq r. at_slot (n + p) (start_heard lq h) (omega arith))))
      (fit_both {j = 3 * n} (n - 0) (slots 3 0 n) _ (slots_length 3 0 n) (omega arith) (fit_slots 3 0 n (λ q i l h e. acts refl (at_slot (2 * n + q) (confirms h) (omega arith))))
      (fit_both {j = 5 * n} (2 * n) (phase_order n 4 5) _ (phase_length n 4 5 pos) (omega arith) (fit_phase votes pos)
      (fit_both {j = 6 * n} (n - 0) (slots 6 0 n) _ (slots_length 6 0 n) (omega arith) (fit_closes votes)
      (fit_both {j = 8 * n} (2 * n) (phase_order n 7 8) _ (phase_length n 7 8 pos) (omega arith) (fit_phase adjusts pos) (fit_closes adjusts))))))

  abbrev pub slot_at : ℕ → Slot
  slot_at i = get_or (round_order n) i nowhere

  pub fits : (i : ℕ) → i < 9 * n → Fit n i (slot_at i)
  fits i h = let size = order_length n (omega arith) in subst (λ (u : ℕ). Fit n u (slot_at i)) (let eq : 0 + i ≡ i = omega arith in eq) ((fit_round (omega arith)).fit i (omega arith))

  -- WHERE THE SLOTS STAND

  -- slots stand in the order from slot m on
  record Stands (m : ℕ) (xs : List Slot) : Type 0 where
    at : (i : ℕ) → i < length xs → slot_at (m + i) ≡ get_or xs i nowhere

  stands_front : {m : ℕ} (xs ys : List Slot) → Stands m (xs ++ ys) → Stands m xs
  stands_front xs ys s = record { at = λ i l. s.at i (let z = length-append xs ys in omega arith) ∙ get_or-append xs ys nowhere i l }

  stands_rest : {m j : ℕ} (k : ℕ) (xs ys : List Slot) → length xs ≡ k → m + k ≡ j → Stands m (xs ++ ys) → Stands j ys
  stands_rest {m} {j} k xs ys e there s =
      record {
        at = λ i l. let z = length-append xs ys in
            ap slot_at (let eq : j + i ≡ m + (length xs + i) = omega arith in eq) ∙ s.at (length xs + i) (omega arith) ∙ get_or-append-add xs ys i nowhere;
      }

  in_slots : {m : ℕ} (a from to : ℕ) → Stands m (slots a from to) → (q i : ℕ) → from ≤ q → q < to → i + from ≡ m + q → slot_at i ≡ slot a q
  in_slots {m} a from to s q i lo hi e =
      ap slot_at (let eq : i ≡ m + (q - from) = omega arith in eq) ∙ s.at (q - from) (let z = slots_length a from to in omega arith)
      ∙ table_from (slot a) from (to - from) (q - from) nowhere (omega arith) ∙ ap (slot a) (let eq : from + (q - from) ≡ q = omega arith in eq)

  record Blocks : Type 0 where
    starting : Stands 0 (slots 1 0 n)
    starts_heard : Stands n (slots 2 0 n)
    confirming : Stands (2 * n) (slots 3 0 n)
    phase : (k : Kind) → Stands (opens n k) (phase_order n (turning k) (delivery k))
    closing_all : (k : Kind) → Stands (shuts n k) (slots (closing k) 0 n)

  blocks : 0 < n → Blocks
  unfolding round_order
  blocks pos =
      record {
        starting = stands_front (slots 1 0 n) _ from_1;
        starts_heard = stands_front (slots 2 0 n) _ from_2;
        confirming = stands_front (slots 3 0 n) _ from_3;
        phase = λ k. phases k;
        closing_all = λ k. closings k;
      }
    where
      from_1 : Stands 0 (round_order n)
      from_1 = record { at = λ i l. ap slot_at (omega arith) }

      from_2 : Stands n (slots 2 0 n ++ (slots 3 0 n ++ (phase_order n 4 5 ++ (slots 6 0 n ++ (phase_order n 7 8 ++ slots 9 0 n)))))
      from_2 = stands_rest (n - 0) (slots 1 0 n) _ (slots_length 1 0 n) (omega arith) from_1

      from_3 : Stands (2 * n) (slots 3 0 n ++ (phase_order n 4 5 ++ (slots 6 0 n ++ (phase_order n 7 8 ++ slots 9 0 n))))
      from_3 = stands_rest (n - 0) (slots 2 0 n) _ (slots_length 2 0 n) (omega arith) from_2

      from_4 : Stands (3 * n) (phase_order n 4 5 ++ (slots 6 0 n ++ (phase_order n 7 8 ++ slots 9 0 n)))
      from_4 = stands_rest (n - 0) (slots 3 0 n) _ (slots_length 3 0 n) (omega arith) from_3

      from_6 : Stands (5 * n) (slots 6 0 n ++ (phase_order n 7 8 ++ slots 9 0 n))
      from_6 = stands_rest (2 * n) (phase_order n 4 5) _ (phase_length n 4 5 pos) (omega arith) from_4

      from_7 : Stands (6 * n) (phase_order n 7 8 ++ slots 9 0 n)
      from_7 = stands_rest (n - 0) (slots 6 0 n) _ (slots_length 6 0 n) (omega arith) from_6

      phases : (k : Kind) → Stands (opens n k) (phase_order n (turning k) (delivery k))
      phases votes = stands_front (phase_order n 4 5) _ from_4
      phases adjusts = stands_front (phase_order n 7 8) _ from_7

      closings : (k : Kind) → Stands (shuts n k) (slots (closing k) 0 n)
      closings votes = stands_front (slots 6 0 n) _ from_6
      closings adjusts = stands_rest (2 * n) (phase_order n 7 8) _ (phase_length n 7 8 pos) (omega arith) from_7

  record PhaseBlocks (k : Kind) : Type 0 where
    leading : slot_at (opens n k) ≡ slot (turning k) 0
    first_frame : slot_at (opens n k + 1) ≡ slot (delivery k) 0
    turning_all : (q : ℕ) → 0 < q → q < n → slot_at (opens n k + 1 + q) ≡ slot (turning k) q
    frames : (p : ℕ) → 0 < p → p < n → slot_at (opens n k + n + p) ≡ slot (delivery k) p

  phase_blocks : 0 < n → (k : Kind) → PhaseBlocks k
  unfolding phase_order
  phase_blocks pos k =
      let o = opens n k in
      let s = (blocks pos).phase k in
      let s2 = stands_rest {j = o + 1} 1 (slots (turning k) 0 1) _ (slots_length (turning k) 0 1) refl s in
      let s3 = stands_rest {j = o + 2} 1 (slots (delivery k) 0 1) _ (slots_length (delivery k) 0 1) (omega arith) s2 in
      let s4 = stands_rest {j = o + 1 + n} (n - 1) (slots (turning k) 1 n) _ (slots_length (turning k) 1 n) (omega arith) s3 in
      record {
        leading = in_slots (turning k) 0 1 (stands_front _ _ s) 0 o (omega arith) (omega arith) (omega arith);
        first_frame = in_slots (delivery k) 0 1 (stands_front _ _ s2) 0 (o + 1) (omega arith) (omega arith) (omega arith);
        turning_all = λ q l h. in_slots (turning k) 1 n (stands_front _ _ s3) q (o + 1 + q) l h (omega arith);
        frames = λ p l h. in_slots (delivery k) 1 n s4 p (o + n + p) l h (omega arith);
      }

  pub in_slot : {a q p i : ℕ} → At n a q p i → slot_at i ≡ slot_of a q p
  in_slot (starts {q} l) = in_slots 1 0 n (blocks (omega arith)).starting q q (omega arith) l (omega arith)
  in_slot (start_heard {q} {p} l lp) = in_slots 2 0 n (blocks (omega arith)).starts_heard p (n + p) (omega arith) lp (omega arith)
  in_slot (confirms {q} l) = in_slots 3 0 n (blocks (omega arith)).confirming q (2 * n + q) (omega arith) l (omega arith)
  in_slot (leads k pos) = rw (turn_plain k) (phase_blocks pos k).leading
  in_slot (first_heard k z l) = rw (frame_serial k).0 (phase_blocks (omega arith) k).first_frame
  in_slot (turns k {q} z l) = rw (turn_plain k) ((phase_blocks (omega arith) k).turning_all q z l)
  in_slot (heard k {q} {p} d l z lp) = rw (frame_serial k).0 ((phase_blocks (omega arith) k).frames p z lp)
  in_slot (closes k {q} l) = rw (close_plain k) (in_slots (closing k) 0 n ((blocks (omega arith)).closing_all k) q (shuts n k + q) (omega arith) l (omega arith))

-- "the last real time": the last entry is head n − 1's action 9, at the time that cause 13 tests
pub last_entry : (n first spacing : ℕ) → 0 < n
    → draft_entries n first spacing ≡ entries_from n spacing first (take (9 * n - 1) (round_order n)) ++ (draft_entry (last_slot_time n first spacing) 9 (n - 1) 0 ∷ [])
unfolding draft_entries entries_from
last_entry n first spacing pos =
    let last = 9 * n - 1 in
    let size = order_length n pos in
    let here : slot_at n last ≡ slot 9 (n - 1) = ap (slot_at n) (let z : last ≡ 8 * n + (n - 1) = omega arith in z) ∙ in_slot n (closes adjusts (omega arith)) in
    let split : round_order n ≡ take last (round_order n) ++ (slot 9 (n - 1) ∷ []) =
    sym (take-append-drop last (round_order n))
    ∙ ap (λ (l : List Slot). take last (round_order n) ++ l) (drop-cons (round_order n) last nowhere (omega arith) ∙ ap₂ ◌∷◌ here (drop_of_length-le (round_order n) {i = suc last} (omega arith))) in
    let before : length (take last (round_order n)) ≡ last = length-take-le last (round_order n) (omega arith) in
    ap (entries_from n spacing first) split ∙ entries_join n spacing first (take last (round_order n)) (slot 9 (n - 1) ∷ [])
    ∙ ap (λ (k : ℕ). entries_from n spacing first (take last (round_order n)) ++ (draft_entry (first + spacing * k) 9 (n - 1) 0 ∷ [])) before

-- NUMBERS

-- the earliest slot in which a head takes an action
abbrev pub earliest : ℕ → ℕ → ℕ → ℕ
earliest n a q =
    get_or (0 ∷ q ∷ n ∷ (2 * n + q) ∷ (3 * n + q + min 1 q) ∷ (3 * n + 1) ∷ (5 * n + q) ∷ (6 * n + q + min 1 q) ∷ (6 * n + 1) ∷ (8 * n + q) ∷ []) a 0

pub earliest_turn : (n q : ℕ) (k : Kind) → earliest n (turning k) q ≡ opens n k + q + min 1 q
earliest_turn n q votes = refl
earliest_turn n q adjusts = refl

pub earliest_close : (n q : ℕ) (k : Kind) → earliest n (closing k) q ≡ shuts n k + q
earliest_close n q votes = refl
earliest_close n q adjusts = refl

pub record Facts (n a q p i : ℕ) : Type 0 where
  pub action_below : a ≤ 9
  pub head_below : q < n
  pub sender_below : p < n
  pub unused : zero_where_unused a p 0 ≡ true
  pub receiver : has_sender a ≡ true → is_receiver a p q ≡ true
  pub in_round : i < 9 * n
  pub no_earlier : earliest n a q ≤ i
  -- only a delivery may come later, a start's with its sender, a frame's before its phase closes
  pub timed : has_sender a ≡ false → i ≡ earliest n a q
  pub start_slot : a ≡ 2 → i ≡ n + p
  pub before_closes : (k : Kind) → a ≡ delivery k → i < shuts n k

numbers : {n a q p i : ℕ} → a ≤ 9 → zero_where_unused a p 0 ≡ true → (has_sender a ≡ true → is_receiver a p q ≡ true) → (has_sender a ≡ false → i ≡ earliest n a q)
    → (q < n) × (p < n) × (i < 9 * n) × (earliest n a q ≤ i) → (a ≡ 2 → i ≡ n + p) × (a ≡ 5 → i < 5 * n) × (a ≡ 8 → i < 8 * n) → Facts n a q p i
numbers {n} {a} {i = i} nine z r t b h =
    record {
      action_below = nine;
      head_below = b.0;
      sender_below = b.1;
      unused = z;
      receiver = r;
      in_round = b.2;
      no_earlier = b.3;
      timed = t;
      start_slot = h.0;
      before_closes = by_phase;
    }
  where
    by_phase : (k : Kind) → a ≡ delivery k → i < shuts n k
    by_phase votes e = h.1 e
    by_phase adjusts e = h.2 e

pub facts : {n a q p i : ℕ} → At n a q p i → Facts n a q p i
facts (starts l) = numbers (omega arith) refl (λ h. absurd_bool h refl) (λ _. omega arith) (l, omega arith, omega arith, omega arith) (λ e. omega arith, λ e. omega arith, λ e. omega arith)
facts (start_heard l lp) = numbers (omega arith) refl (λ _. refl) (absurd_bool refl) (l, lp, omega arith, omega arith) (λ e. omega arith, λ e. omega arith, λ e. omega arith)
facts (confirms l) = numbers (omega arith) refl (λ h. absurd_bool h refl) (λ _. omega arith) (l, omega arith, omega arith, omega arith) (λ e. omega arith, λ e. omega arith, λ e. omega arith)
facts (leads votes pos) = numbers (omega arith) refl (λ h. absurd_bool h refl) (λ _. omega arith) (pos, pos, omega arith, omega arith) (λ e. omega arith, λ e. omega arith, λ e. omega arith)
facts (leads adjusts pos) = numbers (omega arith) refl (λ h. absurd_bool h refl) (λ _. omega arith) (pos, pos, omega arith, omega arith) (λ e. omega arith, λ e. omega arith, λ e. omega arith)
facts (first_heard votes {q} z l) = numbers (omega arith) refl (λ _. rw (ne_eqb q 0 (λ e. omega arith)) refl) (absurd_bool refl) (l, omega arith, omega arith, omega arith) (λ e. omega arith, λ e. omega arith, λ e. omega arith)
facts (first_heard adjusts {q} z l) = numbers (omega arith) refl (λ _. rw (ne_eqb q 0 (λ e. omega arith)) refl) (absurd_bool refl) (l, omega arith, omega arith, omega arith) (λ e. omega arith, λ e. omega arith, λ e. omega arith)
facts (turns votes z l) = numbers (omega arith) refl (λ h. absurd_bool h refl) (λ _. omega arith) (l, omega arith, omega arith, omega arith) (λ e. omega arith, λ e. omega arith, λ e. omega arith)
facts (turns adjusts z l) = numbers (omega arith) refl (λ h. absurd_bool h refl) (λ _. omega arith) (l, omega arith, omega arith, omega arith) (λ e. omega arith, λ e. omega arith, λ e. omega arith)
facts (heard votes {q} {p} d l z lp) = numbers (omega arith) refl (λ _. rw (ne_eqb q p d) refl) (absurd_bool refl) (l, lp, omega arith, omega arith) (λ e. omega arith, λ e. omega arith, λ e. omega arith)
facts (heard adjusts {q} {p} d l z lp) = numbers (omega arith) refl (λ _. rw (ne_eqb q p d) refl) (absurd_bool refl) (l, lp, omega arith, omega arith) (λ e. omega arith, λ e. omega arith, λ e. omega arith)
facts (closes votes l) = numbers (omega arith) refl (λ h. absurd_bool h refl) (λ _. omega arith) (l, omega arith, omega arith, omega arith) (λ e. omega arith, λ e. omega arith, λ e. omega arith)
facts (closes adjusts l) = numbers (omega arith) refl (λ h. absurd_bool h refl) (λ _. omega arith) (l, omega arith, omega arith, omega arith) (λ e. omega arith, λ e. omega arith, λ e. omega arith)
