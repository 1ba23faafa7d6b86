-- A drafted round's 9n slots, their times and its 3n² + 4n entries: "The room is known beforehand".
-- Main results: `entries_join`, `order_length`, `in_time_lem`, `entries_count`, `draft_length`.
use mathlib.Core.Path.{◌≡◌, refl, sym, ◌∙◌, ap, ap₂}
use mathlib.Core.Bool.{true, false}
use mathlib.Core.List.{List, [], ◌∷◌, ◌++◌, append_assoc}
use Prim.Native.Nat.{ℕ, zero, suc, ◌+◌, ◌-◌, ◌*◌, ◌^◌, ◌≤◌, ◌<◌}
use native.Mathlib.Nat.{mul-le-mul_left}
use native.Mathlib.Omega.{arith}
use lib.Dec.{eqb}
use lib.ListN.{length, length-append}
use borrow.Author.Tests.{eqb-true, eqb-false, ne_eqb}
use Rattle.protocol.specs.Base.{table}
use Rattle.protocol.specs.Types.{Entry}
use Rattle.protocol.specs.Words.{has_serial, place_of}
use Rattle.protocol.specs.Draft.{Slot, slots, phase_order, round_order, deliveries, slot_entries, entries_from, draft_entries, draft_setting, draft_sheet, slot_time, last_slot_time, draft_room}
use Rattle.protocol.proofs.Tests.{cases}
use Rattle.protocol.proofs.Tables.{length_table}
use Rattle.protocol.proofs.Spelling.{length_sheet}

abbrev pub slot : ℕ → ℕ → Slot
slot a q = record { action = a; head = q }

-- the entries of slots after slots begin as many spacings later
pub entries_join : (n spacing t : ℕ) (xs ys : List Slot) → entries_from n spacing t (xs ++ ys) ≡ entries_from n spacing t xs ++ entries_from n spacing (t + spacing * length xs) ys
unfolding entries_from
entries_join n spacing t [] ys = ap (λ (u : ℕ). entries_from n spacing u ys) (omega arith)
entries_join n spacing t (x ∷ xs) ys =
    let later : t + spacing + spacing * length xs ≡ t + spacing * suc (length xs) = omega arith in
    ap (λ (l : List Entry). slot_entries n t x ++ l) (entries_join n spacing (t + spacing) xs ys ∙ ap (λ (u : ℕ). entries_from n spacing (t + spacing) xs ++ entries_from n spacing u ys) later)
    ∙ sym (append_assoc (slot_entries n t x) (entries_from n spacing (t + spacing) xs) _)

-- HOW MANY SLOTS

pub slots_length : (a from to : ℕ) → length (slots a from to) ≡ to - from
slots_length a from to = length_table (slot a) from (to - from)

pub phase_length : (n turn delivery : ℕ) → 0 < n → length (phase_order n turn delivery) ≡ 2 * n
unfolding phase_order
phase_length n turn delivery pos =
    let a = slots_length turn 0 1 in
    let b = slots_length delivery 0 1 in
    let c = slots_length turn 1 n in
    let d = slots_length delivery 1 n in
    simp length-append (omega arith)

pub order_length : (n : ℕ) → 0 < n → length (round_order n) ≡ 9 * n
unfolding round_order
order_length n pos =
    let a = slots_length 1 0 n in
    let b = slots_length 2 0 n in
    let c = slots_length 3 0 n in
    let d = phase_length n 4 5 pos in
    let e = slots_length 6 0 n in
    let f = phase_length n 7 8 pos in
    let g = slots_length 9 0 n in
    simp length-append (omega arith)

-- no slot's time is later than the last one's
pub in_time_lem : (n first spacing : ℕ) → last_slot_time n first spacing < 2 ^ 28 → (i : ℕ) → i < 9 * n → slot_time first spacing i < 2 ^ 28
in_time_lem n first spacing last i h = let le : i ≤ 9 * n - 1 = omega arith in let z = mul-le-mul_left spacing le in omega arith

-- HOW MANY ENTRIES

-- a start goes to all heads
to_all : (t p q k : ℕ) → length (deliveries t 2 p q k) ≡ k
unfolding deliveries
to_all t p q zero = refl
to_all t p q (suc k) = ap suc (to_all t p (suc q) k)

-- a vote or an adjust goes to all of the heads that its sender isn't among, and to all but one of those that it is
module _ (t a p : ℕ) (serial : has_serial a ≡ true) where
  to_some : (q k : ℕ) → (q ≤ p → q + k ≤ p) → length (deliveries t a p q k) ≡ k
  unfolding deliveries
  to_some q zero h = refl
  to_some q (suc k) h =
      let other : eqb q p ≡ false = ne_eqb q p (λ e. let z = h (omega arith) in omega arith) in
      rw (serial, other) (ap suc (to_some (suc q) k (λ l. let z = h (omega arith) in omega arith)))

  to_others : (q k : ℕ) → q ≤ p → p < q + k → length (deliveries t a p q k) ≡ k - 1
  unfolding deliveries
  to_others q zero l h = refl
  to_others q (suc k) l h =
      cases (eqb q p)
      (λ e. let same = eqb-true q p e in rw (serial, e) (let all = to_some (suc q) k (λ l. absurd (omega arith)) in omega arith))
      (λ e. let other = eqb-false q p e in rw (serial, e) (let ih = to_others (suc q) k (omega arith) (omega arith) in omega arith))

module _ (n spacing : ℕ) where
  -- slots with c entries each
  count_slots : (a c t from k : ℕ) → ((u q : ℕ) → from ≤ q → q < from + k → length (slot_entries n u (slot a q)) ≡ c) → length (entries_from n spacing t (table (slot a) from k)) ≡ c * k
  unfolding entries_from
  count_slots a c t from zero h = let z : 0 ≡ c * 0 = omega arith in z
  count_slots a c t from (suc k) h =
      length-append (slot_entries n t (slot a from)) _
      ∙ (let one = h t from (omega arith) (omega arith) in
      let rest = count_slots a c (t + spacing) (suc from) k (λ u q l m. h u q (omega arith) (omega arith)) in
      let all : c * suc k ≡ c + c * k = omega arith in
      omega arith)

  count_join : (c d t : ℕ) (xs ys : List Slot) → length (entries_from n spacing t xs) ≡ c → ((u : ℕ) → length (entries_from n spacing u ys) ≡ d) → length (entries_from n spacing t (xs ++ ys)) ≡ c + d
  count_join c d t xs ys h k = ap length (entries_join n spacing t xs ys) ∙ length-append (entries_from n spacing t xs) _ ∙ ap₂ ◌+◌ h (k (t + spacing * length xs))

  -- a timed action of all heads
  count_acts : (a t : ℕ) → ((u q : ℕ) → length (slot_entries n u (slot a q)) ≡ 1) → length (entries_from n spacing t (slots a 0 n)) ≡ n
  count_acts a t h = count_slots a 1 t 0 (n - 0) (λ u q l m. h u q) ∙ (let z : 1 * (n - 0) ≡ n = omega arith in z)

  count_starts : (t : ℕ) → length (entries_from n spacing t (slots 2 0 n)) ≡ n * n
  count_starts t = count_slots 2 n t 0 (n - 0) (λ u q l m. to_all u q 0 n) ∙ ap (λ (k : ℕ). n * k) (omega arith)

  -- a phase has n² entries before its closes
  module _ (turn delivery : ℕ) (plain : (u q : ℕ) → length (slot_entries n u (slot turn q)) ≡ 1)
      (frame : (u q : ℕ) → q < n → length (slot_entries n u (slot delivery q)) ≡ n - 1) (two : 2 ≤ n) where
    square : (o : ℕ) → n ≡ o + 1 → 1 * 1 + (o * 1 + (1 * o + o * o)) ≡ n * n
    square o e = let eq : n * n ≡ (o + 1) * (o + 1) = ap (λ (x : ℕ). x * x) e in omega arith

    count_phase : (t : ℕ) → length (entries_from n spacing t (phase_order n turn delivery)) ≡ n * n
    unfolding phase_order
    count_phase t =
        let o = n - 1 in
        count_join (1 * 1) (o * 1 + (1 * o + o * o)) t (slots turn 0 1) _ (count_slots turn 1 t 0 1 (λ u q l m. plain u q))
        (λ t. count_join (o * 1) (1 * o + o * o) t (slots delivery 0 1) _ (count_slots delivery o t 0 1 (λ u q l m. frame u q (omega arith)))
        (λ t. count_join (1 * o) (o * o) t (slots turn 1 n) _ (count_slots turn 1 t 1 o (λ u q l m. plain u q))
        (λ t. count_slots delivery o t 1 o (λ u q l m. frame u q (omega arith)))))
        ∙ square o (omega arith)

  count_votes : 2 ≤ n → (t : ℕ) → length (entries_from n spacing t (phase_order n 4 5)) ≡ n * n
  count_votes two = count_phase 4 5 (λ u q. refl) (λ u q l. to_others u 5 q refl 0 n (omega arith) (omega arith)) two

  count_adjusts : 2 ≤ n → (t : ℕ) → length (entries_from n spacing t (phase_order n 7 8)) ≡ n * n
  count_adjusts two = count_phase 7 8 (λ u q. refl) (λ u q l. to_others u 8 q refl 0 n (omega arith) (omega arith)) two

pub entries_count : (n first spacing : ℕ) → 2 ≤ n → length (draft_entries n first spacing) ≡ 3 * (n * n) + 4 * n
unfolding draft_entries round_order
entries_count n first spacing two =
    let s = n * n in
    count_join n spacing n (s + (n + (s + (n + (s + n))))) first (slots 1 0 n) _ (count_acts n spacing 1 first (λ u q. refl))
    (λ t. count_join n spacing s (n + (s + (n + (s + n)))) t (slots 2 0 n) _ (count_starts n spacing t)
    (λ t. count_join n spacing n (s + (n + (s + n))) t (slots 3 0 n) _ (count_acts n spacing 3 t (λ u q. refl))
    (λ t. count_join n spacing s (n + (s + n)) t (phase_order n 4 5) _ (count_votes n spacing two t)
    (λ t. count_join n spacing n (s + n) t (slots 6 0 n) _ (count_acts n spacing 6 t (λ u q. refl))
    (λ t. count_join n spacing s n t (phase_order n 7 8) _ (count_adjusts n spacing two t)
    (λ t. count_acts n spacing 9 t (λ u q. refl)))))))
    ∙ (let z : n + (s + (n + (s + (n + (s + n))))) ≡ 3 * s + 4 * n = omega arith in z)

pub draft_length : (n f first spacing : ℕ) → 2 ≤ n → length (draft_sheet n f first spacing) ≡ draft_room n
unfolding draft_sheet
draft_length n f first spacing two = length_sheet (draft_setting n f) (draft_entries n first spacing) ∙ ap place_of (entries_count n first spacing two)
