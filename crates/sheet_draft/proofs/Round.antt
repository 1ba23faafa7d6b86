-- The blocks of a phase and of a round, written one after the other: each fits where those before it have been written.
-- Main results: `phase_done`, `round_done`.
use mathlib.Core.Path.{◌≡◌, refl, ◌∙◌, ap}
use mathlib.Core.Bool.{true}
use mathlib.Core.List.{List, [], ◌∷◌, ◌++◌}
use Prim.Native.Nat.{ℕ, suc, ◌+◌, ◌*◌, ◌^◌, ◌≤◌, ◌<◌}
use native.Mathlib.Omega.{arith}
use lib.ListN.{length}
use borrow.Author.Tests.{lt-ltb}
use Rattle.protocol.specs.Spelling.{entry_words}
use Rattle.protocol.specs.Draft.{Slot, slots, phase_order, round_order, draft_entries, last_slot_time, draft_room}
use Rattle.protocol.proofs.Tests.{and_both}
use Rattle.protocol.proofs.DraftRoom.{order_length, in_time_lem, entries_count}
use Rattle.sheet_spelling.specs.Placed.{placed}
use Rattle.sheet_draft.specs.Page.{Page, with_slots, are_times, SlotsFit}
use Rattle.sheet_draft.proofs.Page.{Left, fit_first, go_on, all_placed}

-- A PHASE: head 0's turn and its frame, then the others'

module _ (n spacing turn delivery : ℕ) (g : Page) (fit : SlotsFit n spacing g (phase_order n turn delivery)) where
  abbrev after : Page → List Slot → Type 0
  after h xs = Left n spacing h xs (with_slots n spacing g (phase_order n turn delivery))

  begun : after g (slots turn 0 1 ++ (slots delivery 0 1 ++ (slots turn 1 n ++ slots delivery 1 n)))
  unfolding phase_order
  begun = record { fit = fit; same = refl }

  pub turn_fits : SlotsFit n spacing g (slots turn 0 1)
  turn_fits = fit_first n spacing g (slots turn 0 1) _ begun

  module _ (g1 : Page) (e1 : g1 ≡ with_slots n spacing g (slots turn 0 1)) where
    turned : after g1 (slots delivery 0 1 ++ (slots turn 1 n ++ slots delivery 1 n))
    turned = go_on n spacing g g1 (slots turn 0 1) _ begun e1

    pub frame_fits : SlotsFit n spacing g1 (slots delivery 0 1)
    frame_fits = fit_first n spacing g1 (slots delivery 0 1) _ turned

    module _ (g2 : Page) (e2 : g2 ≡ with_slots n spacing g1 (slots delivery 0 1)) where
      delivered : after g2 (slots turn 1 n ++ slots delivery 1 n)
      delivered = go_on n spacing g1 g2 (slots delivery 0 1) _ turned e2

      pub turns_fit : SlotsFit n spacing g2 (slots turn 1 n)
      turns_fit = fit_first n spacing g2 (slots turn 1 n) _ delivered

      module _ (g3 : Page) (e3 : g3 ≡ with_slots n spacing g2 (slots turn 1 n)) where
        all_turned : after g3 (slots delivery 1 n)
        all_turned = go_on n spacing g2 g3 (slots turn 1 n) _ delivered e3

        pub frames_fit : SlotsFit n spacing g3 (slots delivery 1 n)
        frames_fit = all_turned.fit

        pub phase_done : (g4 : Page) → g4 ≡ with_slots n spacing g3 (slots delivery 1 n) → g4 ≡ with_slots n spacing g (phase_order n turn delivery)
        phase_done g4 e4 = e4 ∙ all_turned.same

-- A ROUND

-- what is left of it from its action 2, 3, 4, 6 and 7 on
abbrev from7 : ℕ → List Slot
from7 n = phase_order n 7 8 ++ slots 9 0 n

abbrev from6 : ℕ → List Slot
from6 n = slots 6 0 n ++ from7 n

abbrev from4 : ℕ → List Slot
from4 n = phase_order n 4 5 ++ from6 n

abbrev from3 : ℕ → List Slot
from3 n = slots 3 0 n ++ from4 n

abbrev from2 : ℕ → List Slot
from2 n = slots 2 0 n ++ from3 n

times_fit : (spacing t : ℕ) (xs : List Slot) → ((i : ℕ) → i < length xs → t + spacing * i < 2 ^ 28) → are_times spacing t xs ≡ true
times_fit spacing t [] h = refl
times_fit spacing t (x ∷ xs) h =
    and_both (lt-ltb t (2 ^ 28) (let z = h 0 (omega arith) in omega arith))
    (times_fit spacing (t + spacing) xs (λ i l. let z = h (suc i) (omega arith) in let later : spacing * suc i ≡ spacing + spacing * i = omega arith in omega arith))

module _ (n first spacing : ℕ) (two : 2 ≤ n) (last : last_slot_time n first spacing < 2 ^ 28) where
  spacing_fits : spacing < 2 ^ 28
  spacing_fits = let z = in_time_lem n first spacing last 1 (omega arith) in omega arith

  -- what each block asks for: few heads, a spacing of 28 bits, its own two bounds, and that its slots fit
  pub block_asks : {X Y F : Type 0} → n ≤ 16 → X → Y → F → (n ≤ 16) × (spacing < 2 ^ 28) × X × Y × F
  block_asks small x y fit = (small, spacing_fits, x, y, fit)

  module _ (out : List ℕ) (room : draft_room n ≤ length out) where
    abbrev page : Page
    page = record { words = out; place = 2; time = first }

    abbrev rest : Page → List Slot → Type 0
    rest h xs = Left n spacing h xs (with_slots n spacing page (round_order n))

    round_fits : SlotsFit n spacing page (round_order n)
    unfolding draft_entries
    round_fits =
        let count = entries_count n first spacing two in
        let nine = order_length n (omega arith) in
        (omega arith, times_fit spacing first (round_order n) (λ i h. in_time_lem n first spacing last i (omega arith)))

    at_1 : rest page (slots 1 0 n ++ from2 n)
    unfolding round_order
    at_1 = record { fit = round_fits; same = refl }

    pub fit_1 : SlotsFit n spacing page (slots 1 0 n)
    fit_1 = fit_first n spacing page (slots 1 0 n) _ at_1

    module _ (g2 : Page) (e1 : g2 ≡ with_slots n spacing page (slots 1 0 n)) where
      at_2 : rest g2 (from2 n)
      at_2 = go_on n spacing page g2 (slots 1 0 n) _ at_1 e1

      pub fit_2 : SlotsFit n spacing g2 (slots 2 0 n)
      fit_2 = fit_first n spacing g2 (slots 2 0 n) _ at_2

      module _ (g3 : Page) (e2 : g3 ≡ with_slots n spacing g2 (slots 2 0 n)) where
        at_3 : rest g3 (from3 n)
        at_3 = go_on n spacing g2 g3 (slots 2 0 n) _ at_2 e2

        pub fit_3 : SlotsFit n spacing g3 (slots 3 0 n)
        fit_3 = fit_first n spacing g3 (slots 3 0 n) _ at_3

        module _ (g4 : Page) (e3 : g4 ≡ with_slots n spacing g3 (slots 3 0 n)) where
          at_4 : rest g4 (from4 n)
          at_4 = go_on n spacing g3 g4 (slots 3 0 n) _ at_3 e3

          pub fit_4 : SlotsFit n spacing g4 (phase_order n 4 5)
          fit_4 = fit_first n spacing g4 (phase_order n 4 5) _ at_4

          module _ (g6 : Page) (e4 : g6 ≡ with_slots n spacing g4 (phase_order n 4 5)) where
            at_6 : rest g6 (from6 n)
            at_6 = go_on n spacing g4 g6 (phase_order n 4 5) _ at_4 e4

            pub fit_6 : SlotsFit n spacing g6 (slots 6 0 n)
            fit_6 = fit_first n spacing g6 (slots 6 0 n) _ at_6

            module _ (g7 : Page) (e6 : g7 ≡ with_slots n spacing g6 (slots 6 0 n)) where
              at_7 : rest g7 (from7 n)
              at_7 = go_on n spacing g6 g7 (slots 6 0 n) _ at_6 e6

              pub fit_7 : SlotsFit n spacing g7 (phase_order n 7 8)
              fit_7 = fit_first n spacing g7 (phase_order n 7 8) _ at_7

              module _ (g9 : Page) (e7 : g9 ≡ with_slots n spacing g7 (phase_order n 7 8)) where
                at_9 : rest g9 (slots 9 0 n)
                at_9 = go_on n spacing g7 g9 (phase_order n 7 8) _ at_7 e7

                pub fit_9 : SlotsFit n spacing g9 (slots 9 0 n)
                fit_9 = at_9.fit

                pub round_done : (end : Page) → end ≡ with_slots n spacing g9 (slots 9 0 n)
                    → end.words ≡ placed out 2 (entry_words (draft_entries n first spacing))
                unfolding draft_entries
                round_done end e9 = ap (λ (h : Page). h.words) (e9 ∙ at_9.same) ∙ all_placed n spacing page (round_order n) round_fits
