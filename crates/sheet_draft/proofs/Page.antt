-- Slots written onto a page one after the other: what is left fits and makes the same page, and all of it is placed in the buffer.
-- Main results: `entry_fits_lem`, `next_delivery`, `no_delivery_lem`, `all_placed`, `go_on`, `next_slot`.
use mathlib.Core.Path.{◌≡◌, refl, sym, ◌∙◌, ap, subst}
use mathlib.Core.Bool.{true, false, ◌||◌}
use mathlib.Core.List.{List, [], ◌∷◌, ◌++◌}
use Prim.Native.Nat.{ℕ, suc, ◌+◌, ◌-◌, ◌*◌, ◌^◌, ◌≤◌, ◌<◌}
use native.Mathlib.Omega.{arith}
use lib.Dec.{eqb}
use lib.ListN.{length, length-append}
use borrow.Author.Tests.{ltb-true, lt-ltb}
use Rattle.protocol.specs.declared.Entry.{Entry}
use Rattle.protocol.specs.Words.{is_time, has_serial, has_sender}
use Rattle.protocol.specs.Spelling.{entry_words}
use Rattle.protocol.specs.Recorder.{entry_in_width}
use Rattle.protocol.specs.Draft.{Slot, slots, draft_entry, is_receiver, deliveries, slot_entries, entries_from}
use Rattle.protocol.proofs.Tests.{and_left, and_right, and_both, or_second}
use Rattle.protocol.proofs.Spelling.{length_entry_words}
use Rattle.protocol.proofs.DraftRoom.{slot, entries_join}
use Rattle.sheet_spelling.specs.Placed.{placed}
use Rattle.sheet_spelling.proofs.Placed.{placed_none, placed_length, placed_more, words_joined}
use Rattle.sheet_draft.specs.Page.{Page, with_slot, with_slots, are_times, SlotsFit}

-- ENTRIES

pub entry_fits_lem : (t a q p : ℕ) → t < 2 ^ 28 → a < 16 → q < 16 → p < 16 → (has_sender a || eqb p 0) ≡ true → entry_in_width (draft_entry t a q p) ≡ true
unfolding entry_in_width
entry_fits_lem t a q p time action head sender used =
    let time' = lt-ltb t (2 ^ 28) time in
    and_both time' (and_both time' (and_both (lt-ltb q 16 head) (and_both (lt-ltb a 16 action) (and_both (lt-ltb p 16 sender)
    (and_both used (or_second (has_serial a) _ refl))))))

-- words behind words: places are counted in entries
entries_more : (out : List ℕ) (at : ℕ) (es fs : List Entry) → at + 3 * length es ≤ length out
    → placed (placed out at (entry_words es)) (at + 3 * length es) (entry_words fs) ≡ placed out at (entry_words (es ++ fs))
entries_more out at es fs h =
    let long = length_entry_words es in
    ap (λ (k : ℕ). placed (placed out at (entry_words es)) (at + k) (entry_words fs)) (sym long)
    ∙ placed_more out at (entry_words es) (omega arith) (entry_words fs) ∙ ap (placed out at) (sym (words_joined es fs))

-- a turn of a loop over heads
one_less : (q n : ℕ) → q < n → n - q ≡ suc (n - (q + 1))
one_less q n h = omega arith

next : (q : ℕ) → q + 1 ≡ suc q
next q = omega arith

-- THE DELIVERIES OF A FRAME

module _ (t a p n place : ℕ) (before : List ℕ) where
  abbrev whole : List Entry
  whole = deliveries t a p 0 n

  -- those to the heads from q on
  abbrev rest : ℕ → List Entry
  rest q = deliveries t a p q (n - q)

  -- with the deliveries from q on placed in it, the buffer is as it is to be
  pub record Delivered (out : List ℕ) (at q : ℕ) : Type 0 where
    pub as_long : length out ≡ length before
    pub end : at + 3 * length (rest q) ≡ place + 3 * length whole
    pub words : placed out at (entry_words (rest q)) ≡ placed before place (entry_words whole)

  pub none_delivered : Delivered before place 0
  none_delivered = let eq : n - 0 ≡ n = omega arith in record { as_long = refl; end = rw eq refl; words = rw eq refl }

  pub all_delivered : (out : List ℕ) (at q : ℕ) → Delivered out at q → n ≤ q → (at ≡ place + 3 * length whole) × (out ≡ placed before place (entry_words whole))
  unfolding deliveries entry_words
  all_delivered out at q d h =
      let none : n - q ≡ 0 = omega arith in
      let end : at + 0 ≡ place + 3 * length whole = rw none at d.end in
      (omega arith, sym (placed_none out at) ∙ rw none at d.words)

  module _ (out : List ℕ) (at q : ℕ) (d : Delivered out at q) (below : q < n) where
    to_receiver : is_receiver a p q ≡ true → rest q ≡ draft_entry t a q p ∷ rest (q + 1)
    unfolding deliveries
    to_receiver receives = rw (one_less q n below, receives, next q) refl

    to_none : is_receiver a p q ≡ false → rest q ≡ rest (q + 1)
    unfolding deliveries
    to_none passed = rw (one_less q n below, passed, next q) refl

    module _ (receives : is_receiver a p q ≡ true) (room : place + 3 * length whole ≤ length before) where
      pub has_room : at + 3 ≤ length out
      has_room = let long = ap length (to_receiver receives) in let same = d.as_long in let end = d.end in omega arith

      pub next_delivery : (e : Entry) (after : List ℕ) → e ≡ draft_entry t a q p → after ≡ placed out at (entry_words (e ∷ [])) → Delivered after (at + 3) (q + 1)
      unfolding entry_words
      next_delivery e after is written =
          let long = ap length (to_receiver receives) in
          let one : after ≡ placed out at (entry_words (draft_entry t a q p ∷ [])) = written ∙ ap (λ (x : Entry). placed out at (entry_words (x ∷ []))) is in
          record {
            as_long = ap length one ∙ placed_length out at (entry_words (draft_entry t a q p ∷ [])) has_room ∙ d.as_long;
            end = let end = d.end in omega arith;
            words =
                ap (λ (o : List ℕ). placed o (at + 3) (entry_words (rest (q + 1)))) one
                ∙ entries_more out at (draft_entry t a q p ∷ []) (rest (q + 1)) has_room
                ∙ ap (λ (l : List Entry). placed out at (entry_words l)) (sym (to_receiver receives)) ∙ d.words;
          }

    pub no_delivery_lem : is_receiver a p q ≡ false → Delivered out at (q + 1)
    no_delivery_lem passed =
        let same = to_none passed in
        record { as_long = d.as_long; end = rw same at d.end; words = rw same at d.words }

-- ONE SLOT

module _ (n t a q : ℕ) where
  pub delivers : has_sender a ≡ true → slot_entries n t (slot a q) ≡ deliveries t a q 0 n
  delivers sends = rw sends refl

  pub acts : has_sender a ≡ false → slot_entries n t (slot a q) ≡ draft_entry t a q 0 ∷ []
  acts none = rw none refl

  pub one_written : has_sender a ≡ false → (out after : List ℕ) (place : ℕ) (e : Entry) → e ≡ draft_entry t a q 0 → after ≡ placed out place (entry_words (e ∷ []))
      → (place + 3 ≡ place + 3 * length (slot_entries n t (slot a q))) × (after ≡ placed out place (entry_words (slot_entries n t (slot a q))))
  one_written none out after place e is written = rw (acts none) (refl, written ∙ ap (λ (x : Entry). placed out place (entry_words (x ∷ []))) is)

-- SLOTS ONE AFTER THE OTHER

module _ (n spacing : ℕ) where
  slot_fits : (g : Page) (x : Slot) (xs : List Slot) → SlotsFit n spacing g (x ∷ xs)
      → (g.place + 3 * length (slot_entries n g.time x) ≤ length g.words) × (g.time < 2 ^ 28)
  unfolding entries_from
  slot_fits g x xs h =
      let room = h.0 in
      let long = length-append (slot_entries n g.time x) (entries_from n spacing (g.time + spacing) xs) in
      (omega arith, ltb-true _ _ (and_left (is_time g.time) _ h.1))

  rest_fits : (g : Page) (x : Slot) (xs : List Slot) → SlotsFit n spacing g (x ∷ xs) → SlotsFit n spacing (with_slot n spacing g x) xs
  unfolding entries_from
  rest_fits g x xs h =
      let es = slot_entries n g.time x in
      let room = h.0 in
      let long = length-append es (entries_from n spacing (g.time + spacing) xs) in
      let words = length_entry_words es in
      let same = placed_length g.words g.place (entry_words es) (omega arith) in
      (omega arith, and_right (is_time g.time) _ h.1)

  front_fits : (g : Page) (xs ys : List Slot) → SlotsFit n spacing g (xs ++ ys) → SlotsFit n spacing g xs
  front_fits g xs ys h =
      let room = h.0 in
      let both = ap length (entries_join n spacing g.time xs ys) in
      let long = length-append (entries_from n spacing g.time xs) (entries_from n spacing (g.time + spacing * length xs) ys) in
      (omega arith, times g.time xs h.1)
    where
      times : (t : ℕ) (xs : List Slot) → are_times spacing t (xs ++ ys) ≡ true → are_times spacing t xs ≡ true
      times t [] e = refl
      times t (x ∷ xs) e = and_both (and_left (is_time t) _ e) (times (t + spacing) xs (and_right (is_time t) _ e))

  back_fits : (g : Page) (xs ys : List Slot) → SlotsFit n spacing g (xs ++ ys) → SlotsFit n spacing (with_slots n spacing g xs) ys
  back_fits g [] ys h = h
  back_fits g (x ∷ xs) ys h = back_fits (with_slot n spacing g x) xs ys (rest_fits g x (xs ++ ys) h)

  slots_joined : (g : Page) (xs ys : List Slot) → with_slots n spacing g (xs ++ ys) ≡ with_slots n spacing (with_slots n spacing g xs) ys
  slots_joined g [] ys = refl
  slots_joined g (x ∷ xs) ys = slots_joined (with_slot n spacing g x) xs ys

  pub all_placed : (g : Page) (xs : List Slot) → SlotsFit n spacing g xs
      → (with_slots n spacing g xs).words ≡ placed g.words g.place (entry_words (entries_from n spacing g.time xs))
  unfolding entries_from entry_words
  all_placed g [] h = sym (placed_none g.words g.place)
  all_placed g (x ∷ xs) h =
      all_placed (with_slot n spacing g x) xs (rest_fits g x xs h)
      ∙ entries_more g.words g.place (slot_entries n g.time x) (entries_from n spacing (g.time + spacing) xs) (slot_fits g x xs h).0

  -- the slots that are left to be written fit, and make the page what it is to be
  pub record Left (g : Page) (xs : List Slot) (end : Page) : Type 0 where
    pub fit : SlotsFit n spacing g xs
    pub same : with_slots n spacing g xs ≡ end

  module _ {end : Page} where
    pub fit_first : (g : Page) (xs ys : List Slot) → Left g (xs ++ ys) end → SlotsFit n spacing g xs
    fit_first g xs ys l = front_fits g xs ys l.fit

    pub go_on : (g h : Page) (xs ys : List Slot) → Left g (xs ++ ys) end → h ≡ with_slots n spacing g xs → Left h ys end
    go_on g h xs ys l is =
        record {
          fit = subst (λ (k : Page). SlotsFit n spacing k ys) (sym is) (back_fits g xs ys l.fit);
          same = ap (λ (k : Page). with_slots n spacing k ys) is ∙ sym (slots_joined g xs ys) ∙ l.same;
        }

  module _ (a q to place time : ℕ) (out : List ℕ) where
    abbrev here : Page
    here = record { words = out; place = place; time = time }

    module _ {end : Page} (l : Left here (slots a q to) end) where
      pub none_left : to ≤ q → here ≡ end
      none_left h = let none : to - q ≡ 0 = omega arith in rw none at l.same

      module _ (below : q < to) where
        first_left : Left here (slot a q ∷ slots a (q + 1) to) end
        first_left =
            let more : slots a q to ≡ slot a q ∷ slots a (q + 1) to = rw (one_less q to below, next q) refl in
            subst (λ (xs : List Slot). Left here xs end) more l

        pub next_fits : (place + 3 * length (slot_entries n time (slot a q)) ≤ length out) × (time < 2 ^ 28)
        next_fits = slot_fits here (slot a q) (slots a (q + 1) to) first_left.fit

        pub next_slot : (r : ℕ) (after : List ℕ) → (r ≡ place + 3 * length (slot_entries n time (slot a q))) × (after ≡ placed out place (entry_words (slot_entries n time (slot a q))))
            → Left (record { words = after; place = r; time = time + spacing }) (slots a (q + 1) to) end
        next_slot r after written =
            go_on here (record { words = after; place = r; time = time + spacing }) (slot a q ∷ []) (slots a (q + 1) to) first_left
            (λ i. record { words = written.1 i; place = written.0 i; time = time + spacing })
