-- A buffer into which the slots of a round are written, one after the other.
use Rattle.std.specs.Prelude.{◌≡◌, Bool, true, ◌&&◌, List, [], ◌∷◌, ℕ, ◌+◌, ◌*◌, ◌≤◌, length}
use Rattle.protocol.specs.Words.{is_time}
use Rattle.protocol.specs.Spelling.{entry_words}
use Rattle.protocol.specs.Draft.{Slot, slot_entries, entries_from}
use Rattle.sheet_spelling.specs.Placed.{placed}
use Rattle.sheet_draft.specs.declared.Position.{Position}

-- the buffer's words, the place of the next entry and the real time of the next slot
pub record Page : Type 0 where
  pub words : List ℕ
  pub place : ℕ
  pub time : ℕ

abbrev pub page_at : Position → List ℕ → Page
page_at p out = record { words = out; place = p.place; time = p.time }

-- a page with a slot's entries more, and with those of a list of slots
abbrev pub with_slot : ℕ → ℕ → Page → Slot → Page
with_slot n spacing g x =
    record {
      words = placed g.words g.place (entry_words (slot_entries n g.time x));
      place = g.place + 3 * length (slot_entries n g.time x);
      time = g.time + spacing;
    }

abbrev pub with_slots : ℕ → ℕ → Page → List Slot → Page
with_slots n spacing g [] = g
with_slots n spacing g (x ∷ xs) = with_slots n spacing (with_slot n spacing g x) xs

-- each slot's real time has 28 bits
abbrev pub are_times : ℕ → ℕ → List Slot → Bool
are_times spacing t [] = true
are_times spacing t (x ∷ xs) = is_time t && are_times spacing (t + spacing) xs

-- the page has room for the slots' entries, and their times fit
abbrev pub SlotsFit : ℕ → ℕ → Page → List Slot → Type 0
SlotsFit n spacing g xs =
    (g.place + 3 * length (entries_from n spacing g.time xs) ≤ length g.words) × (are_times spacing g.time xs ≡ true)
