-- The heads that each vote and adjust reached, by the sets that are kept: what stands at a frame's index, and what one more
-- entry changes.
-- Main results: `reached_others`, `receivers_same`, `frame_received`.
use mathlib.Core.Path.{◌≡◌, refl, sym, ◌∙◌, ap, ap₂}
use mathlib.Core.Bool.{Bool, true, false, not, ◌&&◌, ◌||◌}
use mathlib.Core.List.{List, ◌∷◌}
use mathlib.Core.Logic.{◌≢◌}
use Prim.Native.Nat.{ℕ, ◌<◌}
use lib.Dec.{ltb, eqb}
use lib.ListN.{get_or, set}
use borrow.Author.Tests.{eqb-true, eqb-false, eq-eqb}
use Rattle.protocol.specs.declared.Setting.{Setting}
use Rattle.protocol.specs.declared.Entry.{Entry}
use Rattle.protocol.specs.Base.{◌⇒◌, table}
use Rattle.protocol.specs.Words.{entry_at}
use Rattle.protocol.specs.declared.Kind.{Kind}
use Rattle.protocol.specs.Record.{votes, adjusts}
use Rattle.protocol.specs.Run.{Event, History}
use Rattle.protocol.specs.Premises.{delivery, received, correct_all}
use Rattle.protocol.proofs.Tests.{cond_elim}
use Rattle.protocol.proofs.Tables.{length_table, table_at, is_table, set_table}
use Rattle.data_sets.specs.Sets.{set_of, with_head, has_all}
use Rattle.data_sets.proofs.Sets.{set_with, set_ext, same_test}
use Rattle.sheet_state.specs.Indices.{frame_index}
use Rattle.sheet_state.specs.Arrays.{action_at, head_at, serial_at, event_at}
use Rattle.sheet_state.proofs.Indices.{index_fields, fields_index}
use Rattle.sheet_state.proofs.Standing.{entry_sized}
use Rattle.judge_premises_5_to_8.specs.Closes.{receiver_sets}
use Rattle.judge_premises_5_to_8.proofs.Heads.{Heads, all_correct}

-- A FRAME'S SET

module _ (k : Kind) (p i : ℕ) (hp : p < 16) (hi : i < 16) where
  receivers_at : (s : History) → get_or (receiver_sets s) (frame_index (delivery k) p i) 0 ≡ set_of (λ q. received (delivery k) p i q s)
  unfolding receiver_sets
  receivers_at s =
      let f = index_fields k p i hp hi in
      table_at (λ j. set_of (λ q. received (action_at j) (head_at j) (serial_at j) q s)) 512 (frame_index (delivery k) p i) 0 f.0 ∙ same _ _ _ f.1 f.2 f.3
    where
      same : (x y z : ℕ) → x ≡ delivery k → y ≡ p → z ≡ i → set_of (λ q. received x y z q s) ≡ set_of (λ q. received (delivery k) p i q s)
      same x y z e f h = rw (e, f, h) refl

  -- a frame reached "all other correct heads"
  pub reached_others : {g : Setting} → Heads g → (s : History)
      → has_all (with_head (get_or (receiver_sets s) (frame_index (delivery k) p i) 0) p) g.correct ≡ correct_all g (λ q. not (eqb q p) ⇒ received (delivery k) p i q s)
  reached_others {g} H s =
      ap (λ (m : ℕ). has_all (with_head m p) g.correct) (receivers_at s)
      ∙ ap (λ (m : ℕ). has_all m g.correct)
      (set_with (λ q. received (delivery k) p i q s) p hp
      ∙ set_ext 16 (λ q. received (delivery k) p i q s || eqb q p) (λ q. not (eqb q p) ⇒ received (delivery k) p i q s) (λ q l. other (received (delivery k) p i q s) (eqb q p)))
      ∙ all_correct H (λ q. not (eqb q p) ⇒ received (delivery k) p i q s)
    where
      other : (r e : Bool) → (r || e) ≡ (not e ⇒ r)
      other true true = refl
      other true false = refl
      other false true = refl
      other false false = refl

-- ONE MORE ENTRY

-- a family of sets, one of which gets one head more
set_next : (F G : ℕ → ℕ → Bool) (n j q : ℕ) → j < n → q < 16 → ((i : ℕ) → G j i ≡ (F j i || eqb i q)) → ((k i : ℕ) → k < n → eqb k j ≡ false → G k i ≡ F k i)
    → set (table (λ k. set_of (F k)) 0 n) j (with_head (get_or (table (λ k. set_of (F k)) 0 n) j 0) q) ≡ table (λ k. set_of (G k)) 0 n
set_next F G n j q hj hq same other =
    set_table (λ k. set_of (F k)) (λ k. set_of (G k)) n j _ 0 hj
    (set_ext 16 (G j) (λ i. F j i || eqb i q) (λ i _. same i) ∙ sym (set_with (F j) q hq) ∙ ap (λ (m : ℕ). with_head m q) (sym (table_at (λ k. set_of (F k)) n j 0 hj)))
    (λ k l d. set_ext 16 (G k) (F k) (λ i _. other k i l d))

flip : (q i : ℕ) → eqb q i ≡ eqb i q
flip q i = same_test (eqb q i) (eqb i q) (λ t. eq-eqb i q (sym (eqb-true q i t))) (λ t. eq-eqb q i (sym (eqb-true i q t)))

-- whom a frame has reached after the event e
module _ (e : Event) (s : History) where
  hit : (a p k q : ℕ) → e.entry.action ≡ a → e.entry.sender ≡ p → e.entry.serial ≡ k → received a p k q (e ∷ s) ≡ (received a p k q s || eqb q e.entry.head)
  hit a p k q x y z =
      rw (eq-eqb e.entry.action a x, eq-eqb e.entry.sender p y, eq-eqb e.entry.serial k z, flip e.entry.head q) (either (eqb q e.entry.head) (received a p k q s))
    where
      either : (b c : Bool) → (((b && true) && true) || c) ≡ (c || b)
      either true true = refl
      either true false = refl
      either false true = refl
      either false false = refl

  miss : (a p k q : ℕ) → (e.entry.action ≡ a → e.entry.sender ≡ p → e.entry.serial ≡ k → ⊥) → received a p k q (e ∷ s) ≡ received a p k q s
  miss a p k q other = by_tests (eqb e.entry.head q) (eqb e.entry.action a) refl (eqb e.entry.sender p) refl (eqb e.entry.serial k) refl
    where
      by_tests : (b : Bool) (x : Bool) → eqb e.entry.action a ≡ x → (y : Bool) → eqb e.entry.sender p ≡ y → (z : Bool) → eqb e.entry.serial k ≡ z
          → (((b && x) && (y && z)) || received a p k q s) ≡ received a p k q s
      by_tests false x tx y ty z tz = refl
      by_tests true false tx y ty z tz = refl
      by_tests true true tx false ty z tz = refl
      by_tests true true tx true ty false tz = refl
      by_tests true true tx true ty true tz = absurd (other (eqb-true _ _ tx) (eqb-true _ _ ty) (eqb-true _ _ tz))

  receivers_next : (k : Kind) → e.entry.action ≡ delivery k → e.entry.sender < 16 → e.entry.serial < 16 → e.entry.head < 16
      → set (receiver_sets s) (frame_index (delivery k) e.entry.sender e.entry.serial)
      (with_head (get_or (receiver_sets s) (frame_index (delivery k) e.entry.sender e.entry.serial) 0) e.entry.head) ≡ receiver_sets (e ∷ s)
  unfolding receiver_sets
  receivers_next k a hp hi hq =
      let f = index_fields k e.entry.sender e.entry.serial hp hi in
      set_next (λ j q. received (action_at j) (head_at j) (serial_at j) q s) (λ j q. received (action_at j) (head_at j) (serial_at j) q (e ∷ s)) 512
      (frame_index (delivery k) e.entry.sender e.entry.serial) e.entry.head f.0 hq
      (λ q. hit _ _ _ q (a ∙ sym f.1) (sym f.2) (sym f.3))
      (λ j q l d. miss _ _ _ q (λ x y z. eqb-false j (frame_index (delivery k) e.entry.sender e.entry.serial) d
      (sym (fields_index k j l (sym x ∙ a)) ∙ ap₂ (frame_index (delivery k)) (sym y) (sym z))))

  pub receivers_same : ((k : Kind) → e.entry.action ≢ delivery k) → receiver_sets (e ∷ s) ≡ receiver_sets s
  unfolding receiver_sets
  receivers_same other =
      sym (is_table (λ j. set_of (λ q. received (action_at j) (head_at j) (serial_at j) q (e ∷ s))) 512 0 _ (length_table (λ j. set_of (λ q. received (action_at j) (head_at j) (serial_at j) q s)) 0 512)
      (λ j l. table_at (λ j. set_of (λ q. received (action_at j) (head_at j) (serial_at j) q s)) 512 j 0 l
      ∙ set_ext 16 _ _ (λ q _. sym (miss (action_at j) (head_at j) (serial_at j) q (λ x y z. none j x)))))
    where
      none : (j : ℕ) → e.entry.action ≡ action_at j → ⊥
      none j = cond_elim (λ (a : ℕ). e.entry.action ≡ a → ⊥) (ltb j 256) (λ _ x. other votes x) (λ _ x. other adjusts x)

-- an entry of a sheet, j the index of its frame and m the frame's set with the entry's head in it
pub frame_received : (ws : List ℕ) (i : ℕ) (s : History) (e : Entry) (k : Kind) (sets : List ℕ) (j m : ℕ) → e ≡ entry_at ws i → e.action ≡ delivery k → sets ≡ receiver_sets s
    → j ≡ frame_index e.action e.sender e.serial → m ≡ with_head (get_or sets j 0) e.head → set sets j m ≡ receiver_sets (event_at ws i s ∷ s)
frame_received ws i s e k sets j m is act sets-are index with =
    let low = entry_sized ws i in
    let acts : (entry_at ws i).action ≡ delivery k = rw is at act in
    let index_is = index ∙ ap₂ (λ (a : ℕ) (x : Entry). frame_index a x.sender x.serial) act is in
    let set_is = with ∙ ap₂ (λ (l : List ℕ) (x : Entry). with_head (get_or l j 0) x.head) sets-are is in
    rw (set_is, sets-are, index_is) (receivers_next (event_at ws i s) s k acts low.1 low.2 low.0)
