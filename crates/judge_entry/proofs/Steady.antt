-- Premise 2 of an entry with all of its head's entries before it, by the least gain and the least loss.
-- Main results: `drifts_next`, `steady_next`, `least_held`, `kept_next`.
use mathlib.Core.Path.{◌≡◌, refl, sym, ◌∙◌, ap, ap₂}
use mathlib.Core.Bool.{Bool, true, false, cond, not, ◌&&◌}
use mathlib.Core.List.{List, [], ◌∷◌}
use Prim.Native.Nat.{ℕ, ◌+◌, ◌-◌, ◌*◌, ◌%◌, ◌^◌, ◌≤◌, ◌<◌}
use native.Mathlib.Nat.{mul-add, add-mul, le_trans}
use native.Mathlib.Omega.{arith}
use lib.Dec.{ltb, leb, eqb}
use lib.ListN.{get_or, set}
use lib.IntN.{ℤ, pos, negsuc}
use lib.Signed.{lt_z, le_z}
use borrow.Author.Tests.{lt-ltb, le-ltb, le-leb, lt-leb, leb-true, leb-false, eqb-false, eq-eqb, ne_eqb}
use Rattle.protocol.specs.declared.HeadRow.{HeadRow}
use Rattle.protocol.specs.declared.Setting.{Setting}
use Rattle.protocol.specs.declared.Entry.{Entry}
use Rattle.protocol.specs.Types.{Accepted}
use Rattle.protocol.specs.Base.{◌⇒◌, all, distance, table}
use Rattle.protocol.specs.Words.{is_correct, setting_at, entry_at}
use Rattle.protocol.specs.Run.{Event, History, last_time}
use Rattle.protocol.specs.Premises.{each, is_steady, premise2}
use Rattle.protocol.proofs.Tests.{absurd_bool, cases, and_both, and_left, and_right}
use Rattle.protocol.proofs.Tables.{table_at, set_table}
use Rattle.protocol.proofs.Signed.{Difference, up, down, difference_of, difference_pos}
use Rattle.protocol.proofs.Valid.{Valid, start, more}
use Rattle.sheet_state.specs.Arrays.{answer_at, event_at, Stands}
use Rattle.sheet_state.proofs.Standing.{entry_sized, valid_history, next_taken}
use Rattle.data_sets.proofs.Sets.{same_test}
use Rattle.std.specs.Int.{int_min}
use Rattle.judge_premise_2.specs.declared.Drift.{Drift}
use Rattle.judge_premise_2.specs.Drift.{gain_of, loss_of, drift_of, least_of, stays_steady}
use Rattle.judge_premise_3.proofs.Accepted.{entry_time}
use Rattle.judge_entry.specs.State.{least_drift, drifts_of, keeps_premise_2}

-- SIGNED NUMBERS

-- two tests of an order agree if each order follows from the other
same_order : (a b c d : ℕ) → (a ≤ b → c ≤ d) → (c ≤ d → a ≤ b) → leb a b ≡ leb c d
same_order a b c d f g = same_test (leb a b) (leb c d) (λ t. le-leb c d (f (leb-true a b t))) (λ t. le-leb a b (g (leb-true c d t)))

both_orders : (a b c d e f : ℕ) → (a ≤ b → c ≤ d) → (a ≤ b → e ≤ f) → (c ≤ d → e ≤ f → a ≤ b) → leb a b ≡ (leb c d && leb e f)
both_orders a b c d e f x y z =
    same_test (leb a b) (leb c d && leb e f)
    (λ t. let h = leb-true a b t in and_both (le-leb c d (x h)) (le-leb e f (y h)))
    (λ t. le-leb a b (z (leb-true c d (and_left (leb c d) (leb e f) t)) (leb-true e f (and_right (leb c d) (leb e f) t))))

le_difference : {x y u v : ℕ} {z w : ℤ} → Difference x y z → Difference u v w → le_z z w ≡ leb (x + v) (u + y)
le_difference {x} {y} {u} {v} (up m d) (up n e) = same_order m n (x + v) (u + y) (λ h. omega arith) (λ h. omega arith)
le_difference {x} {y} {u} {v} (up m d) (down n e) = sym (lt-leb (x + v) (u + y) (omega arith))
le_difference {x} {y} {u} {v} (down m d) (up n e) = sym (le-leb (x + v) (u + y) (omega arith))
le_difference {x} {y} {u} {v} (down m d) (down n e) = same_order n m (x + v) (u + y) (λ h. omega arith) (λ h. omega arith)

le_both : (x y z : ℤ) → le_z x y ≡ true → le_z y z ≡ true → le_z x z ≡ true
le_both (pos a) (pos b) (pos c) e f = let p = leb-true a b e in let q = leb-true b c f in le-leb a c (omega arith)
le_both (pos a) (pos b) (negsuc c) e f = f
le_both (pos a) (negsuc b) z e f = absurd_bool e refl
le_both (negsuc a) y (pos c) e f = refl
le_both (negsuc a) (pos b) (negsuc c) e f = absurd_bool f refl
le_both (negsuc a) (negsuc b) (negsuc c) e f = let p = leb-true b a e in let q = leb-true c b f in le-leb c a (omega arith)

other_order : (a b : ℕ) → ltb a b ≡ not (leb b a)
other_order a b = cases (leb b a) (λ t. rw t (le-ltb a b (leb-true b a t))) (λ t. rw t (let z = leb-false b a t in lt-ltb a b (omega arith)))

less_test : (x y : ℤ) → lt_z x y ≡ not (le_z y x)
less_test (pos a) (pos b) = other_order a b
less_test (pos a) (negsuc b) = refl
less_test (negsuc a) (pos b) = refl
less_test (negsuc a) (negsuc b) = other_order b a

le_total : (x y : ℤ) → le_z x y ≡ false → le_z y x ≡ true
le_total (pos a) (pos b) e = let p = leb-false a b e in le-leb b a (omega arith)
le_total (pos a) (negsuc b) e = refl
le_total (negsuc a) (pos b) e = absurd_bool refl e
le_total (negsuc a) (negsuc b) e = let p = leb-false b a e in le-leb a b (omega arith)

-- at most the lesser of two is at most both
le_least : (x y z : ℤ) → le_z x (int_min y z) ≡ (le_z x y && le_z x z)
le_least x y z = rw (less_test z y) (go (le_z y z) refl)
  where
    first : (a b : Bool) → (a ≡ true → b ≡ true) → a ≡ (a && b)
    first true b f = sym (f refl)
    first false b f = refl

    second : (a b : Bool) → (b ≡ true → a ≡ true) → b ≡ (a && b)
    second true b f = refl
    second false true f = sym (f refl)
    second false false f = refl

    go : (t : Bool) → le_z y z ≡ t → le_z x (cond (not t) z y) ≡ (le_z x y && le_z x z)
    go true e = first (le_z x y) (le_z x z) (λ h. le_both x y z h e)
    go false e = second (le_z x y) (le_z x z) (λ h. le_both x z y h (le_total y z e))

-- TWO ENTRIES

module _ (drift : ℕ) (e : Entry) (slack : ℕ) where
  gain_is : Difference (1000000 * e.reading.0) ((1000000 + drift) * e.time.0 + slack) (gain_of drift e slack)
  gain_is = difference_of (1000000 * e.reading.0) ((1000000 + drift) * e.time.0 + slack)

  loss_is : Difference (1000000 * e.time.0) (1000000 * e.reading.0 + drift * e.time.0 + slack) (loss_of drift e slack)
  loss_is = difference_of (1000000 * e.time.0) (1000000 * e.reading.0 + drift * e.time.0 + slack)

-- premise 2 of d and e, d the earlier
steady_pair : (drift : ℕ) (d e : Entry) → d.time.0 ≤ e.time.0
    → is_steady drift d e ≡ (le_z (gain_of drift e 1000000) (gain_of drift d 0) && le_z (loss_of drift e 1000000) (loss_of drift d 0))
steady_pair drift d e h =
    in_numbers e.time.0 e.reading.0 d.time.0 d.reading.0 (e.time.0 - d.time.0) (omega arith)
    ∙ sym (ap₂ ◌&&◌ (le_difference (gain_is drift e 1000000) (gain_is drift d 0)) (le_difference (loss_is drift e 1000000) (loss_is drift d 0)))
  where
    in_numbers : (t b s a m : ℕ) → t ≡ s + m
        → leb (1000000 * distance (b + s) (a + t)) (drift * m + 1000000)
        ≡ (leb (1000000 * b + ((1000000 + drift) * s + 0)) (1000000 * a + ((1000000 + drift) * t + 1000000))
        && leb (1000000 * t + (1000000 * a + drift * s + 0)) (1000000 * s + (1000000 * b + drift * t + 1000000)))
    in_numbers t b s a m eq =
        let later : drift * t ≡ drift * s + drift * m = ap (λ (x : ℕ). drift * x) eq ∙ mul-add drift s m in
        let at-t = add-mul 1000000 drift t in
        let at-s = add-mul 1000000 drift s in
        both_orders (1000000 * distance (b + s) (a + t)) (drift * m + 1000000)
        (1000000 * b + ((1000000 + drift) * s + 0)) (1000000 * a + ((1000000 + drift) * t + 1000000))
        (1000000 * t + (1000000 * a + drift * s + 0)) (1000000 * s + (1000000 * b + drift * t + 1000000))
        (λ z. omega (arith, later, at-t, at-s)) (λ z. omega (arith, later)) (λ x y. omega (arith, later, at-t, at-s))

-- ALL ENTRIES BEFORE

-- no event of the history is later than t
abbrev Until : ℕ → History → Type 0
Until t [] = Unit {0}
Until t (e ∷ s) = (e.entry.time.0 ≤ t) × Until t s

until : {g : Setting} {s : History} → Valid g s → (t : ℕ) → last_time s ≤ t → Until t s
until start t h = tt
until (more x v) t h = (h, until v t (le_trans x.time_rises h))

module _ (drift : ℕ) (e : Entry) (q : ℕ) (ft : e.time.0 < 2 ^ 28) (fr : e.reading.0 < 2 ^ 28) where
  abbrev with_all : History → Bool
  with_all s = all (λ d. eqb d.entry.head q ⇒ is_steady drift d.entry e) s

  abbrev up_to : ℤ → Bool
  up_to = le_z (gain_of drift e 1000000)

  abbrev down_to : ℤ → Bool
  down_to = le_z (loss_of drift e 1000000)

  steady_with_all : (s : History) → Until e.time.0 s
      → with_all s ≡ (up_to (least_drift drift s q).gain && down_to (least_drift drift s q).loss)
  unfolding least_drift
  steady_with_all [] u =
      sym (and_both
      (le_difference (gain_is drift e 1000000) (difference_pos (2 ^ 62)) ∙ le-leb _ (2 ^ 62 + ((1000000 + drift) * e.time.0 + 1000000)) (omega arith))
      (le_difference (loss_is drift e 1000000) (difference_pos (2 ^ 62))
      ∙ le-leb _ (2 ^ 62 + (1000000 * e.reading.0 + drift * e.time.0 + 1000000)) (omega arith)))
  steady_with_all (d ∷ s) u =
      let ih = steady_with_all s u.1 in cases (eqb d.entry.head q) (λ t. rw t (at_head ih)) (λ t. rw t ih)
    where
      x : ℤ
      x = (least_drift drift s q).gain

      y : ℤ
      y = (least_drift drift s q).loss

      four : (a b c f : Bool) → ((a && b) && (c && f)) ≡ ((c && a) && (f && b))
      four true true true true = refl
      four true true true false = refl
      four true true false f = refl
      four true false true true = refl
      four true false true false = refl
      four true false false f = refl
      four false b true f = refl
      four false b false f = refl

      gain : ℤ
      gain = gain_of drift d.entry 0

      loss : ℤ
      loss = loss_of drift d.entry 0

      at_head : with_all s ≡ (up_to x && down_to y) → (is_steady drift d.entry e && with_all s) ≡ (up_to (int_min x gain) && down_to (int_min y loss))
      at_head ih =
          ap₂ ◌&&◌ (steady_pair drift d.entry e u.0) ih ∙ four (up_to gain) (down_to loss) (up_to x) (down_to y)
          ∙ sym (ap₂ ◌&&◌ (le_least (gain_of drift e 1000000) x gain) (le_least (loss_of drift e 1000000) y loss))

-- ONE MORE EVENT

-- what an array of differences has beyond its end
abbrev beyond : Drift
beyond = record { gain = pos 0; loss = pos 0 }

module _ (e : Event) (s : History) (small : e.entry.head < 16) where
  abbrev index : ℕ
  index = e.entry.head % 16

  least_next : (drift : ℕ)
      → set (table (least_drift drift s) 0 16) index (least_of (get_or (table (least_drift drift s) 0 16) index beyond) (drift_of drift e.entry 0)) ≡ table (least_drift drift (e ∷ s)) 0 16
  unfolding least_drift
  least_next drift =
      set_table (least_drift drift s) (least_drift drift (e ∷ s)) 16 index _ beyond (omega arith)
      (at index (eq-eqb e.entry.head index (omega arith))
      ∙ ap (λ (d : Drift). least_of d (drift_of drift e.entry 0)) (sym (table_at (least_drift drift s) 16 index beyond (omega arith))))
      (λ j l d. other j (ne_eqb e.entry.head j (λ z. eqb-false j index d (omega arith))))
    where
      at : (q : ℕ) → eqb e.entry.head q ≡ true → least_drift drift (e ∷ s) q ≡ least_of (least_drift drift s q) (drift_of drift e.entry 0)
      at q t = rw t refl

      other : (q : ℕ) → eqb e.entry.head q ≡ false → least_drift drift (e ∷ s) q ≡ least_drift drift s q
      other q t = rw t refl

  held : (g : Setting) → get_or (drifts_of g s) index beyond ≡ least_drift g.drift s e.entry.head
  unfolding drifts_of
  held g = table_at (least_drift g.drift s) 16 index beyond (omega arith) ∙ ap (least_drift g.drift s) (omega arith)

  premise_2_next : (g : Setting) → e.entry.time.0 < 2 ^ 28 → e.entry.reading.0 < 2 ^ 28 → Until e.entry.time.0 s
      → (stays_steady (is_correct g e.entry.head) g.drift e.entry (get_or (drifts_of g s) index beyond) && premise2 g s) ≡ premise2 g (e ∷ s)
  unfolding premise2 each
  premise_2_next g ft fr u =
      ap (λ (d : Drift). stays_steady (is_correct g e.entry.head) g.drift e.entry d && premise2 g s) (held g)
      ∙ ap (λ (b : Bool). (is_correct g e.entry.head ⇒ b) && premise2 g s) (sym (steady_with_all g.drift e.entry e.entry.head ft fr s u))

-- an accepted entry e of a sheet with setting g; h is its head's index
module _ {ws : List ℕ} {i : ℕ} {s : History} {heads : List HeadRow} (now : Stands ws i s heads) (accepted : (answer_at ws i s).verdict ≡ Accepted)
    (g : Setting) {e : Entry} (e-is : e ≡ entry_at ws i) {drifts : List Drift} (are : drifts ≡ drifts_of g s) {h : ℕ} (at : h ≡ e.head % 16) where
  pub drifts_next : set drifts h (least_of (get_or drifts h beyond) (drift_of g.drift e 0)) ≡ drifts_of g (event_at ws i s ∷ s)
  unfolding drifts_of
  drifts_next = rw (are, at, e-is) (least_next (event_at ws i s) s (entry_sized ws i).0 g.drift)

  pub steady_next : (g ≡ setting_at ws) → (stays_steady (is_correct g e.head) g.drift e (get_or drifts h beyond) && premise2 g s) ≡ premise2 g (event_at ws i s ∷ s)
  steady_next g-is =
      let t = next_taken now accepted in
      rw (are, at, e-is) (premise_2_next (event_at ws i s) s (entry_sized ws i).0 g (entry_time ws i) t.reading_below (until (valid_history now) _ t.time_rises))

  pub least_held : get_or drifts h beyond ≡ least_drift g.drift s e.head
  least_held = rw (are, at, e-is) (held (event_at ws i s) s (entry_sized ws i).0 g)

  pub kept_next : (g ≡ setting_at ws) → (keeps_premise_2 g e s && premise2 g s) ≡ premise2 g (event_at ws i s ∷ s)
  kept_next g-is = rw (← least_held) (steady_next g-is)
