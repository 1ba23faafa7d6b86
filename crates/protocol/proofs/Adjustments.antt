-- An adjuster has one adjustment: whoever names a as adjuster, in an adjust sent or in a record, has the adjustment that a
-- computed at its own turn, and sent in its adjust of serial 0.
-- Main result: `one_adjustment`.
use Rattle.std.specs.Prelude.{Option, Some, None}
use mathlib.Core.Path.{◌≡◌, refl, sym, ◌∙◌, ap, subst}
use mathlib.Core.Bool.{true, false, cond, ◌&&◌}
use mathlib.Core.List.{◌∷◌}
use Prim.Native.Nat.{ℕ, zero, suc, ◌+◌}
use native.Mathlib.Omega.{arith}
use lib.Dec.{eqb}
use Rattle.protocol.specs.Types.{Reading, HeadRecord, Setting, Stepped, Frame, NoFrame, Start, Vote, Adjust, Action}
use Rattle.protocol.specs.Record.{fresh}
use Rattle.protocol.specs.Step.{vote, adjust, accepted, concluded, is_tested}
use Rattle.protocol.specs.Run.{Event, History, record_of, is_delivered_by, or_else, frame_sent, is_frame, carried_reading}
use Rattle.protocol.proofs.Tests.{absurd_bool, eqb_same}
use Rattle.protocol.proofs.Effects.{adjusts, Delivery, named, Sending, nothing, voting, adjusting, send, prepared, sending_of, Allowed, sends_adjust, allowed, Why, itself, told, Source, computed, passed_on, closed_last, none_is_some, same_number_lem}
use Rattle.protocol.proofs.Valid.{base_of, Taken, Valid, start, more, record_at, record_other, by_head, delivery_at, is_delivery, of_effect, fixed, frame_fits}
use Rattle.protocol.proofs.Phases.{held, sent, names, names_other, sent_other, unsent, SendsOne, turn, frame_new, held_sent, last_frame, frame_stays}

-- what the adjust of p under serial j carries
abbrev pub adjustment_sent : History → ℕ → ℕ → Option Reading
adjustment_sent s p j = carried_reading (frame_sent s 8 p j)

module _ (g : Setting) where
  -- where an event's adjustment comes from: its head has no adjuster and computes one, or it passes one on
  pub data AdjustmentOrigin (s : History) (e : Event) (c : ℕ) (x : Reading) : Type 0 where
    own : c ≡ e.entry.head → held g adjusts s e.entry.head ≡ None → AdjustmentOrigin s e c x
    reached : (p j : ℕ) → names g adjusts s p j ≡ Some c → adjustment_sent s p j ≡ Some x → AdjustmentOrigin s e c x

  -- what an event does to its head's adjustment: nothing, or the head sends an adjust with it
  pub data Adjusting (s : History) (e : Event) : Type 0 where
    unchanged : e.after.adjustment ≡ (record_of g s e.entry.head).adjustment → e.after.adjust.sent ≡ sent g adjusts s e.entry.head
        → ((j : ℕ) → is_delivered_by 8 j e.frame ≡ false) → Adjusting s e
    sends : (c : ℕ) (x : Reading) → e.after.adjustment ≡ x → e.after.adjust.choice ≡ Some c → e.after.adjust.sent ≡ sent g adjusts s e.entry.head + 1 → e.frame ≡ Adjust (sent g adjusts s e.entry.head) c x
        → AdjustmentOrigin s e c x → Adjusting s e

  pub adjusting_at : {s : History} {e : Event} → Taken g s e → Valid g s → Adjusting s e
  unfolding vote adjust
  adjusting_at {s} {e} t v = go (sending_of r a) (allowed r a (closed_last _ _ a ∙ t.is_open)) refl
    where
      a : Action
      a = t.action

      r : HeadRecord
      r = base_of g s e

      -- a fact of the answer is a fact of the event
      at : (x : Sending) → sending_of r a ≡ x → (P : Stepped → Type 0) → P (concluded (is_tested r a) (send x (prepared r a))) → P (accepted e.after e.frame)
      at x u P h = of_effect g P t (subst (λ (y : Sending). P (concluded (is_tested r a) (send y (prepared r a)))) (sym u) h)

      origin : (c : ℕ) (x : Reading) → Why adjusts r a c → Source r a x → AdjustmentOrigin s e c x
      origin c x (itself is none tu) z = own (is ∙ (fixed g v e.entry.head).own_is) none
      origin c x (told nu na) (computed n7 m) = absurd (omega arith)
      origin c x (told nu na) (passed_on n8 ca) =
          let is : e.entry.action ≡ 8 = is_delivery g adjusts t nu in
          reached e.entry.sender e.entry.serial
          (subst (λ (y : ℕ). named (frame_sent s y e.entry.sender e.entry.serial) ≡ Some c) is (ap (λ (d : Delivery). named d.frame) (sym (delivery_at g t)) ∙ na))
          (subst (λ (y : ℕ). carried_reading (frame_sent s y e.entry.sender e.entry.serial) ≡ Some x) is
          (ap (λ (d : Delivery). carried_reading d.frame) (sym (delivery_at g t)) ∙ ca))

      same : (x : Sending) → sending_of r a ≡ x → (send x (prepared r a)).after.adjustment ≡ r.adjustment → (send x (prepared r a)).after.adjust.sent ≡ r.adjust.sent
          → ((j : ℕ) → is_delivered_by 8 j (send x (prepared r a)).frame ≡ false) → Adjusting s e
      same x u ad se fr =
          unchanged (at x u (λ y. y.after.adjustment ≡ (record_of g s e.entry.head).adjustment) ad)
          (at x u (λ y. y.after.adjust.sent ≡ sent g adjusts s e.entry.head) se) (λ j. at x u (λ y. is_delivered_by 8 j y.frame ≡ false) (fr j))

      go : (x : Sending) → Allowed r a x → sending_of r a ≡ x → Adjusting s e
      go nothing w u = same nothing u refl refl (λ j. refl)
      go Sending.start w u = same Sending.start u refl refl (λ j. refl)
      go (voting c) w u = same (voting c) u refl refl (λ j. refl)
      go (adjusting c x) (sends_adjust w z) u =
          sends c x (at (adjusting c x) u (λ y. y.after.adjustment ≡ x) refl)
          (at (adjusting c x) u (λ y. y.after.adjust.choice ≡ Some c) refl)
          (at (adjusting c x) u (λ y. y.after.adjust.sent ≡ sent g adjusts s e.entry.head + 1) refl)
          (at (adjusting c x) u (λ y. y.frame ≡ Adjust (sent g adjusts s e.entry.head) c x) refl) (origin c x w.why z)

  -- a frame that was sent is the one looked up ever after
  kept_frame : (x y : Frame) → is_frame x ≡ true → or_else x y ≡ x
  kept_frame NoFrame y h = absurd_bool h refl
  kept_frame Start y h = refl
  kept_frame (Vote j c z) y h = refl
  kept_frame (Adjust j c z) y h = refl

  named_is_frame : (x : Frame) (c : ℕ) → named x ≡ Some c → is_frame x ≡ true
  named_is_frame NoFrame c h = none_is_some h
  named_is_frame Start c h = refl
  named_is_frame (Vote j d z) c h = refl
  named_is_frame (Adjust j d z) c h = refl

  value_stays : (e : Event) (s : History) (p j c : ℕ) → names g adjusts s p j ≡ Some c → adjustment_sent (e ∷ s) p j ≡ adjustment_sent s p j
  unfolding frame_sent
  value_stays e s p j c h = ap carried_reading (kept_frame (frame_sent s 8 p j) _ (named_is_frame (frame_sent s 8 p j) c h))

  -- an adjust that is new
  value_new : (e : Event) (s : History) (j : ℕ) → names g adjusts s e.entry.head j ≡ None → is_delivered_by 8 j e.frame ≡ true
      → adjustment_sent (e ∷ s) e.entry.head j ≡ carried_reading e.frame
  unfolding frame_sent
  value_new e s j h d = go (frame_sent s 8 e.entry.head j) h (frame_fits s 8 e.entry.head j)
    where
      go : (x : Frame) → named x ≡ None → (is_frame x ≡ true → is_delivered_by 8 j x ≡ true)
          → carried_reading (or_else x (cond (eqb e.entry.head e.entry.head && is_delivered_by 8 j e.frame) e.frame NoFrame)) ≡ carried_reading e.frame
      go NoFrame u f = rw (eqb_same e.entry.head, d) refl
      go Start u f = absurd_bool (f refl) refl
      go (Vote i c z) u f = none_is_some (sym u)
      go (Adjust i c z) u f = none_is_some (sym u)

  -- every adjust that names c carries what c's own adjust of serial 0 carries
  pub record Single (s : History) (c : ℕ) (x : Option Reading) : Type 0 where
    pub first_names : names g adjusts s c 0 ≡ Some c
    pub first_carries : x ≡ adjustment_sent s c 0

  single_stays : {s : History} {e : Event} {c : ℕ} {x : Option Reading} → Taken g s e → Valid g s → Single s c x → Single (e ∷ s) c x
  single_stays {s} {e} {c} t v z =
      record { first_names = frame_stays g adjusts t v c 0 c z.first_names; first_carries = z.first_carries ∙ sym (value_stays e s c 0 c z.first_names) }

  -- a head with no choice has sent nothing
  none_sent : {s : History} → Valid g s → (q : ℕ) → held g adjusts s q ≡ None → sent g adjusts s q ≡ 0
  none_sent {s} v q h = go (sent g adjusts s q) refl
    where
      go : (m : ℕ) → sent g adjusts s q ≡ m → sent g adjusts s q ≡ 0
      go zero u = u
      go (suc j) u = none_is_some (sym h ∙ (last_frame g adjusts v q j u).holds)

  -- the adjust that a head sends is looked up under its next serial
  value_sent : {s : History} (e : Event) {c : ℕ} {x : Reading} → Valid g s → e.frame ≡ Adjust (sent g adjusts s e.entry.head) c x
      → adjustment_sent (e ∷ s) e.entry.head (sent g adjusts s e.entry.head) ≡ Some x
  value_sent {s} e v fr =
      let j = sent g adjusts s e.entry.head in
      value_new e s j (unsent g adjusts v e.entry.head) (rw (fr, eqb_same j) refl) ∙ rw fr refl

  single_new : {s : History} {e : Event} → Taken g s e → Valid g s → ((p j c : ℕ) → names g adjusts s p j ≡ Some c → Single s c (adjustment_sent s p j)) → (z : SendsOne g adjusts s e)
      → Adjusting s e → Single (e ∷ s) z.choice (adjustment_sent (e ∷ s) e.entry.head (sent g adjusts s e.entry.head))
  single_new {s} {e} t v ih z (unchanged ad se fr) = absurd (let y = ap (λ (r : HeadRecord). r.adjust.sent) (sym (record_at g e s)) ∙ z.sent_new in omega arith)
  single_new {s} {e} t v ih z (sends c x ad ch se fr o) =
      subst (λ (w : ℕ). Single (e ∷ s) w (adjustment_sent (e ∷ s) q (sent g adjusts s q))) is (go o)
    where
      q : ℕ
      q = e.entry.head

      is : c ≡ z.choice
      is = same_number_lem (sym ch ∙ ap (λ (r : HeadRecord). r.adjust.choice) (sym (record_at g e s)) ∙ z.held_new)

      value : adjustment_sent (e ∷ s) q (sent g adjusts s q) ≡ Some x
      value = value_sent e v fr

      names_it : names g adjusts (e ∷ s) q (sent g adjusts s q) ≡ Some c
      names_it = z.names_new (sent g adjusts s q) ∙ rw (unsent g adjusts v q, eqb_same (sent g adjusts s q)) (ap (λ (w : ℕ). Some w) (sym is))

      go : AdjustmentOrigin s e c x → Single (e ∷ s) c (adjustment_sent (e ∷ s) q (sent g adjusts s q))
      go (own c-is none) =
          let zero-sent = none_sent v q none in
          record {
            first_names = subst (λ (w : ℕ). names g adjusts (e ∷ s) w 0 ≡ Some c) (sym c-is) (subst (λ (i : ℕ). names g adjusts (e ∷ s) q i ≡ Some c) zero-sent names_it);
            first_carries = subst (λ (w : ℕ). adjustment_sent (e ∷ s) q (sent g adjusts s q) ≡ adjustment_sent (e ∷ s) w 0) (sym c-is) (ap (adjustment_sent (e ∷ s) q) zero-sent);
          }
      go (reached p j n val) =
          let y = single_stays t v (ih p j c n) in
          record { first_names = y.first_names; first_carries = value ∙ sym val ∙ y.first_carries }

  pub single : {s : History} → Valid g s → (p j c : ℕ) → names g adjusts s p j ≡ Some c → Single s c (adjustment_sent s p j)
  unfolding frame_sent
  single start p j c = none_is_some
  single (more {e = e} {s = s} t v) p j c =
      by_head (λ p. names g adjusts (e ∷ s) p j ≡ Some c → Single (e ∷ s) c (adjustment_sent (e ∷ s) p j)) e p
      (frame_new g adjusts (λ j c. Single (e ∷ s) c (adjustment_sent (e ∷ s) e.entry.head j)) (turn g adjusts t v) (λ j c h. old e.entry.head j c h (single v e.entry.head j c h))
      (λ z. single_new t v (single v) z (adjusting_at t v)) j c)
      (λ d h. let n = sym (names_other g adjusts e s p j d) ∙ h in old p j c n (single v p j c n))
    where
      old : (p j c : ℕ) → names g adjusts s p j ≡ Some c → Single s c (adjustment_sent s p j) → Single (e ∷ s) c (adjustment_sent (e ∷ s) p j)
      old p j c n z = subst (Single (e ∷ s) c) (sym (value_stays e s p j c n)) (single_stays t v z)

  -- the last adjust that a head sent carries the adjustment that it holds
  pub last_adjustment : {s : History} → Valid g s → (q j : ℕ) → sent g adjusts s q ≡ suc j → adjustment_sent s q j ≡ Some (record_of g s q).adjustment
  unfolding record_of fresh
  last_adjustment start q j = λ h. absurd (omega arith)
  last_adjustment (more {e = e} {s = s} t v) q j =
      by_head (λ q. sent g adjusts (e ∷ s) q ≡ suc j → adjustment_sent (e ∷ s) q j ≡ Some (record_of g (e ∷ s) q).adjustment) e q
      (λ h. rw (record_at g e s) (go (ap (λ (r : HeadRecord). r.adjust.sent) (sym (record_at g e s)) ∙ h) (last_adjustment v e.entry.head j) (adjusting_at t v)))
      (λ d h. let was = sym (sent_other g adjusts e s q d) ∙ h in
      old q was (last_adjustment v q j was) ∙ ap (λ (r : HeadRecord). Some r.adjustment) (sym (record_other g e s q d)))
    where
      old : (q : ℕ) → sent g adjusts s q ≡ suc j → adjustment_sent s q j ≡ Some (record_of g s q).adjustment → adjustment_sent (e ∷ s) q j ≡ Some (record_of g s q).adjustment
      old q was ih = value_stays e s q j _ (last_frame g adjusts v q j was).names_it ∙ ih

      go : e.after.adjust.sent ≡ suc j → (sent g adjusts s e.entry.head ≡ suc j → adjustment_sent s e.entry.head j ≡ Some (record_of g s e.entry.head).adjustment)
          → Adjusting s e → adjustment_sent (e ∷ s) e.entry.head j ≡ Some e.after.adjustment
      go h ih (unchanged ad se fr) = let was = sym se ∙ h in old e.entry.head was (ih was) ∙ ap (λ (x : Reading). Some x) (sym ad)
      go h ih (sends c x ad ch se fr o) =
          let is : sent g adjusts s e.entry.head ≡ j = (let y = sym se ∙ h in omega arith) in
          subst (λ (i : ℕ). adjustment_sent (e ∷ s) e.entry.head i ≡ Some e.after.adjustment) is (value_sent e v fr ∙ ap (λ (y : Reading). Some y) (sym ad))

  -- whoever has the adjuster c holds what c's adjust of serial 0 carries
  holds_first : {s : History} → Valid g s → (q c : ℕ) → held g adjusts s q ≡ Some c → Some (record_of g s q).adjustment ≡ adjustment_sent s c 0
  holds_first {s} v q c h =
      let j = held_sent g adjusts v q c h in
      let f = last_frame g adjusts v q j.0 j.1 in
      sym (last_adjustment v q j.0 j.1) ∙ (single v q j.0 c (f.names_it ∙ sym f.holds ∙ h)).first_carries

  -- (e) so heads with the same adjuster have the same adjustment
  pub one_adjustment : {s : History} → Valid g s → (p q c : ℕ) → held g adjusts s p ≡ Some c → held g adjusts s q ≡ Some c
      → (record_of g s p).adjustment ≡ (record_of g s q).adjustment
  one_adjustment {s} v p q c hp hq =
      let same : Some (record_of g s p).adjustment ≡ Some (record_of g s q).adjustment = holds_first v p c hp ∙ sym (holds_first v q c hq) in
      cc
