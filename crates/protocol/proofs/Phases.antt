-- One phase of a round, votes or adjusts: what follows from what a step sends and what it takes of a delivered frame.
-- A head's frames have the serials 0, 1, 2 .. and its choice only falls, so the last serial taken from a sender binds
-- the receiver: its choice is at most what that frame named. Two heads that took each other's last frame therefore agree.
-- Main results, over the phase: `close_by_entry`, `took_close`, `over_keeps`, `chosen_at`, `frame_stays`, `last_frame`,
-- `delivered_choice`, `agree`.
use Rattle.std.specs.Prelude.{Option, Some, None}
use mathlib.Core.Path.{◌≡◌, refl, sym, ◌∙◌, ap, subst}
use mathlib.Core.Bool.{Bool, true, false, cond, not, ◌&&◌, ◌||◌}
use mathlib.Core.List.{◌∷◌}
use Prim.Native.Nat.{ℕ, zero, suc, ◌≤◌, ◌<◌}
use native.Mathlib.Numerals.{add-one}
use native.Mathlib.Omega.{arith}
use lib.Dec.{eqb}
use lib.ListN.{get_or, replicate}
use borrow.Author.Tests.{eqb-true, eq-eqb, ltb-true, ltb-false}
use Rattle.protocol.specs.Base.{any}
use Rattle.protocol.specs.Types.{Sender, Phase, HeadRecord, Setting, Action, Frame, NoFrame, Start, Vote, Adjust}
use Rattle.protocol.specs.Words.{has_sender, is_correct}
use Rattle.protocol.specs.Record.{no_sender, kept_of, fresh}
use Rattle.protocol.specs.Step.{early_if, is_above, outranks, is_closed}
use Rattle.protocol.specs.Run.{Event, History, record_of, is_delivered_by, or_else, frame_sent, frame_of, is_frame}
use Rattle.protocol.specs.Premises.{takes, receives, received, correct_closes, is_early}
use Rattle.protocol.specs.Premises as Premises
use Rattle.protocol.proofs.Tests.{absurd_bool, cases, and_left, and_right, and_both, or_first, or_second, or_right, or_cases, not_true, not_false, eqb_same, and_false}
use Rattle.protocol.proofs.Moments.{Earlier, now, later, any_grows, find}
use Rattle.protocol.proofs.Effects.{Kind, votes, adjusts, phase_of, taken_of, delivery, closing, number, is_timed, delivery_in, delivered_by, serial_of, named, named_by, taken, passed_over, ignored, Delivery, prepared, Sending, sending_of, named_in, chosen_by, named_under, prepared_choice, prepared_sent, phase_last, chosen_turn, named_after, allowed, naming, Why, itself, told, none_is_some, same_number_lem, closed_last, closes_early, answer_phase, answer_closed, answer_early, taken_close, close_open, Unsaid, taken_after, ignored_frame, delivered_sending}
use Rattle.protocol.proofs.Valid.{base_of, Taken, Valid, start, more, frame_fits, record_at, record_other, by_head, delivery_at, is_delivery, delivers, of_effect, fixed, closed_took, kept_next, kept_at}

-- the first of two that is there
abbrev pub or_number : Option ℕ → Option ℕ → Option ℕ
or_number None b = b
or_number (Some c) b = Some c

or_none : (m : Option ℕ) → or_number m None ≡ m
or_none None = refl
or_none (Some c) = refl

-- a start is no frame of either phase
no_start : (k : Kind) (j : ℕ) → is_delivered_by (delivery k) j Start ≡ false
no_start votes j = refl
no_start adjusts j = refl

named_or : (k : Kind) (j : ℕ) (x y : Frame) → (is_frame x ≡ true → is_delivered_by (delivery k) j x ≡ true) → named (or_else x y) ≡ or_number (named x) (named y)
named_or k j NoFrame y f = refl
named_or k j Start y f = absurd_bool (f refl) (no_start k j)
named_or k j (Vote i c x) y f = refl
named_or k j (Adjust i c x) y f = refl

named_if : (a b : Bool) (x : Frame) → named (cond (a && b) x NoFrame) ≡ cond a (cond b (named x) None) None
named_if true true x = refl
named_if true false x = refl
named_if false b x = refl

-- a fresh record keeps nothing
pub no_senders : (k p : ℕ) → get_or (replicate k no_sender) p no_sender ≡ no_sender
no_senders zero p = refl
no_senders (suc k) zero = refl
no_senders (suc k) (suc p) = no_senders k p

has_sender_lem : (k : Kind) → has_sender (delivery k) ≡ true
has_sender_lem votes = refl
has_sender_lem adjusts = refl

above_taken : (j : ℕ) (m : Option ℕ) → is_above j m ≡ true → taken m ≤ j
above_taken j None e = omega arith
above_taken j (Some i) e = ltb-true i j e

below_taken : (j : ℕ) (m : Option ℕ) → is_above j m ≡ false → j < taken m
below_taken j None e = absurd_bool refl e
below_taken j (Some i) e = let z = ltb-false i j e in omega arith

suc_of : (m : ℕ) {j : ℕ} → j < m → (i : ℕ) × (m ≡ suc i)
suc_of zero h = absurd (omega arith)
suc_of (suc i) h = (i, refl)

not_zero : (k : Kind) → 0 ≡ delivery k → ⊥
not_zero votes e = omega arith
not_zero adjusts e = omega arith

not_two : (k : Kind) → 2 ≡ delivery k → ⊥
not_two votes e = omega arith
not_two adjusts e = omega arith

-- a frame of the phase names somebody
named_frame : (k : Kind) (x : Frame) → delivered_by x ≡ delivery k → (c : ℕ) × (named x ≡ Some c)
named_frame k NoFrame e = absurd (not_zero k e)
named_frame k Start e = absurd (not_two k e)
named_frame k (Vote j c x) e = (c, refl)
named_frame k (Adjust j c x) e = (c, refl)

-- who outranks a choice has a lower number
pub outranks_below : (c : ℕ) (m : Option ℕ) (w : ℕ) → outranks c m ≡ true → m ≡ Some w → c < w
outranks_below c None w o e = none_is_some e
outranks_below c (Some v) w o e = let eq = same_number_lem e in let lt = ltb-true c v o in omega arith

-- a choice that is not outranked is there, and at most the number
not_outranked : (c : ℕ) (m : Option ℕ) → outranks c m ≡ false → (w : ℕ) × (m ≡ Some w) × (w ≤ c)
not_outranked c None e = absurd_bool refl e
not_outranked c (Some w) e = (w, refl, ltb-false c w e)

module _ (g : Setting) (k : Kind) where
  -- a head's choice, the number of frames that it sent, whether its phase is closed, one more than the last serial taken
  -- from p, and whom p's frame of serial j names
  abbrev pub held : History → ℕ → Option ℕ
  held s q = (phase_of k (record_of g s q)).choice

  abbrev pub sent : History → ℕ → ℕ
  sent s q = (phase_of k (record_of g s q)).sent

  abbrev pub is_over : History → ℕ → Bool
  is_over s q = (phase_of k (record_of g s q)).closed

  abbrev pub last_taken : History → ℕ → ℕ → ℕ
  last_taken s q p = taken (taken_of k (kept_of (record_of g s q) p))

  abbrev pub names : History → ℕ → ℕ → Option ℕ
  names s p j = named (frame_sent s (delivery k) p j)

  names_step : (e : Event) (s : History) (p j : ℕ) → names (e ∷ s) p j ≡ or_number (names s p j) (cond (eqb e.entry.head p) (named_by k j e.frame) None)
  unfolding frame_sent
  names_step e s p j =
      named_or k j (frame_sent s (delivery k) p j) _ (frame_fits s (delivery k) p j)
      ∙ ap (λ (m : Option ℕ). or_number (names s p j) m) (named_if (eqb e.entry.head p) (is_delivered_by (delivery k) j e.frame) e.frame)

  pub names_other : (e : Event) (s : History) (p j : ℕ) → eqb e.entry.head p ≡ false → names (e ∷ s) p j ≡ names s p j
  names_other e s p j d = names_step e s p j ∙ rw d (or_none (names s p j))

  pub held_other : (e : Event) (s : History) (q : ℕ) → eqb e.entry.head q ≡ false → held (e ∷ s) q ≡ held s q
  held_other e s q d = ap (λ (r : HeadRecord). (phase_of k r).choice) (record_other g e s q d)

  pub sent_other : (e : Event) (s : History) (q : ℕ) → eqb e.entry.head q ≡ false → sent (e ∷ s) q ≡ sent s q
  sent_other e s q d = ap (λ (r : HeadRecord). (phase_of k r).sent) (record_other g e s q d)

  -- whom a head names: itself, if it has no choice, or one whom the frame that it is delivered names
  pub data Origin (s : History) (e : Event) (c : ℕ) : Type 0 where
    own : c ≡ e.entry.head → held s e.entry.head ≡ None → (phase_of k (record_of g (e ∷ s) e.entry.head)).turn ≡ true → Origin s e c
    reached : e.entry.action ≡ delivery k → names s e.entry.sender e.entry.serial ≡ Some c → Origin s e c

  -- what an event does to its head's choice and frames: nothing, or the head sends one that names a choice
  pub record SendsNone (s : History) (e : Event) : Type 0 where
    pub held_same : held (e ∷ s) e.entry.head ≡ held s e.entry.head
    pub sent_same : sent (e ∷ s) e.entry.head ≡ sent s e.entry.head
    pub names_same : (j : ℕ) → names (e ∷ s) e.entry.head j ≡ names s e.entry.head j

  pub record SendsOne (s : History) (e : Event) : Type 0 where
    pub choice : ℕ
    pub was_open : is_over s e.entry.head ≡ false
    pub higher : outranks choice (held s e.entry.head) ≡ true
    pub origin : Origin s e choice
    pub held_new : held (e ∷ s) e.entry.head ≡ Some choice
    pub sent_new : sent (e ∷ s) e.entry.head ≡ suc (sent s e.entry.head)
    pub names_new : (j : ℕ) → names (e ∷ s) e.entry.head j ≡ or_number (names s e.entry.head j) (cond (eqb (sent s e.entry.head) j) (Some choice) None)

  pub data Turn (s : History) (e : Event) : Type 0 where
    sends_none : SendsNone s e → Turn s e
    sends_one : SendsOne s e → Turn s e

  -- the event's sending, and the record that its step prepared
  abbrev pub sending_at : {s : History} {e : Event} → Taken g s e → Sending
  sending_at {s} {e} t = sending_of (base_of g s e) t.action

  abbrev pub prepared_at : {s : History} {e : Event} → Taken g s e → HeadRecord
  prepared_at {s} {e} t = prepared (base_of g s e) t.action

  -- the phase after the event: as after the sending, or closed early
  abbrev pub closes_early_at : {s : History} {e : Event} → Taken g s e → Bool
  closes_early_at {s} {e} t = closes_early k (base_of g s e) t.action

  pub phase_at : {s : History} {e : Event} (t : Taken g s e)
      → phase_of k (record_of g (e ∷ s) e.entry.head) ≡ early_if (closes_early_at t) (chosen_by (named_in k (sending_at t)) (phase_of k (prepared_at t)))
  phase_at {s} {e} t =
      rw (record_at g e s) (of_effect g (λ y. phase_of k y.after ≡ early_if (closes_early_at t) (chosen_by (named_in k (sending_at t)) (phase_of k (prepared_at t)))) t (answer_phase k (base_of g s e) t.action))

  pub choice_at : {s : History} {e : Event} (t : Taken g s e) → (phase_of k (prepared_at t)).choice ≡ held s e.entry.head
  choice_at {s} {e} t = prepared_choice k (base_of g s e) t.action ∙ ap (λ (p : Phase). p.choice) (phase_last k _ _)

  sent_at : {s : History} {e : Event} (t : Taken g s e) → (phase_of k (prepared_at t)).sent ≡ sent s e.entry.head
  sent_at {s} {e} t = prepared_sent k (base_of g s e) t.action ∙ ap (λ (p : Phase). p.sent) (phase_last k _ _)

  pub names_at : {s : History} {e : Event} (t : Taken g s e) (j : ℕ)
      → names (e ∷ s) e.entry.head j ≡ or_number (names s e.entry.head j) (named_under (named_in k (sending_at t)) (sent s e.entry.head) j)
  names_at {s} {e} t j =
      names_step e s e.entry.head j ∙ rw (eqb_same e.entry.head) (ap (λ (m : Option ℕ). or_number (names s e.entry.head j) m)
      (of_effect g (λ y. named_by k j y.frame ≡ named_under (named_in k (sending_at t)) (sent s e.entry.head) j) t
      (named_after k (sending_at t) (prepared_at t) j ∙ ap (λ (i : ℕ). named_under (named_in k (sending_at t)) i j) (sent_at t))))

  origin_at : {s : History} {e : Event} (t : Taken g s e) → Valid g s → (c : ℕ) → Why k (base_of g s e) t.action c → Origin s e c
  origin_at {s} {e} t v c (itself o none tu) =
      own (o ∙ (fixed g v e.entry.head).own_is) (ap (λ (p : Phase). p.choice) (sym (phase_last k _ _)) ∙ none)
      (ap (λ (p : Phase). p.turn) (phase_at t) ∙ chosen_turn (named_in k (sending_at t)) _ ∙ tu)
  origin_at {s} {e} t v c (told nu na) =
      let is = is_delivery g k t nu in
      reached is (subst (λ (a : ℕ). named (frame_sent s a e.entry.sender e.entry.serial) ≡ Some c) is
      (ap (λ (d : Delivery). named d.frame) (sym (delivery_at g t)) ∙ na))

  pub turn : {s : History} {e : Event} → Taken g s e → Valid g s → Turn s e
  turn {s} {e} t v = go (named_in k (sending_at t)) refl
    where
      go : (m : Option ℕ) → named_in k (sending_at t) ≡ m → Turn s e
      go None u = sends_none (record {
        held_same = ap (λ (p : Phase). p.choice) (phase_at t) ∙ rw u (choice_at t);
        sent_same = ap (λ (p : Phase). p.sent) (phase_at t) ∙ rw u (sent_at t);
        names_same = λ j. names_at t j ∙ rw u (or_none (names s e.entry.head j));
      })
      go (Some c) u =
          let w = naming k (allowed (base_of g s e) t.action (closed_last _ _ t.action ∙ t.is_open)) u in
          sends_one (record {
            choice = c;
            was_open = ap (λ (p : Phase). p.closed) (sym (phase_last k _ _)) ∙ w.is_open;
            higher = rw (phase_last k (record_of g s e.entry.head) e.entry.reading) at w.higher;
            origin = origin_at t v c w.why;
            held_new = ap (λ (p : Phase). p.choice) (phase_at t) ∙ rw u refl;
            sent_new = ap (λ (p : Phase). p.sent) (phase_at t) ∙ rw u (add-one _ ∙ ap suc (sent_at t));
            names_new = λ j. names_at t j ∙ rw u refl;
          })

  -- a mark of closing stays
  pub over_stays : {s : History} {e : Event} → Taken g s e → Valid g s → (q : ℕ) → is_over s q ≡ true → is_over (e ∷ s) q ≡ true
  over_stays {s} {e} t v q =
      by_head (λ q. is_over s q ≡ true → is_over (e ∷ s) q ≡ true) e q
      (λ h. ap (λ (r : HeadRecord). (phase_of k r).closed) (record_at g e s) ∙ of_effect g (λ y. (phase_of k y.after).closed ≡ true) t
      (answer_closed k (base_of g s e) t.action ∙ or_second (closes_early_at t) _ (or_second (eqb (number t.action) (closing k)) _ (ap (λ (p : Phase). p.closed) (phase_last k _ _) ∙ h))))
      (λ d h. ap (λ (r : HeadRecord). (phase_of k r).closed) (record_other g e s q d) ∙ h)

  pub was_open : {s : History} {e : Event} → Taken g s e → Valid g s → (q : ℕ) → is_over (e ∷ s) q ≡ false → is_over s q ≡ false
  was_open {s} t v q o = cases (is_over s q) (λ u. absurd_bool (over_stays t v q u) o) (λ u. u)

  pub over_later : {s h : History} → Earlier s h → Valid g h → (q : ℕ) → is_over s q ≡ true → is_over h q ≡ true
  over_later now v q o = o
  over_later (later x) (more t v) q o = over_stays t v q (over_later x v q o)

  pub early_at_lem : {s : History} {e : Event} (t : Taken g s e) → is_early g k (e ∷ s) e.entry.head ≡ (closes_early_at t || is_early g k s e.entry.head)
  early_at_lem {s} {e} t =
      ap (λ (r : HeadRecord). (phase_of k r).early) (record_at g e s) ∙ of_effect g (λ y. (phase_of k y.after).early ≡ (closes_early_at t || is_early g k s e.entry.head)) t
      (answer_early k (base_of g s e) t.action ∙ ap (λ (p : Phase). closes_early_at t || p.early) (phase_last k (record_of g s e.entry.head) e.entry.reading))

  pub early_stays : {s : History} {e : Event} → Taken g s e → Valid g s → (q : ℕ) → is_early g k s q ≡ true → is_early g k (e ∷ s) q ≡ true
  early_stays {s} {e} t v q =
      by_head (λ q. is_early g k s q ≡ true → is_early g k (e ∷ s) q ≡ true) e q (λ h. early_at_lem t ∙ or_second (closes_early_at t) _ h)
      (λ d h. ap (λ (r : HeadRecord). (phase_of k r).early) (record_other g e s q d) ∙ h)

  pub early_later : {s h : History} → Earlier s h → Valid g h → (q : ℕ) → is_early g k s q ≡ true → is_early g k h q ≡ true
  early_later now v q o = o
  early_later (later x) (more t v) q o = early_stays t v q (early_later x v q o)

  -- an action 6 or 9 finds the phase open, or closed early; it leaves it not early exactly where it finds it open
  pub close_by_entry : {s : History} {e : Event} → Taken g s e → Valid g s → e.entry.action ≡ closing k
      → (is_over s e.entry.head ≡ is_early g k s e.entry.head) × ((phase_of k e.after).early ≡ is_early g k s e.entry.head)
  close_by_entry {s} {e} t v a = cases (is_early g k s q) found_closed found_open
    where
      q : ℕ
      q = e.entry.head

      after : (phase_of k e.after).early ≡ is_early g k (e ∷ s) q
      after = ap (λ (r : HeadRecord). (phase_of k r).early) (sym (record_at g e s))

      found_closed : is_early g k s q ≡ true → (is_over s q ≡ is_early g k s q) × ((phase_of k e.after).early ≡ is_early g k s q)
      found_closed u = (closed_took g k v q ∙ or_second (Premises.took (closing k) q s) _ u ∙ sym u, after ∙ early_stays t v q u ∙ sym u)

      found_open : is_early g k s q ≡ false → (is_over s q ≡ is_early g k s q) × ((phase_of k e.after).early ≡ is_early g k s q)
      found_open u =
          let asked : eqb (number t.asks) (closing k) ≡ true = eq-eqb _ _ (t.asked.number_is ∙ a) in
          let same = taken_close k t.as_action in
          let nu : eqb (number t.action) (closing k) ≡ true = or_cases (eqb (number t.action) (closing k)) (is_early g k s q) (same ∙ or_first (eqb (number t.asks) (closing k)) _ asked) (λ w. w) (λ w. absurd_bool w u) in
          let is = is_timed t.action (closing k) (no_sender_lem k) (eqb-true _ _ nu) in
          let o = close_open k (base_of g s e) (subst (λ (i : Action). is_closed (base_of g s e) i ≡ false) is (closed_last _ _ t.action ∙ t.is_open)) in (
            ap (λ (p : Phase). p.closed) (sym (phase_last k (record_of g s q) e.entry.reading)) ∙ o.0 ∙ sym u,
            after ∙ early_at_lem t ∙ rw (ap (closes_early k (base_of g s e)) is ∙ o.1) refl,
          )
        where
          no_sender_lem : (k : Kind) → has_sender (closing k) ≡ false
          no_sender_lem votes = refl
          no_sender_lem adjusts = refl

  -- what a correct head takes as a close is one, unless it has closed the phase early
  pub is_close_lem : (e : Event) (s : History) (q : ℕ) → is_correct g q ≡ true → takes (closing k) q e ≡ true → is_early g k (e ∷ s) q ≡ false → correct_closes g k e ≡ true
  is_close_lem e s q c u o =
      let is : e.entry.head ≡ q = eqb-true e.entry.head q (and_left (eqb e.entry.head q) _ u) in
      let open-yet : (phase_of k e.after).early ≡ false = ap (λ (r : HeadRecord). (phase_of k r).early) (sym (record_at g e s)) ∙ ap (is_early g k (e ∷ s)) is ∙ o in
      and_both (and_both (ap (is_correct g) is ∙ c) (and_right (eqb e.entry.head q) _ u)) (rw open-yet refl)

  pub took_close : {s : History} → Valid g s → (q : ℕ) → is_correct g q ≡ true → is_early g k s q ≡ false → Premises.took (closing k) q s ≡ true → any (correct_closes g k) s ≡ true
  took_close {s} v q c o t =
      let f = find (takes (closing k) q) s t in
      let open-then = cases (is_early g k (f.event ∷ f.past) q) (λ u. absurd_bool (early_later f.there v q u) o) (λ u. u) in
      any_grows (correct_closes g k) f.there (or_first (correct_closes g k f.event) _ (is_close_lem f.event f.past q c f.holds open-then))

  -- a closed phase keeps its choice
  pub over_keeps : {s h : History} → Earlier s h → Valid g h → (q : ℕ) → is_over s q ≡ true → held h q ≡ held s q
  over_keeps now v q o = refl
  over_keeps {s} (later {e = e} {h = h} x) (more t v) q o =
      by_head (λ q. is_over h q ≡ true → held (e ∷ h) q ≡ held h q) e q (go (turn t v)) (λ d _. held_other e h q d) (over_later x v q o) ∙ over_keeps x v q o
    where
      go : Turn h e → is_over h e.entry.head ≡ true → held (e ∷ h) e.entry.head ≡ held h e.entry.head
      go (sends_none z) o = z.held_same
      go (sends_one z) o = absurd_bool o z.was_open

  -- who has a choice chose it at an event that found the phase open
  pub record ChosenAt (h : History) (q c : ℕ) : Type 0 where
    pub event : Event
    pub past : History
    pub there : Earlier (event ∷ past) h
    pub was_open : is_over past q ≡ false
    pub holds : held (event ∷ past) q ≡ Some c

  pub chosen_at : {h : History} → Valid g h → (q c : ℕ) → held h q ≡ Some c → ChosenAt h q c
  unfolding record_of fresh
  chosen_at start q c = λ h. absurd (nobody_chosen k h)
    where
      nobody_chosen : (k : Kind) → (phase_of k (fresh g.n g.f q)).choice ≡ Some c → ⊥
      nobody_chosen votes h = none_is_some h
      nobody_chosen adjusts h = none_is_some h
  chosen_at (more {e = e} {s = s} t v) q c =
      by_head (λ q. held (e ∷ s) q ≡ Some c → ChosenAt (e ∷ s) q c) e q (go (turn t v) (chosen_at v e.entry.head c))
      (λ d h. on (chosen_at v q c (sym (held_other e s q d) ∙ h)))
    where
      on : {q : ℕ} → ChosenAt s q c → ChosenAt (e ∷ s) q c
      on b = record { event = b.event; past = b.past; there = later b.there; was_open = b.was_open; holds = b.holds }

      go : Turn s e → (held s e.entry.head ≡ Some c → ChosenAt s e.entry.head c) → held (e ∷ s) e.entry.head ≡ Some c → ChosenAt (e ∷ s) e.entry.head c
      go (sends_none z) ih h = on (ih (sym z.held_same ∙ h))
      go (sends_one z) ih h = record { event = e; past = s; there = now; was_open = z.was_open; holds = h }

  -- what an event does about the frames of sender p: nothing, or its head takes one
  pub record PassedOver (s : History) (e : Event) (p : ℕ) : Type 0 where
    pub last_same : last_taken (e ∷ s) e.entry.head p ≡ last_taken s e.entry.head p
    pub old : e.entry.action ≡ delivery k → e.entry.sender ≡ p → is_over s e.entry.head ≡ false → e.entry.serial < last_taken s e.entry.head p

  pub record TookFrame (s : History) (e : Event) (p : ℕ) : Type 0 where
    pub is_delivery : e.entry.action ≡ delivery k
    pub from : e.entry.sender ≡ p
    pub above : last_taken s e.entry.head p ≤ e.entry.serial
    pub last_new : last_taken (e ∷ s) e.entry.head p ≡ suc e.entry.serial
    pub choice : ℕ
    pub was_sent : names s p e.entry.serial ≡ Some choice
    pub now : ℕ
    pub held_now : held (e ∷ s) e.entry.head ≡ Some now
    pub low : now ≤ choice

  pub data Hearing (s : History) (e : Event) (p : ℕ) : Type 0 where
    passed : PassedOver s e p → Hearing s e p
    took : TookFrame s e p → Hearing s e p

  taken_at : {s : History} {e : Event} (t : Taken g s e) → Valid g s → g.n ≤ 16 → (p : ℕ)
      → taken_of k (kept_of (record_of g (e ∷ s) e.entry.head) p) ≡ taken_of k (kept_next g s e p)
  taken_at t v small p = kept_at g (taken_of k) (keeps k) t v small p
    where
      keeps : (k : Kind) → Unsaid (taken_of k)
      keeps votes z y c a = refl
      keeps adjusts z y c a = refl

  -- the frame is one of the phase exactly where the action delivers one
  frame_of_phase : {s : History} {e : Event} → Taken g s e → e.entry.action ≡ delivery k → eqb (delivered_by (frame_of s e.entry)) (delivery k) ≡ true
  frame_of_phase {s} {e} t a = eq-eqb _ _ (t.asked.frame_is ∙ rw (a, has_sender_lem k) refl)

  pub phase_of_frame : {s : History} {e : Event} → Taken g s e → eqb (delivered_by (frame_of s e.entry)) (delivery k) ≡ true → e.entry.action ≡ delivery k
  phase_of_frame {s} {e} t b = go (has_sender e.entry.action) (sym t.asked.frame_is ∙ eqb-true _ _ b)
    where
      go : (h : Bool) → cond h e.entry.action 0 ≡ delivery k → e.entry.action ≡ delivery k
      go true u = u
      go false u = absurd (not_zero k u)

  -- a frame that is taken
  took_frame : {s : History} {e : Event} (t : Taken g s e) → Valid g s → (p : ℕ) → e.entry.action ≡ delivery k → e.entry.sender ≡ p
      → passed_over k (base_of g s e) e.entry.sender (serial_of (frame_of s e.entry)) ≡ false
      → taken_of k (kept_of (record_of g (e ∷ s) e.entry.head) p) ≡ Some e.entry.serial → TookFrame s e p
  took_frame {s} {e} t v p a d u last =
      let c = named_frame k x (eqb-true _ _ (frame_of_phase t a)) in
      record {
        is_delivery = a;
        from = d;
        above = above_taken e.entry.serial (taken_of k (kept_of r p)) (subst (λ (z : ℕ). is_above e.entry.serial (taken_of k (kept_of r z)) ≡ true) d is_above_lem);
        last_new = ap taken last;
        choice = c.0;
        was_sent = subst (λ (z : ℕ). names s z e.entry.serial ≡ Some c.0) d
            (subst (λ (y : ℕ). named (frame_sent s y e.entry.sender e.entry.serial) ≡ Some c.0) a c.1);
        now = (follows c.0 c.1).0;
        held_now = (follows c.0 c.1).1;
        low = (follows c.0 c.1).2;
      }
    where
      r : HeadRecord
      r = base_of g s e

      x : Frame
      x = frame_of s e.entry

      is_above_lem : is_above e.entry.serial (taken_of k (kept_of r e.entry.sender)) ≡ true
      is_above_lem = subst (λ (j : ℕ). is_above j (taken_of k (kept_of r e.entry.sender)) ≡ true) t.asked.serial_is (not_false (or_right (phase_of k r).closed _ u))

      -- the choice is now at most the one named
      follows : (c : ℕ) → named x ≡ Some c → (w : ℕ) × (held (e ∷ s) e.entry.head ≡ Some w) × (w ≤ c)
      follows c na = go (outranks c (phase_of k r).choice) refl
        where
          in_action : named (delivery_in t.action).frame ≡ Some c
          in_action = ap (λ (y : Delivery). named y.frame) (delivery_at g t) ∙ na

          not_passed : passed_over k r (delivery_in t.action).sender (serial_of (delivery_in t.action).frame) ≡ false
          not_passed = rw (delivery_at g t) u

          go : (o : Bool) → outranks c (phase_of k r).choice ≡ o → (w : ℕ) × (held (e ∷ s) e.entry.head ≡ Some w) × (w ≤ c)
          go true o =
              let named-it = delivered_sending k r t.action c (delivers g k t a) in_action not_passed o in
              (c, ap (λ (z : Phase). z.choice) (phase_at t) ∙ rw named-it refl, omega arith)
          go false o =
              let w = not_outranked c (phase_of k r).choice o in
              let was : held s e.entry.head ≡ Some w.0 = ap (λ (z : Phase). z.choice) (sym (phase_last k _ _)) ∙ w.1 in
              still w.0 was w.2 (turn t v)
            where
              still : (w : ℕ) → held s e.entry.head ≡ Some w → w ≤ c → Turn s e → (w : ℕ) × (held (e ∷ s) e.entry.head ≡ Some w) × (w ≤ c)
              still w was le (sends_none z) = (w, z.held_same ∙ was, le)
              still w was le (sends_one z) = (z.choice, z.held_new, (let lt = outranks_below _ _ _ z.higher was in omega arith))

  pub hears : {s : History} {e : Event} (t : Taken g s e) → Valid g s → g.n ≤ 16 → (p : ℕ) → Hearing s e p
  hears {s} {e} t v small p = go _ refl _ refl _ refl
    where
      r : HeadRecord
      r = base_of g s e

      x : Frame
      x = frame_of s e.entry

      at : taken_of k (kept_of (record_of g (e ∷ s) e.entry.head) p) ≡ taken_of k (kept_next g s e p)
      at = taken_at t v small p

      untaken : (not (ignored r e.entry.sender x) && eqb e.entry.sender p) ≡ false → last_taken (e ∷ s) e.entry.head p ≡ last_taken s e.entry.head p
      untaken u = ap taken (rw u at at)

      kept : (b : Bool) → eqb (delivered_by x) (delivery k) ≡ b → eqb e.entry.sender p ≡ true → ignored r e.entry.sender x ≡ false
          → taken_of k (kept_of (record_of g (e ∷ s) e.entry.head) p) ≡ cond b (Some (serial_of x)) (taken_of k (kept_of (record_of g s e.entry.head) p))
      kept b tb td ti =
          let both : (not (ignored r e.entry.sender x) && eqb e.entry.sender p) ≡ true = rw (ti, td) refl in
          (rw both at at) ∙ taken_after k r e.entry.sender x ∙ rw (tb, eqb-true e.entry.sender p td) refl

      old_serial : eqb (delivered_by x) (delivery k) ≡ true → ignored r e.entry.sender x ≡ true → e.entry.sender ≡ p → is_over s e.entry.head ≡ false
          → e.entry.serial < last_taken s e.entry.head p
      old_serial tb ti f o =
          below_taken e.entry.serial (taken_of k (kept_of r p))
          (or_cases (phase_of k r).closed (not (is_above (serial_of x) (taken_of k (kept_of r e.entry.sender)))) (sym (ignored_frame k r e.entry.sender x tb) ∙ ti)
          (λ z. absurd_bool z (ap (λ (y : Phase). y.closed) (phase_last k (record_of g s e.entry.head) e.entry.reading) ∙ o))
          (λ z. subst (λ (q : ℕ). is_above e.entry.serial (taken_of k (kept_of r q)) ≡ false) f
          (subst (λ (j : ℕ). is_above j (taken_of k (kept_of r e.entry.sender)) ≡ false) t.asked.serial_is (not_true z))))

      go : (b : Bool) → eqb (delivered_by x) (delivery k) ≡ b → (d : Bool) → eqb e.entry.sender p ≡ d → (i : Bool) → ignored r e.entry.sender x ≡ i → Hearing s e p
      go b tb false td i ti = passed (record { last_same = untaken (and_false (not (ignored r e.entry.sender x)) (eqb e.entry.sender p) td); old = λ a f o. absurd_bool (eq-eqb e.entry.sender p f) td })
      go false tb true td true ti = passed (record { last_same = untaken (rw ti refl); old = λ a f o. absurd_bool (frame_of_phase t a) tb })
      go false tb true td false ti = passed (record { last_same = ap taken (kept false tb td ti); old = λ a f o. absurd_bool (frame_of_phase t a) tb })
      go true tb true td true ti = passed (record { last_same = untaken (rw ti refl); old = λ a f o. old_serial tb ti (eqb-true e.entry.sender p td) o })
      go true tb true td false ti =
          took (took_frame t v p (phase_of_frame t tb) (eqb-true e.entry.sender p td) (sym (ignored_frame k r e.entry.sender x tb) ∙ ti)
          (kept true tb td ti ∙ ap (λ (j : ℕ). Some j) t.asked.serial_is))

  -- FRAMES SENT

  -- a property of every frame of p holds of those sent before, and of the one that p sends now
  pub frame_new : {s : History} {e : Event} (P : ℕ → ℕ → Type 0) → Turn s e → ((j c : ℕ) → names s e.entry.head j ≡ Some c → P j c)
      → ((z : SendsOne s e) → P (sent s e.entry.head) z.choice) → (j c : ℕ) → names (e ∷ s) e.entry.head j ≡ Some c → P j c
  frame_new {s} {e} P (sends_none z) old new j c h = old j c (sym (z.names_same j) ∙ h)
  frame_new {s} {e} P (sends_one z) old new j c h = go (names s e.entry.head j) refl (eqb (sent s e.entry.head) j) refl (sym (z.names_new j) ∙ h)
    where
      go : (m : Option ℕ) → names s e.entry.head j ≡ m → (b : Bool) → eqb (sent s e.entry.head) j ≡ b → or_number m (cond b (Some z.choice) None) ≡ Some c → P j c
      go (Some w) u b ub x = old j c (u ∙ x)
      go None u true ub x = subst (λ (i : ℕ). P i c) (eqb-true _ j ub) (subst (P (sent s e.entry.head)) (same_number_lem x) (new z))
      go None u false ub x = none_is_some x

  -- a frame sent under a serial never changes
  pub frame_stays : {s : History} {e : Event} → Taken g s e → Valid g s → (p j c : ℕ) → names s p j ≡ Some c → names (e ∷ s) p j ≡ Some c
  frame_stays {s} {e} t v p j c h = names_step e s p j ∙ rw h refl

  -- serials count a head's frames from 0
  pub serial_below : {s : History} → Valid g s → (p j c : ℕ) → names s p j ≡ Some c → j < sent s p
  unfolding frame_sent
  serial_below start p j c = none_is_some
  serial_below (more {e = e} {s = s} t v) p j c =
      by_head (λ p. names (e ∷ s) p j ≡ Some c → j < sent (e ∷ s) p) e p
      (frame_new (λ j c. j < sent (e ∷ s) e.entry.head) (turn t v) (λ j c h. sent_grows (turn t v) (serial_below v e.entry.head j c h))
      (λ z. let eq = z.sent_new in omega arith) j c)
      (λ d h. subst (λ (i : ℕ). j < i) (sym (sent_other e s p d)) (serial_below v p j c (sym (names_other e s p j d) ∙ h)))
    where
      sent_grows : {i : ℕ} → Turn s e → i < sent s e.entry.head → i < sent (e ∷ s) e.entry.head
      sent_grows {i} (sends_none z) h = subst (λ (y : ℕ). i < y) (sym z.sent_same) h
      sent_grows (sends_one z) h = let eq = z.sent_new in omega arith

  -- the last frame sent names the choice held
  pub record LastFrame (s : History) (p j : ℕ) : Type 0 where
    pub choice : ℕ
    pub holds : held s p ≡ Some choice
    pub names_it : names s p j ≡ Some choice

  pub unsent : {s : History} → Valid g s → (p : ℕ) → names s p (sent s p) ≡ None
  unsent {s} v p = go (names s p (sent s p)) refl
    where
      go : (m : Option ℕ) → names s p (sent s p) ≡ m → names s p (sent s p) ≡ None
      go None u = u
      go (Some c) u = absurd (let lt = serial_below v p (sent s p) c u in omega arith)

  pub last_frame : {s : History} → Valid g s → (p j : ℕ) → sent s p ≡ suc j → LastFrame s p j
  unfolding record_of fresh
  last_frame start p j = λ h. absurd (none_sent k h)
    where
      none_sent : (k : Kind) → (phase_of k (fresh g.n g.f p)).sent ≡ suc j → ⊥
      none_sent votes h = omega arith
      none_sent adjusts h = omega arith
  last_frame (more {e = e} {s = s} t v) p j =
      by_head (λ p. sent (e ∷ s) p ≡ suc j → LastFrame (e ∷ s) p j) e p (go (turn t v) (last_frame v e.entry.head j))
      (λ d h. let b = last_frame v p j (sym (sent_other e s p d) ∙ h) in
      record { choice = b.choice; holds = held_other e s p d ∙ b.holds; names_it = names_other e s p j d ∙ b.names_it })
    where
      go : Turn s e → (sent s e.entry.head ≡ suc j → LastFrame s e.entry.head j) → sent (e ∷ s) e.entry.head ≡ suc j → LastFrame (e ∷ s) e.entry.head j
      go (sends_none z) ih h = let b = ih (sym z.sent_same ∙ h) in record { choice = b.choice; holds = z.held_same ∙ b.holds; names_it = z.names_same j ∙ b.names_it }
      go (sends_one z) ih h =
          let eq : sent s e.entry.head ≡ j = (let y = sym z.sent_new ∙ h in omega arith) in
          let none : names s e.entry.head j ≡ None = subst (λ (i : ℕ). names s e.entry.head i ≡ None) eq (unsent v e.entry.head) in
          record { choice = z.choice; holds = z.held_new; names_it = z.names_new j ∙ rw (none, eq-eqb _ j eq) refl }

  -- who has a choice has sent a frame
  pub held_sent : {s : History} → Valid g s → (p c : ℕ) → held s p ≡ Some c → (j : ℕ) × (sent s p ≡ suc j)
  unfolding record_of fresh
  held_sent start p c = λ h. absurd (none_held k h)
    where
      none_held : (k : Kind) → (phase_of k (fresh g.n g.f p)).choice ≡ Some c → ⊥
      none_held votes h = none_is_some h
      none_held adjusts h = none_is_some h
  held_sent (more {e = e} {s = s} t v) p c =
      by_head (λ p. held (e ∷ s) p ≡ Some c → (j : ℕ) × (sent (e ∷ s) p ≡ suc j)) e p (go (turn t v) (held_sent v e.entry.head c))
      (λ d h. let b = held_sent v p c (sym (held_other e s p d) ∙ h) in (b.0, sent_other e s p d ∙ b.1))
    where
      go : Turn s e → (held s e.entry.head ≡ Some c → (j : ℕ) × (sent s e.entry.head ≡ suc j)) → held (e ∷ s) e.entry.head ≡ Some c
          → (j : ℕ) × (sent (e ∷ s) e.entry.head ≡ suc j)
      go (sends_none z) ih h = let b = ih (sym z.held_same ∙ h) in (b.0, z.sent_same ∙ b.1)
      go (sends_one z) ih h = (sent s e.entry.head, z.sent_new)

  -- A CHOICE ONLY FALLS

  pub record AtMost (s : History) (q c : ℕ) : Type 0 where
    pub choice : ℕ
    pub holds : held s q ≡ Some choice
    pub low : choice ≤ c

  falls_here : {s : History} {e : Event} → Turn s e → (c : ℕ) → AtMost s e.entry.head c → AtMost (e ∷ s) e.entry.head c
  falls_here (sends_none z) c a = record { choice = a.choice; holds = z.held_same ∙ a.holds; low = a.low }
  falls_here {s} {e} (sends_one z) c a =
      record { choice = z.choice; holds = z.held_new; low = (let lt = outranks_below _ _ _ z.higher a.holds in let l = a.low in omega arith) }

  pub falls : {s : History} {e : Event} → Taken g s e → Valid g s → (q c : ℕ) → AtMost s q c → AtMost (e ∷ s) q c
  falls {s} {e} t v q c =
      by_head (λ q. AtMost s q c → AtMost (e ∷ s) q c) e q (falls_here (turn t v) c)
      (λ d a. record { choice = a.choice; holds = held_other e s q d ∙ a.holds; low = a.low })

  pub falls_later : {s h : History} → Earlier s h → Valid g h → (q c : ℕ) → AtMost s q c → AtMost h q c
  falls_later now v q c a = a
  falls_later (later x) (more t v) q c a = falls t v q c (falls_later x v q c a)

  -- THE LAST SERIAL TAKEN BINDS THE RECEIVER

  pub record Bound (s : History) (q p j : ℕ) : Type 0 where
    pub choice : ℕ
    pub names_it : names s p j ≡ Some choice
    pub at_most : AtMost s q choice

  pub bound : {s : History} → g.n ≤ 16 → Valid g s → (q p j : ℕ) → last_taken s q p ≡ suc j → Bound s q p j
  unfolding record_of fresh
  bound small start q p j = λ h. absurd (none_taken k h)
    where
      none_taken : (k : Kind) → taken (taken_of k (get_or (replicate 16 no_sender) p no_sender)) ≡ suc j → ⊥
      none_taken votes h = let z : 0 ≡ suc j = subst (λ (y : Sender). taken y.voted ≡ suc j) (no_senders 16 p) h in omega arith
      none_taken adjusts h = let z : 0 ≡ suc j = subst (λ (y : Sender). taken y.adjusted ≡ suc j) (no_senders 16 p) h in omega arith
  bound small (more {e = e} {s = s} t v) q p j =
      by_head (λ q. last_taken (e ∷ s) q p ≡ suc j → Bound (e ∷ s) q p j) e q (go (hears t v small p) (bound small v e.entry.head p j))
      (λ d h. on (bound small v q p j (ap (λ (r : HeadRecord). taken (taken_of k (kept_of r p))) (sym (record_other g e s q d)) ∙ h)))
    where
      on : {q : ℕ} → Bound s q p j → Bound (e ∷ s) q p j
      on {q} b = record { choice = b.choice; names_it = frame_stays t v p j b.choice b.names_it; at_most = falls t v q b.choice b.at_most }

      go : Hearing s e p → (last_taken s e.entry.head p ≡ suc j → Bound s e.entry.head p j) → last_taken (e ∷ s) e.entry.head p ≡ suc j → Bound (e ∷ s) e.entry.head p j
      go (passed z) ih h = on (ih (sym z.last_same ∙ h))
      go (took z) ih h =
          let eq : e.entry.serial ≡ j = (let y = sym z.last_new ∙ h in omega arith) in
          record {
            choice = z.choice;
            names_it = frame_stays t v p j z.choice (subst (λ (i : ℕ). names s p i ≡ Some z.choice) eq z.was_sent);
            at_most = record { choice = z.now; holds = z.held_now; low = z.low };
          }

  -- a frame that reached q while its phase was open is not above the last serial taken
  pub reached_taken : {s : History} → g.n ≤ 16 → Valid g s → (q p j : ℕ) → received (delivery k) p j q s ≡ true → is_over s q ≡ false → j < last_taken s q p
  reached_taken small start q p j = λ h o. absurd_bool h refl
  reached_taken small (more {e = e} {s = s} t v) q p j =
      by_head (λ q. received (delivery k) p j q (e ∷ s) ≡ true → is_over (e ∷ s) q ≡ false → j < last_taken (e ∷ s) q p) e q
      (λ h o. or_cases (receives (delivery k) p j e.entry.head e) _ h (λ y. new (hears t v small p) (still_open o) y)
      (λ y. old (hears t v small p) (reached_taken small v e.entry.head p j y (still_open o))))
      (λ d h o. subst (λ (i : ℕ). j < i) (ap (λ (r : HeadRecord). taken (taken_of k (kept_of r p))) (sym (record_other g e s q d)))
      (reached_taken small v q p j (rw d at h) (ap (λ (r : HeadRecord). (phase_of k r).closed) (sym (record_other g e s q d)) ∙ o)))
    where
      still_open : is_over (e ∷ s) e.entry.head ≡ false → is_over s e.entry.head ≡ false
      still_open o = was_open t v e.entry.head o

      old : Hearing s e p → j < last_taken s e.entry.head p → j < last_taken (e ∷ s) e.entry.head p
      old (passed z) h = let eq = z.last_same in omega arith
      old (took z) h = let eq = z.last_new in let le = z.above in omega arith

      new : Hearing s e p → is_over s e.entry.head ≡ false → receives (delivery k) p j e.entry.head e ≡ true → j < last_taken (e ∷ s) e.entry.head p
      new x o y =
          let takes-it = and_left (takes (delivery k) e.entry.head e) _ y in
          let rest = and_right (takes (delivery k) e.entry.head e) _ y in
          let a : e.entry.action ≡ delivery k = eqb-true _ _ (and_right (eqb e.entry.head e.entry.head) _ takes-it) in
          let f : e.entry.sender ≡ p = eqb-true _ _ (and_left (eqb e.entry.sender p) _ rest) in
          let i : e.entry.serial ≡ j = eqb-true _ _ (and_right (eqb e.entry.sender p) _ rest) in
          go x a f i
        where
          go : Hearing s e p → e.entry.action ≡ delivery k → e.entry.sender ≡ p → e.entry.serial ≡ j → j < last_taken (e ∷ s) e.entry.head p
          go (passed z) a f i = let eq = z.last_same in let lt = z.old a f o in omega arith
          go (took z) a f i = let eq = z.last_new in omega arith

  -- who was delivered a frame while its phase was open has a choice
  pub delivered_choice : {s : History} → g.n ≤ 16 → Valid g s → (q : ℕ) → Premises.took (delivery k) q s ≡ true → is_over s q ≡ false → (c : ℕ) × (held s q ≡ Some c)
  delivered_choice {s} small v q h o =
      let f = find (takes (delivery k) q) s h in
      let n = f.event.entry in
      let here : receives (delivery k) n.sender n.serial q f.event ≡ true = and_both f.holds (and_both (eqb_same n.sender) (eqb_same n.serial)) in
      let all_seen : received (delivery k) n.sender n.serial q s ≡ true =
      any_grows (receives (delivery k) n.sender n.serial q) f.there (or_first (receives (delivery k) n.sender n.serial q f.event) _ here) in
      let lt = reached_taken small v q n.sender n.serial all_seen o in
      let m = suc_of (last_taken s q n.sender) lt in
      let b = bound small v q n.sender m.0 m.1 in
      (b.at_most.choice, b.at_most.holds)

  -- (b) AGREEMENT: p's last frame reached q while q was open, so q's choice is at most p's
  pub not_above : {s : History} → g.n ≤ 16 → Valid g s → (p q c w : ℕ) → held s p ≡ Some c → held s q ≡ Some w
      → ((j : ℕ) → j < sent s p → received (delivery k) p j q s ≡ true) → is_over s q ≡ false → w ≤ c
  not_above {s} small v p q c w hp hq reach o =
      let j = held_sent v p c hp in
      let f = last_frame v p j.0 j.1 in
      let low : j.0 < last_taken s q p = reached_taken small v q p j.0 (reach j.0 (let y = j.1 in omega arith)) o in
      let m = suc_of (last_taken s q p) low in
      let b = bound small v q p m.0 m.1 in
      let top = serial_below v p m.0 b.choice b.names_it in
      let same : m.0 ≡ j.0 = (let y = m.1 in let z = j.1 in omega arith) in
      let named-same : b.choice ≡ f.choice = same_number_lem (sym b.names_it ∙ ap (names s p) same ∙ f.names_it) in
      let p-holds : f.choice ≡ c = same_number_lem (sym f.holds ∙ hp) in
      let q-holds : b.at_most.choice ≡ w = same_number_lem (sym b.at_most.holds ∙ hq) in
      let le = b.at_most.low in
      omega arith

  pub agree : {s : History} → g.n ≤ 16 → Valid g s → (p q c w : ℕ) → held s p ≡ Some c → held s q ≡ Some w
      → ((j : ℕ) → j < sent s p → received (delivery k) p j q s ≡ true) → ((j : ℕ) → j < sent s q → received (delivery k) q j p s ≡ true)
      → is_over s p ≡ false → is_over s q ≡ false → c ≡ w
  agree small v p q c w hp hq rp rq op oq =
      let a = not_above small v p q c w hp hq rp oq in
      let b = not_above small v q p w c hq hp rq op in
      omega arith
