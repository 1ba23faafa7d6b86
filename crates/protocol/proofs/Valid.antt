-- The history of an accepted run: each event is what its head's step did after the events before it.
-- Main results: `valid_run` (a run that was not stopped has a valid history), `record_at`, `record_other`, `by_head`
-- (an invariant of records is one induction over a valid history), `mark_took`, `adjust_turn_took`, `closed_took` (a mark is set by
-- its action, the mark of a close by an early close too).
use Rattle.std.specs.Prelude.{Option, Some, None, is_some}
use mathlib.Core.Path.{◌≡◌, refl, sym, ◌∙◌, ap, ap₂, subst}
use mathlib.Core.Bool.{Bool, true, false, cond, not, ◌&&◌, ◌||◌}
use mathlib.Core.List.{List, [], ◌∷◌}
use Prim.Native.Nat.{ℕ, zero, suc, ◌+◌, ◌*◌, ◌^◌, ◌≤◌, ◌<◌}
use native.Mathlib.Omega.{arith}
use lib.Dec.{ltb, leb, eqb}
use lib.ListN.{length, get_or}
use borrow.Author.Tests.{eqb-true, eq-eqb, ltb-false, leb-true}
use Rattle.protocol.specs.Types.{Reading, Sender, Phase, HeadRecord, Setting, Entry, Cause, BadEntry, TimeFell, ReadingFell, ActionClosed, Verdict, Accepted, Refused, Stepped, Frame, NoFrame, Start, Vote, Adjust}
use Rattle.protocol.specs.Types.{Action, StartDelivered, VoteDelivered, AdjustDelivered}
use Rattle.protocol.specs.Words.{bits, has_sender, zero_where_unused, heads_fit, setting_of, first_word_fits, entry_of, entry_fits, setting_at, entry_count, place_of, entry_at, entry_fits_at}
use Rattle.protocol.specs.Record.{kept_of, fresh, reading, reading_or0}
use Rattle.protocol.specs.Step.{with_last, accepted, refused, is_closed, act, taken_as, take_action, action_of}
use Rattle.protocol.specs.Causes.{sheet_verdict}
use Rattle.protocol.specs.Run.{Event, History, record_of, is_delivered_by, or_else, frame_sent, frame_of, is_frame, carried_choice, carried_reading, input_of, last_time, step_entry, Run, stopped, ran, extend, and_then, run_of, after_verdict, run_sheet}
use Rattle.protocol.specs.Premises.{takes, took}
use Rattle.protocol.proofs.Tests.{absurd_bool, cases, parts, and_left, and_right, and_both, or_left, or_right, or_first, or_second, or_cases, not_false, eqb_same}
use Rattle.protocol.proofs.Fits.{entry_fits_lem, sheet_fits}
use Rattle.protocol.proofs.Moments.{Earlier, now, later}
use Rattle.protocol.proofs.Effects.{Kind, votes, adjusts, phase_of, delivery, closing, number, delivery_in, delivered_by, serial_of, phase_last, sending_of, prepared, answer, closes_early, act_split, act_accepted, answer_closed, answer_early, TakenAs, taken_as_lem, taken_delivery, Unspent, taken_number, delivery_unspent, taken_adjust_turn, asked_adjust_turn, taken_close, marks_of, send_marks, send_same, Unsaid, send_keeps, prepared_same, ignored, kept_after, kept_after_lem}

-- the record that the event's step worked on: its head's, with the reading already kept
abbrev pub base_of : Setting → History → Event → HeadRecord
base_of g s e = with_last (record_of g s e.entry.head) e.entry.reading

-- what an entry asks: the action that its numbers and the frame sent under them make
pub record Asked (e : Entry) (x : Frame) (a : Action) : Type 0 where
  pub number_is : number a ≡ e.action
  pub delivery_is : delivery_in a ≡ record { sender = e.sender; frame = x }
  pub serial_is : serial_of x ≡ e.serial
  pub frame_is : delivered_by x ≡ cond (has_sender e.action) e.action 0

-- an event of an accepted run, s being what came before it; asks is the action that the entry asks, taken as action
pub record Taken (g : Setting) (s : History) (e : Event) : Type 0 where
  pub asks : Action
  pub asked : Asked e.entry (frame_of s e.entry) asks
  pub action : Action
  pub as_action : TakenAs (record_of g s e.entry.head) asks action
  pub head_below : e.entry.head < g.n
  pub sender_below : e.entry.sender < g.n
  pub serial_below : e.entry.serial < 16
  pub reading_below : e.entry.reading.0 < 2 ^ 28
  pub time_rises : last_time s ≤ e.entry.time.0
  pub reading_rises : (record_of g s e.entry.head).last.0 ≤ e.entry.reading.0
  pub is_open : is_closed (record_of g s e.entry.head) action ≡ false
  pub result : accepted e.after e.frame ≡ act (base_of g s e) action

pub data Valid (g : Setting) : History → Type 0 where
  start : Valid g []
  more : {e : Event} {s : History} → Taken g s e → Valid g s → Valid g (e ∷ s)

module _ {g : Setting} where
  pub valid_past : {e : Event} {s : History} → Valid g (e ∷ s) → Valid g s
  valid_past (more t v) = v

  pub valid_taken : {e : Event} {s : History} → Valid g (e ∷ s) → Taken g s e
  valid_taken (more t v) = t

  pub valid_earlier : {s h : History} → Earlier s h → Valid g h → Valid g s
  valid_earlier now v = v
  valid_earlier (later x) (more t v) = valid_earlier x v

-- FROM A RUN TO ITS HISTORY

-- the frame that is looked up is one that the action delivers under the serial
pub frame_fits : (s : History) (a p k : ℕ) → is_frame (frame_sent s a p k) ≡ true → is_delivered_by a k (frame_sent s a p k) ≡ true
unfolding frame_sent
frame_fits [] a p k h = absurd_bool h refl
frame_fits (e ∷ s) a p k h = go (frame_sent s a p k) (frame_fits s a p k) h
  where
    new : (b : Bool) → b ≡ (eqb e.entry.head p && is_delivered_by a k e.frame) → is_frame (cond b e.frame NoFrame) ≡ true → is_delivered_by a k (cond b e.frame NoFrame) ≡ true
    new true t h = and_right (eqb e.entry.head p) _ (sym t)
    new false t h = absurd_bool h refl

    go : (x : Frame) → (is_frame x ≡ true → is_delivered_by a k x ≡ true) → is_frame (or_else x (cond (eqb e.entry.head p && is_delivered_by a k e.frame) e.frame NoFrame)) ≡ true
        → is_delivered_by a k (or_else x (cond (eqb e.entry.head p && is_delivered_by a k e.frame) e.frame NoFrame)) ≡ true
    go NoFrame f h = new _ refl h
    go Start f h = f refl
    go (Vote j c x) f h = f refl
    go (Adjust j c x) f h = f refl

-- a reading put into numbers and read back
carried_back : (x : Option Reading) → cond (not (is_some x)) None (Some (reading (reading_or0 x))) ≡ x
carried_back None = refl
carried_back (Some x) = refl

-- a frame that a plain action, or another delivery, would deliver is none
no_frame : (a k : ℕ) (x : Frame) → has_sender a ≡ false → (is_frame x ≡ true → is_delivered_by a k x ≡ true) → x ≡ NoFrame
no_frame a k NoFrame h f = refl
no_frame a k Start h f = absurd_bool (f refl) (or_left (eqb a 2) _ h)
no_frame a k (Vote j c x) h f = absurd_bool (and_left (eqb a 5) _ (f refl)) (or_left (eqb a 5) _ (or_right (eqb a 2) _ h))
no_frame a k (Adjust j c x) h f = absurd_bool (and_left (eqb a 8) _ (f refl)) (or_right (eqb a 5) _ (or_right (eqb a 2) _ h))

abbrev entry_with : Entry → ℕ → Entry
entry_with e a = record { time = e.time; reading = e.reading; head = e.head; action = a; sender = e.sender; serial = e.serial }

-- the action that an entry's numbers and its frame make
asked_plain : (e : Entry) (a : ℕ) (x : Frame) (i : Action) → number i ≡ a → delivery_in i ≡ record { sender = 0; frame = NoFrame } → has_sender a ≡ false
    → zero_where_unused a e.sender e.serial ≡ true → (is_frame x ≡ true → is_delivered_by a e.serial x ≡ true) → Asked (entry_with e a) x i
asked_plain e a x i nu de pl ze fi =
    let none = no_frame a e.serial x pl fi in
    let sender-zero : 0 ≡ e.sender = sym (eqb-true e.sender 0 (rw pl at (and_left (has_sender a || eqb e.sender 0) _ ze))) in
    let serial-zero : 0 ≡ e.serial = sym (eqb-true e.serial 0 (rw (or_right (eqb a 2) _ pl) at (and_right (has_sender a || eqb e.sender 0) _ ze))) in
    record { number_is = nu; delivery_is = de ∙ rw (none, ← sender-zero) refl; serial_is = rw none serial-zero; frame_is = rw (none, pl) refl }

asked_start : (e : Entry) (x : Frame) → is_frame x ≡ true → eqb e.serial 0 ≡ true → (is_frame x ≡ true → is_delivered_by 2 e.serial x ≡ true)
    → Asked (entry_with e 2) x (StartDelivered e.sender)
asked_start e NoFrame se ze fi = absurd_bool se refl
asked_start e Start se ze fi = record { number_is = refl; delivery_is = refl; serial_is = sym (eqb-true e.serial 0 ze); frame_is = refl }
asked_start e (Vote j c x) se ze fi = absurd_bool (fi refl) refl
asked_start e (Adjust j c x) se ze fi = absurd_bool (fi refl) refl

asked_vote : (e : Entry) (x : Frame) → is_frame x ≡ true → (is_frame x ≡ true → is_delivered_by 5 e.serial x ≡ true)
    → Asked (entry_with e 5) x (VoteDelivered e.sender e.serial (carried_choice x) (cond (not (is_some (carried_reading x))) None (Some (reading (reading_or0 (carried_reading x))))))
asked_vote e NoFrame se fi = absurd_bool se refl
asked_vote e Start se fi = absurd_bool (fi refl) refl
asked_vote e (Vote j c x) se fi =
    let eq : j ≡ e.serial = eqb-true j e.serial (fi refl) in
    record { number_is = refl; delivery_is = rw (carried_back x, eq) refl; serial_is = eq; frame_is = refl }
asked_vote e (Adjust j c x) se fi = absurd_bool (fi refl) refl

asked_adjust : (e : Entry) (x : Frame) → is_frame x ≡ true → (is_frame x ≡ true → is_delivered_by 8 e.serial x ≡ true)
    → Asked (entry_with e 8) x (AdjustDelivered e.sender e.serial (carried_choice x) (reading (reading_or0 (carried_reading x))))
asked_adjust e NoFrame se fi = absurd_bool se refl
asked_adjust e Start se fi = absurd_bool (fi refl) refl
asked_adjust e (Vote j c x) se fi = absurd_bool (fi refl) refl
asked_adjust e (Adjust j c x) se fi =
    let eq : j ≡ e.serial = eqb-true j e.serial (fi refl) in
    record { number_is = refl; delivery_is = rw eq refl; serial_is = eq; frame_is = refl }

asked : (e : Entry) (a : ℕ) (x : Frame) → a ≤ 9 → zero_where_unused a e.sender e.serial ≡ true → (not (has_sender a) || is_frame x) ≡ true
    → (is_frame x ≡ true → is_delivered_by a e.serial x ≡ true) → Asked (entry_with e a) x (action_of (input_of (entry_with e a) x))
unfolding action_of input_of
asked e zero x h ze se fi = asked_plain e 0 x _ refl refl refl ze fi
asked e (suc zero) x h ze se fi = asked_plain e 1 x _ refl refl refl ze fi
asked e (suc (suc zero)) x h ze se fi = asked_start e x se ze fi
asked e (suc (suc (suc zero))) x h ze se fi = asked_plain e 3 x _ refl refl refl ze fi
asked e (suc (suc (suc (suc zero)))) x h ze se fi = asked_plain e 4 x _ refl refl refl ze fi
asked e (suc (suc (suc (suc (suc zero))))) x h ze se fi = asked_vote e x se fi
asked e (suc (suc (suc (suc (suc (suc zero)))))) x h ze se fi = asked_plain e 6 x _ refl refl refl ze fi
asked e (suc (suc (suc (suc (suc (suc (suc zero))))))) x h ze se fi = asked_plain e 7 x _ refl refl refl ze fi
asked e (suc (suc (suc (suc (suc (suc (suc (suc zero)))))))) x h ze se fi = asked_adjust e x se fi
asked e (suc (suc (suc (suc (suc (suc (suc (suc (suc zero))))))))) x h ze se fi = asked_plain e 9 x _ refl refl refl ze fi
asked e (suc (suc (suc (suc (suc (suc (suc (suc (suc (suc a)))))))))) x h ze se fi = absurd (omega arith)

-- cause 6 passed
pub record FittingEntry (g : Setting) (e : Entry) : Type 0 where
  pub action_below : e.action ≤ 9
  pub head_below : e.head < g.n
  pub sender_below : e.sender < g.n
  pub serial_below : e.serial < 16
  pub reading_below : e.reading.0 < 2 ^ 28
  pub zero_unused : zero_where_unused e.action e.sender e.serial ≡ true

fits_entry : (g : Setting) (t a w : ℕ) → entry_fits g.n t a w ≡ true → FittingEntry g (entry_of t a w)
unfolding entry_fits entry_of
fits_entry g t a w h =
    let f = entry_fits_lem g.n t a w h in
    record { action_below = f.action; head_below = f.head; sender_below = f.sender; serial_below = omega arith; reading_below = omega arith; zero_unused = search parts depth 8 }

accepted_cond : (b : Bool) (r : HeadRecord) (c : Cause) (t : Stepped) → (cond b (refused r c) t).verdict ≡ Accepted
    → (b ≡ false) × (cond b (refused r c) t ≡ t) × (t.verdict ≡ Accepted)
accepted_cond true r c t h = absurd (let z : ◌≡◌ {A = ℕ} 0 1 = cc in omega arith)
accepted_cond false r c t h = (refl, refl, h)

-- an action that is accepted has passed causes 8 and 9, and its answer is what the step does
pub record Passed (r : HeadRecord) (x : Reading) (sent : Bool) (a : Action) : Type 0 where
  pub reading_rises : r.last.0 ≤ x.0
  pub was_sent : sent ≡ true
  pub is_open : is_closed r (taken_as r a) ≡ false
  pub answer : take_action r x sent a ≡ act (with_last r x) (taken_as r a)

pub passed : (r : HeadRecord) (x : Reading) (sent : Bool) (a : Action) → (take_action r x sent a).verdict ≡ Accepted → Passed r x sent a
unfolding take_action
passed r x sent a h =
    let c8 = accepted_cond (ltb x.0 r.last.0) r ReadingFell _ h in
    let c9 = accepted_cond (not sent || is_closed r (taken_as r a)) r ActionClosed _ c8.2 in
    record {
      reading_rises = ltb-false x.0 r.last.0 c8.0;
      was_sent = not_false (or_left (not sent) _ c9.0);
      is_open = or_right (not sent) _ c9.0;
      answer = c8.1 ∙ c9.1;
    }

-- an entry that is taken after s
pub taken_entry : (g : Setting) (s : History) (fits : Bool) (e : Entry) → (fits ≡ true → FittingEntry g e) → (step_entry g s fits e).verdict ≡ Accepted
    → Taken g s (record { entry = e; after = (step_entry g s fits e).after; frame = (step_entry g s fits e).frame })
unfolding step_entry
taken_entry g s fits e f h =
    let r = record_of g s e.head in
    let c6 = accepted_cond (not fits) r BadEntry _ h in
    let c7 = accepted_cond (ltb e.time.0 (last_time s)) r TimeFell _ c6.2 in
    let p = passed r e.reading _ _ c7.2 in
    let w = f (not_false c6.0) in
    let asks = action_of (input_of e (frame_of s e)) in
    let a = taken_as r asks in
    let answer : step_entry g s fits e ≡ act (with_last r e.reading) a = c6.1 ∙ c7.1 ∙ p.answer in
    record {
      asks = asks;
      action = a;
      as_action = taken_as_lem r asks;
      asked = asked e e.action (frame_of s e) w.action_below w.zero_unused p.was_sent (frame_fits s e.action e.sender e.serial);
      head_below = w.head_below;
      sender_below = w.sender_below;
      serial_below = w.serial_below;
      reading_below = w.reading_below;
      time_rises = ltb-false e.time.0 (last_time s) c7.0;
      reading_rises = p.reading_rises;
      is_open = p.is_open;
      result = subst (λ (t : Stepped). accepted t.after t.frame ≡ act (with_last r e.reading) a) (sym answer) (act_accepted (with_last r e.reading) a);
    }

same_history : {g : Setting} {s h : History} → ran s ≡ ran h → Valid g s → Valid g h
same_history {g} e v = subst (Valid g) (let z = e in cc) v

valid_extend : (g : Setting) (place : ℕ) (s h : History) (fits : Bool) (e : Entry) → (fits ≡ true → FittingEntry g e) → Valid g s → (x : Verdict) → (step_entry g s fits e).verdict ≡ x
    → extend place s e (step_entry g s fits e) x ≡ ran h → Valid g h
valid_extend g place s h fits e f v Accepted t u = same_history u (more (taken_entry g s fits e f t) v)
valid_extend g place s h fits e f v (Refused c) t u = absurd (let z : ◌≡◌ {A = ℕ} 0 1 = cc in omega arith)

-- the history of a run of any number of entries is valid
pub valid_run : (ws : List ℕ) (k : ℕ) (h : History) → run_of ws k ≡ ran h → Valid (setting_at ws) h
unfolding run_of and_then
valid_run ws zero h e = same_history e start
valid_run ws (suc i) h e = go (run_of ws i) refl (valid_run ws i) e
  where
    go : (r : Run) → run_of ws i ≡ r → ((s : History) → run_of ws i ≡ ran s → Valid (setting_at ws) s)
        → and_then (setting_at ws) r (place_of i) (entry_fits_at ws i) (entry_at ws i) ≡ ran h → Valid (setting_at ws) h
    go (stopped c p) t ih u = absurd (let z : ◌≡◌ {A = ℕ} 0 1 = cc in omega arith)
    go (ran s) t ih u =
        valid_extend (setting_at ws) (place_of i) s h (entry_fits_at ws i) (entry_at ws i) (fits_entry (setting_at ws) _ _ _) (ih s t) (step_entry (setting_at ws) s (entry_fits_at ws i) (entry_at ws i)).verdict refl u

-- an accepted sheet: its numbers of heads and faults, and its history
pub record Sheet (g : Setting) (h : History) : Type 0 where
  pub at_least_two : 2 ≤ g.n
  pub at_most_16 : g.n ≤ 16
  pub few_faulty : 2 * g.f + 1 ≤ g.n
  pub heads_fit_test : heads_fit g.n g.f ≡ true
  pub valid : Valid g h

pub heads_fit_lem : (n f : ℕ) → heads_fit n f ≡ true → (2 ≤ n) × (n ≤ 16) × (2 * f + 1 ≤ n)
heads_fit_lem n f h =
    let h2 = and_right (leb 2 n) _ h in
    (leb-true 2 n (and_left (leb 2 n) _ h), leb-true n 16 (and_left (leb n 16) _ h2), leb-true (2 * f + 1) n (and_right (leb n 16) _ h2))

pub accepted_sheet : (ws : List ℕ) (h : History) → run_sheet ws ≡ ran h → Sheet (setting_at ws) h
unfolding run_sheet setting_of first_word_fits
accepted_sheet ws h e = go (sheet_verdict ws) refl e
  where
    first_fits : sheet_verdict ws ≡ Accepted → heads_fit (setting_at ws).n (setting_at ws).f ≡ true
    first_fits t = and_left (heads_fit (bits (get_or ws 0 0) 27 20) (bits (get_or ws 0 0) 19 16)) _ (and_right (eqb (bits (get_or ws 0 0) 31 28) 1) _ (sheet_fits ws t).first_fits)

    go : (x : Verdict) → sheet_verdict ws ≡ x → after_verdict x (run_of ws (entry_count ws)) ≡ ran h → Sheet (setting_at ws) h
    go (Refused c) t u = absurd (let z : ◌≡◌ {A = ℕ} 0 1 = cc in omega arith)
    go Accepted t u =
        let x = heads_fit_lem _ _ (first_fits t) in
        record { at_least_two = x.0; at_most_16 = x.1; few_faulty = x.2; heads_fit_test = first_fits t; valid = valid_run ws (entry_count ws) h u }

-- RECORDS OF A HISTORY

module _ (g : Setting) where
  pub record_at : (e : Event) (s : History) → record_of g (e ∷ s) e.entry.head ≡ e.after
  unfolding record_of
  record_at e s = rw (eqb_same e.entry.head) refl

  pub record_other : (e : Event) (s : History) (q : ℕ) → eqb e.entry.head q ≡ false → record_of g (e ∷ s) q ≡ record_of g s q
  unfolding record_of
  record_other e s q d = rw d refl

-- to show something of q after an event, show it of the event's head, and of q if that is another
pub by_head : (P : ℕ → Type 0) (e : Event) (q : ℕ) → P e.entry.head → (eqb e.entry.head q ≡ false → P q) → P q
by_head P e q a b = cases (eqb e.entry.head q) (λ t. subst P (eqb-true e.entry.head q t) a) b

module _ (g : Setting) where
  -- what an event's action delivers, and which action it is
  pub delivery_at : {s : History} {e : Event} (t : Taken g s e) → delivery_in t.action ≡ record { sender = e.entry.sender; frame = frame_of s e.entry }
  delivery_at t = taken_delivery t.as_action ∙ t.asked.delivery_is

  pub number_at : {s : History} {e : Event} (t : Taken g s e) (d : ℕ) → Unspent d → eqb (number t.action) d ≡ eqb e.entry.action d
  number_at t d u = taken_number d u t.as_action ∙ ap (λ (i : ℕ). eqb i d) t.asked.number_is

  pub is_delivery : (k : Kind) {s : History} {e : Event} (t : Taken g s e) → number t.action ≡ delivery k → e.entry.action ≡ delivery k
  is_delivery k {e = e} t h = eqb-true e.entry.action (delivery k) (sym (number_at t (delivery k) (delivery_unspent k)) ∙ eq-eqb _ _ h)

  pub delivers : (k : Kind) {s : History} {e : Event} (t : Taken g s e) → e.entry.action ≡ delivery k → number t.action ≡ delivery k
  delivers k t h = eqb-true (number t.action) (delivery k) (number_at t (delivery k) (delivery_unspent k) ∙ eq-eqb _ _ h)

  -- a fact of every answer is a fact of an event
  pub of_effect : (P : Stepped → Type 0) {s : History} {e : Event} (t : Taken g s e) → P (answer (base_of g s e) t.action) → P (accepted e.after e.frame)
  of_effect P t h = subst P (sym (t.result ∙ act_split _ _)) h

  -- an invariant of a head's record: it holds of a fresh one, and a step keeps it at the head that takes it
  pub invariant : (P : ℕ → HeadRecord → Type 0) → ((q : ℕ) → P q (fresh g.n g.f q))
      → ((s : History) (e : Event) (t : Taken g s e) → Valid g s → P e.entry.head (record_of g s e.entry.head)
      → P e.entry.head (answer (base_of g s e) t.action).after)
      → {s : History} → Valid g s → (q : ℕ) → P q (record_of g s q)
  unfolding record_of
  invariant P first step start q = first q
  invariant P first step (more {e = e} {s = s} t v) q =
      by_head (λ q. P q (record_of g (e ∷ s) q)) e q
      (rw (record_at g e s) (of_effect (λ x. P e.entry.head x.after) t (step s e t v (invariant P first step v e.entry.head))))
      (λ d. rw (record_other g e s q d) (invariant P first step v q))

  -- what every record of a history has
  pub record Fixed (q : ℕ) (r : HeadRecord) : Type 0 where
    pub n_is : r.n ≡ g.n
    pub f_is : r.f ≡ g.f
    pub own_is : r.own ≡ q
    pub size_is : length r.senders ≡ 16

  pub fixed : {s : History} → Valid g s → (q : ℕ) → Fixed q (record_of g s q)
  unfolding fresh
  fixed =
      invariant Fixed (λ q. record { n_is = refl; f_is = refl; own_is = refl; size_is = refl })
      (λ s e t v b. let m = prepared_same (base_of g s e) t.action in
      let u = send_same (sending_of (base_of g s e) t.action) (prepared (base_of g s e) t.action) in
      record { n_is = u.n ∙ b.n_is; f_is = u.f ∙ b.f_is; own_is = u.own ∙ b.own_is; size_is = u.size ∙ m.size ∙ b.size_is })

  -- a mark is set by the action that sets it; m picks the mark
  pub mark_took : (m : List Bool → Bool) (a : ℕ) → Unspent a → m (marks_of (fresh 0 0 0)) ≡ false
      → ((r : HeadRecord) (i : Action) → m (marks_of (prepared r i)) ≡ (eqb (number i) a || m (marks_of r)))
      → {s : History} → Valid g s → (q : ℕ) → m (marks_of (record_of g s q)) ≡ took a q s
  unfolding record_of fresh
  mark_took m a u z step start q = z
  mark_took m a u z step (more {e = e} {s = s} t v) q =
      by_head (λ q. m (marks_of (record_of g (e ∷ s) q)) ≡ took a q (e ∷ s)) e q
      (rw (record_at g e s, eqb_same e.entry.head) (of_effect (λ x. m (marks_of x.after) ≡ (eqb e.entry.action a || took a e.entry.head s)) t
      (ap m (send_marks (sending_of (base_of g s e) t.action) (prepared (base_of g s e) t.action)) ∙ step (base_of g s e) t.action
      ∙ rw (number_at t a u, mark_took m a u z step v e.entry.head) refl)))
      (λ d. rw (record_other g e s q d, d) (mark_took m a u z step v q))

  pub started_took : {s : History} → Valid g s → (q : ℕ) → (record_of g s q).started ≡ took 1 q s
  unfolding fresh
  started_took = mark_took (λ l. get_or l 0 false) 1 refl refl (λ r i. refl)

  pub confirmed_took : {s : History} → Valid g s → (q : ℕ) → (record_of g s q).confirmed ≡ took 3 q s
  unfolding fresh
  confirmed_took = mark_took (λ l. get_or l 1 false) 3 refl refl (λ r i. refl)

  pub turn_took : {s : History} → Valid g s → (q : ℕ) → (record_of g s q).vote.turn ≡ took 4 q s
  unfolding fresh
  turn_took = mark_took (λ l. get_or l 2 false) 4 refl refl (λ r i. refl)

  -- the adjust turn's mark is set by action 7, which sets it unless the phase was closed early
  adjust_turn_at : {s : History} {e : Event} (t : Taken g s e) → (record_of g (e ∷ s) e.entry.head).adjust.turn ≡ (eqb (number t.action) 7 || (record_of g s e.entry.head).adjust.turn)
  adjust_turn_at {s} {e} t =
      rw (record_at g e s) (of_effect (λ x. x.after.adjust.turn ≡ (eqb (number t.action) 7 || (record_of g s e.entry.head).adjust.turn)) t
      (ap (λ (l : List Bool). get_or l 3 false) (send_marks (sending_of (base_of g s e) t.action) (prepared (base_of g s e) t.action))))

  pub adjust_turned : {s : History} → Valid g s → (q : ℕ) → (record_of g s q).adjust.turn ≡ true → took 7 q s ≡ true
  unfolding record_of fresh
  adjust_turned start q = λ h. h
  adjust_turned (more {e = e} {s = s} t v) q =
      by_head (λ q. (record_of g (e ∷ s) q).adjust.turn ≡ true → took 7 q (e ∷ s) ≡ true) e q
      (λ h. or_cases (eqb (number t.action) 7) _ (sym (adjust_turn_at t) ∙ h)
      (λ u. or_first (takes 7 e.entry.head e) _ (and_both (eqb_same e.entry.head) (subst (λ (a : ℕ). eqb a 7 ≡ true) t.asked.number_is (asked_adjust_turn t.as_action u))))
      (λ u. or_second (takes 7 e.entry.head e) _ (adjust_turned v e.entry.head u)))
      (λ d h. or_second (takes 7 q e) _ (adjust_turned v q (ap (λ (r : HeadRecord). r.adjust.turn) (sym (record_other g e s q d)) ∙ h)))

  pub adjust_turn_took : {s : History} → Valid g s → (q : ℕ) → ((record_of g s q).adjust.turn || (record_of g s q).adjust.early) ≡ (took 7 q s || (record_of g s q).adjust.early)
  unfolding record_of fresh
  adjust_turn_took start q = refl
  adjust_turn_took (more {e = e} {s = s} t v) q =
      by_head (λ q. ((record_of g (e ∷ s) q).adjust.turn || (record_of g (e ∷ s) q).adjust.early) ≡ (took 7 q (e ∷ s) || (record_of g (e ∷ s) q).adjust.early)) e q
      (ap₂ (λ (a b : Bool). a || b) (adjust_turn_at t) early_after
      ∙ turn_law (closes_early adjusts (base_of g s e) t.action) (record_of g s e.entry.head).adjust.early (eqb (number t.action) 7) (eqb e.entry.action 7) _ (took 7 e.entry.head s) asked_7 (adjust_turn_took v e.entry.head)
      ∙ sym (ap₂ (λ (a b : Bool). a || b) (ap (λ (b : Bool). (b && eqb e.entry.action 7) || took 7 e.entry.head s) (eqb_same e.entry.head)) early_after))
      (λ d. rw (record_other g e s q d, d) (adjust_turn_took v q))
    where
      early_after : (record_of g (e ∷ s) e.entry.head).adjust.early ≡ (closes_early adjusts (base_of g s e) t.action || (record_of g s e.entry.head).adjust.early)
      early_after =
          rw (record_at g e s) (of_effect (λ x. x.after.adjust.early ≡ (closes_early adjusts (base_of g s e) t.action || (record_of g s e.entry.head).adjust.early)) t
          (answer_early adjusts (base_of g s e) t.action))

      asked_7 : (eqb (number t.action) 7 || (record_of g s e.entry.head).adjust.early) ≡ (eqb e.entry.action 7 || (record_of g s e.entry.head).adjust.early)
      asked_7 = taken_adjust_turn t.as_action ∙ ap (λ (i : ℕ). eqb i 7 || (record_of g s e.entry.head).adjust.early) t.asked.number_is

      or_none : (b : Bool) → (b || false) ≡ b
      or_none true = refl
      or_none false = refl

      turn_law : (c e x y m k : Bool) → (x || e) ≡ (y || e) → (m || e) ≡ (k || e) → ((x || m) || (c || e)) ≡ ((y || k) || (c || e))
      turn_law true e x y m k h i = or_second (x || m) true refl ∙ sym (or_second (y || k) true refl)
      turn_law false true x y m k h i = or_second (x || m) true refl ∙ sym (or_second (y || k) true refl)
      turn_law false false x y m k h i = ap (λ (b : Bool). b || false) (ap₂ (λ (a b : Bool). a || b) (sym (or_none x) ∙ h ∙ or_none y) (sym (or_none m) ∙ i ∙ or_none k))

  -- a phase is closed by its action, or early
  pub closed_took : (k : Kind) {s : History} → Valid g s → (q : ℕ) → (phase_of k (record_of g s q)).closed ≡ (took (closing k) q s || (phase_of k (record_of g s q)).early)
  unfolding record_of fresh
  closed_took votes start q = refl
  closed_took adjusts start q = refl
  closed_took k (more {e = e} {s = s} t v) q =
      by_head (λ q. (phase_of k (record_of g (e ∷ s) q)).closed ≡ (took (closing k) q (e ∷ s) || (phase_of k (record_of g (e ∷ s) q)).early)) e q
      (rw (record_at g e s, eqb_same e.entry.head) (of_effect (λ x. (phase_of k x.after).closed ≡ ((eqb e.entry.action (closing k) || took (closing k) e.entry.head s) || (phase_of k x.after).early)) t
      (answer_closed k r t.action ∙ ap (λ (c : Bool). closes_early k r t.action || (eqb (number t.action) (closing k) || c)) (was (closed_took k v e.entry.head))
      ∙ closed_law (closes_early k r t.action) (eqb (number t.action) (closing k)) (eqb e.entry.action (closing k)) (took (closing k) e.entry.head s) (phase_of k r).early spent
      ∙ ap (λ (c : Bool). (eqb e.entry.action (closing k) || took (closing k) e.entry.head s) || c) (sym (answer_early k r t.action)))))
      (λ d. rw (record_other g e s q d, d) (closed_took k v q))
    where
      r : HeadRecord
      r = base_of g s e

      was : (phase_of k (record_of g s e.entry.head)).closed ≡ (took (closing k) e.entry.head s || (phase_of k (record_of g s e.entry.head)).early)
          → (phase_of k r).closed ≡ (took (closing k) e.entry.head s || (phase_of k r).early)
      was = subst (λ (p : Phase). p.closed ≡ (took (closing k) e.entry.head s || p.early)) (sym (phase_last k (record_of g s e.entry.head) e.entry.reading))

      spent : (eqb (number t.action) (closing k) || (phase_of k r).early) ≡ (eqb e.entry.action (closing k) || (phase_of k r).early)
      spent =
          subst (λ (p : Phase). (eqb (number t.action) (closing k) || p.early) ≡ (eqb e.entry.action (closing k) || p.early)) (sym (phase_last k (record_of g s e.entry.head) e.entry.reading))
          (taken_close k t.as_action ∙ ap (λ (i : ℕ). eqb i (closing k) || (phase_of k (record_of g s e.entry.head)).early) t.asked.number_is)

      closed_law : (b x y t e : Bool) → (x || e) ≡ (y || e) → (b || (x || (t || e))) ≡ ((y || t) || (b || e))
      closed_law true x true t e h = refl
      closed_law true x false true e h = refl
      closed_law true x false false e h = refl
      closed_law false true true t e h = refl
      closed_law false true false true e h = refl
      closed_law false true false false e h = h
      closed_law false false true true e h = refl
      closed_law false false true false e h = h
      closed_law false false false t e h = refl

  -- what is kept by sender p at the head of an event, before the head sends
  abbrev pub kept_next : (s : History) (e : Event) (p : ℕ) → Sender
  kept_next s e p =
      cond (not (ignored (base_of g s e) e.entry.sender (frame_of s e.entry)) && eqb e.entry.sender p)
      (kept_after (base_of g s e) e.entry.sender (frame_of s e.entry)) (kept_of (record_of g s e.entry.head) p)

  -- of what is kept, all but the head's own vote reading and latest frames is so after the event
  pub kept_at : {X : Type 0} (part : Sender → X) → Unsaid part
      → {s : History} {e : Event} (t : Taken g s e) → Valid g s → g.n ≤ 16 → (p : ℕ) → part (kept_of (record_of g (e ∷ s) e.entry.head) p) ≡ part (kept_next s e p)
  kept_at part keeps {s} {e} t v small p =
      let fits : e.entry.sender < length (record_of g s e.entry.head).senders = rw (fixed v e.entry.head).size_is (let z = t.sender_below in omega arith) in
      rw (record_at g e s) (of_effect (λ y. part (kept_of y.after p) ≡ part (kept_next s e p)) t
      (send_keeps part keeps (sending_of (base_of g s e) t.action) (prepared (base_of g s e) t.action) p
      ∙ rw (delivery_at t) (ap part (kept_after_lem (base_of g s e) e.entry.sender (frame_of s e.entry) p fits))))
