-- The run of a drafted round: every entry is taken, head 0 is everybody's choice in both phases, and no head sends a second vote or
-- adjust. What has come before an entry is DraftPast's; here is what the steps made of it.
-- Main results: `Plain`, `ran_more` (one entry more), `by_run` (the whole round).
use Rattle.std.specs.Prelude.{Option, Some, None, is_some}
use mathlib.Core.Path.{◌≡◌, refl, sym, ◌∙◌, ap, subst}
use mathlib.Core.Bool.{Bool, true, false, cond, not, ◌||◌}
use mathlib.Core.List.{[], ◌∷◌}
use mathlib.Core.Logic.{◌≢◌}
use Prim.Native.Nat.{ℕ, zero, suc, ◌+◌, ◌*◌, ◌^◌, ◌≤◌, ◌<◌}
use native.Mathlib.Nat.{mul-le-mul_left}
use native.Mathlib.Omega.{arith}
use lib.Dec.{ltb, eqb}
use borrow.Author.Tests.{ltb-true, ltb-false, lt-ltb, le-ltb, le-leb, eqb-true, eqb-false, ne_eqb}
use Rattle.protocol.specs.Types.{Action, Look, VoteClose, AdjustTurn, AdjustClose}
use Rattle.protocol.specs.Types.{HeadRecord, Reading, Setting, Entry, Stepped, Verdict, Accepted, Refused, Frame}
use Rattle.protocol.specs.Words.{has_sender, heads_fit}
use Rattle.protocol.specs.declared.Kind.{Kind}
use Rattle.protocol.specs.Record.{votes, adjusts, phase_of, start_of, vote_of, fresh}
use Rattle.protocol.specs.Step.{starts_held, is_closed, taken_as, take_action, action_of}
use Rattle.protocol.specs.Run.{Event, History, record_of, frame_sent, frame_of, is_frame, input_of, last_time, step_entry}
use Rattle.protocol.specs.Premises.{turning, delivery, closing, takes, took, each, is_early}
use Rattle.protocol.specs.Draft.{draft_entry, draft_entries, draft_setting, last_slot_time, slot_time}
use Rattle.protocol.proofs.Tests.{absurd_bool, cases, cond_elim, and_left, and_right, and_both, or_first, or_second, or_neither, or_cases, not_is_false, count_all, In, first, next}
use Rattle.protocol.proofs.Effects.{sending_of, prepared, send_same, none_is_some, no_number, some_number, act_accepted}
use Rattle.protocol.proofs.Valid.{Taken, Valid, start, more, taken_entry, base_of, by_head, record_at, record_other, of_effect, fixed, started_took, confirmed_took, turn_took, adjust_turned, closed_took}
use Rattle.protocol.proofs.Ranges.{run_in_range}
use Rattle.protocol.proofs.Phases.{held, sent, is_over, names, names_other, held_other, sent_other, Origin, own, reached, Turn, sends_none, sends_one, SendsOne, turn, frame_new, last_frame, held_sent, outranks_below, falls, delivered_choice}
use Rattle.protocol.proofs.Spoken.{early_holds, none_early, delivered_holds}
use Rattle.protocol.proofs.Starts.{start_found, start_after, waits, candidate_confirmed}
use Rattle.protocol.proofs.Runs.{start_sent, sent_below}
use Rattle.protocol.proofs.Agreement.{OwnReading, same_reading, new_reading, own_reading_at, turn_at, adjuster_from_turn}
use Rattle.protocol.proofs.DraftRoom.{in_time_lem}
use Rattle.protocol.proofs.DraftOrder.{opens, shuts, At, starts, start_heard, confirms, leads, first_heard, turns, heard, closes, earliest, earliest_turn, earliest_close, facts}
use Rattle.protocol.proofs.DraftPast.{event_of, history_after, Until, Before, until_more, limit_low, by_entry, took_it, not_yet}

-- OF ANY VALID HISTORY

module _ (g : Setting) where
  -- who took 1 has a start to be delivered
  start_there : {s : History} → Valid g s → (p : ℕ) → took 1 p s ≡ true → is_frame (frame_sent s 2 p 0) ≡ true
  start_there v p h = ap is_frame (start_sent g v p 0) ∙ rw (started_took g v p ∙ h) refl

  -- no last reading is above all readings of the history
  last_within : (top : ℕ) {s : History} → Valid g s → ((d : Event) → In d s → d.entry.reading.0 ≤ top) → (q : ℕ) → (record_of g s q).last.0 ≤ top
  unfolding record_of fresh
  last_within top start h q = omega arith
  last_within top (more {e = e} {s = s} t v) h q =
      by_head (λ q. (record_of g (e ∷ s) q).last.0 ≤ top) e q
      (rw (record_at g e s) (of_effect g (λ y. y.after.last.0 ≤ top) t
      (subst (λ (x : Reading). x.0 ≤ top) (sym (send_same (sending_of (base_of g s e) t.action) (prepared (base_of g s e) t.action)).last) (h e first))))
      (λ d. rw (record_other g e s q d) (last_within top v (λ d i. h d (next i)) q))

  module _ (k : Kind) where
    -- a phase so far in which no frame names anyone but head 0, and no head has sent a second one
    pub record Plain (s : History) : Type 0 where
      pub names_0 : (p j c : ℕ) → names g k s p j ≡ Some c → c ≡ 0
      pub one : (q : ℕ) → sent g k s q ≤ 1

    plain_start : Plain []
    unfolding record_of frame_sent fresh
    plain_start = record { names_0 = λ p j c. none_is_some; one = none_sent k }
      where
        none_sent : (k : Kind) (q : ℕ) → (phase_of k (fresh g.n g.f q)).sent ≤ 1
        none_sent votes q = omega arith
        none_sent adjusts q = omega arith

    pub held_0 : {s : History} → Valid g s → Plain s → (q c : ℕ) → held g k s q ≡ Some c → c ≡ 0
    held_0 v z q c h =
        let j = held_sent g k v q c h in
        let f = last_frame g k v q j.0 j.1 in
        z.names_0 q j.0 c (f.names_it ∙ sym f.holds ∙ h)

    -- who has a choice has sent a frame under serial 0
    frame_there : {s : History} → Valid g s → (p c : ℕ) → held g k s p ≡ Some c → is_frame (frame_sent s (delivery k) p 0) ≡ true
    frame_there {s} v p c h = let j = held_sent g k v p c h in sym (sent_below g k v p 0) ∙ lt-ltb 0 (sent g k s p) (let e = j.1 in omega arith)

    -- if whoever else takes its turn has a choice already, an event leaves the phase plain
    plain_more : {s : History} {e : Event} → Taken g s e → Valid g s
        → (e.entry.head ≢ 0 → (phase_of k (record_of g (e ∷ s) e.entry.head)).turn ≡ true → is_over g k s e.entry.head ≡ false → held g k s e.entry.head ≢ None)
        → Plain s → Plain (e ∷ s)
    plain_more {s} {e} t v follows z = record { names_0 = all_names; one = all_sent }
      where
        names_it : (y : SendsOne g k s e) → Origin g k s e y.choice → y.choice ≡ 0
        names_it y (own is none tu) = cases (eqb e.entry.head 0) (λ u. is ∙ eqb-true _ 0 u) (λ u. absurd (follows (eqb-false e.entry.head 0 u) tu y.was_open none))
        names_it y (reached a n) = z.names_0 _ _ y.choice n

        all_names : (p j c : ℕ) → names g k (e ∷ s) p j ≡ Some c → c ≡ 0
        all_names p j c =
            by_head (λ p. names g k (e ∷ s) p j ≡ Some c → c ≡ 0) e p
            (frame_new g k (λ j c. c ≡ 0) (turn g k t v) (z.names_0 e.entry.head) (λ y. names_it y y.origin) j c)
            (λ d h. z.names_0 p j c (sym (names_other g k e s p j d) ∙ h))

        first_frame : (y : SendsOne g k s e) (i : ℕ) → sent g k s e.entry.head ≡ i → sent g k (e ∷ s) e.entry.head ≤ 1
        first_frame y zero u = let eq = y.sent_new in omega arith
        first_frame y (suc j) u =
            let f = last_frame g k v e.entry.head j u in
            let lt = outranks_below y.choice _ f.choice y.higher f.holds in
            let eq = held_0 v z e.entry.head f.choice f.holds in
            absurd (omega arith)

        one_sent : Turn g k s e → sent g k (e ∷ s) e.entry.head ≤ 1
        one_sent (sends_none y) = let eq = y.sent_same in let le = z.one e.entry.head in omega arith
        one_sent (sends_one y) = first_frame y _ refl

        all_sent : (q : ℕ) → sent g k (e ∷ s) q ≤ 1
        all_sent q =
            by_head (λ q. sent g k (e ∷ s) q ≤ 1) e q (one_sent (turn g k t v))
            (λ d. let eq = sent_other g k e s q d in let le = z.one q in omega arith)

-- an entry that passes causes 7 to 9 is taken
accept_entry : (g : Setting) (s : History) (e : Entry) → last_time s ≤ e.time.0 → (record_of g s e.head).last.0 ≤ e.reading.0
    → (not (has_sender e.action) || is_frame (frame_of s e)) ≡ true
    → is_closed (record_of g s e.head) (taken_as (record_of g s e.head) (action_of (input_of e (frame_of s e)))) ≡ false
    → (step_entry g s true e).verdict ≡ Accepted
unfolding step_entry take_action
accept_entry g s e ht hr hs ho =
    rw (le-ltb e.time.0 (last_time s) ht, le-ltb e.reading.0 (record_of g s e.head).last.0 hr, hs, ho)
    (ap (λ (t : Stepped). t.verdict) (sym (act_accepted _ _)))

time_within : (top : ℕ) (s : History) → ((d : Event) → In d s → d.entry.time.0 ≤ top) → last_time s ≤ top
time_within top [] h = omega arith
time_within top (e ∷ s) h = h e first

-- the event's entry is taken after s
abbrev is_accepted : Verdict → Bool
is_accepted Accepted = true
is_accepted (Refused c) = false

abbrev pub is_taken : Setting → Event → History → Bool
is_taken g e s = is_accepted (step_entry g s true e.entry).verdict

pub taken_accepted : (g : Setting) (e : Event) (s : History) → is_taken g e s ≡ true → (step_entry g s true e.entry).verdict ≡ Accepted
taken_accepted g e s h = go (step_entry g s true e.entry).verdict h
  where
    go : (v : Verdict) → is_accepted v ≡ true → v ≡ Accepted
    go Accepted h = refl
    go (Refused c) h = absurd_bool h refl

-- OF A DRAFTED ROUND

module _ (n f begin spacing : ℕ) (two : 2 ≤ n) (small : n ≤ 16) (few : 2 * f + 1 ≤ n) where
  abbrev g : Setting
  g = draft_setting n f

  fit : heads_fit n f ≡ true
  fit = and_both (le-leb 2 n two) (and_both (le-leb n 16 small) (le-leb (2 * f + 1) n few))

  -- WHAT HEADS HOLD

  -- no head has a candidate before the first confirmation
  no_candidate : {i limit : ℕ} {s : History} → Until n begin spacing i limit s → Valid g s → limit ≤ 2 * n → (q : ℕ) → is_some (held g votes s q) ≡ false
  no_candidate {s = s} u v h q = go (held g votes s q) refl
    where
      go : (c : Option ℕ) → held g votes s q ≡ c → is_some c ≡ false
      go None w = refl
      go (Some c) w = absurd_bool (candidate_confirmed g small fit v q c w) (not_yet u 3 c (omega arith))

  -- a head that was delivered head 0's frame has a choice
  heard_choice : (k : Kind) {i limit : ℕ} {s : History} → Until n begin spacing i limit s → Valid g s → (q : ℕ) → 0 < q → q < n → opens n k + 1 < i → limit ≤ shuts n k + q
      → (c : ℕ) × (held g k s q ≡ Some c)
  heard_choice k u v q z l h c =
      delivered_holds g k small v q l (took_it u (first_heard k z l) h) (not_yet u (closing k) q (let eq = earliest_close n q k in omega arith))

  -- what is so of the entries so far: all were taken, both phases are plain, head 0 has a choice after its turn, and with a candidate a
  -- vote reading of its own
  pub record Ran (s : History) : Type 0 where
    pub valid : Valid g s
    pub taken : each (is_taken g) s ≡ true
    pub plain : (k : Kind) → Plain g k s
    pub turned : (k : Kind) → took (turning k) 0 s ≡ true → (c : ℕ) × (held g k s 0 ≡ Some c)
    pub own_vote : (c : ℕ) → held g votes s 0 ≡ Some c → is_some (vote_of (record_of g s 0) 0) ≡ true

  ran_none : Ran []
  unfolding record_of fresh each
  ran_none = record { valid = start; taken = refl; plain = plain_start g; turned = λ k h. absurd_bool h refl; own_vote = λ c. none_is_some }

  -- the adjust phase closes after the vote phase
  adjust_open : {s : History} → Valid g s → (q : ℕ) → q < n → (record_of g s q).vote.closed ≡ false → (record_of g s q).adjust.closed ≡ false
  adjust_open {s} v q l o =
      cases (record_of g s q).adjust.closed (λ w. absurd_bool ((run_in_range fit v q l).marks.adjusting (or_second (record_of g s q).adjust.turn _ w)) o) (λ w. w)

  -- CAUSE 9

  vote_closed : {s : History} → Valid g s → (q : ℕ) → took 6 q s ≡ true → (record_of g s q).vote.closed ≡ true
  vote_closed {s} v q h = closed_took g votes v q ∙ or_first (took 6 q s) _ h

  unturned : {s : History} → Valid g s → (q : ℕ) → took 7 q s ≡ false → (record_of g s q).adjust.turn ≡ false
  unturned {s} v q h = cases (record_of g s q).adjust.turn (λ t. absurd_bool (adjust_turned g v q t) h) (λ t. t)

  still_open : {s : History} → Valid g s → (q : ℕ) → took 9 q s ≡ false → is_early g adjusts s q ≡ false → (record_of g s q).adjust.closed ≡ false
  still_open v q h e = closed_took g adjusts v q ∙ or_neither h e

  -- 6, 7 and 9 are open, or spent: their phase is closed early
  unless_spent : (r : HeadRecord) (early : Bool) (a : Action) → (early ≡ false → is_closed r a ≡ false) → is_closed r (cond early Look a) ≡ false
  unfolding is_closed
  unless_spent r early a h = cond_elim (λ (b : Action). is_closed r b ≡ false) early (λ _. refl) h

  open_at : {a q p i : ℕ} {s : History} (t : ℕ) (x : Frame) → At n a q p i → Before n begin spacing a i s → Valid g s
      → is_closed (record_of g s q) (taken_as (record_of g s q) (action_of (input_of (draft_entry t a q p) x))) ≡ false
  unfolding is_closed taken_as action_of input_of
  open_at t x (starts {q} l) u v =
      or_neither (started_took g v q ∙ not_yet u 1 q (omega arith)) (or_neither (no_candidate u v (omega arith) q)
      (closed_took g votes v q ∙ or_neither (not_yet u 6 q (omega arith)) (none_early g votes small v q l (no_number _ (no_candidate u v (omega arith) q)))))
  open_at t x (start_heard l lp) u v = refl
  open_at t x (confirms {q} l) u v = or_neither (not_is_false (started_took g v q ∙ took_it u (starts l) (omega arith))) (confirmed_took g v q ∙ not_yet u 3 q (omega arith))
  open_at t x (leads votes pos) u v = or_neither (not_is_false (confirmed_took g v 0 ∙ took_it u (confirms pos) (omega arith))) (turn_took g v 0 ∙ not_yet u 4 0 (omega arith))
  open_at {s = s} t x (leads adjusts pos) u v =
      unless_spent (record_of g s 0) (is_early g adjusts s 0) AdjustTurn
      (λ e. or_neither (not_is_false (vote_closed v 0 (took_it u (closes votes pos) (omega arith)))) (or_neither (unturned v 0 (not_yet u 7 0 (omega arith))) (still_open v 0 (not_yet u 9 0 (omega arith)) e)))
  open_at t x (first_heard votes {q} z l) u v = or_neither (ap (eqb 0) (fixed g v q).own_is ∙ ne_eqb 0 q (λ e. omega arith)) refl
  open_at t x (first_heard adjusts {q} z l) u v = or_neither (ap (eqb 0) (fixed g v q).own_is ∙ ne_eqb 0 q (λ e. omega arith)) refl
  open_at t x (turns votes {q} z l) u v = or_neither (not_is_false (confirmed_took g v q ∙ took_it u (confirms l) (omega arith))) (turn_took g v q ∙ not_yet u 4 q (omega arith))
  open_at {s = s} t x (turns adjusts {q} z l) u v =
      unless_spent (record_of g s q) (is_early g adjusts s q) AdjustTurn
      (λ e. or_neither (not_is_false (vote_closed v q (took_it u (closes votes l) (omega arith)))) (or_neither (unturned v q (not_yet u 7 q (omega arith))) (still_open v q (not_yet u 9 q (omega arith)) e)))
  open_at t x (heard votes {q} {p} d l z lp) u v = or_neither (ap (eqb p) (fixed g v q).own_is ∙ ne_eqb p q (λ e. d (sym e))) refl
  open_at t x (heard adjusts {q} {p} d l z lp) u v = or_neither (ap (eqb p) (fixed g v q).own_is ∙ ne_eqb p q (λ e. d (sym e))) refl
  open_at {s = s} t x (closes votes {q} l) u v =
      unless_spent (record_of g s q) (is_early g votes s q) VoteClose (λ e. closed_took g votes v q ∙ or_neither (not_yet u 6 q (omega arith)) e)
  open_at {s = s} t x (closes adjusts {q} l) u v =
      unless_spent (record_of g s q) (is_early g adjusts s q) AdjustClose
      (λ e. or_neither (not_is_false (vote_closed v q (took_it u (closes votes l) (omega arith)))) (still_open v q (not_yet u 9 q (omega arith)) e))

  -- a frame that is delivered was sent
  sent_at : {a q p i : ℕ} {s : History} → At n a q p i → Before n begin spacing a i s → Ran s → (not (has_sender a) || is_frame (frame_sent s a p 0)) ≡ true
  sent_at (starts l) u r = refl
  sent_at (start_heard {q} {p} l lp) u r = start_there g r.valid p (took_it u (starts lp) (omega arith))
  sent_at (confirms l) u r = refl
  sent_at (leads votes pos) u r = refl
  sent_at (leads adjusts pos) u r = refl
  sent_at (first_heard votes z l) u r = let c = r.turned votes (took_it u (leads votes (omega arith)) (omega arith)) in frame_there g votes r.valid 0 c.0 c.1
  sent_at (first_heard adjusts z l) u r = let c = r.turned adjusts (took_it u (leads adjusts (omega arith)) (omega arith)) in frame_there g adjusts r.valid 0 c.0 c.1
  sent_at (turns votes z l) u r = refl
  sent_at (turns adjusts z l) u r = refl
  sent_at (heard votes {q} {p} d l z lp) u r = let c = heard_choice votes u r.valid p z lp (omega arith) (omega arith) in frame_there g votes r.valid p c.0 c.1
  sent_at (heard adjusts {q} {p} d l z lp) u r = let c = heard_choice adjusts u r.valid p z lp (omega arith) (omega arith) in frame_there g adjusts r.valid p c.0 c.1
  sent_at (closes votes l) u r = refl
  sent_at (closes adjusts l) u r = refl

  -- ONE ENTRY MORE
  module _ {a q p i : ℕ} {s : History} (at : At n a q p i) (u : Before n begin spacing a i s) (r : Ran s) (below : slot_time begin spacing i < 2 ^ 28) where
    abbrev entry : Entry
    entry = draft_entry (slot_time begin spacing i) a q p

    abbrev event : Event
    event = event_of g s entry

    came_time : (d : Event) → In d s → (d.entry.time.0 ≤ slot_time begin spacing i) × (d.entry.reading.0 ≤ slot_time begin spacing i)
    came_time d m =
        let c = u.came d m in
        let not-later : c.index ≤ i = (let z = c.early in let y = limit_low a i in omega arith) in
        let le : slot_time begin spacing c.index ≤ slot_time begin spacing i = (let z = mul-le-mul_left spacing not-later in omega arith) in
        (subst (λ (x : Entry). x.time.0 ≤ slot_time begin spacing i) (sym c.is) le, subst (λ (x : Entry). x.reading.0 ≤ slot_time begin spacing i) (sym c.is) le)

    taken_now : (step_entry g s true entry).verdict ≡ Accepted
    taken_now =
        accept_entry g s entry (time_within (slot_time begin spacing i) s (λ d m. (came_time d m).0))
        (last_within g (slot_time begin spacing i) r.valid (λ d m. (came_time d m).1) q) (sent_at at u r) (open_at (slot_time begin spacing i) _ at u r.valid)

    t : Taken g s event
    t =
        let x = facts at in
        taken_entry g s true entry
        (λ _. record { action_below = x.action_below; head_below = x.head_below; sender_below = x.sender_below; serial_below = omega arith; reading_below = below; zero_unused = x.unused }) taken_now

    valid_now : Valid g (event ∷ s)
    valid_now = more t r.valid

    until_now : Until n begin spacing i (suc i) (event ∷ s)
    until_now = until_more n begin spacing at (limit_low a i) refl u

    -- whoever but head 0 takes its turn was delivered a frame of the phase before
    after_first : (k : Kind) → q ≢ 0 → (phase_of k (record_of g (event ∷ s) q)).turn ≡ true → opens n k + 1 < i
    after_first k d tu =
        cases (ltb (opens n k + 1) i) (ltb-true (opens n k + 1) i)
        (λ w. let le = ltb-false (opens n k + 1) i w in
        absurd_bool (turn_taken k tu) (not_yet until_now (turning k) q (let eq = earliest_turn n q k in omega arith)))
      where
        turn_taken : (k : Kind) → (phase_of k (record_of g (event ∷ s) q)).turn ≡ true → took (turning k) q (event ∷ s) ≡ true
        turn_taken votes h = sym (turn_took g valid_now q) ∙ h
        turn_taken adjusts h = adjust_turned g valid_now q h

    follows : (k : Kind) → q ≢ 0 → (phase_of k (record_of g (event ∷ s) q)).turn ≡ true → is_over g k s q ≡ false → held g k s q ≢ None
    follows k d tu o none = no_choice (delivered_choice g k small r.valid q (took_it u (first_heard k (omega arith) (facts at).head_below) (after_first k d tu)) o)
      where
        no_choice : (c : ℕ) × (held g k s q ≡ Some c) → ⊥
        no_choice c = none_is_some (sym none ∙ c.1)

    plain_now : (k : Kind) → Plain g k (event ∷ s)
    plain_now k = plain_more g k t r.valid (follows k) (r.plain k)

    -- a choice is kept, or falls
    still_held : (k : Kind) (c : ℕ) → held g k s 0 ≡ Some c → (c : ℕ) × (held g k (event ∷ s) 0 ≡ Some c)
    still_held k c h = let b = falls g k t r.valid 0 c (record { choice = c; holds = h; low = omega arith }) in (b.choice, b.holds)

    -- HEAD 0'S OWN TURNS
    module _ (head-is : q ≡ 0) where
      its_slot : (b : ℕ) → has_sender b ≡ false → a ≡ b → i ≡ earliest n b 0
      its_slot b plain is = (facts at).timed (ap has_sender is ∙ plain) ∙ ap (λ (a : ℕ). earliest n a q) is ∙ ap (earliest n b) head-is

      -- it holds all starts, so it leads
      candidate_now : a ≡ 4 → took 4 0 (event ∷ s) ≡ true → (c : ℕ) × (held g votes (event ∷ s) 0 ≡ Some c)
      unfolding starts_held
      candidate_now is h = go (held g votes (event ∷ s) 0) refl
        where
          impossible : held g votes (event ∷ s) 0 ≡ None → ⊥
          impossible w =
              let here = its_slot 4 refl is in
              let x = fixed g valid_now 0 in
              let vote-open = closed_took g votes valid_now 0 ∙ or_neither (not_yet until_now 6 0 (omega arith)) (none_early g votes small valid_now 0 (omega arith) w) in
              let few-held = waits g small valid_now 0 (turn_took g valid_now 0 ∙ h) vote-open w in
              let all_held : starts_held (record_of g (event ∷ s) 0) ≡ n = rw x.n_is (count_all n (λ v. is_some (start_of (record_of g (event ∷ s) 0) v))
              (λ v l. ap is_some (start_found g small valid_now 0 v (until_now.done (start_heard (omega arith) l) (omega arith)) (adjust_open valid_now 0 (omega arith) vote-open)).reading_is)) in
              let f_is = x.f_is in
              omega arith

          go : (c : Option ℕ) → held g votes (event ∷ s) 0 ≡ c → (c : ℕ) × (held g votes (event ∷ s) 0 ≡ Some c)
          go None w = absurd (impossible w)
          go (Some c) w = (c, w)

      -- it has a candidate and a vote reading of its own, so it has an adjuster; one that has closed its adjust phase early has one too
      adjuster_now : a ≡ 7 → (c : ℕ) × (held g adjusts (event ∷ s) 0 ≡ Some c)
      adjuster_now is =
          cases (is_early g adjusts s q) (λ e. let x = early_holds g adjusts small r.valid q (facts at).head_below e in still_held adjusts x.0 (ap (held g adjusts s) (sym head-is) ∙ x.1))
          (λ e. let here = its_slot 7 refl is in
          let candidate = r.turned votes (took_it u (leads votes (omega arith)) (omega arith)) in
          some_number (held g adjusts (event ∷ s) 0) (subst (λ (x : ℕ). is_some (held g adjusts (event ∷ s) x) ≡ true) head-is
          (adjuster_from_turn g event t r.valid candidate.0 (ap (held g votes s) head-is ∙ candidate.1)
          (subst (λ (x : ℕ). is_some (vote_of (record_of g s x) x) ≡ true) (sym head-is) (r.own_vote candidate.0 candidate.1)) (turn_at g event t is e))))

    turned_now : (k : Kind) → took (turning k) 0 (event ∷ s) ≡ true → (c : ℕ) × (held g k (event ∷ s) 0 ≡ Some c)
    turned_now k h =
        or_cases (takes (turning k) 0 event) (took (turning k) 0 s) h
        (λ w. here k h (eqb-true q 0 (and_left (eqb q 0) _ w)) (eqb-true a (turning k) (and_right (eqb q 0) _ w)))
        (λ w. let c = r.turned k w in still_held k c.0 c.1)
      where
        here : (k : Kind) → took (turning k) 0 (event ∷ s) ≡ true → q ≡ 0 → a ≡ turning k → (c : ℕ) × (held g k (event ∷ s) 0 ≡ Some c)
        here votes h z is = candidate_now z is h
        here adjusts h z is = adjuster_now z is

    -- HEAD 0'S OWN VOTE READING

    after_confirmed : (c : ℕ) → held g votes (event ∷ s) q ≡ Some c → 2 * n ≤ i
    after_confirmed c h =
        cases (ltb i (2 * n)) (λ y. let lt = ltb-true i (2 * n) y in absurd_bool (candidate_confirmed g small fit valid_now q c h) (not_yet until_now 3 c (omega arith))) (ltb-false i (2 * n))

    start_known : (c : ℕ) → held g votes (event ∷ s) q ≡ Some c → (record_of g s q).vote.closed ≡ false → is_some (start_of (record_of g (event ∷ s) q) c) ≡ true
    start_known c h o =
        let z = held_0 g votes valid_now (plain_now votes) q c h in
        let l = after_confirmed c h in
        ap is_some (start_after g small t r.valid q c (until_now.done (start_heard (facts at).head_below (omega arith)) (omega arith)) (adjust_open r.valid q (facts at).head_below o)).reading_is

    own_at : q ≡ 0 → OwnReading g s event → (c : ℕ) → held g votes (event ∷ s) q ≡ Some c → is_some (vote_of (record_of g (event ∷ s) q) q) ≡ true
    own_at z (same_reading hs vs) c h =
        rw vs (subst (λ (x : ℕ). is_some (vote_of (record_of g s x) x) ≡ true) (sym z) (r.own_vote c (ap (held g votes s) (sym z) ∙ sym hs ∙ h)))
    own_at z (new_reading w hn o vn) c h = rw vn (start_known w hn o)

    own_now : (c : ℕ) → held g votes (event ∷ s) 0 ≡ Some c → is_some (vote_of (record_of g (event ∷ s) 0) 0) ≡ true
    own_now c h =
        cases (eqb q 0)
        (λ w. let z = eqb-true q 0 w in
        subst (λ (x : ℕ). is_some (vote_of (record_of g (event ∷ s) x) x) ≡ true) z (own_at z (own_reading_at g small t r.valid) c (ap (held g votes (event ∷ s)) z ∙ h)))
        (λ w. rw (record_other g event s 0 w) (r.own_vote c (sym (held_other g votes event s 0 w) ∙ h)))

    pub ran_more : Ran (event ∷ s)
    unfolding each
    ran_more = record { valid = valid_now; taken = and_both (ap is_accepted taken_now) r.taken; plain = plain_now; turned = turned_now; own_vote = own_now }

  -- THE WHOLE ROUND
  module _ (in_range : last_slot_time n begin spacing < 2 ^ 28) where
    -- a fact that each entry leaves true, given what is so of the run before it, is true of the round
    pub by_run : (P : History → Type 0) → P [] → ((a q p i : ℕ) (s : History) → At n a q p i → Before n begin spacing a i s → Ran s → P s → P (event_of g s (draft_entry (slot_time begin spacing i) a q p) ∷ s))
        → Ran (history_after g [] (draft_entries n begin spacing)) × P (history_after g [] (draft_entries n begin spacing))
    by_run P none one =
        by_entry n begin spacing g (λ s. Ran s × P s) (ran_none, none)
        (λ a q p i s at u x. (ran_more at u x.0 (in_time_lem n begin spacing in_range i (facts at).in_round), one a q p i s at u x.0 x.1)) (omega arith)
