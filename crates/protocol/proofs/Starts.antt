-- Start readings, and who may become a candidate: the start reading of v is that of v's last delivered start; a head that
-- waits for start readings holds at most f; whoever is voted for has confirmed its start.
-- Main results: `start_found`, `waits`, `frame_confirmed`, `candidate_confirmed`.
use Rattle.std.specs.Prelude.{Some, None, is_some}
use mathlib.Core.Path.{◌≡◌, refl, sym, ◌∙◌, ap, subst}
use mathlib.Core.Bool.{Bool, true, false, cond, not, ◌&&◌}
use mathlib.Core.List.{List, ◌∷◌}
use Prim.Native.Nat.{ℕ, ◌+◌, ◌≤◌}
use native.Mathlib.Omega.{arith}
use lib.Dec.{leb, eqb}
use lib.ListN.{set}
use borrow.Author.Tests.{eqb-true, eq-eqb, leb-false}
use Rattle.protocol.specs.Types.{Sender, HeadRecord, Setting, Stepped, Frame, NoFrame, Start, Vote, Adjust}
use Rattle.protocol.specs.Types.{Action, Look, StartSent, StartDelivered, StartConfirmed, VoteTurn, VoteDelivered, VoteClose, AdjustTurn, AdjustDelivered, AdjustClose}
use Rattle.protocol.specs.Words.{has_sender, heads_fit}
use Rattle.protocol.specs.Record.{kept_of, start_of, fresh}
use Rattle.protocol.specs.Step.{with_senders, vote, adjust, starts_held, may_lead, concluded, is_tested}
use Rattle.protocol.specs.Run.{Event, History, record_of, frame_sent, frame_of}
use Rattle.protocol.specs.Premises.{takes, receives, took, received, last_start}
use Rattle.protocol.proofs.Tests.{absurd_bool, cases, and_left, and_right, and_both, or_second, or_right, eqb_same, count_mono}
use Rattle.protocol.proofs.Moments.{Earlier, now, later}
use Rattle.protocol.proofs.Effects.{votes, adjusts, delivered_by, set_keeps, ignored, kept_after, column_kept, prepared, Sending, nothing, voting, adjusting, send, sending_of, none_is_some, early_now}
use Rattle.protocol.proofs.Effects as Effects
use Rattle.protocol.proofs.Valid.{base_of, Taken, Valid, start, more, record_other, by_head, invariant, kept_next, kept_at, confirmed_took}
use Rattle.protocol.proofs.Ranges.{run_in_range}
use Rattle.protocol.proofs.Phases.{held, names, names_other, Origin, own, reached, turn, was_open, frame_new, last_frame, held_sent}

-- a frame that action 2 delivers is a start
is_start : (x : Frame) → delivered_by x ≡ 2 → x ≡ Start
is_start NoFrame e = absurd (omega arith)
is_start Start e = refl
is_start (Vote j c y) e = absurd (omega arith)
is_start (Adjust j c y) e = absurd (omega arith)

-- a frame that is no start leaves the start reading
start_kept : (r : HeadRecord) (p : ℕ) (x : Frame) → eqb (delivered_by x) 2 ≡ false → (kept_after r p x).start ≡ start_of r p
start_kept r p NoFrame e = refl
start_kept r p Start e = absurd_bool refl e
start_kept r p (Vote j c y) e = refl
start_kept r p (Adjust j c y) e = refl

-- a head that has taken its turn, with the vote open and no candidate, holds at most f start readings
abbrev pub Waiting : HeadRecord → Type 0
Waiting r = r.vote.turn ≡ true → r.vote.closed ≡ false → r.vote.choice ≡ None → starts_held r ≤ r.f

-- no more start readings, turn taken no later, closed no earlier: still waiting
waiting_same : (r m : HeadRecord) → m.n ≡ r.n → m.f ≡ r.f → (m.vote.turn ≡ true → r.vote.turn ≡ true) → (m.vote.closed ≡ false → r.vote.closed ≡ false)
    → m.vote.choice ≡ r.vote.choice → ((v : ℕ) → start_of m v ≡ start_of r v) → Waiting r → Waiting m
unfolding starts_held
waiting_same r m en ef tu cl ch st w a b c =
    let less : starts_held m ≤ starts_held r = rw en (count_mono r.n (λ p. is_some (start_of m p)) (λ p. is_some (start_of r p)) (λ p l h. rw (st p) at h)) in
    let few = w (tu a) (cl b) (sym ch ∙ c) in
    omega arith

-- a head that has sent has a candidate, or is as it was
waiting_send : (x : Sending) (m : HeadRecord) → Waiting m → Waiting (send x m).after
unfolding vote adjust starts_held
waiting_send nothing m w = w
waiting_send Effects.Sending.start m w = w
waiting_send (voting c) m w = λ a b h. none_is_some (sym h)
waiting_send (adjusting c x) m w =
    waiting_same m (send (adjusting c x) m).after refl refl (λ h. h) (λ h. h) refl (λ v. set_keeps (λ z. z.start) m.senders m.own v _ refl) w

-- after 2 and 4 a head that does not vote waits
waiting_lead : (m : HeadRecord) (c : ℕ) → Waiting (send (cond (may_lead m) (voting c) nothing) m).after
unfolding may_lead vote starts_held
waiting_lead m c = go (may_lead m) refl
  where
    go : (b : Bool) → may_lead m ≡ b → Waiting (send (cond b (voting c) nothing) m).after
    go true u = λ a b h. none_is_some (sym h)
    go false u = λ a b h.
        let few : leb (m.f + 1) (starts_held m) ≡ false = (rw (a, b, h) at u) in
        let lt = leb-false (m.f + 1) (starts_held m) few in
        omega arith

waiting_effect : (r : HeadRecord) (a : Action) → Waiting r → Waiting (send (sending_of r a) (prepared r a)).after
unfolding starts_held
waiting_effect r Look w = waiting_send nothing (prepared r Look) w
waiting_effect r StartSent w = waiting_send Effects.Sending.start (prepared r StartSent) w
waiting_effect r (StartDelivered p) w = go r.adjust.closed
  where
    l : List Sender
    l = set r.senders p (kept_after r p Start)

    go : (b : Bool) → Waiting (send (cond b nothing (cond (may_lead (with_senders r l)) (voting r.own) nothing)) (with_senders r (cond b r.senders l))).after
    go true = w
    go false = waiting_lead (with_senders r l) r.own
waiting_effect r StartConfirmed w = waiting_send nothing (prepared r StartConfirmed) w
waiting_effect r VoteTurn w = waiting_lead (prepared r VoteTurn) r.own
waiting_effect r (VoteDelivered p k c x) w =
    waiting_send (sending_of r (VoteDelivered p k c x)) (prepared r (VoteDelivered p k c x))
    (waiting_same r (prepared r (VoteDelivered p k c x)) refl refl (λ h. h) (λ h. h) refl (λ v. column_kept (λ z. z.start) r p (Vote k c x) v refl) w)
waiting_effect r VoteClose w = waiting_send nothing (prepared r VoteClose) (λ a b h. absurd_bool refl b)
waiting_effect r AdjustTurn w = waiting_send (sending_of r AdjustTurn) (prepared r AdjustTurn) w
waiting_effect r (AdjustDelivered p k c x) w =
    waiting_send (sending_of r (AdjustDelivered p k c x)) (prepared r (AdjustDelivered p k c x))
    (waiting_same r (prepared r (AdjustDelivered p k c x)) refl refl (λ h. h) (λ h. h) refl (λ v. column_kept (λ z. z.start) r p (Adjust k c x) v refl) w)
waiting_effect r AdjustClose w = waiting_send nothing (prepared r AdjustClose) w

-- the test at the end of a step opens nothing
waiting_concluded : (tested : Bool) (t : Stepped) → Waiting t.after → Waiting (concluded tested t).after
unfolding starts_held
waiting_concluded tested t w a b c = w a (or_right (early_now votes tested t.after) _ b) c

-- the delivery that gave a start reading
pub record StartAt (g : Setting) (s : History) (q v : ℕ) : Type 0 where
  pub event : Event
  pub past : History
  pub there : Earlier (event ∷ past) s
  pub is_start : receives 2 v 0 q event ≡ true
  pub reading_is : start_of (record_of g s q) v ≡ Some event.entry.reading
  pub time_is : last_start s v q ≡ event.entry.time.0

module _ (g : Setting) (small : g.n ≤ 16) where
  start_at : {s : History} {e : Event} (t : Taken g s e) → Valid g s → (v : ℕ) → start_of (record_of g (e ∷ s) e.entry.head) v ≡ (kept_next g s e v).start
  start_at t v w = kept_at g (λ k. k.start) (λ k x c a. refl) t v small w

  -- action 2 is what delivers a start
  delivers_start : {s : History} {e : Event} → Taken g s e → e.entry.action ≡ 2 → frame_of s e.entry ≡ Start
  delivers_start t a = is_start _ (t.asked.frame_is ∙ rw a refl)

  start_new : {s : History} {e : Event} (t : Taken g s e) → Valid g s → (v : ℕ) → receives 2 v 0 e.entry.head e ≡ true → (record_of g s e.entry.head).adjust.closed ≡ false
      → start_of (record_of g (e ∷ s) e.entry.head) v ≡ Some e.entry.reading
  start_new {s} {e} t w v h o =
      let is = delivers_start t (eqb-true _ 2 (and_right (eqb e.entry.head e.entry.head) _ (and_left (takes 2 e.entry.head e) _ h))) in
      let from = and_left (eqb e.entry.sender v) _ (and_right (takes 2 e.entry.head e) _ h) in
      start_at t w v ∙ rw (is, o, from) refl

  pub start_same : {s : History} {e : Event} (t : Taken g s e) → Valid g s → (v : ℕ) → receives 2 v 0 e.entry.head e ≡ false
      → start_of (record_of g (e ∷ s) e.entry.head) v ≡ start_of (record_of g s e.entry.head) v
  start_same {s} {e} t w v h = start_at t w v ∙ go (ignored (base_of g s e) e.entry.sender x) (eqb e.entry.sender v) refl
    where
      x : Frame
      x = frame_of s e.entry

      other : eqb e.entry.sender v ≡ true → eqb (delivered_by x) 2 ≡ false
      other d =
          cases (eqb (delivered_by x) 2)
          (λ u. let two = eqb-true (delivered_by x) 2 u in
          let a : e.entry.action ≡ 2 = action_two (has_sender e.entry.action) (sym t.asked.frame_is ∙ two) in
          let k : e.entry.serial ≡ 0 = sym t.asked.serial_is ∙ rw (is_start x two) refl in
          absurd_bool (and_both (and_both (eqb_same e.entry.head) (eq-eqb e.entry.action 2 a)) (and_both d (eq-eqb e.entry.serial 0 k))) h)
          (λ u. u)
        where
          action_two : (b : Bool) → cond b e.entry.action 0 ≡ 2 → e.entry.action ≡ 2
          action_two true u = u
          action_two false u = absurd (omega arith)

      go : (i d : Bool) → eqb e.entry.sender v ≡ d → (cond (not i && d) (kept_after (base_of g s e) e.entry.sender x) (kept_of (record_of g s e.entry.head) v)).start ≡ start_of (record_of g s e.entry.head) v
      go true d u = refl
      go false false u = refl
      go false true u = start_kept (base_of g s e) e.entry.sender x (other u) ∙ rw (eqb-true _ v u) refl

  -- the start reading of v is that of v's last delivered start, until the adjust close: after an event that found the adjust
  -- phase open, if it was so before
  start_step : {s : History} {e : Event} → Taken g s e → Valid g s → (q v : ℕ) → received 2 v 0 q (e ∷ s) ≡ true → (record_of g s q).adjust.closed ≡ false
      → (received 2 v 0 q s ≡ true → StartAt g s q v) → StartAt g (e ∷ s) q v
  unfolding last_start
  start_step {s} {e} t w q v =
      by_head (λ q. received 2 v 0 q (e ∷ s) ≡ true → (record_of g s q).adjust.closed ≡ false → (received 2 v 0 q s ≡ true → StartAt g s q v) → StartAt g (e ∷ s) q v) e q
      (λ h o ih. go (receives 2 v 0 e.entry.head e) refl h ih o)
      (λ d h o ih. on (ap (λ (r : HeadRecord). start_of r v) (record_other g e s q d)) (rw d refl) (ih (rw d at h)))
    where
      on : {q : ℕ} → start_of (record_of g (e ∷ s) q) v ≡ start_of (record_of g s q) v → receives 2 v 0 q e ≡ false → StartAt g s q v → StartAt g (e ∷ s) q v
      on eq none b = record { event = b.event; past = b.past; there = later b.there; is_start = b.is_start; reading_is = eq ∙ b.reading_is; time_is = rw none b.time_is }

      go : (b : Bool) → receives 2 v 0 e.entry.head e ≡ b → received 2 v 0 e.entry.head (e ∷ s) ≡ true
          → (received 2 v 0 e.entry.head s ≡ true → StartAt g s e.entry.head v) → (record_of g s e.entry.head).adjust.closed ≡ false → StartAt g (e ∷ s) e.entry.head v
      go true u h ih o = record { event = e; past = s; there = now; is_start = u; reading_is = start_new t w v u o; time_is = rw u refl }
      go false u h ih o = on (start_same t w v u) u (ih (rw u at h))

  pub start_found : {s : History} → Valid g s → (q v : ℕ) → received 2 v 0 q s ≡ true → (record_of g s q).adjust.closed ≡ false → StartAt g s q v
  start_found start q v h o = absurd_bool h refl
  start_found (more t w) q v h o = let before = was_open g adjusts t w q o in start_step t w q v h before (λ i. start_found w q v i before)

  -- an event that closes the adjust phase has its effect first
  pub start_after : {s : History} {e : Event} → Taken g s e → Valid g s → (q v : ℕ) → received 2 v 0 q (e ∷ s) ≡ true → (record_of g s q).adjust.closed ≡ false → StartAt g (e ∷ s) q v
  start_after t w q v h o = start_step t w q v h o (λ i. start_found w q v i o)

  -- every head waits so at every moment
  pub waits : {s : History} → Valid g s → (q : ℕ) → Waiting (record_of g s q)
  unfolding fresh starts_held
  waits = invariant g (λ q r. Waiting r) (λ q a. absurd_bool a refl) (λ s e t v w. waiting_concluded (is_tested (base_of g s e) t.action) (send (sending_of (base_of g s e) t.action) (prepared (base_of g s e) t.action)) (waiting_effect (base_of g s e) t.action w))

  -- (d) WHOEVER IS VOTED FOR HAS CONFIRMED ITS START
  module _ (fit : heads_fit g.n g.f ≡ true) where
    pub frame_confirmed : {s : History} → Valid g s → (p j c : ℕ) → names g votes s p j ≡ Some c → took 3 c s ≡ true
    unfolding frame_sent
    frame_confirmed start p j c = none_is_some
    frame_confirmed (more {e = e} {s = s} t v) p j c =
        by_head (λ p. names g votes (e ∷ s) p j ≡ Some c → took 3 c (e ∷ s) ≡ true) e p
        (frame_new g votes (λ j c. took 3 c (e ∷ s) ≡ true) (turn g votes t v) (λ j c h. or_second (takes 3 c e) _ (frame_confirmed v e.entry.head j c h))
        (λ z. new z.choice z.origin (frame_confirmed v)) j c)
        (λ d h. or_second (takes 3 c e) _ (frame_confirmed v p j c (sym (names_other g votes e s p j d) ∙ h)))
      where
        new : (c : ℕ) → Origin g votes s e c → ((p j c : ℕ) → names g votes s p j ≡ Some c → took 3 c s ≡ true) → took 3 c (e ∷ s) ≡ true
        new c (own is none tu) ih =
            subst (λ (q : ℕ). took 3 q (e ∷ s) ≡ true) (sym is) (sym (confirmed_took g (more t v) e.entry.head) ∙ (run_in_range fit (more t v) e.entry.head t.head_below).marks.turn tu)
        new c (reached a n) ih = or_second (takes 3 c e) _ (ih _ _ c n)

    pub candidate_confirmed : {s : History} → Valid g s → (q c : ℕ) → held g votes s q ≡ Some c → took 3 c s ≡ true
    candidate_confirmed {s} v q c h =
        let j = held_sent g votes v q c h in
        let f = last_frame g votes v q j.0 j.1 in
        frame_confirmed v q j.0 c (f.names_it ∙ sym f.holds ∙ h)
