-- A run, one entry on; and the frames that were sent, told by their sender's record: its start by the mark "start sent", its votes
-- and adjusts by how many it sent, since their serials count them.
-- Main results: `goes_on`, `stops`, `stays_stopped`, `does_act`; `start_sent`, `sent_below`, `sent_now`, `sent_before`.
use Rattle.std.specs.Prelude.{Option, Some, None, is_some}
use mathlib.Core.Path.{◌≡◌, refl, sym, ◌∙◌, ap, subst}
use mathlib.Core.Bool.{Bool, true, false, cond, not, ◌&&◌, ◌||◌}
use mathlib.Core.List.{List, [], ◌∷◌}
use Prim.Native.Nat.{ℕ, zero, suc, ◌+◌, ◌<◌}
use native.Mathlib.Omega.{arith}
use lib.Dec.{ltb, eqb}
use borrow.Author.Tests.{eqb-true, eqb-false, lt-ltb, le-ltb, ltb-true}
use Rattle.protocol.specs.Types.{Phase, HeadRecord, Setting, Entry, Cause, Accepted, Refused, Stepped, Frame, NoFrame, Start, Vote, Adjust}
use Rattle.protocol.specs.Types.{Action, Look, StartSent, StartDelivered, StartConfirmed, VoteTurn, VoteDelivered, VoteClose, AdjustTurn, AdjustDelivered, AdjustClose}
use Rattle.protocol.specs.Words.{has_sender, setting_at, place_of, entry_at, entry_fits_at}
use Rattle.protocol.specs.Record.{fresh}
use Rattle.protocol.specs.Step.{with_last, vote, adjust, may_lead, may_adjust, outranks, act, taken_as, is_closed, take_action, action_of}
use Rattle.protocol.specs.Run.{Event, History, record_of, is_delivered_by, or_else, frame_sent, frame_of, is_frame, input_of, last_time, step_entry, stopped, ran, and_then, run_of}
use Rattle.protocol.proofs.Tests.{absurd_bool, cases, cond_elim, eqb_same}
use Rattle.protocol.proofs.Effects.{Kind, votes, adjusts, phase_of, delivery, number, named, some_number, passed_over, prepared, Sending, nothing, voting, adjusting, send, sending_of, prepared_sent, phase_last}
use Rattle.protocol.proofs.Effects as Effects
use Rattle.protocol.proofs.Fits.{not_accepted}
use Rattle.protocol.proofs.Valid.{base_of, Taken, Valid, start, more, record_other, by_head, of_effect, number_at, frame_fits, started_took}
use Rattle.protocol.proofs.Phases.{or_number, names, sent, names_other, sent_other, Turn, sends_none, sends_one, turn, serial_below}

-- THE RUN, ONE ENTRY ON

module _ (ws : List ℕ) (i : ℕ) {s : History} (now : run_of ws i ≡ ran s) where
  abbrev answer : Stepped
  answer = step_entry (setting_at ws) s (entry_fits_at ws i) (entry_at ws i)

  pub goes_on : answer.verdict ≡ Accepted → run_of ws (suc i) ≡ ran (record { entry = entry_at ws i; after = answer.after; frame = answer.frame } ∷ s)
  unfolding run_of and_then
  goes_on a = rw (now, a) refl

  pub stops : (c : Cause) → answer.verdict ≡ Refused c → run_of ws (suc i) ≡ stopped c (place_of i)
  unfolding run_of and_then
  stops c a = rw (now, a) refl

-- "One refused entry refuses the sheet"
pub stays_stopped : (ws : List ℕ) (i d : ℕ) (c : Cause) (p : ℕ) → run_of ws i ≡ stopped c p → run_of ws (d + i) ≡ stopped c p
unfolding run_of and_then
stays_stopped ws i zero c p h = let m : i ≡ 0 + i = omega arith in subst (λ (m : ℕ). run_of ws m ≡ stopped c p) m h
stays_stopped ws i (suc d) c p h =
    let m : suc (d + i) ≡ suc d + i = omega arith in
    subst (λ (m : ℕ). run_of ws m ≡ stopped c p) m (rw (stays_stopped ws i d c p h) refl)

-- what an accepted entry does is what its action does, or a look where that is without effect
abbrev asked : Setting → History → Entry → Action
asked g s e = taken_as (record_of g s e.head) (action_of (input_of e (frame_of s e)))

pub does_act : (g : Setting) (s : History) (fits : Bool) (e : Entry) → (step_entry g s fits e).verdict ≡ Accepted
    → step_entry g s fits e ≡ act (with_last (record_of g s e.head) e.reading) (asked g s e)
unfolding step_entry take_action
does_act g s fits e =
    cond_elim Does (not fits) (λ _. not_accepted _)
    (λ _. cond_elim Does (ltb e.time.0 (last_time s)) (λ _. not_accepted _)
    (λ _. cond_elim Does (ltb e.reading.0 (record_of g s e.head).last.0) (λ _. not_accepted _)
    (λ _. cond_elim Does (not (not (has_sender e.action) || is_frame (frame_of s e)) || is_closed (record_of g s e.head) (asked g s e))
    (λ _. not_accepted _) (λ _ _. refl))))
  where
    Does : Stepped → Type 0
    Does t = t.verdict ≡ Accepted → t ≡ act (with_last (record_of g s e.head) e.reading) (asked g s e)

-- A START SENT, BY THE MARK

or_else_none : (x : Frame) → or_else x NoFrame ≡ x
or_else_none NoFrame = refl
or_else_none Start = refl
or_else_none (Vote j c y) = refl
or_else_none (Adjust j c y) = refl

-- the frame of the event is another one
pub sent_before : (e : Event) (s : History) (a p k : ℕ) → (eqb e.entry.head p && is_delivered_by a k e.frame) ≡ false → frame_sent (e ∷ s) a p k ≡ frame_sent s a p k
unfolding frame_sent
sent_before e s a p k u = rw u (or_else_none (frame_sent s a p k))

-- a start is sent at action 1, and at no other
pub start_frame : (r m : HeadRecord) (a : Action) (k : ℕ) → is_delivered_by 2 k (send (sending_of r a) m).frame ≡ eqb (number a) 1
unfolding vote adjust
start_frame r m a k = go a
  where
    NoStart : Sending → Type 0
    NoStart x = is_delivered_by 2 k (send x m).frame ≡ false

    go : (a : Action) → is_delivered_by 2 k (send (sending_of r a) m).frame ≡ eqb (number a) 1
    go Look = refl
    go StartSent = refl
    go (StartDelivered p) = cond_elim NoStart r.adjust.closed (λ _. refl) (λ _. cond_elim NoStart (may_lead _) (λ _. refl) (λ _. refl))
    go StartConfirmed = refl
    go VoteTurn = cond_elim NoStart (may_lead (prepared r VoteTurn)) (λ _. refl) (λ _. refl)
    go (VoteDelivered p j c x) = cond_elim NoStart (passed_over votes r p j) (λ _. refl) (λ _. cond_elim NoStart (outranks c r.vote.choice) (λ _. refl) (λ _. refl))
    go VoteClose = refl
    go AdjustTurn = cond_elim NoStart (may_adjust (prepared r AdjustTurn)) (λ _. refl) (λ _. refl)
    go (AdjustDelivered p j c x) = cond_elim NoStart (passed_over adjusts r p j) (λ _. refl) (λ _. cond_elim NoStart (outranks c r.adjust.choice) (λ _. refl) (λ _. refl))
    go AdjustClose = refl

is_start : (x : Frame) (k : ℕ) → is_delivered_by 2 k x ≡ true → x ≡ Start
is_start NoFrame k e = absurd_bool e refl
is_start Start k e = refl
is_start (Vote j c y) k e = absurd_bool e refl
is_start (Adjust j c y) k e = absurd_bool e refl

module _ (g : Setting) where
  not_started : (p : ℕ) → (record_of g [] p).started ≡ false
  unfolding record_of fresh
  not_started p = refl

  -- the start that a head sent is told by its mark
  pub start_sent : {s : History} → Valid g s → (p k : ℕ) → frame_sent s 2 p k ≡ cond (record_of g s p).started Start NoFrame
  unfolding frame_sent
  start_sent start p k = rw (not_started p) refl
  start_sent (more {e = e} {s = s} t v) p k =
      by_head (λ p. frame_sent (e ∷ s) 2 p k ≡ cond (record_of g (e ∷ s) p).started Start NoFrame) e p
      (at_head (record_of g s e.entry.head).started refl (eqb e.entry.action 1) refl (start_sent v e.entry.head k))
      (λ d. sent_before e s 2 p k (rw d refl) ∙ start_sent v p k ∙ rw (record_other g e s p d) refl)
    where
      sends : is_delivered_by 2 k e.frame ≡ eqb e.entry.action 1
      sends = of_effect g (λ x. is_delivered_by 2 k x.frame ≡ eqb e.entry.action 1) t (start_frame (base_of g s e) _ t.action k ∙ number_at g t 1 refl)

      started_after : (record_of g (e ∷ s) e.entry.head).started ≡ (eqb e.entry.action 1 || (record_of g s e.entry.head).started)
      started_after = started_took g (more t v) e.entry.head ∙ rw (eqb_same e.entry.head, started_took g v e.entry.head) refl

      at_head : (b : Bool) → (record_of g s e.entry.head).started ≡ b → (c : Bool) → eqb e.entry.action 1 ≡ c → frame_sent s 2 e.entry.head k ≡ cond (record_of g s e.entry.head).started Start NoFrame
          → frame_sent (e ∷ s) 2 e.entry.head k ≡ cond (record_of g (e ∷ s) e.entry.head).started Start NoFrame
      at_head true u c w ih = rw (ih, started_after, u) (cases c (λ z. rw (w, z) refl) (λ z. rw (w, z) refl))
      at_head false u true w ih = rw (ih, started_after, u, eqb_same e.entry.head, sends, w) (is_start e.frame k (sends ∙ w))
      at_head false u false w ih = rw (ih, started_after, u, eqb_same e.entry.head, sends, w) refl

-- VOTES AND ADJUSTS SENT, BY THEIR NUMBER

module _ (g : Setting) (k : Kind) where
  -- each serial below the number of frames sent has its frame
  named_below : {s : History} → Valid g s → (p j : ℕ) → j < sent g k s p → is_some (names g k s p j) ≡ true
  unfolding record_of fresh
  named_below start p j = λ h. absurd (none_sent k h)
    where
      none_sent : (k : Kind) → j < (phase_of k (fresh g.n g.f p)).sent → ⊥
      none_sent votes h = omega arith
      none_sent adjusts h = omega arith
  named_below (more {e = e} {s = s} t v) p j =
      by_head (λ p. j < sent g k (e ∷ s) p → is_some (names g k (e ∷ s) p j) ≡ true) e p
      (at_head (turn g k t v) (named_below v e.entry.head j))
      (λ d h. ap is_some (names_other g k e s p j d) ∙ named_below v p j (subst (λ (i : ℕ). j < i) (sent_other g k e s p d) h))
    where
      kept : (m n : Option ℕ) → is_some m ≡ true → is_some (or_number m n) ≡ true
      kept None n h = absurd_bool h refl
      kept (Some c) n h = refl

      added : (m : Option ℕ) (c : ℕ) → is_some (or_number m (Some c)) ≡ true
      added None c = refl
      added (Some d) c = refl

      at_head : Turn g k s e → (j < sent g k s e.entry.head → is_some (names g k s e.entry.head j) ≡ true)
          → j < sent g k (e ∷ s) e.entry.head → is_some (names g k (e ∷ s) e.entry.head j) ≡ true
      at_head (sends_none z) ih h = ap is_some (z.names_same j) ∙ ih (subst (λ (i : ℕ). j < i) z.sent_same h)
      at_head (sends_one z) ih h =
          ap is_some (z.names_new j)
          ∙ cases (eqb (sent g k s e.entry.head) j)
          (λ t. rw t (added (names g k s e.entry.head j) z.choice))
          (λ t. kept (names g k s e.entry.head j) _ (ih (let x = z.sent_new in let y = eqb-false (sent g k s e.entry.head) j t in omega arith)))

  -- a frame of the phase names somebody
  named_frame : (j : ℕ) (x : Frame) → (is_frame x ≡ true → is_delivered_by (delivery k) j x ≡ true) → is_some (named x) ≡ is_frame x
  named_frame j NoFrame h = refl
  named_frame j Start h = absurd_bool (h refl) (no_start k)
    where
      no_start : (k : Kind) → is_delivered_by (delivery k) j Start ≡ false
      no_start votes = refl
      no_start adjusts = refl
  named_frame j (Vote i c x) h = refl
  named_frame j (Adjust i c x) h = refl

  -- the serials below the number of frames sent are those under which the head sent a frame
  pub sent_below : {s : History} → Valid g s → (p j : ℕ) → ltb j (sent g k s p) ≡ is_frame (frame_sent s (delivery k) p j)
  sent_below {s} v p j =
      cases (is_some (names g k s p j))
      (λ t. let c = some_number (names g k s p j) t in lt-ltb j (sent g k s p) (serial_below g k v p j c.0 c.1) ∙ sym t)
      (λ t. cases (ltb j (sent g k s p)) (λ u. absurd_bool (named_below v p j (ltb-true j (sent g k s p) u)) t) (λ u. u ∙ sym t))
      ∙ named_frame j (frame_sent s (delivery k) p j) (frame_fits s (delivery k) p j)

  -- a frame's serial is the number of frames sent before
  serial_counts : (x : Sending) (m : HeadRecord) (j : ℕ) → is_delivered_by (delivery k) j (send x m).frame ≡ true → (phase_of k m).sent ≡ j
  unfolding vote adjust
  serial_counts x m j = go k x
    where
      go : (k : Kind) (x : Sending) → is_delivered_by (delivery k) j (send x m).frame ≡ true → (phase_of k m).sent ≡ j
      go votes nothing h = absurd_bool h refl
      go votes Effects.start h = absurd_bool h refl
      go votes (voting c) h = eqb-true _ j h
      go votes (adjusting c y) h = absurd_bool h refl
      go adjusts nothing h = absurd_bool h refl
      go adjusts Effects.start h = absurd_bool h refl
      go adjusts (voting c) h = absurd_bool h refl
      go adjusts (adjusting c y) h = eqb-true _ j h

  -- so the frame that an event sends under it is the first
  unsent_before : {s : History} {e : Event} → Taken g s e → Valid g s → (j : ℕ) → is_delivered_by (delivery k) j e.frame ≡ true
      → is_frame (frame_sent s (delivery k) e.entry.head j) ≡ false
  unsent_before {s} {e} t v j =
      of_effect g (λ y. is_delivered_by (delivery k) j y.frame ≡ true → is_frame (frame_sent s (delivery k) e.entry.head j) ≡ false) t
      (λ h. let count : sent g k s e.entry.head ≡ j =
      ap (λ (p : Phase). p.sent) (sym (phase_last k _ _)) ∙ sym (prepared_sent k (base_of g s e) t.action) ∙ serial_counts (sending_of (base_of g s e) t.action) _ j h in
      sym (sent_below v e.entry.head j) ∙ le-ltb j (sent g k s e.entry.head) (omega arith))

  none_or_else : (x y : Frame) → is_frame x ≡ false → or_else x y ≡ y
  none_or_else NoFrame y h = refl
  none_or_else Start y h = absurd_bool refl h
  none_or_else (Vote j c x) y h = absurd_bool refl h
  none_or_else (Adjust j c x) y h = absurd_bool refl h

  pub sent_now : {s : History} {e : Event} → Taken g s e → Valid g s → (j : ℕ) → is_delivered_by (delivery k) j e.frame ≡ true
      → frame_sent (e ∷ s) (delivery k) e.entry.head j ≡ e.frame
  unfolding frame_sent
  sent_now {s} {e} t v j h =
      rw (eqb_same e.entry.head, h) (none_or_else (frame_sent s (delivery k) e.entry.head j) e.frame (unsent_before t v j h))
