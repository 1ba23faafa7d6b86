-- Record ranges are kept by every step and every run, so a replay never meets cause 10.
-- The test of cause 10 is turned into facts. A fresh record has them, and an action that is not closed keeps them, in
-- both parts of its effect and in the test at its end. What is kept of a frame in range is in range, and a mark is set only after
-- those that it asks for. A head that sends names itself or whom the frame named, and each choice outranks the last one, so that with k frames
-- sent the choice is at most n − k. An adjustment is carried, or it is a median of readings in range. After any vote the other
-- readings that are left are for the candidate, whatever was kept; no other action brings one for another.
-- Main results: `in_range`, `range_test`, `effect_in_range`, `take_in_range`, `step_in_range`,
-- `fresh_in_range`, `run_in_range`, `frames_in_range`, `votes_below`.
use Rattle.std.specs.Prelude.{Option, Some, None, is_some, unwrap_or}
use mathlib.Core.Path.{◌≡◌, refl, sym, ◌∙◌, ap, subst}
use mathlib.Core.Bool.{Bool, true, false, cond, not, ◌&&◌, ◌||◌}
use mathlib.Core.List.{List, ◌∷◌}
use mathlib.Core.Logic.{◌≢◌}
use Prim.Native.Nat.{ℕ, zero, suc, ◌+◌, ◌*◌, ◌^◌, ◌≤◌, ◌<◌}
use native.Mathlib.Omega.{arith}
use lib.Dec.{ltb, leb, eqb, lit<}
use lib.ListN.{get_or, set, replicate, get_or-replicate}
use lib.Seq.{get_or-set_other}
use borrow.Author.Tests.{eqb-true, eqb-false, eq-eqb, ltb-true, ltb-false, lt-ltb, le-ltb, leb-true, le-leb}
use Rattle.protocol.specs.Base.{◌⇒◌}
use Rattle.protocol.specs.Types.{Reading, Sender, HeadRecord, Setting, Input, Stepped, Frame, NoFrame, Start, Vote, Adjust}
use Rattle.protocol.specs.Types.{Action, Look, StartSent, StartDelivered, StartConfirmed, VoteTurn, VoteDelivered, VoteClose, AdjustTurn, AdjustDelivered, AdjustClose}
use Rattle.protocol.specs.Words.{heads_fit}
use Rattle.protocol.specs.Record.{reading_or0, reading, no_sender, kept_of, start_of, vote_of, fresh, reading_in_range, serial_in_range, name_in_range, sender_in_range, sender_is_none, same_number, reading_counts, sent_in_range, phase_in_range, marks_in_range, record_in_range}
use Rattle.protocol.specs.Step.{with_vote_reading, with_candidate, with_adjuster, with_last, keep_vote, kept_for, drop_others, accepted, vote, adjust, prepend, vote_readings, outranks, candidate_after, effect, is_closed, may_close, close_early, concluded, is_tested, act, taken_as, take_action, actions_of, action_of, input_fits, step}
use Rattle.protocol.specs.Run.{History, record_of, is_delivered_by, or_else, frame_sent, carried_reading}
use Rattle.protocol.proofs.Tests.{absurd_bool, cases, cond_elim, not_true, not_false, parts, and_left, and_right, and_both, or_left, or_right, or_first, or_second, or_cases, implied, implies, all_below_lem, below_all}
use Rattle.protocol.proofs.Ranks.{every_at}
pub use Rattle.protocol.proofs.Ranks.{Every}
use Rattle.protocol.proofs.Medians.{median_below}
use Rattle.protocol.proofs.Effects.{Kind, votes, adjusts, phase_of, taken_of, latest_of, number, passed_over, named_in, sending_of, column_kept, set_keeps, kept_for_at, Delivery, no_delivery, delivery_in, serial_of, named, set_holds, ignored, kept_after, prepared, Sending, nothing, voting, adjusting, send, effect_split, Why, itself, told, Naming, Source, computed, passed_on, Allowed, sends_nothing, sends_start, sends_vote, sends_adjust, no_number, allowed, none_is_some, closed_last, early_now, taken_as_lem, taken_delivery}
use Rattle.protocol.proofs.Effects as Effects
use Rattle.protocol.proofs.Valid.{base_of, Valid, start, more, heads_fit_lem, record_at, record_other, by_head, delivery_at, fixed}

-- THE RANGES AS FACTS; a reading or a number that is none counts as 0, which is in every range

-- what is kept by one sender of n
pub record SenderInRange (n : ℕ) (s : Sender) : Type 0 where
  pub start : reading_or0 s.start < 2 ^ 28
  pub vote : reading_or0 s.vote < 2 ^ 28
  pub serial : (k : Kind) → unwrap_or (taken_of k s) 0 ≤ 15
  pub latest : (k : Kind) → unwrap_or (latest_of k s) 0 < n

-- what is kept by sender p of n
pub record KeptInRange (n p : ℕ) (s : Sender) : Type 0 where
  pub below : p < n → SenderInRange n s
  pub above : n ≤ p → p < 16 → s ≡ no_sender

-- a phase's choice and the number of frames sent in it
abbrev pub SentInRange : ℕ → Option ℕ → ℕ → Type 0
SentInRange n None sent = sent ≡ 0
SentInRange n (Some v) sent = (1 ≤ sent) × (sent + v ≤ n)

-- the marks, by what each asks for
abbrev pub MarksInRange : HeadRecord → Type 0
MarksInRange r =
    record {
      confirmed : r.confirmed ≡ true → r.started ≡ true;
      turn : r.vote.turn ≡ true → r.confirmed ≡ true;
      adjusting : (r.adjust.turn || r.adjust.closed) ≡ true → r.vote.closed ≡ true;
    }

-- what is kept of a sender fits the candidate m: a vote reading only with a latest vote that names m
abbrev pub fits_for : Option ℕ → Sender → Bool
fits_for m k = is_some k.vote ⇒ same_number k.candidate m

-- so it is with every other sender
abbrev pub Counted : HeadRecord → Type 0
Counted r = (p : ℕ) → p < r.n → p ≢ r.own → fits_for r.vote.choice (kept_of r p) ≡ true

pub record InRange (r : HeadRecord) : Type 0 where
  pub heads : (2 ≤ r.n) × (r.n ≤ 16) × (2 * r.f + 1 ≤ r.n)
  pub own : r.own < r.n
  pub last : r.last.0 < 2 ^ 28
  pub adjustment : r.adjustment.0 < 2 ^ 28
  pub unadjusted : r.adjust.choice ≡ None → r.adjustment.0 ≡ 0
  pub phase : (k : Kind) → SentInRange r.n (phase_of k r).choice (phase_of k r).sent
  pub early : (k : Kind) → (phase_of k r).early ≡ true → (phase_of k r).closed ≡ true
  pub marks : MarksInRange r
  pub kept : (p : ℕ) → KeptInRange r.n p (kept_of r p)
  pub counted : Counted r

-- what a frame carries, an action with the frame that it delivers, and an answer
pub record FrameInRange (n : ℕ) (x : Frame) : Type 0 where
  pub serial : serial_of x ≤ 15
  pub choice : unwrap_or (named x) 0 < n
  pub reading : reading_or0 (carried_reading x) < 2 ^ 28

pub record DeliveryInRange (n : ℕ) (d : Delivery) : Type 0 where
  pub sender : d.sender < n
  pub frame : FrameInRange n d.frame

abbrev pub ActionInRange : ℕ → Action → Type 0
ActionInRange n a = DeliveryInRange n (delivery_in a)

abbrev pub AnswerInRange : ℕ → Stepped → Type 0
AnswerInRange n t = InRange t.after × FrameInRange n t.frame

pub for_both : (P : Kind → Type 0) → P votes → P adjusts → (k : Kind) → P k
for_both P v a votes = v
for_both P v a adjusts = a

-- THE TEST OF CAUSE 10 SAYS THE SAME

reading_test : (x : Option Reading) → reading_in_range x ≡ ltb (reading_or0 x) (2 ^ 28)
reading_test None = refl
reading_test (Some x) = refl

serial_test : (m : Option ℕ) → serial_in_range m ≡ leb (unwrap_or m 0) 15
serial_test None = refl
serial_test (Some k) = refl

name_test : (n : ℕ) → 0 < n → (m : Option ℕ) → name_in_range n m ≡ ltb (unwrap_or m 0) n
name_test n h None = sym (lt-ltb 0 n h)
name_test n h (Some c) = refl

no_reading : (x : Option Reading) → is_some x ≡ false → x ≡ None
no_reading None e = refl
no_reading (Some x) e = absurd_bool refl e

sender_in_range_lem : (n : ℕ) → 0 < n → {s : Sender} → sender_in_range n s ≡ true → SenderInRange n s
unfolding sender_in_range
sender_in_range_lem n b e =
    let t = simp (reading_test, serial_test, name_test n b) at e in
    record {
      start = ltb-true _ _ (search parts);
      vote = ltb-true _ _ (search parts);
      serial = for_both _ (leb-true _ _ (search parts)) (leb-true _ _ (search parts));
      latest = for_both _ (ltb-true _ _ (search parts depth 6)) (ltb-true _ _ (search parts depth 6));
    }

sender_test : (n : ℕ) → 0 < n → {s : Sender} → SenderInRange n s → sender_in_range n s ≡ true
unfolding sender_in_range
sender_test n b h =
    simp (reading_test, serial_test, name_test n b, lt-ltb _ _ h.start, lt-ltb _ _ h.vote, le-leb _ _ (h.serial votes), le-leb _ _ (h.serial adjusts), lt-ltb _ _ (h.latest votes), lt-ltb _ _ (h.latest adjusts))

nothing_kept : (s : Sender) → sender_is_none s ≡ true → s ≡ no_sender
unfolding sender_is_none
nothing_kept s e =
    let a = no_reading s.start (not_true (search parts)) in
    let b = no_reading s.vote (not_true (search parts)) in
    let c = no_number s.voted (not_true (search parts)) in
    let d = no_number s.adjusted (not_true (search parts)) in
    let v = no_number s.candidate (not_true (search parts depth 6)) in
    let w = no_number s.adjuster (not_true (search parts depth 6)) in
    λ i. record { start = a i; vote = b i; voted = c i; adjusted = d i; candidate = v i; adjuster = w i }

sent_in_range_lem : (n : ℕ) (m : Option ℕ) (sent : ℕ) → sent_in_range n m sent ≡ true → SentInRange n m sent
sent_in_range_lem n None sent e = eqb-true sent 0 e
sent_in_range_lem n (Some v) sent e = (leb-true _ _ (search parts), leb-true _ _ (search parts))

sent_test : (n : ℕ) (m : Option ℕ) (sent : ℕ) → SentInRange n m sent → sent_in_range n m sent ≡ true
sent_test n None sent h = eq-eqb sent 0 h
sent_test n (Some v) sent h = and_both (lt-ltb v n (omega arith)) (and_both (le-leb _ _ h.0) (le-leb _ _ h.1))

adjustment_test : (m : Option ℕ) (x : ℕ) → (m ≡ None → x ≡ 0) → (is_some m || eqb x 0) ≡ true
adjustment_test None x f = eq-eqb x 0 (f refl)
adjustment_test (Some v) x f = refl

counts_fact : (r : HeadRecord) (p : ℕ) → reading_counts r p ≡ true → p ≢ r.own → fits_for r.vote.choice (kept_of r p) ≡ true
unfolding reading_counts
counts_fact r p e other = or_cases (eqb p r.own) _ e (λ t. absurd (other (eqb-true p r.own t))) (λ t. t)

counts_test : (r : HeadRecord) (p : ℕ) → (p ≢ r.own → fits_for r.vote.choice (kept_of r p) ≡ true) → reading_counts r p ≡ true
unfolding reading_counts
counts_test r p f = cases (eqb p r.own) (λ t. or_first (eqb p r.own) _ t) (λ t. or_second (eqb p r.own) _ (f (eqb-false p r.own t)))

abbrev kept_test : HeadRecord → ℕ → Bool
kept_test r p = cond (ltb p r.n) (sender_in_range r.n (kept_of r p) && reading_counts r p) (sender_is_none (kept_of r p))

kept_test_lem : {r : HeadRecord} → InRange r → (p : ℕ) → p < 16 → kept_test r p ≡ true
unfolding sender_is_none
kept_test_lem {r} h p b = cases (ltb p r.n) (λ t. let l = ltb-true _ _ t in rw t (and_both (sender_test r.n (omega (arith, h.heads.0)) ((h.kept p).below l)) (counts_test r p (h.counted p l)))) (λ t. rw (t, (h.kept p).above (ltb-false _ _ t) b) refl)

pub in_range : {r : HeadRecord} → record_in_range r ≡ true → InRange r
unfolding record_in_range phase_in_range marks_in_range
in_range {r} e =
    let heads = heads_fit_lem r.n r.f (search parts) in
    let tested = all_below_lem 16 (kept_test r) (search parts depth 9) in
    record {
      heads = heads;
      own = ltb-true _ _ (search parts);
      last = ltb-true _ _ (search parts);
      adjustment = ltb-true _ _ (search parts);
      unadjusted = λ u. or_cases (is_some r.adjust.choice) (eqb r.adjustment.0 0) (search parts) (λ t. absurd_bool t (rw u refl)) (eqb-true _ 0);
      phase = for_both _ (sent_in_range_lem r.n r.vote.choice r.vote.sent (search parts depth 9)) (sent_in_range_lem r.n r.adjust.choice r.adjust.sent (search parts depth 9));
      early = for_both _ (implied r.vote.early _ (search parts depth 9)) (implied r.adjust.early _ (search parts depth 9));
      marks = record { confirmed = implied r.confirmed _ (search parts depth 9); turn = implied r.vote.turn _ (search parts depth 10); adjusting = implied (r.adjust.turn || r.adjust.closed) _ (search parts depth 10) };
      kept = λ p. record { below = λ b. sender_in_range_lem r.n (omega arith) (and_left _ _ (rw (lt-ltb p r.n b) at (tested p (omega arith)))); above = λ a b. nothing_kept _ (rw (le-ltb p r.n a) at (tested p b)) };
      counted = λ p b. counts_fact r p (and_right (sender_in_range r.n (kept_of r p)) _ (rw (lt-ltb p r.n b) at (tested p (omega arith))));
    }

pub range_test : {r : HeadRecord} → InRange r → record_in_range r ≡ true
unfolding record_in_range phase_in_range marks_in_range
range_test {r} h =
    let heads : heads_fit r.n r.f ≡ true = and_both (le-leb _ _ h.heads.0) (and_both (le-leb _ _ h.heads.1) (le-leb _ _ h.heads.2)) in
    let phase : (k : Kind) → phase_in_range r.n (phase_of k r) ≡ true = λ k. and_both (sent_test r.n (phase_of k r).choice (phase_of k r).sent (h.phase k)) (implies _ _ (h.early k)) in
    let marks : marks_in_range r ≡ true = and_both (implies _ _ h.marks.confirmed) (and_both (implies _ _ h.marks.turn) (implies _ _ h.marks.adjusting)) in
    and_both heads (and_both (lt-ltb _ _ h.own) (and_both (lt-ltb _ _ h.last) (and_both (lt-ltb _ _ h.adjustment) (and_both (adjustment_test _ _ h.unadjusted)
    (and_both (phase votes) (and_both (phase adjusts) (and_both marks (below_all 16 (kept_test r) (kept_test_lem h)))))))))

-- THE VOTE READINGS

-- what holds of each vote reading that is held holds of every number that the median is taken of
pub every_vote_reading : (P : ℕ → Type 0) (r : HeadRecord) (k : ℕ) → ((p : ℕ) → p < k → (x : Reading) → vote_of r p ≡ Some x → P x.0) → Every P (vote_readings r k)
unfolding vote_readings
every_vote_reading P r zero h = tt
every_vote_reading P r (suc p) h = first (vote_of r p) (h p (omega arith)) (every_vote_reading P r p (λ q l. h q (omega arith)))
  where
    first : (x : Option Reading) → ((y : Reading) → x ≡ Some y → P y.0) → Every P (vote_readings r p) → Every P (prepend x (vote_readings r p))
    first None h' e = e
    first (Some x) h' e = (h' x refl, e)

vote_readings_below : (r : HeadRecord) → ((p : ℕ) → KeptInRange r.n p (kept_of r p)) → Every (λ x. x < 2 ^ 28) (vote_readings r r.n)
vote_readings_below r h = every_vote_reading (λ x. x < 2 ^ 28) r r.n (λ p l x e. subst (λ (y : Option Reading). reading_or0 y < 2 ^ 28) e ((h p).below l).vote)

-- AN EFFECT: first what is kept of the action

set_in_range : {n : ℕ} (l : List Sender) (p : ℕ) (s : Sender) → p < n → SenderInRange n s → ((q : ℕ) → KeptInRange n q (get_or l q no_sender))
    → (q : ℕ) → KeptInRange n q (get_or (set l p s) q no_sender)
set_in_range {n} l p s b h k = set_holds (KeptInRange n) l p s (record { below = λ _. h; above = λ a _. absurd (omega arith) }) k

-- a reading that is dropped is in range
kept_for_below : {n : ℕ} (v : Option ℕ) (s : Sender) → SenderInRange n s → SenderInRange n (kept_for v s)
kept_for_below v s h =
    record {
      start = h.start;
      vote = cond_elim (λ (y : Option Reading). reading_or0 y < 2 ^ 28) (same_number s.candidate v) (λ _. h.vote) (λ _. omega arith);
      serial = for_both _ (h.serial votes) (h.serial adjusts);
      latest = for_both _ (h.latest votes) (h.latest adjusts);
    }

dropped_in_range : {n : ℕ} (c : ℕ) (m : HeadRecord) → ((q : ℕ) → KeptInRange n q (kept_of m q)) → (q : ℕ) → KeptInRange n q (kept_of (drop_others c m) q)
dropped_in_range {n} c m k q =
    subst (KeptInRange n q) (sym (kept_for_at c m q))
    (record { below = λ b. kept_for_below (Some c) (kept_of m q) ((k q).below b); above = λ a b. ap (kept_for (Some c)) ((k q).above a b) })

kept_after_in_range : {r : HeadRecord} (p : ℕ) (x : Frame) → InRange r → p < r.n → FrameInRange r.n x → SenderInRange r.n (kept_after r p x)
kept_after_in_range p NoFrame h b f = (h.kept p).below b
kept_after_in_range p Start h b f = let s = (h.kept p).below b in record { start = h.last; vote = s.vote; serial = for_both _ (s.serial votes) (s.serial adjusts); latest = for_both _ (s.latest votes) (s.latest adjusts) }
kept_after_in_range {r} p (Vote j c x) h b f =
    let s = (h.kept p).below b in
    kept_for_below (candidate_after c r.vote.choice) (keep_vote (kept_of r p) j c x) (record { start = s.start; vote = f.reading; serial = for_both _ f.serial (s.serial adjusts); latest = for_both _ f.choice (s.latest adjusts) })
kept_after_in_range p (Adjust j c x) h b f = let s = (h.kept p).below b in record { start = s.start; vote = s.vote; serial = for_both _ (s.serial votes) f.serial; latest = for_both _ (s.latest votes) f.choice }

-- an action that is not closed finds the marks that its own asks for
prepared_marks : (r : HeadRecord) (a : Action) → is_closed r a ≡ false → MarksInRange r → MarksInRange (prepared r a)
unfolding is_closed
prepared_marks r Look o h = h
prepared_marks r StartSent o h = record { confirmed = λ _. refl; turn = h.turn; adjusting = h.adjusting }
prepared_marks r (StartDelivered p) o h = h
prepared_marks r StartConfirmed o h = record { confirmed = λ _. not_false (or_left (not r.started) _ o); turn = λ _. refl; adjusting = h.adjusting }
prepared_marks r VoteTurn o h = record { confirmed = h.confirmed; turn = λ _. not_false (or_left (not r.confirmed) _ o); adjusting = h.adjusting }
prepared_marks r (VoteDelivered p k c x) o h = h
prepared_marks r VoteClose o h = record { confirmed = h.confirmed; turn = h.turn; adjusting = λ _. refl }
prepared_marks r AdjustTurn o h = record { confirmed = h.confirmed; turn = h.turn; adjusting = λ _. not_false (or_left (not r.vote.closed) _ o) }
prepared_marks r (AdjustDelivered p k c x) o h = h
prepared_marks r AdjustClose o h = record { confirmed = h.confirmed; turn = h.turn; adjusting = λ _. not_false (or_left (not r.vote.closed) _ o) }

-- WHICH VOTE READINGS COUNT

kept_for_counts : (v : Option ℕ) (k : Sender) → fits_for v (kept_for v k) ≡ true
kept_for_counts v k =
    cond_elim (λ (x : Option Reading). (is_some x ⇒ same_number k.candidate v) ≡ true) (same_number k.candidate v)
    (λ t. implies (is_some k.vote) _ (λ _. t)) (λ _. refl)

-- a vote that is not adopted leaves the candidate
stays_candidate : (c : ℕ) (v : Option ℕ) → outranks c v ≡ false → candidate_after c v ≡ v
stays_candidate c v t = rw t refl

counted_prepared : (r : HeadRecord) (a : Action) → Counted r → named_in votes (sending_of r a) ≡ None → Counted (prepared r a)
counted_prepared r Look h e = h
counted_prepared r StartSent h e = h
counted_prepared r (StartDelivered p) h e = λ q l d. column_kept (fits_for r.vote.choice) r p Start q refl ∙ h q l d
counted_prepared r StartConfirmed h e = h
counted_prepared r VoteTurn h e = h
counted_prepared r (VoteDelivered p k c x) h e = go (passed_over votes r p k) (outranks c r.vote.choice) refl e
  where
    held : Option ℕ
    held = r.vote.choice

    go : (b o : Bool) → outranks c held ≡ o → named_in votes (cond b nothing (cond o (voting c) nothing)) ≡ None
        → (q : ℕ) → q < r.n → q ≢ r.own → fits_for held (get_or (cond b r.senders (set r.senders p (kept_after r p (Vote k c x)))) q no_sender) ≡ true
    go true o t u = h
    go false true t u = none_is_some (sym u)
    go false false t u =
        set_holds (λ q z. q < r.n → q ≢ r.own → fits_for held z ≡ true) r.senders p _
        (λ _ _. subst (λ (v : Option ℕ). fits_for held (kept_for v (keep_vote (kept_of r p) k c x)) ≡ true) (sym (stays_candidate c held t)) (kept_for_counts held (keep_vote (kept_of r p) k c x))) h
counted_prepared r VoteClose h e = h
counted_prepared r AdjustTurn h e = h
counted_prepared r (AdjustDelivered p k c x) h e = λ q l d. column_kept (fits_for r.vote.choice) r p (Adjust k c x) q refl ∙ h q l d
counted_prepared r AdjustClose h e = h

-- a vote makes them count, whatever was kept
counted_send : (x : Sending) (m : HeadRecord) → (named_in votes x ≡ None → Counted m) → Counted (send x m).after
unfolding vote adjust
counted_send nothing m h = h refl
counted_send Effects.Sending.start m h = h refl
counted_send (voting c) m h = λ p l d.
    subst (λ (z : Sender). fits_for (Some c) z ≡ true) (sym (get_or-set_other (drop_others c m).senders m.own p _ no_sender d ∙ kept_for_at c m p)) (kept_for_counts (Some c) (kept_of m p))
counted_send (adjusting c x) m h = λ q l d. set_keeps (fits_for m.vote.choice) m.senders m.own q _ refl ∙ h refl q l d

counted_effect : (r : HeadRecord) (a : Action) → Counted r → Counted (send (sending_of r a) (prepared r a)).after
counted_effect r a h = counted_send (sending_of r a) (prepared r a) (counted_prepared r a h)

-- one more frame for a choice that outranks the last
chosen_in_range : (n c : ℕ) (m : Option ℕ) (sent : ℕ) → c < n → outranks c m ≡ true → SentInRange n m sent → SentInRange n (Some c) (sent + 1)
chosen_in_range n c None sent b o h = omega arith
chosen_in_range n c (Some v) sent b o h = let l = ltb-true c v o in omega arith

module _ {r : HeadRecord} (a : Action) (h : InRange r) (i : ActionInRange r.n a) (o : is_closed r a ≡ false) where
  prepared_kept : (q : ℕ) → KeptInRange r.n q (kept_of (prepared r a) q)
  prepared_kept =
      cond_elim (λ (l : List Sender). (q : ℕ) → KeptInRange r.n q (get_or l q no_sender)) (ignored r (delivery_in a).sender (delivery_in a).frame) (λ _. h.kept)
      (λ _. set_in_range r.senders (delivery_in a).sender _ i.sender (kept_after_in_range _ _ h i.sender i.frame) h.kept)

  prepared_early : (k : Kind) → (phase_of k (prepared r a)).early ≡ true → (phase_of k (prepared r a)).closed ≡ true
  prepared_early = for_both _ (λ u. or_second (eqb (number a) 6) _ (h.early votes u)) (λ u. or_second (eqb (number a) 9) _ (h.early adjusts u))

  prepared_in_range : Counted (prepared r a) → InRange (prepared r a)
  prepared_in_range counted =
      record { heads = h.heads; own = h.own; last = h.last; adjustment = h.adjustment; unadjusted = h.unadjusted; phase = for_both _ (h.phase votes) (h.phase adjusts); early = prepared_early; marks = prepared_marks r a o h.marks; kept = prepared_kept; counted = counted }

  -- then what the head says
  named_below : {k : Kind} {c : ℕ} → Why k r a c → c < r.n
  named_below (itself e _ _) = subst (λ (v : ℕ). v < r.n) (sym e) h.own
  named_below (told _ e) = subst (λ (v : Option ℕ). unwrap_or v 0 < r.n) e i.frame.choice

  allowed_in_range : (k : Kind) {c : ℕ} → Naming k r a c → SentInRange r.n (Some c) ((phase_of k r).sent + 1)
  allowed_in_range k {c} s = chosen_in_range r.n c (phase_of k r).choice (phase_of k r).sent (named_below s.why) s.higher (h.phase k)

  source_below : {x : Reading} → Source r a x → x.0 < 2 ^ 28
  source_below (computed _ e) = subst (λ (y : Reading). y.0 < 2 ^ 28) (sym e) (median_below (2 ^ 28) _ (lit< tt) (vote_readings_below (prepared r a) prepared_kept))
  source_below (passed_on _ e) = subst (λ (y : Option Reading). reading_or0 y < 2 ^ 28) e i.frame.reading

  send_in_range : {x : Sending} → Allowed r a x → Counted (send x (prepared r a)).after → AnswerInRange r.n (send x (prepared r a))
  unfolding vote adjust
  send_in_range sends_nothing counted = (prepared_in_range counted, omega arith)
  send_in_range (sends_start e) counted = (prepared_in_range counted, omega arith)
  send_in_range (sends_vote {c = c} s) counted =
      let new = allowed_in_range votes s in
      let own = (prepared_kept r.own).below h.own in
      let start = ((prepared_kept c).below (omega arith)).start in
      let mine : SenderInRange r.n (with_candidate (with_vote_reading (kept_of (prepared r a) r.own) (start_of (prepared r a) c)) c) =
      record { start = own.start; vote = start; serial = for_both _ (own.serial votes) (own.serial adjusts); latest = for_both _ (omega arith) (own.latest adjusts) } in
      let kept = set_in_range (drop_others c (prepared r a)).senders r.own _ h.own mine (dropped_in_range c (prepared r a) prepared_kept) in
      (record { heads = h.heads; own = h.own; last = h.last; adjustment = h.adjustment; unadjusted = h.unadjusted; phase = for_both _ new (h.phase adjusts); early = for_both _ (prepared_early votes) (prepared_early adjusts); marks = prepared_marks r a o h.marks; kept = kept; counted = counted }, omega arith)
  send_in_range (sends_adjust {c = c} s t) counted =
      let new = allowed_in_range adjusts s in
      let below = source_below t in
      let own = (prepared_kept r.own).below h.own in
      let mine : SenderInRange r.n (with_adjuster (kept_of (prepared r a) r.own) c) =
      record { start = own.start; vote = own.vote; serial = for_both _ (own.serial votes) (own.serial adjusts); latest = for_both _ (own.latest votes) (omega arith) } in
      let kept = set_in_range (prepared r a).senders r.own _ h.own mine prepared_kept in
      (record { heads = h.heads; own = h.own; last = h.last; adjustment = below; unadjusted = λ e. none_is_some (sym e); phase = for_both _ (h.phase votes) new; early = for_both _ (prepared_early votes) (prepared_early adjusts); marks = prepared_marks r a o h.marks; kept = kept; counted = counted }, omega arith)

  pub effect_in_range : AnswerInRange r.n (effect r a)
  effect_in_range = subst (AnswerInRange r.n) (sym (effect_split r a)) (send_in_range (allowed r a o) (counted_effect r a h.counted))

-- A STEP

-- the test at the end of a step closes a phase with its mark, and the adjust phase only after the vote phase
concluded_in_range : {n : ℕ} (tested : Bool) (t : Stepped) → AnswerInRange n t → AnswerInRange n (concluded tested t)
unfolding may_close
concluded_in_range tested t (h, f) = (
  record { heads = h.heads; own = h.own; last = h.last; adjustment = h.adjustment; unadjusted = h.unadjusted; phase = for_both _ (h.phase votes) (h.phase adjusts); early = for_both _ (with_mark_lem (early_now votes tested t.after) (h.early votes)) (with_mark_lem (early_now adjusts tested t.after) (h.early adjusts)); marks = record { confirmed = h.marks.confirmed; turn = h.marks.turn; adjusting = adjusting }; kept = h.kept; counted = h.counted },
  f,
)
  where
    with_mark_lem : (b : Bool) {e c : Bool} → (e ≡ true → c ≡ true) → (b || e) ≡ true → (b || c) ≡ true
    with_mark_lem true i u = refl
    with_mark_lem false i u = i u

    v : HeadRecord
    v = close_early votes tested t.after

    adjusting : (v.adjust.turn || (close_early adjusts tested v).adjust.closed) ≡ true → v.vote.closed ≡ true
    adjusting u =
        or_cases v.adjust.turn _ u (λ a. after (or_first v.adjust.turn _ a))
        (λ b. or_cases (tested && may_close adjusts v) _ b (λ c. and_left v.vote.closed _ (and_left (v.vote.closed && not v.adjust.closed) _ (and_right tested _ c))) (λ c. after (or_second v.adjust.turn _ c)))
      where
        after : (v.adjust.turn || v.adjust.closed) ≡ true → v.vote.closed ≡ true
        after w = or_second (tested && may_close votes t.after) _ (h.marks.adjusting w)

pub act_in_range : {r : HeadRecord} (a : Action) → InRange r → ActionInRange r.n a → is_closed r a ≡ false → AnswerInRange r.n (act r a)
unfolding act
act_in_range {r} a h i o = concluded_in_range (is_tested r a) (effect r a) (effect_in_range a h i o)

-- an action is taken as one that delivers the same
taken_in_range : {n : ℕ} (r : HeadRecord) (a : Action) → ActionInRange n a → ActionInRange n (taken_as r a)
taken_in_range {n} r a = subst (DeliveryInRange n) (sym (taken_delivery (taken_as_lem r a)))

last_in_range : {r : HeadRecord} {x : Reading} → InRange r → x.0 < 2 ^ 28 → InRange (with_last r x)
last_in_range h b =
    record { heads = h.heads; own = h.own; last = b; adjustment = h.adjustment; unadjusted = h.unadjusted; phase = for_both _ (h.phase votes) (h.phase adjusts); early = for_both _ (h.early votes) (h.early adjusts); marks = h.marks; kept = h.kept; counted = h.counted }

pub take_in_range : {r : HeadRecord} (x : Reading) (sent : Bool) (a : Action) → InRange r → x.0 < 2 ^ 28 → ActionInRange r.n a → AnswerInRange r.n (take_action r x sent a)
unfolding take_action
take_in_range {r} x sent a h b i =
    let refusal : InRange r × FrameInRange r.n NoFrame = (h, omega arith) in
    cond_elim (AnswerInRange r.n) (ltb x.0 r.last.0) (λ _. refusal)
    (λ _. cond_elim (AnswerInRange r.n) (not sent || is_closed r (taken_as r a)) (λ _. refusal)
    (λ o. act_in_range (taken_as r a) (last_in_range h b) (taken_in_range r a i) (closed_last r x (taken_as r a) ∙ or_right (not sent) _ o)))

-- what cause 6 lets pass
pub input_in_range : (n : ℕ) (i : Input) → input_fits n i ≡ true → (i.reading < 2 ^ 28) × ActionInRange n (action_of i)
unfolding input_fits action_of
input_in_range n i e =
    let sender = ltb-true i.sender n (search parts) in
    let serial = leb-true i.serial 15 (search parts) in
    let choice = ltb-true i.choice n (search parts depth 8) in
    let carried = ltb-true i.carried (2 ^ 28) (search parts depth 8) in
    let plain : DeliveryInRange n no_delivery = omega arith in
    let or_none : reading_or0 (cond i.none None (Some (reading i.carried))) < 2 ^ 28 = cond_elim (λ (x : Option Reading). reading_or0 x < 2 ^ 28) i.none (λ _. omega arith) (λ _. carried) in
    let each : Every (ActionInRange n) (actions_of i) = (plain, (plain, (omega arith, (plain, (plain, (omega arith, (plain, (plain, (omega arith, (plain, tt)))))))))) in
    (ltb-true i.reading (2 ^ 28) (search parts), every_at (ActionInRange n) (actions_of i) i.action (λ _. plain) each)

pub step_in_range : (r : HeadRecord) (i : Input) → record_in_range r ≡ true → record_in_range (step r i).after ≡ true
unfolding step
step_in_range r i e =
    range_test (cond_elim (λ (t : Stepped). InRange t.after) (not (record_in_range r)) (λ _. in_range e)
    (λ _. cond_elim (λ (t : Stepped). InRange t.after) (not (input_fits r.n i)) (λ _. in_range e)
    (λ f. let x = input_in_range r.n i (not_false f) in (take_in_range (reading i.reading) true (action_of i) (in_range e) x.0 x.1).0)))

-- A RUN

none_in_range : (n p : ℕ) → n ≤ 16 → KeptInRange n p (get_or (replicate 16 no_sender) p no_sender)
none_in_range n p b =
    let none : 0 < n → SenderInRange n no_sender = λ l. record { start = lit< tt; vote = lit< tt; serial = for_both _ (omega arith) (omega arith); latest = for_both _ l l } in
    record { below = λ l. subst (SenderInRange n) (sym (get_or-replicate 16 p no_sender no_sender (omega arith))) (none (omega arith)); above = λ _ l. get_or-replicate 16 p no_sender no_sender l }

fresh_facts : (n f : ℕ) {q : ℕ} → heads_fit n f ≡ true → q < n → InRange (fresh n f q)
unfolding fresh
fresh_facts n f {q} e b =
    let heads = heads_fit_lem n f e in
    let none : (p : ℕ) → p < n → p ≢ q → fits_for None (get_or (replicate 16 no_sender) p no_sender) ≡ true =
    λ p l _. ap (fits_for None) (get_or-replicate 16 p no_sender no_sender (omega arith)) in
    record { heads = heads; own = b; last = lit< tt; adjustment = lit< tt; unadjusted = λ _. refl; phase = for_both _ refl refl; early = for_both _ (λ t. t) (λ t. t); marks = record { confirmed = λ t. t; turn = λ t. t; adjusting = λ t. t }; kept = λ p. none_in_range n p heads.1; counted = none }

pub fresh_in_range : (n f q : ℕ) → heads_fit n f ≡ true → q < n → record_in_range (fresh n f q) ≡ true
fresh_in_range n f q e b = range_test (fresh_facts n f e b)

or_else_in_range : {n : ℕ} (x y : Frame) → FrameInRange n x → FrameInRange n y → FrameInRange n (or_else x y)
or_else_in_range NoFrame y a b = b
or_else_in_range Start y a b = a
or_else_in_range (Vote j c x) y a b = a
or_else_in_range (Adjust j c x) y a b = a

sent_below : (n : ℕ) (m : Option ℕ) (sent : ℕ) → SentInRange n m sent → sent ≤ n
sent_below n None sent h = omega arith
sent_below n (Some v) sent h = omega arith

-- both together, since a record is in range by the frames that reach it
record RunInRange (g : Setting) (h : History) : Type 0 where
  records : (q : ℕ) → q < g.n → InRange (record_of g h q)
  frames : (a p k : ℕ) → FrameInRange g.n (frame_sent h a p k)

module _ {g : Setting} (fit : heads_fit g.n g.f ≡ true) where
  all_in_range : {h : History} → Valid g h → RunInRange g h
  unfolding record_of frame_sent
  all_in_range start = record { records = λ q. fresh_facts g.n g.f fit; frames = λ a p k. let x = heads_fit_lem g.n g.f fit in omega arith }
  all_in_range (more {e = e} {s = s} t v) = grow (all_in_range v)
    where
      grow : RunInRange g s → RunInRange g (e ∷ s)
      grow h =
          let n_is = (fixed g v e.entry.head).n_is in
          let i : ActionInRange g.n t.action = subst (DeliveryInRange g.n) (sym (delivery_at g t)) (record { sender = t.sender_below; frame = h.frames _ _ _ }) in
          let done = act_in_range t.action (last_in_range (h.records _ t.head_below) t.reading_below) (subst (λ (n : ℕ). ActionInRange n t.action) (sym n_is) i) (closed_last _ _ t.action ∙ t.is_open) in
          let x : AnswerInRange g.n (accepted e.after e.frame) = subst (AnswerInRange g.n) (sym t.result) (subst (λ (n : ℕ). AnswerInRange n (act (base_of g s e) t.action)) n_is done) in
          record {
            records = λ q. by_head (λ q. q < g.n → InRange (record_of g (e ∷ s) q)) e q (λ _. rw (record_at g e s) x.0) (λ d b. rw (record_other g e s q d) (h.records q b));
            frames = λ a p k. or_else_in_range (frame_sent s a p k) _ (h.frames a p k)
                (cond_elim (FrameInRange g.n) (eqb e.entry.head p && is_delivered_by a k e.frame) (λ _. x.1) (λ _. let l = t.head_below in omega arith));
          }

  pub run_in_range : {h : History} → Valid g h → (q : ℕ) → q < g.n → InRange (record_of g h q)
  run_in_range v = (all_in_range v).records

  pub frames_in_range : {h : History} → Valid g h → (a p k : ℕ) → FrameInRange g.n (frame_sent h a p k)
  frames_in_range v = (all_in_range v).frames

  -- a head sends at most n votes and n adjusts
  pub votes_below : (k : Kind) {h : History} → Valid g h → (q : ℕ) → q < g.n → (phase_of k (record_of g h q)).sent ≤ g.n
  votes_below k {h} v q b =
      let r = record_of g h q in
      subst (λ (n : ℕ). (phase_of k r).sent ≤ n) (fixed g v q).n_is (sent_below r.n (phase_of k r).choice (phase_of k r).sent ((run_in_range v q b).phase k))
