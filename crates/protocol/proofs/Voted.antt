-- Document 02, No. 5, what it is for: at an adjust turn every reading that the median is taken of was voted for the present candidate.
-- Of any record in its ranges: another sender's latest vote names the candidate (`voted_in_range`). Of every head in every run: each
-- reading, its own too, is one that a vote for the candidate carried, by the head that sent that vote (`voted_in_run`).
use Rattle.std.specs.Prelude.{Option, Some, None, is_some}
use mathlib.Core.Path.{◌≡◌, refl, sym, ◌∙◌, ap, subst}
use mathlib.Core.Bool.{Bool, true, false, cond, not, ◌&&◌}
use mathlib.Core.List.{List, ◌∷◌}
use mathlib.Core.Logic.{◌≢◌}
use Prim.Native.Nat.{ℕ, ◌≤◌, ◌<◌}
use native.Mathlib.Omega.{arith}
use lib.Dec.{eqb}
use lib.ListN.{length, get_or}
use borrow.Author.Tests.{eqb-true, eqb-false}
use Rattle.protocol.specs.Types.{Reading, Sender, HeadRecord, Setting, Frame, NoFrame, Start, Vote, Adjust}
use Rattle.protocol.specs.Words.{setting_at, heads_fit}
use Rattle.protocol.specs.Record.{reading, no_sender, kept_of, start_of, vote_of, same_number, fresh, record_in_range}
use Rattle.protocol.specs.Step.{kept_for, drop_others, vote, adjust, vote_readings, candidate_after}
use Rattle.protocol.specs.Run.{Event, History, record_of, frame_sent, frame_of, ran, run_sheet}
use Rattle.protocol.proofs.Tests.{absurd_bool, cases, cond_elim, and_right, implied, eqb_same}
use Rattle.protocol.proofs.Effects.{votes, Delivery, delivered_by, serial_of, senders_after, set_keeps, set_holds, closed_last, kept_for_at, Sending, nothing, voting, adjusting, send, ignored, kept_after, kept_after_lem, answer, prepared_same, both_name, same_number_lem, own_kept, own_voted}
use Rattle.protocol.proofs.Effects as Effects
use Rattle.protocol.proofs.Valid.{base_of, Valid, start, more, record_at, record_other, by_head, delivery_at, of_effect, invariant, fixed, accepted_sheet}
use Rattle.protocol.proofs.Phases.{held, no_senders, phase_of_frame, sending_at, prepared_at}
use Rattle.protocol.proofs.Runs.{sent_now}
use Rattle.protocol.proofs.Ranges.{Every, every_vote_reading, InRange, in_range, run_in_range}

-- A RECORD IN ITS RANGES

names_candidate : (r : HeadRecord) → InRange r → (p : ℕ) → p < r.n → p ≢ r.own → (x : Reading) → vote_of r p ≡ Some x
    → (v : ℕ) × (r.vote.choice ≡ Some v) × ((kept_of r p).candidate ≡ Some v)
names_candidate r h p l other x e =
    let named = both_name (kept_of r p).candidate r.vote.choice (implied (is_some (vote_of r p)) _ (h.counted p l other) (ap is_some e)) in
    (named.0, named.2, named.1)

-- whose reading x is, and that its latest vote names the candidate v, unless it is the head's own
pub record VotedFor (r : HeadRecord) (x : ℕ) : Type 0 where
  pub sender : ℕ
  pub below : sender < r.n
  pub reading_of : vote_of r sender ≡ Some (reading x)
  pub names : sender ≢ r.own → (v : ℕ) × (r.vote.choice ≡ Some v) × ((kept_of r sender).candidate ≡ Some v)

pub voted_in_range : (r : HeadRecord) → record_in_range r ≡ true → Every (VotedFor r) (vote_readings r r.n)
voted_in_range r e =
    every_vote_reading (VotedFor r) r r.n
    (λ p l x held. record { sender = p; below = l; reading_of = held; names = λ other. names_candidate r (in_range e) p l other x held })

-- A RUN

-- a vote of head p that names c carried the reading
abbrev pub Carried : History → ℕ → ℕ → Reading → Type 0
Carried s p c x = (j : ℕ) × (frame_sent s 5 p j ≡ Vote j c (Some x))

-- so it is with what is kept of p: a reading is there only with whom the vote names
abbrev OfVote : History → ℕ → Sender → Type 0
OfVote s p k = (x : Reading) → k.vote ≡ Some x → (c : ℕ) × (k.candidate ≡ Some c) × Carried s p c x

carried_stays : (e : Event) (s : History) (p c : ℕ) (x : Reading) → Carried s p c x → Carried (e ∷ s) p c x
unfolding frame_sent
carried_stays e s p c x (j, h) = (j, rw h refl)

stays : (e : Event) (s : History) (p : ℕ) (k : Sender) → OfVote s p k → OfVote (e ∷ s) p k
stays e s p k h x r = let v = h x r in (v.0, v.1, carried_stays e s p v.0 x v.2)

none_read : {x : Reading} {A : Type 0} → None ≡ Some x → A
none_read e = absurd_bool (ap is_some e) refl

-- a reading that is left where others are dropped is the one that was there
left_reading : (b : Bool) (y : Option Reading) (x : Reading) → cond b y None ≡ Some x → (b ≡ true) × (y ≡ Some x)
left_reading true y x e = (refl, e)
left_reading false y x e = none_read e

of_left : (s : History) (p : ℕ) (v : Option ℕ) (k : Sender) → OfVote s p k → OfVote s p (kept_for v k)
of_left s p v k h x e = h x (left_reading (same_number k.candidate v) k.vote x e).1

-- what the head sends changes vote readings only by dropping others' and by its own vote
of_sending : (s : History) (p : ℕ) (x : Sending) (m : HeadRecord) → OfVote s p (kept_of m p)
    → ((c : ℕ) → x ≡ voting c → p ≡ m.own → (y : Reading) → start_of m c ≡ Some y → Carried s p c y) → OfVote s p (kept_of (send x m).after p)
unfolding vote adjust
of_sending s p nothing m h own = h
of_sending s p Effects.Sending.start m h own = h
of_sending s p (voting c) m h own =
    set_holds (λ q k. q ≡ p → OfVote s p k) (drop_others c m).senders m.own _ (λ o x r. (c, refl, own c refl (sym o) x r))
    (λ q o. subst (λ (i : ℕ). OfVote s p (kept_of (drop_others c m) i)) (sym o) (subst (OfVote s p) (sym (kept_for_at c m p)) (of_left s p (Some c) (kept_of m p) h))) p refl
of_sending s p (adjusting c y) m h own =
    set_holds (λ q k. q ≡ p → OfVote s p k) m.senders m.own _ (λ o. subst (λ (i : ℕ). OfVote s p (kept_of m i)) (sym o) h)
    (λ q o. subst (λ (i : ℕ). OfVote s p (kept_of m i)) (sym o) h) p refl

after_sending : (x : Sending) (m : HeadRecord) → m.own < length m.senders → (kept_of m m.own).candidate ≡ m.vote.choice
    → (kept_of (send x m).after m.own).candidate ≡ (send x m).after.vote.choice
unfolding vote adjust
after_sending nothing m b h = h
after_sending Effects.Sending.start m b h = h
after_sending (voting c) m b h = ap (λ (k : Sender). k.candidate) (own_voted c m b)
after_sending (adjusting c y) m b h = set_keeps (λ k. k.candidate) m.senders m.own m.own _ refl ∙ h

-- a delivered frame leaves a vote's reading with whom the vote names, or what was kept
of_frame : (s : History) (r : HeadRecord) (p : ℕ) (f : Frame) → ((j c : ℕ) (y : Option Reading) → f ≡ Vote j c y → frame_sent s 5 p j ≡ Vote j c y)
    → OfVote s p (kept_of r p) → OfVote s p (kept_after r p f)
of_frame s r p NoFrame sent h = h
of_frame s r p Start sent h = h
of_frame s r p (Vote j c y) sent h = λ x e.
    let kept = left_reading (same_number (Some c) (candidate_after c r.vote.choice)) y x e in
    (c, refl, (j, sent j c y refl ∙ ap (Vote j c) kept.1))
of_frame s r p (Adjust j c y) sent h = h

module _ (g : Setting) (small : g.n ≤ 16) where
  of_vote : {s : History} → Valid g s → (q p : ℕ) → OfVote s p (kept_of (record_of g s q) p)
  unfolding record_of fresh vote
  of_vote start q p = λ x e. none_read (sym (ap (λ (k : Sender). k.vote) (no_senders 16 p)) ∙ e)
  of_vote (more {e = e} {s = s} t v) q p =
      by_head (λ q. OfVote (e ∷ s) p (kept_of (record_of g (e ∷ s) q) p)) e q
      (subst (λ (z : HeadRecord). OfVote (e ∷ s) p (kept_of z p)) (sym (record_at g e s)) (at_head (of_vote v e.entry.head p)))
      (λ d. subst (λ (z : HeadRecord). OfVote (e ∷ s) p (kept_of z p)) (sym (record_other g e s q d)) (stays e s p (kept_of (record_of g s q) p) (of_vote v q p)))
    where
      r : HeadRecord
      r = base_of g s e

      m : HeadRecord
      m = prepared_at g votes t

      f : Frame
      f = frame_of s e.entry

      -- the frame that is delivered was sent by its sender
      was_sent : e.entry.sender ≡ p → (j c : ℕ) (y : Option Reading) → f ≡ Vote j c y → frame_sent s 5 p j ≡ Vote j c y
      was_sent o j c y is =
          let action = phase_of_frame g votes t (ap (λ (x : Frame). eqb (delivered_by x) 5) is) in
          let serial = sym t.asked.serial_is ∙ ap serial_of is in
          subst (λ (i : ℕ). frame_sent s 5 p i ≡ Vote j c y) serial (subst (λ (i : ℕ). frame_sent s 5 i e.entry.serial ≡ Vote j c y) o
          (subst (λ (a : ℕ). frame_sent s a e.entry.sender e.entry.serial ≡ Vote j c y) action is))

      fits : e.entry.sender < length r.senders
      fits = rw (fixed g v e.entry.head).size_is (let z = t.sender_below in omega arith)

      taken : OfVote s p (kept_of r p) → OfVote s p (kept_of m p)
      taken ih =
          subst (λ (d : Delivery). OfVote s p (get_or (senders_after r d.sender d.frame) p no_sender)) (sym (delivery_at g t))
          (subst (OfVote s p) (sym (kept_after_lem r e.entry.sender f p fits))
          (cond_elim (OfVote s p) (not (ignored r e.entry.sender f) && eqb e.entry.sender p)
          (λ u. let o = eqb-true e.entry.sender p (and_right (not (ignored r e.entry.sender f)) _ u) in
          subst (λ (i : ℕ). OfVote s p (kept_after r i f)) (sym o) (of_frame s r p f (was_sent o) ih))
          (λ _. ih)))

      -- the head's own vote is a frame of this event
      own_vote : (c : ℕ) → sending_at g votes t ≡ voting c → p ≡ m.own → (y : Reading) → start_of m c ≡ Some y → Carried (e ∷ s) p c y
      own_vote c u o y is =
          let said : e.frame ≡ Vote m.vote.sent c (Some y) =
          of_effect g (λ z. z.frame ≡ (send (sending_at g votes t) m).frame) t refl ∙ ap (λ (x : Sending). (send x m).frame) u ∙ ap (Vote m.vote.sent c) is in (
            m.vote.sent,
            subst (λ (i : ℕ). frame_sent (e ∷ s) 5 i m.vote.sent ≡ Vote m.vote.sent c (Some y)) (sym (o ∙ (fixed g v e.entry.head).own_is))
                (sent_now g votes t v m.vote.sent (rw said (eqb_same m.vote.sent)) ∙ said),
          )

      at_head : OfVote s p (kept_of r p) → OfVote (e ∷ s) p (kept_of e.after p)
      at_head ih = of_effect g (λ z. OfVote (e ∷ s) p (kept_of z.after p)) t (of_sending (e ∷ s) p (sending_at g votes t) m (stays e s p (kept_of m p) (taken ih)) own_vote)

  -- a head's own latest vote names its candidate
  own_named : {s : History} → Valid g s → (q : ℕ) → (kept_of (record_of g s q) q).candidate ≡ held g votes s q
  unfolding fresh
  own_named =
      invariant g (λ q r. (kept_of r q).candidate ≡ r.vote.choice) (λ q. ap (λ (k : Sender). k.candidate) (no_senders 16 q)) (λ s e t v ih.
      let m = prepared_at g votes t in
      let own = (fixed g v e.entry.head).own_is in
      let size = (prepared_same (base_of g s e) t.action).size ∙ (fixed g v e.entry.head).size_is in
      let below : m.own < length m.senders = (let l = t.head_below in omega arith) in
      subst (λ (q : ℕ). (kept_of (answer (base_of g s e) t.action).after q).candidate ≡ (answer (base_of g s e) t.action).after.vote.choice) own
      (after_sending (sending_at g votes t) m below
      (own_kept (λ k. k.candidate) (λ k y. refl) (base_of g s e) t.action (closed_last _ _ t.action ∙ t.is_open)
      ∙ ap (λ (q : ℕ). (kept_of (record_of g s e.entry.head) q).candidate) own ∙ ih)))

  -- EVERY HEAD IN EVERY RUN
  pub voted_in_run : heads_fit g.n g.f ≡ true → {s : History} → Valid g s → (q : ℕ) → q < g.n → (v : ℕ) → held g votes s q ≡ Some v
      → Every (λ x. (p : ℕ) × Carried s p v (reading x)) (vote_readings (record_of g s q) g.n)
  voted_in_run fit {s} w q l v is =
      every_vote_reading _ r g.n (λ p b x e. let c = of_vote w q p x e in
      (p, subst (λ (i : ℕ). Carried s p i x) (same_number_lem (sym c.1 ∙ names p b x e ∙ is)) c.2))
    where
      r : HeadRecord
      r = record_of g s q

      names : (p : ℕ) → p < g.n → (x : Reading) → vote_of r p ≡ Some x → (kept_of r p).candidate ≡ r.vote.choice
      names p b x e =
          cases (eqb p q) (λ t. subst (λ (i : ℕ). (kept_of r i).candidate ≡ r.vote.choice) (sym (eqb-true p q t)) (own_named w q))
          (λ t. let known = names_candidate r (run_in_range fit w q l) p (rw (fixed g w q).n_is b) (λ o. eqb-false p q t (o ∙ (fixed g w q).own_is)) x e in
          known.2 ∙ sym known.1)

-- of every accepted sheet
pub voted_in_sheet : (ws : List ℕ) (h : History) → run_sheet ws ≡ ran h → (q : ℕ) → q < (setting_at ws).n → (v : ℕ) → (record_of (setting_at ws) h q).vote.choice ≡ Some v
    → Every (λ x. (p : ℕ) × Carried h p v (reading x)) (vote_readings (record_of (setting_at ws) h q) (setting_at ws).n)
voted_in_sheet ws h e =
    let sheet = accepted_sheet ws h e in
    voted_in_run (setting_at ws) sheet.at_most_16 sheet.heads_fit_test sheet.valid
