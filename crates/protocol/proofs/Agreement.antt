-- In a round every correct head gets a candidate, knows its start reading and has a vote reading of its own, and gets an
-- adjuster. (That whoever has an adjuster has the adjustment that this adjuster computed: Adjustments.antt.)
-- Main results: `has_candidate` (a), `candidate_agreed`, `start_known` and `own_reading` (d), `has_adjuster` (e), `adjuster_agreed`.
use Rattle.std.specs.Prelude.{Option, Some, None, is_some}
use mathlib.Core.Path.{◌≡◌, refl, sym, ◌∙◌, ap, subst}
use mathlib.Core.Bool.{Bool, true, false, cond, not, ◌&&◌}
use mathlib.Core.List.{List, ◌∷◌}
use Prim.Native.Nat.{ℕ, zero, suc, ◌≤◌, ◌<◌}
use native.Mathlib.Nat.{not-suc-le-zero}
use native.Mathlib.Omega.{arith}
use lib.Dec.{leb, eqb}
use lib.ListN.{length}
use borrow.Author.Tests.{eqb-true, eqb-false, leb-true, le-leb}
use Rattle.protocol.specs.Base.{◌⇒◌, count_below, distance}
use Rattle.protocol.specs.Types.{Reading, Phase, HeadRecord, Setting}
use Rattle.protocol.specs.Types.{Action, AdjustTurn}
use Rattle.protocol.specs.Words.{is_correct}
use Rattle.protocol.specs.Record.{start_of, vote_of, fresh}
use Rattle.protocol.specs.Step.{adjust, prepend, starts_held, vote_readings, may_adjust, is_closed}
use Rattle.protocol.specs.Run.{Event, History, record_of}
use Rattle.protocol.specs.Premises.{takes, receives, took, received, correct_all, start_within, premise3, last_start}
use Rattle.protocol.specs.Claim.{CorrectHead}
use Rattle.protocol.proofs.Tests.{absurd_bool, cases, and_left, and_right, and_both, or_second, or_left, or_cases, implied, not_false, count_mono}
use Rattle.protocol.proofs.Moments.{Earlier, now, earlier_trans, earlier_past, any_grows, any_map, find, each_at}
use Rattle.protocol.proofs.Effects.{votes, adjusts, is_timed, prepared, Sending, nothing, adjusting, send, sending_of, named_in, chosen_by, allowed, naming, closed_last, prepared_same, none_is_some, some_number, answer, TakenAs, taken_turn, own_kept, own_unsent, own_sent}
use Rattle.protocol.proofs.Valid.{base_of, Valid, start, more, valid_past, valid_taken, valid_earlier, Taken, record_at, record_other, by_head, of_effect, fixed, turn_took}
use Rattle.protocol.proofs.Ranges.{run_in_range}
use Rattle.protocol.proofs.Phases.{held, held_other, phase_at, over_keeps, delivered_choice, held_sent, falls_later}
use Rattle.protocol.proofs.Starts.{StartAt, start_found, start_after, waits, candidate_confirmed}
use Rattle.protocol.proofs.Rounds.{Round, correct_at, correct_heads, moment, Late, never_early, moment_earlier, valid_moment, still_open, votes_reached_lem, adjusts_reached_lem, reaches, Agreed, agreed}

-- AN ADJUST TURN GIVES AN ADJUSTER

one_reading : (x : Option Reading) (l : List ℕ) → is_some x ≡ true → 1 ≤ length (prepend x l)
one_reading None l e = absurd_bool e refl
one_reading (Some x) l e = omega arith

more_readings : (x : Option Reading) (l : List ℕ) → 1 ≤ length l → 1 ≤ length (prepend x l)
more_readings None l e = e
more_readings (Some x) l e = omega arith

some_reading : (r : HeadRecord) (n q : ℕ) → q < n → is_some (vote_of r q) ≡ true → 1 ≤ length (vote_readings r n)
unfolding vote_readings
some_reading r zero q h e = absurd (not-suc-le-zero h)
some_reading r (suc n) q h e =
    cases (eqb q n) (λ t. one_reading (vote_of r n) (vote_readings r n) (subst (λ (z : ℕ). is_some (vote_of r z) ≡ true) (eqb-true q n t) e))
    (λ t. more_readings (vote_of r n) (vote_readings r n) (some_reading r n q (let d = eqb-false q n t in omega arith) e))

-- at its adjust turn a head with a candidate and a vote reading of its own has an adjuster, or becomes one
turn_adjusts : (r : HeadRecord) (v : ℕ) → r.vote.choice ≡ Some v → r.own < r.n → is_some (vote_of r r.own) ≡ true
    → is_some (send (sending_of r AdjustTurn) (prepared r AdjustTurn)).after.adjust.choice ≡ true
unfolding may_adjust adjust
turn_adjusts r v e l k = go (may_adjust (prepared r AdjustTurn)) _ refl
  where
    go : (b : Bool) (x : Reading) → may_adjust (prepared r AdjustTurn) ≡ b → is_some (send (cond b (adjusting r.own x) nothing) (prepared r AdjustTurn)).after.adjust.choice ≡ true
    go true x u = refl
    go false x u =
        cases (is_some r.adjust.choice) (λ y. y)
        (λ y. let candidate : is_some r.vote.choice ≡ true = rw e refl in
        let enough : leb 1 (length (vote_readings (prepared r AdjustTurn) r.n)) ≡ true = le-leb 1 (length (vote_readings (prepared r AdjustTurn) r.n)) (some_reading (prepared r AdjustTurn) r.n r.own l k) in
        let free : not (is_some r.adjust.choice) ≡ true = rw y refl in
        absurd_bool (and_both candidate (and_both free enough)) u)

module _ (g : Setting) where
  -- an action 7 that does not find the adjust phase closed early is taken as an adjust turn
  pub turn_at : {s : History} (e : Event) (t : Taken g s e) → e.entry.action ≡ 7 → (record_of g s e.entry.head).adjust.early ≡ false → t.action ≡ AdjustTurn
  turn_at {s} e t a =
      taken_turn (subst (λ (i : Action). TakenAs (record_of g s e.entry.head) i t.action) (is_timed t.asks 7 refl (t.asked.number_is ∙ a)) t.as_action)

  -- a head with a candidate and a vote reading of its own has an adjuster after it
  pub adjuster_from_turn : {s : History} (e : Event) (t : Taken g s e) → Valid g s → (c : ℕ) → held g votes s e.entry.head ≡ Some c
      → is_some (vote_of (record_of g s e.entry.head) e.entry.head) ≡ true → t.action ≡ AdjustTurn → is_some (held g adjusts (e ∷ s) e.entry.head) ≡ true
  adjuster_from_turn {s} e t v c h k is =
      let fx = fixed g v e.entry.head in
      subst (λ (z : HeadRecord). is_some z.adjust.choice ≡ true) (sym (record_at g e s)) (of_effect g (λ y. is_some y.after.adjust.choice ≡ true) t
      (subst (λ (i : Action). is_some (answer (base_of g s e) i).after.adjust.choice ≡ true) (sym is)
      (turn_adjusts (base_of g s e) c h (rw (fx.own_is, fx.n_is) t.head_below) (subst (λ (q : ℕ). is_some (vote_of (record_of g s e.entry.head) q) ≡ true) (sym fx.own_is) k))))

  -- what an event does to its head's own vote reading: nothing, or it is the start reading of the candidate voted for
  pub data OwnReading (s : History) (e : Event) : Type 0 where
    same_reading : held g votes (e ∷ s) e.entry.head ≡ held g votes s e.entry.head
        → vote_of (record_of g (e ∷ s) e.entry.head) e.entry.head ≡ vote_of (record_of g s e.entry.head) e.entry.head → OwnReading s e
    new_reading : (c : ℕ) → held g votes (e ∷ s) e.entry.head ≡ Some c → (record_of g s e.entry.head).vote.closed ≡ false
        → vote_of (record_of g (e ∷ s) e.entry.head) e.entry.head ≡ start_of (record_of g (e ∷ s) e.entry.head) c → OwnReading s e

  pub own_reading_at : g.n ≤ 16 → {s : History} {e : Event} → Taken g s e → Valid g s → OwnReading s e
  own_reading_at small {s} {e} t v = go (named_in votes x) refl
    where
      x : Sending
      x = sending_of (base_of g s e) t.action

      m : HeadRecord
      m = prepared (base_of g s e) t.action

      is_open : is_closed (base_of g s e) t.action ≡ false
      is_open = closed_last _ _ t.action ∙ t.is_open

      own_is : m.own ≡ e.entry.head
      own_is = (fixed g v e.entry.head).own_is

      own_below : m.own < length m.senders
      own_below =
          let size = (prepared_same (base_of g s e) t.action).size ∙ (fixed g v e.entry.head).size_is in
          let eq = own_is in let l = t.head_below in let z = small in omega arith

      -- a reading of the record after the step
      reads : (f : HeadRecord → Option Reading) → vote_of (send x m).after m.own ≡ f (answer (base_of g s e) t.action).after
          → vote_of (record_of g (e ∷ s) e.entry.head) e.entry.head ≡ f (record_of g (e ∷ s) e.entry.head)
      reads f u =
          rw (record_at g e s) (of_effect g (λ y. vote_of y.after e.entry.head ≡ f y.after) t
          (subst (λ (q : ℕ). vote_of (send x m).after q ≡ f (answer (base_of g s e) t.action).after) own_is u))

      choice : held g votes (e ∷ s) e.entry.head ≡ (chosen_by (named_in votes x) m.vote).choice
      choice = ap (λ (p : Phase). p.choice) (phase_at g votes t)

      go : (n : Option ℕ) → named_in votes x ≡ n → OwnReading s e
      go None u =
          same_reading (choice ∙ rw u refl)
          (reads (λ _. vote_of (record_of g s e.entry.head) e.entry.head) (own_unsent x m u ∙ own_kept (λ k. k.vote) (λ k y. refl) (base_of g s e) t.action is_open ∙ ap (vote_of (record_of g s e.entry.head)) own_is))
      go (Some c) u =
          new_reading c (choice ∙ rw u refl)
          (naming votes (allowed (base_of g s e) t.action is_open) u).is_open
          (reads (λ y. start_of y c) (own_sent x m c own_below u))

module _ {g : Setting} {h : History} (r : Round g h) where
  -- the adjust phase closes after the vote phase
  pub adjust_later : {s : History} → Valid g s → (q : ℕ) → q < g.n → (record_of g s q).vote.closed ≡ false → (record_of g s q).adjust.closed ≡ false
  adjust_later {s} v q l o =
      cases (record_of g s q).adjust.closed
      (λ u. absurd_bool ((run_in_range r.sheet.heads_fit_test v q l).marks.adjusting (or_second (record_of g s q).adjust.turn _ u)) o) (λ u. u)

-- (a) IF NO HEAD CLOSES ITS VOTE EARLY, EVERY CORRECT HEAD HAS A CANDIDATE AT THE FIRST CORRECT VOTE CLOSE

module _ {g : Setting} {h : History} (r : Round g h) (late : Late r votes) where
  abbrev V₁ : History
  V₁ = moment r votes

  -- a head that was delivered a vote by then has one
  told_candidate : {q : ℕ} → CorrectHead g q → took 5 q V₁ ≡ true → (c : ℕ) × (held g votes V₁ q ≡ Some c)
  told_candidate {q} c t = delivered_choice g votes r.sheet.at_most_16 (valid_moment r votes late) q t (still_open r votes late now c)

  received_took : (a p k q : ℕ) (s : History) → received a p k q s ≡ true → took a q s ≡ true
  received_took a p k q s = any_map (receives a p k q) (takes a q) (λ e u. and_left (takes a q e) _ u) s

  module _ {q : ℕ} (c : CorrectHead g q) (none : held g votes V₁ q ≡ None) where
    -- if q has none, no correct head was delivered a vote: it would have voted, and its vote would have reached q
    no_vote : {p : ℕ} → CorrectHead g p → took 5 p V₁ ≡ true → ⊥
    no_vote {p} d t = go (eqb q p) refl
      where
        voted : (w : ℕ) × (held g votes V₁ p ≡ Some w)
        voted = told_candidate d t

        go : (b : Bool) → eqb q p ≡ b → ⊥
        go true u = none_is_some (sym none ∙ ap (held g votes V₁) (eqb-true q p u) ∙ voted.1)
        go false u =
            let j = held_sent g votes (valid_moment r votes late) p voted.0 voted.1 in
            let x = told_candidate c (received_took 5 p j.0 q V₁ (reaches r votes late d c u j.0 (let y = j.1 in omega arith))) in
            none_is_some (sym none ∙ x.1)

    -- so every correct head took 1, 3 and 4
    took_all : {p : ℕ} → CorrectHead g p → (took 1 p V₁ && (took 3 p V₁ && took 4 p V₁)) ≡ true
    took_all {p} d = or_cases (took 5 p V₁) _ (votes_reached_lem r late d).0 (λ t. absurd (no_vote d t)) (λ t. t)

    -- its start reached q, who holds the reading
    start_held : (p : ℕ) → p < g.n → is_correct g p ≡ true → is_some (start_of (record_of g V₁ q) p) ≡ true
    start_held p l t =
        let d : CorrectHead g p = record { is_head = l; marked_correct = t } in
        let sent-it = and_left (took 1 p V₁) _ (took_all d) in
        let there = correct_at (λ q. received 2 p 0 q V₁) (implied (took 1 p V₁) _ (votes_reached_lem r late d).1 sent-it) c in
        let v = valid_moment r votes late in
        rw (start_found g r.sheet.at_most_16 v q p there (adjust_later r v q c.is_head (still_open r votes late now c))).reading_is refl

    -- f + 1 readings, its turn taken, the vote open: q would have voted for itself
    impossible : ⊥
    unfolding starts_held
    impossible =
        let v = valid_moment r votes late in
        let turned = turn_took g v q ∙ and_right (took 3 q V₁) _ (and_right (took 1 q V₁) _ (took_all c)) in
        let few = waits g r.sheet.at_most_16 v q turned (still_open r votes late now c) none in
        let fx = fixed g v q in
        let many : count_below g.n (is_correct g) ≤ starts_held (record_of g V₁ q) = rw fx.n_is (count_mono g.n (is_correct g) (λ p. is_some (start_of (record_of g V₁ q) p)) start_held) in
        let lt = correct_heads r in
        let eq = fx.f_is in
        omega arith

  pub has_candidate : (q : ℕ) → CorrectHead g q → (c : ℕ) × (held g votes V₁ q ≡ Some c)
  has_candidate q c = go (held g votes V₁ q) refl
    where
      go : (m : Option ℕ) → held g votes V₁ q ≡ m → (c : ℕ) × (held g votes V₁ q ≡ Some c)
      go None u = absurd (impossible c u)
      go (Some w) u = (w, u)

-- (d) A CORRECT HEAD HOLDS THE START READING OF WHOEVER HAS CONFIRMED

module _ {g : Setting} {h : History} (r : Round g h) where
  -- the candidate that all correct heads end with
  pub candidate_agreed : Agreed g h votes
  candidate_agreed = agreed r votes (has_candidate r)

  -- premise 3 at the confirmation
  pub record Confirmation (c : ℕ) (s : History) : Type 0 where
    pub event : Event
    pub past : History
    pub there : Earlier (event ∷ past) s
    pub confirms : takes 3 c event ≡ true
    pub reached_all : {q : ℕ} → CorrectHead g q → received 2 c 0 q past ≡ true
    pub near : {p q : ℕ} → CorrectHead g p → CorrectHead g q → distance (last_start past c p) (last_start past c q) ≤ g.tightness

  pub confirmation : (c : ℕ) {s : History} → Earlier s h → took 3 c s ≡ true → Confirmation c s
  unfolding premise3 start_within
  confirmation c {s} x t =
      let e = find (takes 3 c) s t in
      let is : e.event.entry.head ≡ c = eqb-true _ c (and_left (eqb e.event.entry.head c) _ e.holds) in
      let three = and_right (eqb e.event.entry.head c) _ e.holds in
      let both = implied (eqb e.event.entry.action 3) _ (and_left (eqb e.event.entry.action 3 ⇒ start_within g e.event.entry.head e.past) _ (each_at _ r.p3 (earlier_trans e.there x))) three in
      let all-got = subst (λ (v : ℕ). correct_all g (λ q. received 2 v 0 q e.past) ≡ true) is (and_left (correct_all g (λ q. received 2 e.event.entry.head 0 q e.past)) _ both) in
      let all_Near = subst (λ (v : ℕ). correct_all g (λ p. correct_all g (λ q. leb (distance (last_start e.past v p) (last_start e.past v q)) g.tightness)) ≡ true) is
      (and_right (correct_all g (λ q. received 2 e.event.entry.head 0 q e.past)) _ both) in
      record {
        event = e.event;
        past = e.past;
        there = e.there;
        confirms = e.holds;
        reached_all = λ {q} cq. correct_at (λ q. received 2 c 0 q e.past) all-got cq;
        near = λ {p} {q} cp cq. leb-true _ _ (correct_at (λ q. leb (distance (last_start e.past c p) (last_start e.past c q)) g.tightness)
            (correct_at (λ p. correct_all g (λ q. leb (distance (last_start e.past c p) (last_start e.past c q)) g.tightness)) all_Near cp) cq);
      }

  -- after an event that found its vote open
  pub start_known : {s : History} {e : Event} → Earlier (e ∷ s) h → {q : ℕ} (c : ℕ) → CorrectHead g q → took 3 c (e ∷ s) ≡ true → (record_of g s q).vote.closed ≡ false → StartAt g (e ∷ s) q c
  start_known {s} x {q} c cq t o =
      let k = confirmation c x t in
      let v = valid_earlier x r.sheet.valid in
      start_after g r.sheet.at_most_16 (valid_taken v) (valid_past v) q c (any_grows (receives 2 c 0 q) (earlier_past k.there) (k.reached_all cq)) (adjust_later r (valid_past v) q cq.is_head o)

  pub own_reading : {s : History} → Valid g s → Earlier s h → (q c : ℕ) → CorrectHead g q → held g votes s q ≡ Some c → is_some (vote_of (record_of g s q) q) ≡ true
  unfolding record_of fresh
  own_reading start x q c = λ cq t. none_is_some t
  own_reading (more {e = e} {s = s} t v) x q c =
      by_head (λ q. CorrectHead g q → held g votes (e ∷ s) q ≡ Some c → is_some (vote_of (record_of g (e ∷ s) q) q) ≡ true) e q
      (λ cq u. go cq u (own_reading_at g r.sheet.at_most_16 t v) (own_reading v (earlier_past x) e.entry.head c cq))
      (λ d cq u. rw (record_other g e s q d) (own_reading v (earlier_past x) q c cq (sym (held_other g votes e s q d) ∙ u)))
    where
      go : CorrectHead g e.entry.head → held g votes (e ∷ s) e.entry.head ≡ Some c → OwnReading g s e
          → (held g votes s e.entry.head ≡ Some c → is_some (vote_of (record_of g s e.entry.head) e.entry.head) ≡ true)
          → is_some (vote_of (record_of g (e ∷ s) e.entry.head) e.entry.head) ≡ true
      go cq u (same_reading hs vs) ih = rw vs (ih (sym hs ∙ u))
      go cq u (new_reading w hn o vn) ih =
          let known = start_known x w cq (candidate_confirmed g r.sheet.at_most_16 r.sheet.heads_fit_test (more t v) e.entry.head w hn) o in
          rw (vn, known.reading_is) refl

-- (e) IF NO HEAD CLOSES ITS ADJUST PHASE EARLY, EVERY CORRECT HEAD HAS AN ADJUSTER AT THE FIRST CORRECT ADJUST CLOSE

module _ {g : Setting} {h : History} (r : Round g h) (late : Late r adjusts) where
  adjuster_after_turn : {s : History} (e : Event) → Earlier (e ∷ s) h → CorrectHead g e.entry.head → e.entry.action ≡ 7
      → is_some (held g adjusts (e ∷ s) e.entry.head) ≡ true
  unfolding is_closed
  adjuster_after_turn {s} e x c a =
      let v = valid_earlier x r.sheet.valid in
      let t = valid_taken v in
      let is = turn_at g e t a (never_early r adjusts late (earlier_past x) e.entry.head c.is_head) in
      let shut = not_false (or_left (not (record_of g s e.entry.head).vote.closed) _ (subst (λ (i : Action). is_closed (record_of g s e.entry.head) i ≡ false) is t.is_open)) in
      let candidate = sym (over_keeps g votes (earlier_past x) r.sheet.valid e.entry.head shut) ∙ (candidate_agreed r).holds c in
      adjuster_from_turn g e t (valid_past v) _ candidate (own_reading r (valid_past v) (earlier_past x) e.entry.head _ c candidate) is

  pub has_adjuster : (q : ℕ) → CorrectHead g q → (w : ℕ) × (held g adjusts (moment r adjusts) q ≡ Some w)
  has_adjuster q c =
      let f = find (takes 7 q) (moment r adjusts) (adjusts_reached_lem r late c).0 in
      let is : f.event.entry.head ≡ q = eqb-true _ q (and_left (eqb f.event.entry.head q) _ f.holds) in
      let seven = eqb-true _ 7 (and_right (eqb f.event.entry.head q) _ f.holds) in
      let w = some_number _ (adjuster_after_turn f.event (earlier_trans f.there (moment_earlier r adjusts late)) (subst (CorrectHead g) (sym is) c) seven) in
      let b = falls_later g adjusts f.there (valid_moment r adjusts late) f.event.entry.head w.0 (record { choice = w.0; holds = w.1; low = omega arith }) in
      (b.choice, subst (λ (p : ℕ). held g adjusts (moment r adjusts) p ≡ Some b.choice) is b.holds)

-- the adjuster that all correct heads end with
pub adjuster_agreed : {g : Setting} {h : History} → Round g h → Agreed g h adjusts
adjuster_agreed r = agreed r adjusts (has_adjuster r)
