-- What document 01 says of a step, of outcomes and of drift where the marked cases would not show a slip: rank, serials,
-- reading 0, a repeated start, what a vote carries, "no effect", marks set once, what outcome 2 asks, the last reading and
-- refusals, and drift between any two entries; and what document 02, No. 4, says of a step: latest votes and adjusts, when a
-- phase closes early and what that leaves without effect. Each law stands by itself, under the passage that it renders.
use Rattle.std.specs.Prelude.{Option, Some, None, is_some, unwrap_or}
use mathlib.Core.Path.{◌≡◌, refl, sym, ◌∙◌, ap, ap₂, subst}
use mathlib.Core.Bool.{Bool, true, false, cond, not, ◌&&◌, ◌||◌}
use mathlib.Core.List.{[], ◌∷◌}
use mathlib.Core.Logic.{◌≢◌}
use Prim.Native.Nat.{ℕ, suc, ◌+◌, ◌-◌, ◌*◌, ◌^◌, ◌≤◌, ◌<◌, min}
use native.Mathlib.Omega.{arith}
use lib.Dec.{ltb, leb, eqb}
use lib.IntN.{nat_abs, sub_ℕ, ◌-ℤ◌}
use lib.ListN.{length, set}
use lib.Seq.{get_or-set_same, get_or-set_other}
use borrow.Author.Tests.{lt-ltb, le-ltb, leb-true, ltb-true, ltb-false, eqb-true, eq-eqb, ne_eqb}
use Rattle.protocol.specs.Base.{◌⇒◌, any}
use Rattle.protocol.specs.Types.{Reading, Sender, Phase, HeadRecord, Setting, Entry}
use Rattle.protocol.specs.Types.{Stepped, Vote, Accepted, Refused, Cause, Input}
use Rattle.protocol.specs.Types.{Action, Look, StartSent, StartDelivered, StartConfirmed, VoteTurn, VoteDelivered, VoteClose, AdjustTurn, AdjustDelivered, AdjustClose}
use Rattle.protocol.specs.Words.{is_correct}
use Rattle.protocol.specs.Record.{reading_or0, reading, no_sender, kept_of, start_of, vote_of, start_of_choice, chosen_start, outcome, same_number, reading_counts, record_in_range}
use Rattle.protocol.specs.Step.{with_last, keep_vote, keep_adjust, kept_for, drop_others, silent, refused, vote, adjust, starts_held, may_lead, lead, vote_readings, may_adjust, propose, is_above, is_passed_over, outranks, candidate_after, delivered, effect, is_closed, all_spoken, is_under_way, may_close, is_tested, act, taken_as, take_action, action_of, input_fits, step}
use Rattle.protocol.specs.Run.{Event, History, record_of}
use Rattle.protocol.specs.Results.{if_adopted, outcome_word, adjustment_word, start_word, frames_word, head_words}
use Rattle.protocol.specs.Premises.{closing, each, is_steady, correct_takes, correct_closes, premise2, premise5, none_between, premise6, premise7, premise8}
use Rattle.protocol.proofs.Tests.{absurd_bool, cases, cond_elim, not_true, not_false, not_is_false, and_left, and_right, and_both, and_false, all_below_lem, below_all, or_left, or_right, or_cases, or_first, or_second, implied, eqb_same, all_in}
use Rattle.protocol.proofs.Moments.{Earlier, earlier_in, each_at}
use Rattle.protocol.proofs.Effects.{Kind, votes, adjusts, phase_of, latest_of, voting, prepared, sending_of, effect_split, send_same, kept_for_at, send_keeps, act_accepted, both_name, none_is_some, own_voted}
use Rattle.protocol.proofs.Valid.{Valid, Taken}
use Rattle.protocol.proofs.Ranges.{in_range}
use Rattle.protocol.proofs.Phases.{close_by_entry}
use Rattle.protocol.proofs.Signed.{difference_of, difference_sub, difference_abs}

-- serial k is above the last one taken, if any was
abbrev pub Above : ℕ → Option ℕ → Type 0
Above k last = (j : ℕ) → last ≡ Some j → j < k

not_above : (k j : ℕ) → k ≤ j → is_above k (Some j) ≡ false
not_above k j h = le-ltb j k h

is_above_lem : (k : ℕ) (last : Option ℕ) → Above k last → is_above k last ≡ true
is_above_lem k None h = refl
is_above_lem k (Some j) h = lt-ltb j k (h j refl)

-- 5, and 8 "as 5": a vote or an adjust is delivered
module _ (phase : Phase) (last : Option ℕ) (k c : ℕ) (r taken : HeadRecord) (adopt : HeadRecord → Stepped) where
  -- "No effect after the vote close": the record as it was, and no frame
  pub no_effect_after_close : phase.closed ≡ true → delivered phase last k c r taken adopt ≡ silent r
  unfolding delivered
  no_effect_after_close e =
      cond_elim (λ t. t ≡ silent r) (phase.closed || not (is_above k last)) (λ _. refl) (λ t. absurd_bool e (or_left phase.closed _ t))

  -- ".. or if the serial isn't above the last taken from that sender"
  pub no_effect_of_old_serial : (j : ℕ) → last ≡ Some j → k ≤ j → delivered phase last k c r taken adopt ≡ silent r
  unfolding delivered
  no_effect_of_old_serial j e h =
      cond_elim (λ t. t ≡ silent r) (phase.closed || not (is_above k last)) (λ _. refl)
      (λ t. absurd_bool (not_false (or_right phase.closed _ t)) (ap (is_above k) e ∙ not_above k j h))

  -- "Otherwise" it is taken, and adopted if its choice outranks the one held
  taken_or_adopted : (P : Stepped → Type 0) → phase.closed ≡ false → Above k last
      → (outranks c phase.choice ≡ true → P (adopt taken)) → (outranks c phase.choice ≡ false → P (silent taken))
      → P (delivered phase last k c r taken adopt)
  unfolding delivered
  taken_or_adopted P o a f g =
      cond_elim P (phase.closed || not (is_above k last)) (λ t. absurd_bool t (rw (o, is_above_lem k last a) refl))
      (λ _. cond_elim P (outranks c phase.choice) f g)

  -- "a carried one of higher rank (lower number)": of the number held and the number carried, the lower is held after
  pub lower_number_held : (phase_of : HeadRecord → Phase) → (phase_of taken).choice ≡ phase.choice → (phase_of (adopt taken).after).choice ≡ Some c
      → phase.closed ≡ false → Above k last → (v : ℕ) → phase.choice ≡ Some v
      → (phase_of (delivered phase last k c r taken adopt).after).choice ≡ Some (min c v)
  lower_number_held phase_of kept adopted o a v e =
      taken_or_adopted (λ (t : Stepped). (phase_of t.after).choice ≡ Some (min c v)) o a
      (λ t. let h = ltb-true c v (rw e at t) in adopted ∙ ap Some (omega arith))
      (λ t. let h = ltb-false c v (rw e at t) in kept ∙ e ∙ ap Some (omega arith))

-- the same of the candidate after a vote, and of the adjuster after an adjust
pub candidate_after_vote : (r : HeadRecord) (p k c : ℕ) (x : Option Reading) → r.vote.closed ≡ false → Above k (kept_of r p).voted
    → (v : ℕ) → r.vote.choice ≡ Some v → (effect r (VoteDelivered p k c x)).after.vote.choice ≡ Some (min c v)
unfolding effect vote
candidate_after_vote r p k c x = lower_number_held r.vote (kept_of r p).voted k c r _ (vote c) (λ s. s.vote) refl refl

pub adjuster_after_adjust : (r : HeadRecord) (p k a : ℕ) (x : Reading) → r.adjust.closed ≡ false → Above k (kept_of r p).adjusted
    → (v : ℕ) → r.adjust.choice ≡ Some v → (effect r (AdjustDelivered p k a x)).after.adjust.choice ≡ Some (min a v)
unfolding effect adjust
adjuster_after_adjust r p k a x = lower_number_held r.adjust (kept_of r p).adjusted k a r _ (adjust a x) (λ s. s.adjust) refl refl

-- leading changes the own vote reading and the vote phase alone
lead_keeps_starts : (r : HeadRecord) (p : ℕ) → start_of (lead r).after p ≡ start_of r p
unfolding lead vote
lead_keeps_starts r p =
    cond_elim (λ (t : Stepped). start_of t.after p ≡ start_of r p) (may_lead r)
    (λ _. send_keeps (λ k. k.start) (λ k x c a. refl) (voting r.own) r p) (λ _. refl)

-- "at least f + 1 start readings held": f of them, which the faulty heads alone could have sent, do not suffice
pub leads_with_more_than_f : (r : HeadRecord) → may_lead r ≡ true → r.f < starts_held r
unfolding may_lead
leads_with_more_than_f r e =
    let enough = and_right (not (is_some r.vote.choice)) _ (and_right (not r.vote.closed) _ (and_right r.vote.turn _ e)) in
    let le = leb-true (r.f + 1) (starts_held r) enough in
    omega arith

-- 2: "No effect after the adjust close"
pub no_start_after_close : (r : HeadRecord) (p : ℕ) → r.adjust.closed ≡ true → effect r (StartDelivered p) ≡ silent r
unfolding effect
no_start_after_close r p e = cond_elim (λ t. t ≡ silent r) r.adjust.closed (λ _. refl) (λ t. absurd_bool e t)

-- 2: "its start reading becomes this reading, again at each repeat": whatever was kept before
pub start_replaced : (r : HeadRecord) (p : ℕ) → p < length r.senders → r.adjust.closed ≡ false
    → start_of (effect r (StartDelivered p)).after p ≡ Some r.last
unfolding effect
start_replaced r p h o =
    cond_elim (λ (t : Stepped). start_of t.after p ≡ Some r.last) r.adjust.closed (λ t. absurd_bool t o)
    (λ _. lead_keeps_starts _ p ∙ ap (λ (k : Sender). k.start) (get_or-set_same r.senders p _ no_sender h))

-- "A reading of 0 is a reading": a start reading is held, whatever it is
pub start_reading_counts : (r : HeadRecord) (p : ℕ) → p < length r.senders → r.adjust.closed ≡ false
    → is_some (start_of (effect r (StartDelivered p)).after p) ≡ true
start_reading_counts r p h o = ap is_some (start_replaced r p h o)

-- "A vote carries the candidate and h's own start reading of it, or the mark "none""
pub vote_carries_start : (c : ℕ) (r : HeadRecord) → (vote c r).frame ≡ Vote r.vote.sent c (start_of r c)
unfolding vote
vote_carries_start c r = refl

-- "it is also h's own vote reading"
pub own_vote_reading : (c : ℕ) (r : HeadRecord) → r.own < length r.senders → vote_of (vote c r).after r.own ≡ start_of r c
own_vote_reading c r h = ap (λ (k : Sender). k.vote) (own_voted c r h)

-- document 02, No. 4, "its own .. latest vote": the one that it sends
pub own_latest_vote : (c : ℕ) (r : HeadRecord) → r.own < length r.senders → (kept_of (vote c r).after r.own).candidate ≡ Some c
own_latest_vote c r h = ap (λ (k : Sender). k.candidate) (own_voted c r h)

pub own_latest_adjust : (a : ℕ) (x : Reading) (r : HeadRecord) → r.own < length r.senders → (kept_of (adjust a x r).after r.own).adjuster ≡ Some a
unfolding adjust
own_latest_adjust a x r h = ap (λ (k : Sender). k.adjuster) (get_or-set_same r.senders r.own _ no_sender h)

-- "A reading of 0 is a reading": every vote reading held counts in the median, and "none" does not
pub vote_reading_counts : (r : HeadRecord) (p : ℕ) (x : Reading) → vote_of r p ≡ Some x → vote_readings r (suc p) ≡ x.0 ∷ vote_readings r p
unfolding vote_readings
vote_reading_counts r p x e = rw e refl

pub none_does_not_count : (r : HeadRecord) (p : ℕ) → vote_of r p ≡ None → vote_readings r (suc p) ≡ vote_readings r p
unfolding vote_readings
none_does_not_count r p e = rw e refl

-- document 02, No. 5: "changing candidate drops the others": of other senders' readings those are kept whose latest vote names the new one
kept_of_others : (c : ℕ) (r : HeadRecord) (p : ℕ) → p ≢ r.own → kept_of (vote c r).after p ≡ kept_for (Some c) (kept_of r p)
unfolding vote
kept_of_others c r p d = get_or-set_other (drop_others c r).senders r.own p _ no_sender d ∙ kept_for_at c r p

kept_of_voter : (c : ℕ) (k : Sender) → k.candidate ≡ Some c → kept_for (Some c) k ≡ k
kept_of_voter c k e = rw (e, eqb_same c) refl

none_left : (v : Option ℕ) (k : Sender) → k.candidate ≢ v → (kept_for v k).vote ≡ None
none_left v k n =
    cond_elim (λ (x : Option Reading). x ≡ None) (same_number k.candidate v)
    (λ t. let b = both_name k.candidate v t in absurd (n (b.1 ∙ sym b.2))) (λ _. refl)

pub reading_for_candidate_kept : (c : ℕ) (r : HeadRecord) (p : ℕ) → p ≢ r.own → (kept_of r p).candidate ≡ Some c → vote_of (vote c r).after p ≡ vote_of r p
reading_for_candidate_kept c r p d e = ap (λ (k : Sender). k.vote) (kept_of_others c r p d ∙ kept_of_voter c (kept_of r p) e)

pub reading_for_another_dropped : (c : ℕ) (r : HeadRecord) (p : ℕ) → p ≢ r.own → (kept_of r p).candidate ≢ Some c → vote_of (vote c r).after p ≡ None
reading_for_another_dropped c r p d n = ap (λ (k : Sender). k.vote) (kept_of_others c r p d) ∙ none_left (Some c) (kept_of r p) n

-- "another sender's vote reading": the head's own is not under the test of the ranges
pub own_reading_untested : (r : HeadRecord) → reading_counts r r.own ≡ true
unfolding reading_counts
own_reading_untested r = or_first (eqb r.own r.own) _ (eqb_same r.own)

-- a vote is delivered from another head p, with a serial above the last one taken, before the vote close
module _ (r : HeadRecord) (p k c : ℕ) (x : Option Reading) (h : p < length r.senders) (d : p ≢ r.own) (o : r.vote.closed ≡ false) (a : Above k (kept_of r p).voted) where
  vote_taken_lem : kept_of (effect r (VoteDelivered p k c x)).after p ≡ kept_for (candidate_after c r.vote.choice) (keep_vote (kept_of r p) k c x)
  unfolding effect
  vote_taken_lem =
      taken_or_adopted r.vote (kept_of r p).voted k c r _ (vote c) (λ (t : Stepped). kept_of t.after p ≡ kept_for (candidate_after c r.vote.choice) (keep_vote (kept_of r p) k c x)) o a
      (λ _. kept_of_others c _ p d ∙ ap (kept_for (Some c)) (get_or-set_same r.senders p _ no_sender h) ∙ kept_of_voter c _ refl) (λ _. get_or-set_same r.senders p _ no_sender h)

  candidate_after_lem : (effect r (VoteDelivered p k c x)).after.vote.choice ≡ candidate_after c r.vote.choice
  unfolding effect vote
  candidate_after_lem =
      taken_or_adopted r.vote (kept_of r p).voted k c r _ (vote c) (λ (t : Stepped). t.after.vote.choice ≡ candidate_after c r.vote.choice) o a
      (λ t. rw t refl) (λ t. rw t refl)

  -- 5: "the carried reading (or none) becomes the sender's vote reading", if the head then has the candidate that is named
  pub vote_reading_taken : (effect r (VoteDelivered p k c x)).after.vote.choice ≡ Some c → vote_of (effect r (VoteDelivered p k c x)).after p ≡ x
  vote_reading_taken e = ap (λ (s : Sender). s.vote) vote_taken_lem ∙ rw (sym candidate_after_lem ∙ e, eqb_same c) refl

  pub carried_reading_counts : (effect r (VoteDelivered p k c x)).after.vote.choice ≡ Some c → (y : Reading) → x ≡ Some y
      → vote_readings (effect r (VoteDelivered p k c x)).after (suc p) ≡ y.0 ∷ vote_readings (effect r (VoteDelivered p k c x)).after p
  carried_reading_counts f y e = vote_reading_counts (effect r (VoteDelivered p k c x)).after p y (vote_reading_taken f ∙ e)

  -- document 02, No. 5: "a vote taken that names another candidate leaves its sender with none"
  pub another_candidate_leaves_none : (effect r (VoteDelivered p k c x)).after.vote.choice ≢ Some c → vote_of (effect r (VoteDelivered p k c x)).after p ≡ None
  another_candidate_leaves_none n =
      ap (λ (s : Sender). s.vote) vote_taken_lem ∙ none_left (candidate_after c r.vote.choice) (keep_vote (kept_of r p) k c x) (λ e. n (candidate_after_lem ∙ sym e))

  -- document 02, No. 4: it is the "sender's latest vote"
  pub latest_vote_taken : (kept_of (effect r (VoteDelivered p k c x)).after p).candidate ≡ Some c
  latest_vote_taken = ap (λ (s : Sender). s.candidate) vote_taken_lem

  -- its serial is then "the last taken from that sender", so a repeat has no effect
  pub vote_serial_taken : (kept_of (effect r (VoteDelivered p k c x)).after p).voted ≡ Some k
  vote_serial_taken = ap (λ (s : Sender). s.voted) vote_taken_lem

-- 8: "as 5, with adjuster and adjustment"
module _ (r : HeadRecord) (p k a : ℕ) (x : Reading) (h : p < length r.senders) (d : p ≢ r.own) (o : r.adjust.closed ≡ false) (b : Above k (kept_of r p).adjusted) where
  adjust_taken_lem : kept_of (effect r (AdjustDelivered p k a x)).after p ≡ keep_adjust (kept_of r p) k a
  unfolding effect adjust
  adjust_taken_lem =
      let stored = get_or-set_same r.senders p (keep_adjust (kept_of r p) k a) no_sender h in
      taken_or_adopted r.adjust (kept_of r p).adjusted k a r _ (adjust a x) (λ (t : Stepped). kept_of t.after p ≡ keep_adjust (kept_of r p) k a) o b
      (λ _. get_or-set_other (set r.senders p _) r.own p _ no_sender d ∙ stored) (λ _. stored)

  pub latest_adjust_taken : (kept_of (effect r (AdjustDelivered p k a x)).after p).adjuster ≡ Some a
  latest_adjust_taken = ap (λ (s : Sender). s.adjuster) adjust_taken_lem

  pub adjust_serial_taken : (kept_of (effect r (AdjustDelivered p k a x)).after p).adjusted ≡ Some k
  adjust_serial_taken = ap (λ (s : Sender). s.adjusted) adjust_taken_lem

-- "Closed if sender is h"
pub own_frame_closed : (r : HeadRecord) (k c : ℕ) (x : Option Reading) (y : Reading)
    → (is_closed r (VoteDelivered r.own k c x) ≡ true) × (is_closed r (AdjustDelivered r.own k c y) ≡ true)
unfolding is_closed
own_frame_closed r k c x y = rw (eqb_same r.own) (refl, refl)

lead_keeps_turn : (r : HeadRecord) → (lead r).after.vote.turn ≡ r.vote.turn
unfolding lead vote
lead_keeps_turn r = cond_elim (λ (t : Stepped). t.after.vote.turn ≡ r.vote.turn) (may_lead r) (λ _. refl) (λ _. refl)

propose_keeps_turn : (r : HeadRecord) → (propose r).after.adjust.turn ≡ r.adjust.turn
unfolding propose adjust
propose_keeps_turn r = cond_elim (λ (t : Stepped). t.after.adjust.turn ≡ r.adjust.turn) (may_adjust r) (λ _. refl) (λ _. refl)

-- "already sent", "already confirmed", "already taken": each of the six marks is set once
pub record SetOnce (r : HeadRecord) : Type 0 where
  pub start_sent : is_closed (effect r StartSent).after StartSent ≡ true
  pub start_confirmed : is_closed (effect r StartConfirmed).after StartConfirmed ≡ true
  pub vote_turn : is_closed (effect r VoteTurn).after VoteTurn ≡ true
  pub vote_close : is_closed (effect r VoteClose).after VoteClose ≡ true
  pub adjust_turn : is_closed (effect r AdjustTurn).after AdjustTurn ≡ true
  pub adjust_close : is_closed (effect r AdjustClose).after AdjustClose ≡ true

pub marks_set_once : (r : HeadRecord) → SetOnce r
unfolding is_closed effect
marks_set_once r =
    record {
      start_sent = refl;
      start_confirmed = or_second (not r.started) _ refl;
      vote_turn = or_second (not (effect r VoteTurn).after.confirmed) _ (lead_keeps_turn _);
      vote_close = refl;
      adjust_turn = or_second (not (effect r AdjustTurn).after.vote.closed) _ (or_first (effect r AdjustTurn).after.adjust.turn _ (propose_keeps_turn _));
      adjust_close = or_second (not r.vote.closed) _ refl;
    }

-- 9: "Outcome 2 (adopted) if h has a candidate, its start reading and an adjuster; else 1"
pub no_candidate_no_start : (r : HeadRecord) → r.vote.choice ≡ None → chosen_start r ≡ None
unfolding chosen_start
no_candidate_no_start r e = ap (start_of_choice r) e

outcome_1 : (r : HeadRecord) → r.adjust.closed ≡ true → (is_some (chosen_start r) && is_some r.adjust.choice) ≢ true → outcome r ≡ 1
unfolding outcome
outcome_1 r c lacks =
    cond_elim (λ o. o ≡ 1) r.adjust.closed
    (λ _. cond_elim (λ o. o ≡ 1) (is_some (chosen_start r) && is_some r.adjust.choice) (λ t. absurd (lacks t)) (λ _. refl)) (λ t. absurd_bool c t)

pub outcome_1_without_start : (r : HeadRecord) → r.adjust.closed ≡ true → chosen_start r ≡ None → outcome r ≡ 1
outcome_1_without_start r c e = outcome_1 r c (λ t. absurd_bool (and_left (is_some (chosen_start r)) _ t) (ap is_some e))

pub outcome_1_without_adjuster : (r : HeadRecord) → r.adjust.closed ≡ true → r.adjust.choice ≡ None → outcome r ≡ 1
outcome_1_without_adjuster r c e = outcome_1 r c (λ t. absurd_bool (and_right (is_some (chosen_start r)) _ t) (ap is_some e))

-- "All fields but kind, outcome and head are zero unless the outcome is 2", but those of the fourth word, "set whatever the outcome"
pub words_unless_adopted : (q : ℕ) (r : HeadRecord) → outcome r ≢ 2
    → head_words q r ≡ (6 * 2 ^ 28 + outcome r * 2 ^ 24 + q * 2 ^ 20) ∷ 7 * 2 ^ 28 ∷ 8 * 2 ^ 28 ∷ frames_word r ∷ []
unfolding outcome_word adjustment_word start_word
words_unless_adopted q r n = ap₂ ◌∷◌ (omega (arith, zero_field (unwrap_or r.vote.choice 0), zero_field (unwrap_or r.adjust.choice 0)))
    (ap₂ ◌∷◌ (omega (arith, zero_field r.adjustment.0)) (ap₂ ◌∷◌ (omega (arith, zero_field (reading_or0 (chosen_start r)))) refl))
  where
    zero_field : (x : ℕ) → if_adopted r x ≡ 0
    zero_field x = ap (λ (b : Bool). cond b x 0) (ne_eqb (outcome r) 2 n)

-- what is answered to an action, of a record r at the reading x: "Every accepted action makes its reading the last reading";
-- a refusal leaves the record, and there is no frame
pub record Answers (r : HeadRecord) (x : Reading) (t : Stepped) : Type 0 where
  pub accepted_last_reading : t.verdict ≡ Accepted → t.after.last ≡ x
  pub refused_unchanged : (c : Cause) → t.verdict ≡ Refused c → t ≡ refused r c

effect_keeps_last : (r : HeadRecord) (a : Action) → (effect r a).after.last ≡ r.last
effect_keeps_last r a = ap (λ (t : Stepped). t.after.last) (effect_split r a) ∙ (send_same (sending_of r a) (prepared r a)).last

answers_refused : (r : HeadRecord) (x : Reading) (c : Cause) → Answers r x (refused r c)
answers_refused r x c =
    record {
      accepted_last_reading = λ e. absurd (let z : ◌≡◌ {A = ℕ} 0 1 = cc in omega arith);
      refused_unchanged = λ d e. ap (refused r) (let z : c ≡ d = cc in z);
    }

answers_taken : (r : HeadRecord) (x : Reading) (a : Action) → Answers r x (act (with_last r x) a)
unfolding act
answers_taken r x a =
    record {
      accepted_last_reading = λ e. effect_keeps_last (with_last r x) a;
      refused_unchanged = λ c e. absurd (let v = ap (λ (t : Stepped). t.verdict) (act_accepted (with_last r x) a) in let z : ◌≡◌ {A = ℕ} 0 1 = cc in omega arith);
    }

pub action_answers : (r : HeadRecord) (x : Reading) (sent : Bool) (a : Action) → Answers r x (take_action r x sent a)
unfolding take_action
action_answers r x sent a =
    cond_elim (Answers r x) (ltb x.0 r.last.0) (λ _. answers_refused r x _)
    (λ _. cond_elim (Answers r x) (not sent || is_closed r (taken_as r a)) (λ _. answers_refused r x _) (λ _. answers_taken r x (taken_as r a)))

pub step_answers : (r : HeadRecord) (i : Input) → Answers r (reading i.reading) (step r i)
unfolding step
step_answers r i =
    cond_elim (Answers r (reading i.reading)) (not (record_in_range r)) (λ _. answers_refused r _ _)
    (λ _. cond_elim (Answers r (reading i.reading)) (not (input_fits r.n i)) (λ _. answers_refused r _ _) (λ _. action_answers r _ true (action_of i)))

-- CLOSING WHEN ALL HAVE SPOKEN (document 02, No. 4)

-- "as soon as its own and every other head's latest vote name its candidate, and the adjust phase likewise with the adjuster";
-- ""all" means all n": a phase under way closes exactly then
module _ (k : Kind) (r : HeadRecord) where
  abbrev choice : Option ℕ
  choice = (phase_of k r).choice

  abbrev latest : ℕ → Option ℕ
  latest q = latest_of k (kept_of r q)

  pub closes_when_all_have_spoken : (c : ℕ) → is_under_way k r ≡ true → choice ≡ Some c → ((q : ℕ) → q < r.n → latest q ≡ Some c) → may_close k r ≡ true
  unfolding may_close
  closes_when_all_have_spoken c o ch all =
      and_both o (below_all r.n (λ q. same_number (latest q) choice) (λ q l. ap₂ same_number (all q l) ch ∙ eqb_same c))

  pub closes_only_when_all_have_spoken : may_close k r ≡ true → (q : ℕ) → q < r.n → (c : ℕ) × (latest q ≡ Some c) × (choice ≡ Some c)
  unfolding may_close
  closes_only_when_all_have_spoken e q l =
      both_name (latest q) choice (all_below_lem r.n (λ q. same_number (latest q) choice) (and_right (is_under_way k r) _ e) q l)

  -- no candidate, or no adjuster: never
  pub no_early_close_without_choice : 0 < r.n → choice ≡ None → may_close k r ≡ false
  no_early_close_without_choice l e = cases (may_close k r) (λ t. none_is_some (sym e ∙ (closes_only_when_all_have_spoken t 0 l).2)) (λ t. t)

-- "but never before its vote close"
pub no_early_adjust_close_before_vote_close : (r : HeadRecord) → r.vote.closed ≡ false → may_close adjusts r ≡ false
unfolding may_close
no_early_adjust_close_before_vote_close r e = rw e refl

-- "This is tested .. at the end of each action": both marks of the phase are then set
pub record ClosedEarly (p : Phase) : Type 0 where
  pub closed : p.closed ≡ true
  pub early : p.early ≡ true

module _ (r : HeadRecord) (a : Action) (tested : is_tested r a ≡ true) where
  pub vote_closes_early : may_close votes (effect r a).after ≡ true → ClosedEarly (act r a).after.vote
  unfolding act
  vote_closes_early v = rw (tested, v) (record { closed = refl; early = refl })

  -- "vote first": so one action may close both
  pub both_close_early : may_close votes (effect r a).after ≡ true → all_spoken adjusts (effect r a).after ≡ true → (effect r a).after.adjust.closed ≡ false
      → ClosedEarly (act r a).after.adjust
  unfolding act may_close
  both_close_early v all o = rw (tested, v, o, all) (record { closed = refl; early = refl })

-- ".. but looks and those that these papers call without effect": these, and no others, are not tested, and have none
pub data WithoutEffect (r : HeadRecord) : Action → Type 0 where
  look : WithoutEffect r Look
  late_start : {p : ℕ} → r.adjust.closed ≡ true → WithoutEffect r (StartDelivered p)
  late_vote : {p k c : ℕ} {x : Option Reading} → r.vote.closed ≡ true → WithoutEffect r (VoteDelivered p k c x)
  old_vote : {p k c : ℕ} {x : Option Reading} (j : ℕ) → (kept_of r p).voted ≡ Some j → k ≤ j → WithoutEffect r (VoteDelivered p k c x)
  late_adjust : {p k a : ℕ} {x : Reading} → r.adjust.closed ≡ true → WithoutEffect r (AdjustDelivered p k a x)
  old_adjust : {p k a : ℕ} {x : Reading} (j : ℕ) → (kept_of r p).adjusted ≡ Some j → k ≤ j → WithoutEffect r (AdjustDelivered p k a x)

pub untested : {r : HeadRecord} {a : Action} → WithoutEffect r a → is_tested r a ≡ false
unfolding is_tested
untested look = refl
untested (late_start e) = rw e refl
untested (late_vote e) = rw e refl
untested {r} (old_vote {k = k} j e h) = rw (e, not_above k j h) (not_is_false (or_second r.vote.closed true refl))
untested (late_adjust e) = rw e refl
untested {r} (old_adjust {k = k} j e h) = rw (e, not_above k j h) (not_is_false (or_second r.adjust.closed true refl))

passed_over : {P : Type 0} (phase : Phase) (last : Option ℕ) (k : ℕ) → not (is_passed_over phase last k) ≡ false
    → (phase.closed ≡ true → P) → ((j : ℕ) → last ≡ Some j → k ≤ j → P) → P
passed_over phase None k e late old = or_cases phase.closed _ (not_false e) late (λ u. absurd_bool u refl)
passed_over phase (Some j) k e late old = or_cases phase.closed _ (not_false e) late (λ u. old j refl (ltb-false j k (not_true u)))

pub tested_unless_without_effect : (r : HeadRecord) (a : Action) → is_tested r a ≡ false → WithoutEffect r a
unfolding is_tested
tested_unless_without_effect r Look e = look
tested_unless_without_effect r StartSent e = absurd_bool refl e
tested_unless_without_effect r (StartDelivered p) e = late_start (not_false e)
tested_unless_without_effect r StartConfirmed e = absurd_bool refl e
tested_unless_without_effect r VoteTurn e = absurd_bool refl e
tested_unless_without_effect r (VoteDelivered p k c x) e = passed_over r.vote (kept_of r p).voted k e late_vote old_vote
tested_unless_without_effect r VoteClose e = absurd_bool refl e
tested_unless_without_effect r AdjustTurn e = absurd_bool refl e
tested_unless_without_effect r (AdjustDelivered p k a x) e = passed_over r.adjust (kept_of r p).adjusted k e late_adjust old_adjust
tested_unless_without_effect r AdjustClose e = absurd_bool refl e

pub without_effect : {r : HeadRecord} {a : Action} → WithoutEffect r a → act r a ≡ silent r
unfolding act effect
without_effect {r} {a} w = rw (untested w) (go w)
  where
    go : {a : Action} → WithoutEffect r a → effect r a ≡ silent r
    go look = refl
    go (late_start {p} e) = no_start_after_close r p e
    go (late_vote {p} {k} {c} e) = no_effect_after_close r.vote (kept_of r p).voted k c r _ (vote c) e
    go (old_vote {p} {k} {c} j e h) = no_effect_of_old_serial r.vote (kept_of r p).voted k c r _ (vote c) j e h
    go (late_adjust {p} {k} {a} {x} e) = no_effect_after_close r.adjust (kept_of r p).adjusted k a r _ (adjust a x) e
    go (old_adjust {p} {k} {a} {x} j e h) = no_effect_of_old_serial r.adjust (kept_of r p).adjusted k a r _ (adjust a x) j e h

-- "each sender's latest vote and adjust (none, or below n)", "a mark for each phase closed early, set only with that phase's close mark"
module _ (k : Kind) (r : HeadRecord) (fits : record_in_range r ≡ true) where
  pub latest_below_n : (p : ℕ) → p < r.n → (c : ℕ) → latest_of k (kept_of r p) ≡ Some c → c < r.n
  latest_below_n p l c e = subst (λ (m : Option ℕ). unwrap_or m 0 < r.n) e ((((in_range fits).kept p).below l).latest k)

  pub early_only_with_close_mark : (phase_of k r).early ≡ true → (phase_of k r).closed ≡ true
  early_only_with_close_mark = (in_range fits).early k

-- "After an early vote close any action 6, and after an early adjust close any action 7 or 9, has no effect and isn't
-- cause 9"; its reading still becomes the last reading
pub data Spent (r : HeadRecord) : Action → Type 0 where
  vote_close : r.vote.early ≡ true → Spent r VoteClose
  adjust_turn : r.adjust.early ≡ true → Spent r AdjustTurn
  adjust_close : r.adjust.early ≡ true → Spent r AdjustClose

spent_look : {r : HeadRecord} {a : Action} → Spent r a → taken_as r a ≡ Look
unfolding taken_as
spent_look (vote_close e) = rw e refl
spent_look (adjust_turn e) = rw e refl
spent_look (adjust_close e) = rw e refl

pub spent_without_effect : (r : HeadRecord) (x : Reading) (a : Action) → Spent r a → r.last.0 ≤ x.0 → take_action r x true a ≡ silent (with_last r x)
unfolding take_action is_closed
spent_without_effect r x a s le = rw (spent_look s, le-ltb x.0 r.last.0 le) (without_effect look)

-- ".. only for the other actions": any other is taken as itself, or closed as ever
pub others_taken_as_themselves : (r : HeadRecord) (a : Action) → (Spent r a → ⊥) → taken_as r a ≡ a
unfolding taken_as
others_taken_as_themselves r Look s = refl
others_taken_as_themselves r StartSent s = refl
others_taken_as_themselves r (StartDelivered p) s = refl
others_taken_as_themselves r StartConfirmed s = refl
others_taken_as_themselves r VoteTurn s = refl
others_taken_as_themselves r (VoteDelivered p k c x) s = refl
others_taken_as_themselves r VoteClose s = cond_elim (λ (b : Action). b ≡ VoteClose) r.vote.early (λ u. absurd (s (vote_close u))) (λ _. refl)
others_taken_as_themselves r AdjustTurn s = cond_elim (λ (b : Action). b ≡ AdjustTurn) r.adjust.early (λ u. absurd (s (adjust_turn u))) (λ _. refl)
others_taken_as_themselves r (AdjustDelivered p k c x) s = refl
others_taken_as_themselves r AdjustClose s = cond_elim (λ (b : Action). b ≡ AdjustClose) r.adjust.early (λ u. absurd (s (adjust_close u))) (λ _. refl)

module _ (g : Setting) where
  -- "Premises 5 to 8 look at closes by entry only at heads still open"
  pub closes_at_open_heads : (k : Kind) {s : History} {e : Event} → Taken g s e → Valid g s
      → correct_closes g k e ≡ (correct_takes g (closing k) e && not (phase_of k (record_of g s e.entry.head)).closed)
  closes_at_open_heads k {s} {e} t v =
      cases (eqb e.entry.action (closing k))
      (λ u. let c = close_by_entry g k t v (eqb-true _ _ u) in ap (λ (b : Bool). correct_takes g (closing k) e && not b) (c.1 ∙ sym c.0))
      (λ u. let no_close : correct_takes g (closing k) e ≡ false = and_false (is_correct g e.entry.head) (eqb e.entry.action (closing k)) u in rw no_close refl)

  -- ".. and ask nothing where there is no such close"
  none_between_lem : (k : Kind) (h : History) → any (correct_closes g k) h ≡ false → none_between g k h ≡ true
  unfolding none_between each
  none_between_lem k [] e = refl
  none_between_lem k (d ∷ s) e = rw (or_left (correct_closes g k d) _ e) (none_between_lem k s (or_right (correct_closes g k d) _ e))

  pub nothing_asked_without_vote_close : (h : History) → any (correct_closes g votes) h ≡ false → (premise5 g h ≡ true) × (premise6 g h ≡ true)
  unfolding premise5 premise6
  nothing_asked_without_vote_close h e = (rw e refl, none_between_lem votes h e)

  pub nothing_asked_without_adjust_close : (h : History) → any (correct_closes g adjusts) h ≡ false → (premise7 g h ≡ true) × (premise8 g h ≡ true)
  unfolding premise7 premise8
  nothing_asked_without_adjust_close h e = (rw e refl, none_between_lem adjusts h e)

-- premise 2: "For two entries of a correct head", d the earlier, whatever stands between them
pub any_two_entries_steady : (g : Setting) {h s past : History} {d e : Event} → premise2 g h ≡ true → Earlier (e ∷ s) h → Earlier (d ∷ past) s
    → is_correct g e.entry.head ≡ true → d.entry.head ≡ e.entry.head → is_steady g.drift d.entry e.entry ≡ true
unfolding premise2
any_two_entries_steady g {d = d} {e} kept x y correct same =
    implied (eqb d.entry.head e.entry.head) _
    (all_in (λ d. eqb d.entry.head e.entry.head ⇒ is_steady g.drift d.entry e.entry) (earlier_in y)
    (implied (is_correct g e.entry.head) _ (each_at _ kept x) correct))
    (eq-eqb d.entry.head e.entry.head same)

-- "1,000,000 × |(b − a) − (t − s)| ≤ drift × (t − s) + 1,000,000", in signed numbers as document 01 writes it
pub steady_as_written : (drift : ℕ) (d e : Entry) → is_steady drift d e
    ≡ leb (1000000 * nat_abs (sub_ℕ e.reading.0 d.reading.0 -ℤ sub_ℕ e.time.0 d.time.0)) (drift * (e.time.0 - d.time.0) + 1000000)
steady_as_written drift d e =
    ap (λ (x : ℕ). leb (1000000 * x) (drift * (e.time.0 - d.time.0) + 1000000))
    (sym (difference_abs (difference_sub (difference_of e.reading.0 d.reading.0) (difference_of e.time.0 d.time.0))))
