-- An action's effect in two parts: what the record keeps of it, and what the head then says. Every later fact about a
-- step is a fact about these two, so the ten actions are gone through here and seldom elsewhere.
-- What document 02, No. 4, adds to a step, the test at its end, changes only the marks of closing.
-- Main results: `effect_split`, `phase_after`, `named_after`, `allowed`, `act_split`, `answer_phase`, `taken_as_lem`.
use Rattle.std.specs.Prelude.{Option, Some, None, is_some}
use mathlib.Core.Path.{◌≡◌, refl, sym, ◌∙◌, ap, subst}
use mathlib.Core.Bool.{Bool, true, false, cond, not, ◌&&◌, ◌||◌}
use mathlib.Core.List.{List, [], ◌∷◌}
use Prim.Native.Nat.{ℕ, zero, suc, ◌<◌}
use native.Mathlib.Omega.{arith}
use lib.Dec.{eqb}
use lib.ListN.{length, get_or, set, length-set, length-map, get_or-map}
use lib.Seq.{get_or-set_same, get_or-set_other}
use borrow.Author.Tests.{eqb-true, eqb-false}
use Rattle.protocol.specs.Types.{Reading, Sender, Phase, HeadRecord, Stepped, Frame, NoFrame, Start, Vote, Adjust}
use Rattle.protocol.specs.Types.{Action, Look, StartSent, StartDelivered, StartConfirmed, VoteTurn, VoteDelivered, VoteClose, AdjustTurn, AdjustDelivered, AdjustClose}
use Rattle.protocol.specs.Words.{has_sender}
use Rattle.protocol.specs.Record.{reading, no_sender, kept_of, start_of, vote_of, same_number}
use Rattle.protocol.specs.Median.{median}
use Rattle.protocol.specs.Step.{choose, early_if, with_start, with_vote_reading, with_candidate, with_last, with_senders, keep_vote, keep_adjust, kept_for, drop_others, accepted, silent, vote, adjust, may_lead, lead, vote_readings, may_adjust, propose, is_passed_over, outranks, candidate_after, delivered, effect, is_closed, all_spoken, is_under_way, may_close, close_early, concluded, is_tested, act, taken_as}
use Rattle.protocol.specs.Run.{is_delivered_by, carried_reading}
pub use Rattle.protocol.specs.declared.Kind.{Kind}
pub use Rattle.protocol.specs.Record.{votes, adjusts, phase_of, latest_of}
pub use Rattle.protocol.specs.Step.{number}
pub use Rattle.protocol.specs.Premises.{delivery, closing}
use Rattle.protocol.proofs.Tests.{absurd_bool, cond_elim, not_true, and_left, and_right, or_left, or_right}

-- what each phase has of a sender
abbrev pub taken_of : Kind → Sender → Option ℕ
taken_of votes k = k.voted
taken_of adjusts k = k.adjusted

-- an action that delivers nothing is known by its number
abbrev pub timed_action : ℕ → Action
timed_action i = get_or (Look ∷ StartSent ∷ Look ∷ StartConfirmed ∷ VoteTurn ∷ Look ∷ VoteClose ∷ AdjustTurn ∷ Look ∷ AdjustClose ∷ []) i Look

timed_action_lem : (a : Action) → has_sender (number a) ≡ false → a ≡ timed_action (number a)
timed_action_lem Look e = refl
timed_action_lem StartSent e = refl
timed_action_lem (StartDelivered p) e = absurd_bool refl e
timed_action_lem StartConfirmed e = refl
timed_action_lem VoteTurn e = refl
timed_action_lem (VoteDelivered p k c x) e = absurd_bool refl e
timed_action_lem VoteClose e = refl
timed_action_lem AdjustTurn e = refl
timed_action_lem (AdjustDelivered p k c x) e = absurd_bool refl e
timed_action_lem AdjustClose e = refl

pub is_timed : (a : Action) (i : ℕ) → has_sender i ≡ false → number a ≡ i → a ≡ timed_action i
is_timed a i e n = timed_action_lem a (ap has_sender n ∙ e) ∙ ap timed_action n

-- the frame that an action delivers, with its sender
pub record Delivery : Type 0 where
  pub sender : ℕ
  pub frame : Frame

abbrev pub no_delivery : Delivery
no_delivery = record { sender = 0; frame = NoFrame }

abbrev pub delivery_in : Action → Delivery
delivery_in Look = no_delivery
delivery_in StartSent = no_delivery
delivery_in (StartDelivered p) = record { sender = p; frame = Start }
delivery_in StartConfirmed = no_delivery
delivery_in VoteTurn = no_delivery
delivery_in (VoteDelivered p k c x) = record { sender = p; frame = Vote k c x }
delivery_in VoteClose = no_delivery
delivery_in AdjustTurn = no_delivery
delivery_in (AdjustDelivered p k c x) = record { sender = p; frame = Adjust k c x }
delivery_in AdjustClose = no_delivery

-- the action that delivers a frame, and the frame's serial
abbrev pub delivered_by : Frame → ℕ
delivered_by NoFrame = 0
delivered_by Start = 2
delivered_by (Vote j c x) = 5
delivered_by (Adjust j c x) = 8

abbrev pub serial_of : Frame → ℕ
serial_of NoFrame = 0
serial_of Start = 0
serial_of (Vote j c x) = j
serial_of (Adjust j c x) = j

-- what a frame names: the candidate or the adjuster
abbrev pub named : Frame → Option ℕ
named NoFrame = None
named Start = None
named (Vote j c x) = Some c
named (Adjust j c x) = Some c

-- what it names if it is a frame of the phase under the serial
abbrev pub named_by : Kind → ℕ → Frame → Option ℕ
named_by k j x = cond (is_delivered_by (delivery k) j x) (named x) None

-- one more than the last serial taken, 0 where none was
abbrev pub taken : Option ℕ → ℕ
taken None = 0
taken (Some j) = suc j

-- FIRST PART: the record with the action's mark set and what is kept of a delivered frame

abbrev pub passed_over : Kind → HeadRecord → ℕ → ℕ → Bool
passed_over k r p j = is_passed_over (phase_of k r) (taken_of k (kept_of r p)) j

-- a delivery that has no effect, and what is kept by its sender after one that has
abbrev pub ignored : HeadRecord → ℕ → Frame → Bool
ignored r p NoFrame = true
ignored r p Start = r.adjust.closed
ignored r p (Vote j c x) = passed_over votes r p j
ignored r p (Adjust j c x) = passed_over adjusts r p j

abbrev pub kept_after : HeadRecord → ℕ → Frame → Sender
kept_after r p NoFrame = kept_of r p
kept_after r p Start = with_start (kept_of r p) (Some r.last)
kept_after r p (Vote j c x) = kept_for (candidate_after c r.vote.choice) (keep_vote (kept_of r p) j c x)
kept_after r p (Adjust j c x) = keep_adjust (kept_of r p) j c

abbrev pub senders_after : HeadRecord → ℕ → Frame → List Sender
senders_after r p x = cond (ignored r p x) r.senders (set r.senders p (kept_after r p x))

abbrev pub phase_marked : ℕ → ℕ → ℕ → Phase → Phase
phase_marked turn close a p = record { turn = eqb a turn || p.turn; closed = eqb a close || p.closed; early = p.early; choice = p.choice; sent = p.sent }

abbrev pub prepared : HeadRecord → Action → HeadRecord
prepared r a =
    record {
      n = r.n;
      f = r.f;
      own = r.own;
      last = r.last;
      started = eqb (number a) 1 || r.started;
      confirmed = eqb (number a) 3 || r.confirmed;
      vote = phase_marked 4 6 (number a) r.vote;
      adjust = phase_marked 7 9 (number a) r.adjust;
      adjustment = r.adjustment;
      senders = senders_after r (delivery_in a).sender (delivery_in a).frame;
    }

-- SECOND PART: what the head says

pub data Sending : Type 0 where
  nothing start : Sending
  voting : ℕ → Sending
  adjusting : ℕ → Reading → Sending

abbrev pub send : Sending → HeadRecord → Stepped
send nothing m = silent m
send start m = accepted m Start
send (voting c) m = vote c m
send (adjusting c x) m = adjust c x m

abbrev pub sending_of : HeadRecord → Action → Sending
sending_of r Look = nothing
sending_of r StartSent = start
sending_of r (StartDelivered p) =
    cond r.adjust.closed nothing
    (cond (may_lead (with_senders r (set r.senders p (with_start (kept_of r p) (Some r.last))))) (voting r.own) nothing)
sending_of r StartConfirmed = nothing
sending_of r VoteTurn = cond (may_lead (prepared r VoteTurn)) (voting r.own) nothing
sending_of r (VoteDelivered p k c x) = cond (passed_over votes r p k) nothing (cond (outranks c r.vote.choice) (voting c) nothing)
sending_of r VoteClose = nothing
sending_of r AdjustTurn =
    cond (may_adjust (prepared r AdjustTurn)) (adjusting r.own (reading (median (vote_readings (prepared r AdjustTurn) r.n)))) nothing
sending_of r (AdjustDelivered p k c x) = cond (passed_over adjusts r p k) nothing (cond (outranks c r.adjust.choice) (adjusting c x) nothing)
sending_of r AdjustClose = nothing

split_if : (o : Bool) (m : HeadRecord) (x : Sending) → cond o (send x m) (silent m) ≡ send (cond o x nothing) m
split_if true m x = refl
split_if false m x = refl

split_delivery : (b o : Bool) (r : HeadRecord) (l : List Sender) (x : Sending)
    → cond b (silent r) (cond o (send x (with_senders r l)) (silent (with_senders r l)))
    ≡ send (cond b nothing (cond o x nothing)) (with_senders r (cond b r.senders l))
split_delivery true o r l x = refl
split_delivery false o r l x = split_if o (with_senders r l) x

pub effect_split : (r : HeadRecord) (a : Action) → effect r a ≡ send (sending_of r a) (prepared r a)
unfolding effect lead propose delivered
effect_split r Look = refl
effect_split r StartSent = refl
effect_split r (StartDelivered p) = split_delivery r.adjust.closed (may_lead _) r (set r.senders p (with_start (kept_of r p) (Some r.last))) (voting r.own)
effect_split r StartConfirmed = refl
effect_split r VoteTurn = split_if (may_lead (prepared r VoteTurn)) (prepared r VoteTurn) (voting r.own)
effect_split r (VoteDelivered p k c x) = split_delivery (passed_over votes r p k) (outranks c r.vote.choice) r _ (voting c)
effect_split r VoteClose = refl
effect_split r AdjustTurn = split_if (may_adjust (prepared r AdjustTurn)) (prepared r AdjustTurn) (adjusting r.own _)
effect_split r (AdjustDelivered p k c x) = split_delivery (passed_over adjusts r p k) (outranks c r.adjust.choice) r _ (adjusting c x)
effect_split r AdjustClose = refl

-- whom a sending of the phase names
abbrev pub named_in : Kind → Sending → Option ℕ
named_in votes nothing = None
named_in votes start = None
named_in votes (voting c) = Some c
named_in votes (adjusting c x) = None
named_in adjusts nothing = None
named_in adjusts start = None
named_in adjusts (voting c) = None
named_in adjusts (adjusting c x) = Some c

-- a phase after a sending: unchanged, or with the choice named and one more frame sent
abbrev pub chosen_by : Option ℕ → Phase → Phase
chosen_by None p = p
chosen_by (Some c) p = choose c p

pub phase_after : (k : Kind) (x : Sending) (m : HeadRecord) → phase_of k (send x m).after ≡ chosen_by (named_in k x) (phase_of k m)
unfolding vote adjust
phase_after votes nothing m = refl
phase_after votes start m = refl
phase_after votes (voting c) m = refl
phase_after votes (adjusting c x) m = refl
phase_after adjusts nothing m = refl
phase_after adjusts start m = refl
phase_after adjusts (voting c) m = refl
phase_after adjusts (adjusting c x) m = refl

-- preparing changes no choice and no count, and the last reading is no part of a phase
pub prepared_choice : (k : Kind) (r : HeadRecord) (a : Action) → (phase_of k (prepared r a)).choice ≡ (phase_of k r).choice
prepared_choice votes r a = refl
prepared_choice adjusts r a = refl

pub prepared_sent : (k : Kind) (r : HeadRecord) (a : Action) → (phase_of k (prepared r a)).sent ≡ (phase_of k r).sent
prepared_sent votes r a = refl
prepared_sent adjusts r a = refl

pub prepared_closed : (k : Kind) (r : HeadRecord) (a : Action) → (phase_of k (prepared r a)).closed ≡ (eqb (number a) (closing k) || (phase_of k r).closed)
prepared_closed votes r a = refl
prepared_closed adjusts r a = refl

pub phase_last : (k : Kind) (r : HeadRecord) (x : Reading) → phase_of k (with_last r x) ≡ phase_of k r
phase_last votes r x = refl
phase_last adjusts r x = refl

-- a sending leaves the marks of a phase
pub chosen_turn : (m : Option ℕ) (p : Phase) → (chosen_by m p).turn ≡ p.turn
chosen_turn None p = refl
chosen_turn (Some c) p = refl

pub chosen_closed : (m : Option ℕ) (p : Phase) → (chosen_by m p).closed ≡ p.closed
chosen_closed None p = refl
chosen_closed (Some c) p = refl

-- the frame of a sending: of the phase, its serial is the number sent before, and it names the choice
abbrev pub named_under : Option ℕ → ℕ → ℕ → Option ℕ
named_under None i j = None
named_under (Some c) i j = cond (eqb i j) (Some c) None

pub named_after : (k : Kind) (x : Sending) (m : HeadRecord) (j : ℕ) → named_by k j (send x m).frame ≡ named_under (named_in k x) (phase_of k m).sent j
unfolding vote adjust
named_after votes nothing m j = refl
named_after votes start m j = refl
named_after votes (voting c) m j = refl
named_after votes (adjusting c x) m j = refl
named_after adjusts nothing m j = refl
named_after adjusts start m j = refl
named_after adjusts (voting c) m j = refl
named_after adjusts (adjusting c x) m j = refl

-- why a head names c: it has no choice and its turn is taken, or it is delivered a frame that outranks its choice
pub data Why (k : Kind) (r : HeadRecord) (a : Action) (c : ℕ) : Type 0 where
  itself : c ≡ r.own → (phase_of k r).choice ≡ None → (phase_of k (prepared r a)).turn ≡ true → Why k r a c
  told : number a ≡ delivery k → named (delivery_in a).frame ≡ Some c → Why k r a c

pub record Naming (k : Kind) (r : HeadRecord) (a : Action) (c : ℕ) : Type 0 where
  pub is_open : (phase_of k r).closed ≡ false
  pub higher : outranks c (phase_of k r).choice ≡ true
  pub why : Why k r a c

-- where an adjustment comes from: computed at the head's own turn, or carried by the frame that it passes on
pub data Source (r : HeadRecord) (a : Action) (x : Reading) : Type 0 where
  computed : number a ≡ 7 → x ≡ reading (median (vote_readings (prepared r a) r.n)) → Source r a x
  passed_on : number a ≡ 8 → carried_reading (delivery_in a).frame ≡ Some x → Source r a x

pub data Allowed (r : HeadRecord) (a : Action) : Sending → Type 0 where
  sends_nothing : Allowed r a nothing
  sends_start : number a ≡ 1 → Allowed r a start
  sends_vote : {c : ℕ} → Naming votes r a c → Allowed r a (voting c)
  sends_adjust : {c : ℕ} {x : Reading} → Naming adjusts r a c → Source r a x → Allowed r a (adjusting c x)

pub no_number : (m : Option ℕ) → is_some m ≡ false → m ≡ None
no_number None e = refl
no_number (Some v) e = absurd_bool refl e

-- the rule after 2 and 4, at the record that the action prepared
allowed_lead : (r m : HeadRecord) (a : Action) → m.vote.closed ≡ r.vote.closed → m.vote.choice ≡ r.vote.choice → m.vote.turn ≡ (prepared r a).vote.turn
    → Allowed r a (cond (may_lead m) (voting r.own) nothing)
unfolding may_lead
allowed_lead r m a cl ch tu =
    cond_elim (Allowed r a) (may_lead m)
    (λ t. let t2 = and_right m.vote.turn _ t in
    let t3 = and_right (not m.vote.closed) _ t2 in
    let none : r.vote.choice ≡ None = sym ch ∙ no_number _ (not_true (and_left (not (is_some m.vote.choice)) _ t3)) in
    let unclosed = not_true (and_left (not m.vote.closed) _ t2) in
    sends_vote (record {
      is_open = sym cl ∙ unclosed;
      higher = rw none refl;
      why = itself refl none (sym tu ∙ and_left m.vote.turn _ t);
    }))
    (λ _. sends_nothing)

-- a delivered frame, passed over or taken
allowed_delivery : (k : Kind) (r : HeadRecord) (a : Action) (p j c : ℕ) (x : Sending) → number a ≡ delivery k → named (delivery_in a).frame ≡ Some c
    → (Naming k r a c → Allowed r a x) → Allowed r a (cond (passed_over k r p j) nothing (cond (outranks c (phase_of k r).choice) x nothing))
allowed_delivery k r a p j c x nu na say =
    cond_elim (Allowed r a) (passed_over k r p j) (λ _. sends_nothing)
    (λ t. cond_elim (Allowed r a) (outranks c (phase_of k r).choice)
    (λ u. let unclosed = or_left (phase_of k r).closed _ t in
    say (record { is_open = unclosed; higher = u; why = told nu na })) (λ _. sends_nothing))

pub allowed : (r : HeadRecord) (a : Action) → is_closed r a ≡ false → Allowed r a (sending_of r a)
unfolding is_closed may_adjust
allowed r Look e = sends_nothing
allowed r StartSent e = sends_start refl
allowed r (StartDelivered p) e =
    cond_elim (Allowed r (StartDelivered p)) r.adjust.closed (λ _. sends_nothing)
    (λ _. allowed_lead r (with_senders r (set r.senders p (with_start (kept_of r p) (Some r.last)))) (StartDelivered p) refl refl refl)
allowed r StartConfirmed e = sends_nothing
allowed r VoteTurn e = allowed_lead r (prepared r VoteTurn) VoteTurn refl refl refl
allowed r (VoteDelivered p k c x) e = allowed_delivery votes r (VoteDelivered p k c x) p k c (voting c) refl refl sends_vote
allowed r VoteClose e = sends_nothing
allowed r AdjustTurn e =
    cond_elim (Allowed r AdjustTurn) (may_adjust (prepared r AdjustTurn))
    (λ t. let none : r.adjust.choice ≡ None = no_number _ (not_true (and_left (not (is_some r.adjust.choice)) _ (and_right (is_some r.vote.choice) _ t))) in
    let unclosed = or_right r.adjust.turn _ (or_right (not r.vote.closed) _ e) in
    sends_adjust (record { is_open = unclosed; higher = rw none refl; why = itself refl none refl }) (computed refl refl))
    (λ _. sends_nothing)
allowed r (AdjustDelivered p k c x) e = allowed_delivery adjusts r (AdjustDelivered p k c x) p k c (adjusting c x) refl refl (λ y. sends_adjust y (passed_on refl refl))
allowed r AdjustClose e = sends_nothing

pub none_is_some {ℓ} : {A : Type ℓ} {c : ℕ} → None ≡ Some c → A
none_is_some e = absurd (let z : ◌≡◌ {A = ℕ} 0 1 = cc in omega arith)

pub some_number : (m : Option ℕ) → is_some m ≡ true → (c : ℕ) × (m ≡ Some c)
some_number None e = absurd_bool e refl
some_number (Some c) e = (c, refl)

pub same_number_lem : {c v : ℕ} → Some c ≡ Some v → c ≡ v
same_number_lem e = cc

-- a head that names one in a phase has a reason
pub naming : (k : Kind) {r : HeadRecord} {a : Action} {x : Sending} {c : ℕ} → Allowed r a x → named_in k x ≡ Some c → Naming k r a c
naming votes sends_nothing e = none_is_some e
naming votes (sends_start s) e = none_is_some e
naming votes {r} {a} (sends_vote s) e = subst (Naming votes r a) (same_number_lem e) s
naming votes (sends_adjust s t) e = none_is_some e
naming adjusts sends_nothing e = none_is_some e
naming adjusts (sends_start s) e = none_is_some e
naming adjusts (sends_vote s) e = none_is_some e
naming adjusts {r} {a} (sends_adjust s t) e = subst (Naming adjusts r a) (same_number_lem e) s

-- WHAT A RECORD KEEPS

-- a part of the element that is written, if it is the part that stood there, is so everywhere
pub set_keeps : {X : Type 0} (g : Sender → X) (l : List Sender) (p q : ℕ) (k : Sender) → g k ≡ g (get_or l p no_sender)
    → g (get_or (set l p k) q no_sender) ≡ g (get_or l q no_sender)
set_keeps g [] p q k e = refl
set_keeps g (x ∷ l) zero zero k e = e
set_keeps g (x ∷ l) zero (suc q) k e = refl
set_keeps g (x ∷ l) (suc p) zero k e = refl
set_keeps g (x ∷ l) (suc p) (suc q) k e = set_keeps g l p q k e

-- what holds of every place, and of the element written, holds of every place after the write
pub set_holds : (P : ℕ → Sender → Type 0) (l : List Sender) (p : ℕ) (s : Sender) → P p s → ((q : ℕ) → P q (get_or l q no_sender)) → (q : ℕ) → P q (get_or (set l p s) q no_sender)
set_holds P [] p s h k q = k q
set_holds P (x ∷ l) zero s h k zero = h
set_holds P (x ∷ l) zero s h k (suc q) = k (suc q)
set_holds P (x ∷ l) (suc p) s h k zero = k zero
set_holds P (x ∷ l) (suc p) s h k (suc q) = set_holds (λ j. P (suc j)) l p s h (λ j. k (suc j)) q

-- once c is the candidate: what is kept of each sender, of which only the vote reading may be another
pub kept_for_at : (c : ℕ) (m : HeadRecord) (q : ℕ) → kept_of (drop_others c m) q ≡ kept_for (Some c) (kept_of m q)
kept_for_at c m q = get_or-map (kept_for (Some c)) m.senders q no_sender

pub kept_for_keeps : {X : Type 0} (g : Sender → X) → ((k : Sender) (x : Option Reading) → g (with_vote_reading k x) ≡ g k) → (c : ℕ) (m : HeadRecord) (q : ℕ)
    → g (kept_of (drop_others c m) q) ≡ g (kept_of m q)
kept_for_keeps g e c m q = ap g (kept_for_at c m q) ∙ e (kept_of m q) _

-- a part of what is kept by a sender that no sending changes: start reading and serials taken
abbrev pub Unsaid : {X : Type 0} → (Sender → X) → Type 0
Unsaid g = (k : Sender) (x : Option Reading) (c a : Option ℕ) → g (record { start = k.start; vote = x; voted = k.voted; adjusted = k.adjusted; candidate = c; adjuster = a }) ≡ g k

-- a sending changes nothing of a sender but vote readings and the head's own latest vote or adjust
pub send_keeps : {X : Type 0} (g : Sender → X) → Unsaid g → (x : Sending) (m : HeadRecord) (q : ℕ) → g (kept_of (send x m).after q) ≡ g (kept_of m q)
unfolding vote adjust
send_keeps g e nothing m q = refl
send_keeps g e start m q = refl
send_keeps g e (voting c) m q =
    let kept = kept_for_keeps g (λ k x. e k x k.candidate k.adjuster) c m in
    set_keeps g (drop_others c m).senders m.own q _ (e (kept_of m m.own) _ _ _ ∙ sym (kept m.own)) ∙ kept q
send_keeps g e (adjusting c x) m q = set_keeps g m.senders m.own q _ (e (kept_of m m.own) _ _ _)

-- number of heads, own number, last reading, and the marks that only an action's entry sets, in the order of the actions
abbrev pub marks_of : HeadRecord → List Bool
marks_of r = r.started ∷ r.confirmed ∷ r.vote.turn ∷ r.adjust.turn ∷ []

pub record Same (r m : HeadRecord) : Type 0 where
  pub n : m.n ≡ r.n
  pub f : m.f ≡ r.f
  pub own : m.own ≡ r.own
  pub last : m.last ≡ r.last
  pub size : length m.senders ≡ length r.senders

pub send_same : (x : Sending) (m : HeadRecord) → Same m (send x m).after
unfolding vote adjust
send_same nothing m = record { n = refl; f = refl; own = refl; last = refl; size = refl }
send_same start m = record { n = refl; f = refl; own = refl; last = refl; size = refl }
send_same (voting c) m = record { n = refl; f = refl; own = refl; last = refl; size = length-set (drop_others c m).senders m.own _ ∙ length-map m.senders _ }
send_same (adjusting c x) m = record { n = refl; f = refl; own = refl; last = refl; size = length-set m.senders m.own _ }

pub send_marks : (x : Sending) (m : HeadRecord) → marks_of (send x m).after ≡ marks_of m
unfolding vote adjust
send_marks nothing m = refl
send_marks start m = refl
send_marks (voting c) m = refl
send_marks (adjusting c x) m = refl

size_if : (b : Bool) (l : List Sender) (p : ℕ) (k : Sender) → length (cond b l (set l p k)) ≡ length l
size_if true l p k = refl
size_if false l p k = length-set l p k

pub prepared_same : (r : HeadRecord) (a : Action) → Same r (prepared r a)
prepared_same r a = record { n = refl; f = refl; own = refl; last = refl; size = size_if (ignored r (delivery_in a).sender (delivery_in a).frame) r.senders (delivery_in a).sender (kept_after r (delivery_in a).sender (delivery_in a).frame) }

-- a part of what is kept that a frame leaves as it was is so for every sender
pub column_kept : {X : Type 0} (part : Sender → X) (r : HeadRecord) (p : ℕ) (x : Frame) (v : ℕ) → part (kept_after r p x) ≡ part (kept_of r p)
    → part (get_or (senders_after r p x) v no_sender) ≡ part (kept_of r v)
column_kept part r p x v e = go (ignored r p x)
  where
    go : (i : Bool) → part (get_or (cond i r.senders (set r.senders p (kept_after r p x))) v no_sender) ≡ part (kept_of r v)
    go true = refl
    go false = set_keeps part r.senders p v (kept_after r p x) e

-- what is kept by sender v after a delivery from p
pub kept_after_lem : (r : HeadRecord) (p : ℕ) (x : Frame) (v : ℕ) → p < length r.senders
    → get_or (senders_after r p x) v no_sender ≡ cond (not (ignored r p x) && eqb p v) (kept_after r p x) (kept_of r v)
kept_after_lem r p x v b = go (ignored r p x) (eqb p v) refl
  where
    go : (i d : Bool) → eqb p v ≡ d → get_or (cond i r.senders (set r.senders p (kept_after r p x))) v no_sender ≡ cond (not i && d) (kept_after r p x) (kept_of r v)
    go true true t = refl
    go true false t = refl
    go false true t = subst (λ (w : ℕ). get_or (set r.senders p (kept_after r p x)) w no_sender ≡ kept_after r p x) (eqb-true p v t) (get_or-set_same r.senders p _ no_sender b)
    go false false t = get_or-set_other r.senders p v _ no_sender (λ d. eqb-false p v t (sym d))

-- an effect is an accepted answer
send_accepted : (x : Sending) (m : HeadRecord) → accepted (send x m).after (send x m).frame ≡ send x m
unfolding vote adjust
send_accepted nothing m = refl
send_accepted start m = refl
send_accepted (voting c) m = refl
send_accepted (adjusting c x) m = refl

pub effect_accepted : (r : HeadRecord) (a : Action) → accepted (effect r a).after (effect r a).frame ≡ effect r a
effect_accepted r a = rw (effect_split r a) (send_accepted (sending_of r a) (prepared r a))

-- whether an action is closed does not depend on the last reading
pub closed_last : (r : HeadRecord) (x : Reading) (a : Action) → is_closed (with_last r x) a ≡ is_closed r a
unfolding is_closed
closed_last r x Look = refl
closed_last r x StartSent = refl
closed_last r x (StartDelivered p) = refl
closed_last r x StartConfirmed = refl
closed_last r x VoteTurn = refl
closed_last r x (VoteDelivered p k c y) = refl
closed_last r x VoteClose = refl
closed_last r x AdjustTurn = refl
closed_last r x (AdjustDelivered p k c y) = refl
closed_last r x AdjustClose = refl

-- CLOSING WHEN ALL HAVE SPOKEN

-- whether the test at the end of a step closes the phase
abbrev pub early_now : Kind → Bool → HeadRecord → Bool
early_now votes tested r = tested && may_close votes r
early_now adjusts tested r = tested && may_close adjusts (close_early votes tested r)

-- it changes the marks of closing alone
concluded_phase : (k : Kind) (tested : Bool) (t : Stepped) → phase_of k (concluded tested t).after ≡ early_if (early_now k tested t.after) (phase_of k t.after)
concluded_phase votes tested t = refl
concluded_phase adjusts tested t = refl

-- a step in three parts
abbrev pub answer : HeadRecord → Action → Stepped
answer r a = concluded (is_tested r a) (send (sending_of r a) (prepared r a))

pub act_split : (r : HeadRecord) (a : Action) → act r a ≡ answer r a
unfolding act
act_split r a = ap (concluded (is_tested r a)) (effect_split r a)

pub act_accepted : (r : HeadRecord) (a : Action) → accepted (act r a).after (act r a).frame ≡ act r a
unfolding act
act_accepted r a = ap (concluded (is_tested r a)) (effect_accepted r a)

-- whether the step closes the phase early, and the phase after it
abbrev pub closes_early : Kind → HeadRecord → Action → Bool
closes_early k r a = early_now k (is_tested r a) (send (sending_of r a) (prepared r a)).after

pub answer_phase : (k : Kind) (r : HeadRecord) (a : Action) → phase_of k (answer r a).after ≡ early_if (closes_early k r a) (chosen_by (named_in k (sending_of r a)) (phase_of k (prepared r a)))
answer_phase k r a = concluded_phase k (is_tested r a) (send (sending_of r a) (prepared r a)) ∙ ap (early_if (closes_early k r a)) (phase_after k (sending_of r a) (prepared r a))

pub answer_closed : (k : Kind) (r : HeadRecord) (a : Action)
    → (phase_of k (answer r a).after).closed ≡ (closes_early k r a || (eqb (number a) (closing k) || (phase_of k r).closed))
answer_closed k r a =
    ap (λ (p : Phase). p.closed) (answer_phase k r a)
    ∙ ap (λ (b : Bool). closes_early k r a || b) (chosen_closed (named_in k (sending_of r a)) _ ∙ prepared_closed k r a)

pub answer_early : (k : Kind) (r : HeadRecord) (a : Action) → (phase_of k (answer r a).after).early ≡ (closes_early k r a || (phase_of k r).early)
answer_early k r a =
    ap (λ (p : Phase). p.early) (answer_phase k r a)
    ∙ ap (λ (b : Bool). closes_early k r a || b) (chosen_early (named_in k (sending_of r a)) _ ∙ prepared_early k)
  where
    chosen_early : (m : Option ℕ) (p : Phase) → (chosen_by m p).early ≡ p.early
    chosen_early None p = refl
    chosen_early (Some c) p = refl

    prepared_early : (k : Kind) → (phase_of k (prepared r a)).early ≡ (phase_of k r).early
    prepared_early votes = refl
    prepared_early adjusts = refl

-- in a phase that the test closes all have spoken
pub early_spoken : (k : Kind) (tested : Bool) (t : Stepped) → early_now k tested t.after ≡ true → all_spoken k (concluded tested t).after ≡ true
unfolding may_close
early_spoken votes tested t e = and_right (is_under_way votes t.after) _ (and_right tested _ e)
early_spoken adjusts tested t e = and_right (is_under_way adjusts (close_early votes tested t.after)) _ (and_right tested _ e)

pub both_name : (m c : Option ℕ) → same_number m c ≡ true → (v : ℕ) × (m ≡ Some v) × (c ≡ Some v)
both_name None c e = absurd_bool e refl
both_name (Some v) None e = absurd_bool e refl
both_name (Some v) (Some w) e = (v, refl, ap (λ (i : ℕ). Some i) (sym (eqb-true v w e)))

-- an action is taken as itself, or as a look after the early close of its phase
pub data TakenAs (r : HeadRecord) : Action → Action → Type 0 where
  unspent : {a : Action} → TakenAs r a a
  vote_close_spent : r.vote.early ≡ true → TakenAs r VoteClose Look
  adjust_turn_spent : r.adjust.early ≡ true → TakenAs r AdjustTurn Look
  adjust_close_spent : r.adjust.early ≡ true → TakenAs r AdjustClose Look

pub taken_as_lem : (r : HeadRecord) (a : Action) → TakenAs r a (taken_as r a)
unfolding taken_as
taken_as_lem r Look = unspent
taken_as_lem r StartSent = unspent
taken_as_lem r (StartDelivered p) = unspent
taken_as_lem r StartConfirmed = unspent
taken_as_lem r VoteTurn = unspent
taken_as_lem r (VoteDelivered p k c x) = unspent
taken_as_lem r VoteClose = cond_elim (TakenAs r VoteClose) r.vote.early vote_close_spent (λ _. unspent)
taken_as_lem r AdjustTurn = cond_elim (TakenAs r AdjustTurn) r.adjust.early adjust_turn_spent (λ _. unspent)
taken_as_lem r (AdjustDelivered p k c x) = unspent
taken_as_lem r AdjustClose = cond_elim (TakenAs r AdjustClose) r.adjust.early adjust_close_spent (λ _. unspent)

pub taken_turn : {r : HeadRecord} {b : Action} → TakenAs r AdjustTurn b → r.adjust.early ≡ false → b ≡ AdjustTurn
taken_turn unspent e = refl
taken_turn (adjust_turn_spent u) e = absurd_bool u e

-- it delivers what it was asked to deliver, and has the number that was asked unless that is 0, 6, 7 or 9
pub taken_delivery : {r : HeadRecord} {a b : Action} → TakenAs r a b → delivery_in b ≡ delivery_in a
taken_delivery unspent = refl
taken_delivery (vote_close_spent u) = refl
taken_delivery (adjust_turn_spent u) = refl
taken_delivery (adjust_close_spent u) = refl

abbrev pub Unspent : ℕ → Type 0
Unspent d = (eqb 0 d || (eqb 6 d || (eqb 7 d || eqb 9 d))) ≡ false

pub taken_number : {r : HeadRecord} {a b : Action} (d : ℕ) → Unspent d → TakenAs r a b → eqb (number b) d ≡ eqb (number a) d
taken_number d e unspent = refl
taken_number d e (vote_close_spent u) = let e6 = or_right (eqb 0 d) _ e in or_left (eqb 0 d) _ e ∙ sym (or_left (eqb 6 d) _ e6)
taken_number d e (adjust_turn_spent u) = let e7 = or_right (eqb 6 d) _ (or_right (eqb 0 d) _ e) in or_left (eqb 0 d) _ e ∙ sym (or_left (eqb 7 d) _ e7)
taken_number d e (adjust_close_spent u) = let e9 = or_right (eqb 7 d) _ (or_right (eqb 6 d) _ (or_right (eqb 0 d) _ e)) in or_left (eqb 0 d) _ e ∙ sym e9

pub delivery_unspent : (k : Kind) → Unspent (delivery k)
delivery_unspent votes = refl
delivery_unspent adjusts = refl

-- a turn of the adjust phase that is passed over finds it closed early
pub taken_adjust_turn : {r : HeadRecord} {a b : Action} → TakenAs r a b → (eqb (number b) 7 || r.adjust.early) ≡ (eqb (number a) 7 || r.adjust.early)
taken_adjust_turn unspent = refl
taken_adjust_turn (vote_close_spent u) = refl
taken_adjust_turn (adjust_turn_spent u) = u
taken_adjust_turn (adjust_close_spent u) = refl

pub asked_adjust_turn : {r : HeadRecord} {a b : Action} → TakenAs r a b → eqb (number b) 7 ≡ true → eqb (number a) 7 ≡ true
asked_adjust_turn unspent e = e
asked_adjust_turn (vote_close_spent u) e = absurd_bool e refl
asked_adjust_turn (adjust_turn_spent u) e = refl
asked_adjust_turn (adjust_close_spent u) e = absurd_bool e refl

-- a close that is passed over finds its phase closed early
pub taken_close : (k : Kind) {r : HeadRecord} {a b : Action} → TakenAs r a b → (eqb (number b) (closing k) || (phase_of k r).early) ≡ (eqb (number a) (closing k) || (phase_of k r).early)
taken_close k unspent = refl
taken_close votes (vote_close_spent u) = u
taken_close adjusts (vote_close_spent u) = refl
taken_close votes (adjust_turn_spent u) = refl
taken_close adjusts (adjust_turn_spent u) = refl
taken_close votes (adjust_close_spent u) = refl
taken_close adjusts (adjust_close_spent u) = u

-- a close that is taken finds the phase open, and the test at its end leaves that phase alone
pub close_open : (k : Kind) (r : HeadRecord) → is_closed r (timed_action (closing k)) ≡ false → ((phase_of k r).closed ≡ false) × (closes_early k r (timed_action (closing k)) ≡ false)
unfolding is_closed is_tested may_close
close_open votes r o = (o, refl)
close_open adjusts r o = (or_right (not r.vote.closed) _ o, never (close_early votes true (prepared r AdjustClose)).vote.closed _)
  where
    never : (b c : Bool) → ((b && false) && c) ≡ false
    never true c = refl
    never false c = refl

-- WHAT IS TAKEN OF A DELIVERED FRAME

-- the serial last taken from the sender, after a frame that is not ignored
pub taken_after : (k : Kind) (r : HeadRecord) (p : ℕ) (x : Frame)
    → taken_of k (kept_after r p x) ≡ cond (eqb (delivered_by x) (delivery k)) (Some (serial_of x)) (taken_of k (kept_of r p))
taken_after votes r p NoFrame = refl
taken_after votes r p Start = refl
taken_after votes r p (Vote j c x) = refl
taken_after votes r p (Adjust j c x) = refl
taken_after adjusts r p NoFrame = refl
taken_after adjusts r p Start = refl
taken_after adjusts r p (Vote j c x) = refl
taken_after adjusts r p (Adjust j c x) = refl

-- whom the sender's latest frame names, after a frame that is not ignored; and after a sending
pub latest_after : (k : Kind) (r : HeadRecord) (p : ℕ) (x : Frame)
    → latest_of k (kept_after r p x) ≡ cond (eqb (delivered_by x) (delivery k)) (named x) (latest_of k (kept_of r p))
latest_after votes r p NoFrame = refl
latest_after votes r p Start = refl
latest_after votes r p (Vote j c x) = refl
latest_after votes r p (Adjust j c x) = refl
latest_after adjusts r p NoFrame = refl
latest_after adjusts r p Start = refl
latest_after adjusts r p (Vote j c x) = refl
latest_after adjusts r p (Adjust j c x) = refl

pub latest_said : (k : Kind) (P : Option ℕ → Type 0) (x : Sending) (m : HeadRecord) (p : ℕ) → P (latest_of k (kept_of m p))
    → ((c : ℕ) → named_in k x ≡ Some c → p ≡ m.own → P (Some c)) → P (latest_of k (kept_of (send x m).after p))
unfolding vote adjust
latest_said k P nothing m p h say = h
latest_said k P start m p h say = h
latest_said votes P (voting c) m p h say = said (drop_others c m).senders m.own p _ (say c refl) (subst P (sym (kept_for_keeps (λ k. k.candidate) (λ k x. refl) c m p)) h)
  where
    said : (l : List Sender) (o p : ℕ) (z : Sender) → (p ≡ o → P z.candidate) → P (get_or l p no_sender).candidate → P (get_or (set l o z) p no_sender).candidate
    said l o p z new old = set_holds (λ q y. q ≡ p → P y.candidate) l o z (λ e. new (sym e)) (λ q e. subst (λ (i : ℕ). P (get_or l i no_sender).candidate) (sym e) old) p refl
latest_said adjusts P (voting c) m p h say =
    let kept = kept_for_keeps (λ k. k.adjuster) (λ k x. refl) c m in
    subst P (sym (set_keeps (λ z. z.adjuster) (drop_others c m).senders m.own p _ (sym (kept m.own)) ∙ kept p)) h
latest_said votes P (adjusting c x) m p h say = subst P (sym (set_keeps (λ z. z.candidate) m.senders m.own p _ refl)) h
latest_said adjusts P (adjusting c x) m p h say = said m.senders m.own p _ (say c refl) h
  where
    said : (l : List Sender) (o p : ℕ) (z : Sender) → (p ≡ o → P z.adjuster) → P (get_or l p no_sender).adjuster → P (get_or (set l o z) p no_sender).adjuster
    said l o p z new old = set_holds (λ q y. q ≡ p → P y.adjuster) l o z (λ e. new (sym e)) (λ q e. subst (λ (i : ℕ). P (get_or l i no_sender).adjuster) (sym e) old) p refl

pub ignored_frame : (k : Kind) (r : HeadRecord) (p : ℕ) (x : Frame) → eqb (delivered_by x) (delivery k) ≡ true → ignored r p x ≡ passed_over k r p (serial_of x)
ignored_frame votes r p NoFrame e = absurd_bool e refl
ignored_frame votes r p Start e = absurd_bool e refl
ignored_frame votes r p (Vote j c x) e = refl
ignored_frame votes r p (Adjust j c x) e = absurd_bool e refl
ignored_frame adjusts r p NoFrame e = absurd_bool e refl
ignored_frame adjusts r p Start e = absurd_bool e refl
ignored_frame adjusts r p (Vote j c x) e = absurd_bool e refl
ignored_frame adjusts r p (Adjust j c x) e = refl

-- a frame that is not passed over and names a higher rank is followed by one that names the same
sends_if : (k : Kind) (b o : Bool) (x : Sending) → b ≡ false → o ≡ true → named_in k (cond b nothing (cond o x nothing)) ≡ named_in k x
sends_if k b o x t u = rw (t, u) refl

pub delivered_sending : (k : Kind) (r : HeadRecord) (a : Action) (c : ℕ) → number a ≡ delivery k → named (delivery_in a).frame ≡ Some c
    → passed_over k r (delivery_in a).sender (serial_of (delivery_in a).frame) ≡ false → outranks c (phase_of k r).choice ≡ true → named_in k (sending_of r a) ≡ Some c
delivered_sending k r Look c nu na t u = none_is_some na
delivered_sending k r StartSent c nu na t u = none_is_some na
delivered_sending k r (StartDelivered p) c nu na t u = none_is_some na
delivered_sending k r StartConfirmed c nu na t u = none_is_some na
delivered_sending k r VoteTurn c nu na t u = none_is_some na
delivered_sending votes r (VoteDelivered p j w x) c nu na t u =
    sends_if votes (passed_over votes r p j) (outranks w r.vote.choice) (voting w) t (rw (same_number_lem na) u) ∙ na
delivered_sending adjusts r (VoteDelivered p j w x) c nu na t u = absurd (omega arith)
delivered_sending k r VoteClose c nu na t u = none_is_some na
delivered_sending k r AdjustTurn c nu na t u = none_is_some na
delivered_sending votes r (AdjustDelivered p j w x) c nu na t u = absurd (omega arith)
delivered_sending adjusts r (AdjustDelivered p j w x) c nu na t u =
    sends_if adjusts (passed_over adjusts r p j) (outranks w r.adjust.choice) (adjusting w x) t (rw (same_number_lem na) u) ∙ na
delivered_sending k r AdjustClose c nu na t u = none_is_some na

-- A HEAD'S OWN VOTE READING

-- of what a head keeps of itself, a delivery changes the start reading alone, since a vote or adjust from oneself is closed
pub own_kept : {X : Type 0} (part : Sender → X) → ((k : Sender) (x : Option Reading) → part (with_start k x) ≡ part k)
    → (r : HeadRecord) (a : Action) → is_closed r a ≡ false → part (kept_of (prepared r a) r.own) ≡ part (kept_of r r.own)
unfolding is_closed
own_kept part keeps r a e = go a e
  where
    of_another : (b : Bool) (p : ℕ) (z : Sender) → (eqb p r.own || false) ≡ false → part (get_or (cond b r.senders (set r.senders p z)) r.own no_sender) ≡ part (kept_of r r.own)
    of_another true p z e = refl
    of_another false p z e = ap part (get_or-set_other r.senders p r.own z no_sender (λ d. eqb-false p r.own (or_left (eqb p r.own) false e) (sym d)))

    go : (a : Action) → is_closed r a ≡ false → part (kept_of (prepared r a) r.own) ≡ part (kept_of r r.own)
    go Look e = refl
    go StartSent e = refl
    go (StartDelivered p) e = column_kept part r p Start r.own (keeps (kept_of r p) _)
    go StartConfirmed e = refl
    go VoteTurn e = refl
    go (VoteDelivered p k c x) e = of_another (passed_over votes r p k) p _ e
    go VoteClose e = refl
    go AdjustTurn e = refl
    go (AdjustDelivered p k c x) e = of_another (passed_over adjusts r p k) p _ e
    go AdjustClose e = refl

-- only a vote changes it: it becomes the start reading of the candidate
pub own_unsent : (x : Sending) (m : HeadRecord) → named_in votes x ≡ None → vote_of (send x m).after m.own ≡ vote_of m m.own
unfolding adjust
own_unsent nothing m e = refl
own_unsent start m e = refl
own_unsent (voting c) m e = none_is_some (sym e)
own_unsent (adjusting c x) m e = set_keeps (λ z. z.vote) m.senders m.own m.own _ refl

-- what a head keeps of itself after its vote
pub own_voted : (c : ℕ) (m : HeadRecord) → m.own < length m.senders → kept_of (vote c m).after m.own ≡ with_candidate (with_vote_reading (kept_of m m.own) (start_of m c)) c
unfolding vote
own_voted c m b = get_or-set_same (drop_others c m).senders m.own _ no_sender (rw (length-map m.senders (kept_for (Some c))) b)

pub own_sent : (x : Sending) (m : HeadRecord) (c : ℕ) → m.own < length m.senders → named_in votes x ≡ Some c → vote_of (send x m).after m.own ≡ start_of (send x m).after c
unfolding vote
own_sent nothing m c b e = none_is_some e
own_sent start m c b e = none_is_some e
own_sent (voting w) m c b e =
    subst (λ (z : ℕ). vote_of (vote w m).after m.own ≡ start_of (vote w m).after z) (same_number_lem e)
    (ap (λ (z : Sender). z.vote) (own_voted w m b) ∙ sym (send_keeps (λ k. k.start) (λ k y d a. refl) (voting w) m w))
own_sent (adjusting w x) m c b e = none_is_some e

-- a start is sent once
pub start_once : (r : HeadRecord) (a : Action) → number a ≡ 1 → is_closed r a ≡ false → r.started ≡ false
unfolding is_closed
start_once r Look nu e = absurd (omega arith)
start_once r StartSent nu e = or_left r.started _ e
start_once r (StartDelivered p) nu e = absurd (omega arith)
start_once r StartConfirmed nu e = absurd (omega arith)
start_once r VoteTurn nu e = absurd (omega arith)
start_once r (VoteDelivered p j c x) nu e = absurd (omega arith)
start_once r VoteClose nu e = absurd (omega arith)
start_once r AdjustTurn nu e = absurd (omega arith)
start_once r (AdjustDelivered p j c x) nu e = absurd (omega arith)
start_once r AdjustClose nu e = absurd (omega arith)
