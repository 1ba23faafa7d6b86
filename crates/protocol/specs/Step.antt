-- Document 01, "Actions and steps of one head h": the ten actions, when each is closed, what each does, and the step;
-- document 02, No. 4, "Closing when all have spoken", and No. 5, "Readings of another candidate".
use Rattle.std.specs.Prelude.{Bool, true, false, cond, not, ◌&&◌, ◌||◌, List, [], ◌∷◌, map, ℕ, zero, suc, ◌+◌, ◌/◌, ◌%◌, ltb, leb, eqb, length, get_or, set, Option, Some, None, is_some}
use Rattle.protocol.specs.Base.{all_below, count_below}
use Rattle.protocol.specs.Types.{Reading, Sender, Phase, HeadRecord, Input, Cause, BadEntry, ReadingFell, ActionClosed, BadRecord}
use Rattle.protocol.specs.Types.{Accepted, Refused, Stepped, Frame, NoFrame, Start, Vote, Adjust}
use Rattle.protocol.specs.Types.{Action, Look, StartSent, StartDelivered, StartConfirmed, VoteTurn, VoteDelivered, VoteClose, AdjustTurn, AdjustDelivered, AdjustClose}
use Rattle.protocol.specs.Words.{is_time, has_serial, zero_where_unused}
use Rattle.protocol.specs.declared.Kind.{Kind}
use Rattle.protocol.specs.Record.{reading, kept_of, start_of, vote_of, votes, adjusts, phase_of, latest_of, same_number, record_in_range}
use Rattle.protocol.specs.Median.{median}

-- a phase, what is kept by a sender, and a record, each with one thing changed
abbrev pub take_turn : Phase → Phase
take_turn p = record { turn = true; closed = p.closed; early = p.early; choice = p.choice; sent = p.sent }

abbrev pub close : Phase → Phase
close p = record { turn = p.turn; closed = true; early = p.early; choice = p.choice; sent = p.sent }

abbrev pub choose : ℕ → Phase → Phase
choose c p = record { turn = p.turn; closed = p.closed; early = p.early; choice = Some c; sent = p.sent + 1 }

-- closed early if b holds
abbrev pub early_if : Bool → Phase → Phase
early_if b p = record { turn = p.turn; closed = b || p.closed; early = b || p.early; choice = p.choice; sent = p.sent }

abbrev pub with_start : Sender → Option Reading → Sender
with_start k x = record { start = x; vote = k.vote; voted = k.voted; adjusted = k.adjusted; candidate = k.candidate; adjuster = k.adjuster }

abbrev pub with_vote_reading : Sender → Option Reading → Sender
with_vote_reading k x = record { start = k.start; vote = x; voted = k.voted; adjusted = k.adjusted; candidate = k.candidate; adjuster = k.adjuster }

abbrev pub with_voted : Sender → ℕ → Sender
with_voted k j = record { start = k.start; vote = k.vote; voted = Some j; adjusted = k.adjusted; candidate = k.candidate; adjuster = k.adjuster }

abbrev pub with_adjusted : Sender → ℕ → Sender
with_adjusted k j = record { start = k.start; vote = k.vote; voted = k.voted; adjusted = Some j; candidate = k.candidate; adjuster = k.adjuster }

abbrev pub with_candidate : Sender → ℕ → Sender
with_candidate k c = record { start = k.start; vote = k.vote; voted = k.voted; adjusted = k.adjusted; candidate = Some c; adjuster = k.adjuster }

abbrev pub with_adjuster : Sender → ℕ → Sender
with_adjuster k a = record { start = k.start; vote = k.vote; voted = k.voted; adjusted = k.adjusted; candidate = k.candidate; adjuster = Some a }

-- what is kept of the sender of a vote, or an adjust, that is taken: its serial, whom it names (document 02, No. 4), and a vote's reading
abbrev pub keep_vote : Sender → ℕ → ℕ → Option Reading → Sender
keep_vote k serial c x = with_candidate (with_voted (with_vote_reading k x) serial) c

abbrev pub keep_adjust : Sender → ℕ → ℕ → Sender
keep_adjust k serial a = with_adjuster (with_adjusted k serial) a

abbrev pub with_last : HeadRecord → Reading → HeadRecord
with_last r x = record { n = r.n; f = r.f; own = r.own; last = x; started = r.started; confirmed = r.confirmed; vote = r.vote; adjust = r.adjust; adjustment = r.adjustment; senders = r.senders }

abbrev pub with_marks : HeadRecord → Bool → Bool → HeadRecord
with_marks r s c = record { n = r.n; f = r.f; own = r.own; last = r.last; started = s; confirmed = c; vote = r.vote; adjust = r.adjust; adjustment = r.adjustment; senders = r.senders }

abbrev pub with_vote : HeadRecord → Phase → HeadRecord
with_vote r p = record { n = r.n; f = r.f; own = r.own; last = r.last; started = r.started; confirmed = r.confirmed; vote = p; adjust = r.adjust; adjustment = r.adjustment; senders = r.senders }

abbrev pub with_adjust : HeadRecord → Phase → Reading → HeadRecord
with_adjust r p x = record { n = r.n; f = r.f; own = r.own; last = r.last; started = r.started; confirmed = r.confirmed; vote = r.vote; adjust = p; adjustment = x; senders = r.senders }

abbrev pub with_phase : Kind → HeadRecord → Phase → HeadRecord
with_phase votes r p = with_vote r p
with_phase adjusts r p = with_adjust r p r.adjustment

abbrev pub with_sender : HeadRecord → ℕ → Sender → HeadRecord
with_sender r p k = record { n = r.n; f = r.f; own = r.own; last = r.last; started = r.started; confirmed = r.confirmed; vote = r.vote; adjust = r.adjust; adjustment = r.adjustment; senders = set r.senders p k }

abbrev pub with_senders : HeadRecord → List Sender → HeadRecord
with_senders r l = record { n = r.n; f = r.f; own = r.own; last = r.last; started = r.started; confirmed = r.confirmed; vote = r.vote; adjust = r.adjust; adjustment = r.adjustment; senders = l }

-- "back come 0 and the frame to send, if any"; a refusal leaves the record
abbrev pub accepted : HeadRecord → Frame → Stepped
accepted r x = record { verdict = Accepted; after = r; frame = x }

abbrev pub silent : HeadRecord → Stepped
silent r = accepted r NoFrame

abbrev pub refused : HeadRecord → Cause → Stepped
refused r c = record { verdict = Refused c; after = r; frame = NoFrame }

-- document 02, No. 5: "only readings voted for the head's present candidate count": what is kept of a sender while v is the candidate
abbrev pub kept_for : Option ℕ → Sender → Sender
kept_for v k = with_vote_reading k (cond (same_number k.candidate v) k.vote None)

-- "changing candidate drops the others"; the head's own reading is then that of its own vote
abbrev pub drop_others : ℕ → HeadRecord → HeadRecord
drop_others c r = with_senders r (map (kept_for (Some c)) r.senders)

-- "A vote carries the candidate and h's own start reading of it, or the mark "none"; it is also h's own vote reading";
-- "Serials count a head's votes from 0"; document 02, No. 4: it is h's own latest vote
unfoldable pub vote : ℕ → HeadRecord → Stepped
vote c r =
    accepted (with_vote (with_sender (drop_others c r) r.own (with_candidate (with_vote_reading (kept_of r r.own) (start_of r c)) c)) (choose c r.vote))
    (Vote r.vote.sent c (start_of r c))

-- an adjust carries adjuster and adjustment; document 02, No. 4: it is h's own latest adjust
unfoldable pub adjust : ℕ → Reading → HeadRecord → Stepped
adjust a x r =
    accepted (with_adjust (with_sender r r.own (with_adjuster (kept_of r r.own) a)) (choose a r.adjust) x)
    (Adjust r.adjust.sent a x)

-- "After 2 and 4: once the turn is taken, with the vote open, no candidate and at least f + 1 start readings held,
-- h becomes its own candidate and votes"
unfoldable pub starts_held : HeadRecord → ℕ
starts_held r = count_below r.n (λ p. is_some (start_of r p))

unfoldable pub may_lead : HeadRecord → Bool
may_lead r = r.vote.turn && (not r.vote.closed && (not (is_some r.vote.choice) && leb (r.f + 1) (starts_held r)))

unfoldable pub lead : HeadRecord → Stepped
lead r = cond (may_lead r) (vote r.own r) (silent r)

-- the vote readings held of the senders below p, the last sender's first
abbrev pub prepend : Option Reading → List ℕ → List ℕ
prepend None l = l
prepend (Some x) l = x.0 ∷ l

unfoldable pub vote_readings : HeadRecord → ℕ → List ℕ
vote_readings r zero = []
vote_readings r (suc p) = prepend (vote_of r p) (vote_readings r p)

-- 7: "With a candidate, no adjuster and at least one vote reading, h becomes adjuster, takes the median of the vote
-- readings as adjustment and sends both"
unfoldable pub may_adjust : HeadRecord → Bool
may_adjust r = is_some r.vote.choice && (not (is_some r.adjust.choice) && leb 1 (length (vote_readings r r.n)))

unfoldable pub propose : HeadRecord → Stepped
propose r = cond (may_adjust r) (adjust r.own (reading (median (vote_readings r r.n))) r) (silent r)

-- 5: "if the serial isn't above the last taken from that sender"
abbrev pub is_above : ℕ → Option ℕ → Bool
is_above k None = true
is_above k (Some j) = ltb j k

-- a delivery of no effect: "after the vote close or if the serial isn't above the last taken from that sender"
abbrev pub is_passed_over : Phase → Option ℕ → ℕ → Bool
is_passed_over phase last serial = phase.closed || not (is_above serial last)

-- 5: "with no candidate, or a carried one of higher rank (lower number)"
abbrev pub outranks : ℕ → Option ℕ → Bool
outranks c None = true
outranks c (Some v) = ltb c v

-- the candidate once a vote for c is taken
abbrev pub candidate_after : ℕ → Option ℕ → Option ℕ
candidate_after c v = cond (outranks c v) (Some c) v

-- 5, and 8 "as 5": "No effect after the vote close or if the serial isn't above the last taken from that sender.
-- Otherwise" the record keeps what it takes of the frame, and a choice that outranks its own is adopted and sent on
unfoldable pub delivered : Phase → Option ℕ → ℕ → ℕ → HeadRecord → HeadRecord → (HeadRecord → Stepped) → Stepped
delivered phase last serial choice r taken adopt =
    cond (is_passed_over phase last serial) (silent r)
    (cond (outranks choice phase.choice) (adopt taken) (silent taken))

-- what an action does, its reading being the last reading already
unfoldable pub effect : HeadRecord → Action → Stepped
-- "0 look: only time and reading"
effect r Look = silent r
-- "1 start sent: the start is the frame to send"
effect r StartSent = accepted (with_marks r true r.confirmed) Start
-- "2 start of the sender delivered, one's own too: its start reading becomes this reading, again at each repeat. No effect after the adjust close"
effect r (StartDelivered p) = cond r.adjust.closed (silent r) (lead (with_sender r p (with_start (kept_of r p) (Some r.last))))
-- "3 own start confirmed", "4 vote turn"
effect r StartConfirmed = silent (with_marks r r.started true)
effect r VoteTurn = lead (with_vote r (take_turn r.vote))
-- "5 vote delivered .. the carried reading (or none) becomes the sender's vote reading"; document 02, No. 4: it is the sender's latest vote;
-- No. 5: "a vote taken that names another candidate leaves its sender with none"
effect r (VoteDelivered p k c x) =
    delivered r.vote (kept_of r p).voted k c r
    (with_sender r p (kept_for (candidate_after c r.vote.choice) (keep_vote (kept_of r p) k c x))) (vote c)
-- "6 vote close", "7 adjust turn"
effect r VoteClose = silent (with_vote r (close r.vote))
effect r AdjustTurn = propose (with_adjust r (take_turn r.adjust) r.adjustment)
-- "8 adjust delivered: as 5, with adjuster and adjustment, until the adjust close; taken before the vote close too"
effect r (AdjustDelivered p k a x) = delivered r.adjust (kept_of r p).adjusted k a r (with_sender r p (keep_adjust (kept_of r p) k a)) (adjust a x)
-- "9 adjust close"
effect r AdjustClose = silent (with_adjust r (close r.adjust) r.adjustment)

-- an action's number
abbrev pub number : Action → ℕ
number Look = 0
number StartSent = 1
number (StartDelivered p) = 2
number StartConfirmed = 3
number VoteTurn = 4
number (VoteDelivered p k c x) = 5
number VoteClose = 6
number AdjustTurn = 7
number (AdjustDelivered p k c x) = 8
number AdjustClose = 9

-- when an action is closed (cause 9): 5 and 8 "Closed if sender is h"
abbrev pub is_own_frame : HeadRecord → Action → Bool
is_own_frame r Look = false
is_own_frame r StartSent = false
is_own_frame r (StartDelivered p) = false
is_own_frame r StartConfirmed = false
is_own_frame r VoteTurn = false
is_own_frame r (VoteDelivered p k c x) = eqb p r.own
is_own_frame r VoteClose = false
is_own_frame r AdjustTurn = false
is_own_frame r (AdjustDelivered p k a x) = eqb p r.own
is_own_frame r AdjustClose = false

-- the others by the head's marks
abbrev pub is_closed_by_marks : HeadRecord → Action → Bool
is_closed_by_marks r Look = false
-- "Closed if already sent, if h has a candidate, or after its vote close"
is_closed_by_marks r StartSent = r.started || (is_some r.vote.choice || r.vote.closed)
is_closed_by_marks r (StartDelivered p) = false
-- "Closed if not sent or already confirmed"
is_closed_by_marks r StartConfirmed = not r.started || r.confirmed
-- "Closed if not confirmed or already taken"
is_closed_by_marks r VoteTurn = not r.confirmed || r.vote.turn
is_closed_by_marks r (VoteDelivered p k c x) = false
-- "Closed if already taken"
is_closed_by_marks r VoteClose = r.vote.closed
-- "Closed before the vote close, if already taken, or after the adjust close"
is_closed_by_marks r AdjustTurn = not r.vote.closed || (r.adjust.turn || r.adjust.closed)
is_closed_by_marks r (AdjustDelivered p k a x) = false
-- "Closed before the vote close or if already taken"
is_closed_by_marks r AdjustClose = not r.vote.closed || r.adjust.closed

unfoldable pub is_closed : HeadRecord → Action → Bool
is_closed r a = is_own_frame r a || is_closed_by_marks r a

-- the same of an action's number and the number of the marks
abbrev pub has_mark : ℕ → ℕ → Bool
has_mark marks weight = eqb (marks / weight % 2) 1

unfoldable pub closed_by : ℕ → ℕ → Bool
closed_by a m =
    get_or (false ∷ (has_mark m 1 || (has_mark m 64 || has_mark m 8)) ∷ false ∷ (not (has_mark m 1) || has_mark m 2)
    ∷ (not (has_mark m 2) || has_mark m 4) ∷ false ∷ has_mark m 8 ∷ (not (has_mark m 8) || (has_mark m 16 || has_mark m 32)) ∷ false
    ∷ (not (has_mark m 8) || has_mark m 32) ∷ []) a false

-- CLOSING WHEN ALL HAVE SPOKEN (document 02, No. 4)

-- "its own and every other head's latest vote name its candidate, and the adjust phase likewise with the adjuster"; ""all" means all n"
abbrev pub all_spoken : Kind → HeadRecord → Bool
all_spoken k r = all_below r.n (λ q. same_number (latest_of k (kept_of r q)) (phase_of k r).choice)

-- a phase is under way until its close, the adjust phase "never before its vote close"
abbrev pub is_under_way : Kind → HeadRecord → Bool
is_under_way votes r = not r.vote.closed
is_under_way adjusts r = r.vote.closed && not r.adjust.closed

unfoldable pub may_close : Kind → HeadRecord → Bool
may_close k r = is_under_way k r && all_spoken k r

-- what the test does to a phase, if it is made
abbrev pub close_early : Kind → Bool → HeadRecord → HeadRecord
close_early k tested r = with_phase k r (early_if (tested && may_close k r) (phase_of k r))

-- "tested, vote first"
abbrev pub concluded : Bool → Stepped → Stepped
concluded tested t = record { verdict = t.verdict; after = close_early adjusts tested (close_early votes tested t.after); frame = t.frame }

-- "This is tested .. at the end of each action but looks and those that these papers call without effect"
unfoldable pub is_tested : HeadRecord → Action → Bool
is_tested r Look = false
is_tested r StartSent = true
is_tested r (StartDelivered p) = not r.adjust.closed
is_tested r StartConfirmed = true
is_tested r VoteTurn = true
is_tested r (VoteDelivered p k c x) = not (is_passed_over r.vote (kept_of r p).voted k)
is_tested r VoteClose = true
is_tested r AdjustTurn = true
is_tested r (AdjustDelivered p k a x) = not (is_passed_over r.adjust (kept_of r p).adjusted k)
is_tested r AdjustClose = true

unfoldable pub act : HeadRecord → Action → Stepped
act r a = concluded (is_tested r a) (effect r a)

-- "After an early vote close any action 6, and after an early adjust close any action 7 or 9, has no effect and isn't cause 9": by the
-- action's number and the two marks
abbrev pub is_spent : ℕ → Bool → Bool → Bool
is_spent a vote adjust = cond (eqb a 6) vote ((eqb a 7 || eqb a 9) && adjust)

-- such an action is taken as a look
unfoldable pub taken_as : HeadRecord → Action → Action
taken_as r a = cond (is_spent (number a) r.vote.early r.adjust.early) Look a

-- causes 8 and 9, then the effect: "Every accepted action makes its reading the last reading".
-- sent: the frame that is delivered, if any, was sent by its sender; one head cannot know, a sheet does
unfoldable pub take_action : HeadRecord → Reading → Bool → Action → Stepped
take_action r x sent a =
    cond (ltb x.0 r.last.0) (refused r ReadingFell)
    (cond (not sent || is_closed r (taken_as r a)) (refused r ActionClosed) (act (with_last r x) (taken_as r a)))

-- the ten actions in the order of their numbers, made from the caller's numbers
abbrev pub actions_of : Input → List Action
actions_of i =
    Look ∷ StartSent ∷ StartDelivered i.sender ∷ StartConfirmed ∷ VoteTurn
    ∷ VoteDelivered i.sender i.serial i.choice (cond i.none None (Some (reading i.carried)))
    ∷ VoteClose ∷ AdjustTurn ∷ AdjustDelivered i.sender i.serial i.choice (reading i.carried) ∷ AdjustClose ∷ []

unfoldable pub action_of : Input → Action
action_of i = get_or (actions_of i) i.action Look

-- cause 6 for one head: "action above 9, .. sender not below n, a must-be-zero field; .. also a candidate or adjuster
-- not below n, a reading or adjustment of 2²⁸ or more, or a serial above 15". What is carried is "zero where unused";
-- "Beside the mark "none" (action 5 only) the carried reading is zero"
unfoldable pub input_fits : ℕ → Input → Bool
input_fits n i =
    leb i.action 9 && (ltb i.sender n && (leb i.serial 15 && (zero_where_unused i.action i.sender i.serial
    && (is_time i.reading && (ltb i.choice n && (is_time i.carried
    && ((has_serial i.action || (eqb i.choice 0 && eqb i.carried 0))
    && (not i.none || (eqb i.action 5 && eqb i.carried 0)))))))))

-- "One head: 10, 6, 8, 9"
unfoldable pub step : HeadRecord → Input → Stepped
step r i =
    cond (not (record_in_range r)) (refused r BadRecord)
    (cond (not (input_fits r.n i)) (refused r BadEntry) (take_action r (reading i.reading) true (action_of i)))
