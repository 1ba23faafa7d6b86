-- Document 01, "Actions and steps of one head h": the record, and what is read off it.
use Rattle.std.specs.Prelude.{Bool, true, false, cond, not, ◌&&◌, ◌||◌, ℕ, ◌+◌, ltb, leb, eqb, get_or, replicate, ℤ, pos, ◌+ℤ◌, Option, Some, None, is_some}
use Rattle.std.proofs.Math.IntN.{sub_ℕ}
use Rattle.protocol.specs.Base.{◌⇒◌, all_below}
use Rattle.protocol.specs.declared.Mark.TheVariants as mark
use Rattle.protocol.specs.Types.{Reading, Sender, Kind, Votes, Adjusts, Phase, HeadRecord, Mark}
use Rattle.protocol.specs.Words.{is_time, heads_fit}

-- the number of microseconds, 0 where there is none
abbrev pub reading_or0 : Option Reading → ℕ
reading_or0 None = 0
reading_or0 (Some x) = x.0

abbrev pub reading : ℕ → Reading
reading x = record { 0 = x }

-- what is kept by sender p, its start reading and its vote reading
abbrev pub no_sender : Sender
no_sender = record { start = None; vote = None; voted = None; adjusted = None; candidate = None; adjuster = None }

abbrev pub kept_of : HeadRecord → ℕ → Sender
kept_of r p = get_or r.senders p no_sender

abbrev pub start_of : HeadRecord → ℕ → Option Reading
start_of r p = (kept_of r p).start

abbrev pub vote_of : HeadRecord → ℕ → Option Reading
vote_of r p = (kept_of r p).vote

-- the two phases: for votes the choice is the candidate, for adjusts the adjuster
pattern abbrev pub votes : Kind
votes = Votes

pattern abbrev pub adjusts : Kind
adjusts = Adjusts

abbrev pub phase_of : Kind → HeadRecord → Phase
phase_of votes r = r.vote
phase_of adjusts r = r.adjust

-- document 02, No. 4: whom a sender's latest vote, or its latest adjust, names
abbrev pub latest_of : Kind → Sender → Option ℕ
latest_of votes k = k.candidate
latest_of adjusts k = k.adjuster

-- "Before the first entry every head's record is fresh: n and f from the first word, its own number, last reading 0,
-- no marks, nothing else kept or sent"
abbrev pub fresh_phase : Phase
fresh_phase = record { turn = false; closed = false; early = false; choice = None; sent = 0 }

unfoldable pub fresh : ℕ → ℕ → ℕ → HeadRecord
fresh n f own =
    record {
      n = n;
      f = f;
      own = own;
      last = reading 0;
      started = false;
      confirmed = false;
      vote = fresh_phase;
      adjust = fresh_phase;
      adjustment = reading 0;
      senders = replicate 16 no_sender;
    }

-- the candidate's start reading
abbrev pub start_of_choice : HeadRecord → Option ℕ → Option Reading
start_of_choice r None = None
start_of_choice r (Some v) = start_of r v

unfoldable pub chosen_start : HeadRecord → Option Reading
chosen_start r = start_of_choice r r.vote.choice

-- 9: "Outcome 2 (adopted) if h has a candidate, its start reading and an adjuster; else 1. Outcome 0: no adjust close yet"
unfoldable pub outcome : HeadRecord → ℕ
outcome r = cond r.adjust.closed (cond (is_some (chosen_start r) && is_some r.adjust.choice) 2 1) 0

-- "Correction is adjustment minus the candidate's start reading, signed; corrected clock is reading plus correction"
unfoldable pub correction : HeadRecord → ℤ
correction r = sub_ℕ r.adjustment.0 (reading_or0 (chosen_start r))

unfoldable pub corrected_clock : HeadRecord → Reading → ℤ
corrected_clock r x = pos x.0 +ℤ correction r

-- "six marks", and whether there is a candidate, as one number below 128: all by which an action is closed, but for its sender
abbrev pub mark_number : Bool → ℕ → ℕ
mark_number b weight = cond b weight 0

abbrev pub weight_of : Mark → ℕ
weight_of mark.StartSent = 1
weight_of mark.Confirmed = 2
weight_of mark.VoteTurn = 4
weight_of mark.VoteClose = 8
weight_of mark.AdjustTurn = 16
weight_of mark.AdjustClose = 32
weight_of mark.Candidate = 64

unfoldable pub marks_number : HeadRecord → ℕ
marks_number r =
    mark_number r.started 1 + mark_number r.confirmed 2 + mark_number r.vote.turn 4 + mark_number r.vote.closed 8
    + mark_number r.adjust.turn 16 + mark_number r.adjust.closed 32 + mark_number (is_some r.vote.choice) 64

-- "Record ranges" (cause 10). Readings below 2²⁸, serials at most 15; "what is kept by sender .. may each be none"
abbrev pub reading_in_range : Option Reading → Bool
reading_in_range None = true
reading_in_range (Some x) = is_time x.0

abbrev pub serial_in_range : Option ℕ → Bool
serial_in_range None = true
serial_in_range (Some k) = leb k 15

-- document 02, No. 4: "each sender's latest vote and adjust (none, or below n)"
abbrev pub name_in_range : ℕ → Option ℕ → Bool
name_in_range n None = true
name_in_range n (Some c) = ltb c n

unfoldable pub sender_in_range : ℕ → Sender → Bool
sender_in_range n k =
    reading_in_range k.start && (reading_in_range k.vote && (serial_in_range k.voted && (serial_in_range k.adjusted
    && (name_in_range n k.candidate && name_in_range n k.adjuster))))

-- nothing is kept of a sender that the bench does not have
unfoldable pub sender_is_none : Sender → Bool
sender_is_none k =
    not (is_some k.start) && (not (is_some k.vote) && (not (is_some k.voted) && (not (is_some k.adjusted)
    && (not (is_some k.candidate) && not (is_some k.adjuster)))))

-- both are numbers, and the same one
abbrev pub same_number : Option ℕ → Option ℕ → Bool
same_number None m = false
same_number (Some c) None = false
same_number (Some c) (Some v) = eqb c v

-- document 02, No. 5: "A record that keeps another sender's vote reading without that sender's latest vote naming the candidate is
-- outside its ranges"
unfoldable pub reading_counts : HeadRecord → ℕ → Bool
reading_counts r p = eqb p r.own || (is_some (vote_of r p) ⇒ same_number (kept_of r p).candidate r.vote.choice)

-- "votes sent 0 exactly without a candidate v, else 1 to n − v, and adjusts likewise with the adjuster"; both below n
abbrev pub sent_in_range : ℕ → Option ℕ → ℕ → Bool
sent_in_range n None sent = eqb sent 0
sent_in_range n (Some v) sent = ltb v n && (leb 1 sent && leb (sent + v) n)

-- document 02, No. 4: "a mark for each phase closed early, set only with that phase's close mark"
unfoldable pub phase_in_range : ℕ → Phase → Bool
phase_in_range n p = sent_in_range n p.choice p.sent && (p.early ⇒ p.closed)

-- "confirmed only if sent, turn only if confirmed, adjust turn or close only after vote close"
unfoldable pub marks_in_range : HeadRecord → Bool
marks_in_range r =
    (r.confirmed ⇒ r.started) && ((r.vote.turn ⇒ r.confirmed)
    && ((r.adjust.turn || r.adjust.closed) ⇒ r.vote.closed))

unfoldable pub record_in_range : HeadRecord → Bool
record_in_range r =
    heads_fit r.n r.f && (ltb r.own r.n && (is_time r.last.0 && (is_time r.adjustment.0
    && ((is_some r.adjust.choice || eqb r.adjustment.0 0) && (phase_in_range r.n r.vote && (phase_in_range r.n r.adjust
    && (marks_in_range r && all_below 16 (λ p. cond (ltb p r.n) (sender_in_range r.n (kept_of r p) && reading_counts r p) (sender_is_none (kept_of r p))))))))))
