-- A head's record as a row of numbers, HeadRow: the memory that a board lends, and what a run keeps of each head. What may be none is
-- 0 for none, else one more than itself.
use Rattle.std.specs.Prelude.{Bool, cond, ◌&&◌, [], map, replicate, ℕ, ◌+◌, ◌-◌, ◌^◌, ltb, eqb, get_or, Option, Some, None}
use Rattle.protocol.specs.Base.{table}
use Rattle.protocol.specs.Types.{Sender, Kind, Phase, HeadRecord, Marks, PhaseRow, HeadRow, Reading}
use Rattle.protocol.specs.Words.{is_time}
use Rattle.protocol.specs.Record.{reading, votes, adjusts, phase_of, latest_of, mark_number, marks_number, record_in_range}
use Rattle.protocol.specs.Step.{has_mark}

abbrev pub number_plus1 : Option ℕ → ℕ
number_plus1 None = 0
number_plus1 (Some k) = k + 1

-- a reading beyond 28 bits, which no record in its ranges has, is written as the lowest of them
abbrev pub reading_plus1 : Option Reading → ℕ
reading_plus1 None = 0
reading_plus1 (Some x) = cond (is_time x.0) (x.0 + 1) (2 ^ 28 + 1)

-- the serial last taken from a sender
abbrev pub serial_of : Kind → Sender → Option ℕ
serial_of votes k = k.voted
serial_of adjusts k = k.adjusted

-- a row's numbers by sender
abbrev pub start_number : Sender → ℕ
start_number k = reading_plus1 k.start

abbrev pub vote_number : Sender → ℕ
vote_number k = reading_plus1 k.vote

abbrev pub serial_number : Kind → Sender → ℕ
serial_number c k = number_plus1 (serial_of c k)

abbrev pub latest_number : Kind → Sender → ℕ
latest_number c k = number_plus1 (latest_of c k)

-- a phase; the mark of an early close is 0 or 1
abbrev pub phase_row : Kind → HeadRecord → PhaseRow
phase_row c r =
    record {
      choice = number_plus1 (phase_of c r).choice;
      sent = (phase_of c r).sent;
      early = mark_number (phase_of c r).early 1;
      serials = map (serial_number c) r.senders;
      latest = map (latest_number c) r.senders;
    }

-- the row; four numbers stand for nothing and are 0
abbrev pub row_of : HeadRecord → HeadRow
row_of r =
    record {
      last = r.last.0;
      marks = record { 0 = marks_number r };
      adjustment = r.adjustment.0;
      heads = r.n;
      faulty = r.f;
      own = r.own;
      spare = replicate 4 0;
      start_readings = map start_number r.senders;
      vote_readings = map vote_number r.senders;
      votes = phase_row votes r;
      adjusts = phase_row adjusts r;
    }

-- the record that a row of any numbers holds
abbrev pub number_in : ℕ → Option ℕ
number_in w = cond (eqb w 0) None (Some (w - 1))

abbrev pub reading_in : ℕ → Option Reading
reading_in w = cond (eqb w 0) None (Some (reading (w - 1)))

abbrev pub sender_in : HeadRow → ℕ → Sender
sender_in w p =
    record {
      start = reading_in (get_or w.start_readings p 0);
      vote = reading_in (get_or w.vote_readings p 0);
      voted = number_in (get_or w.votes.serials p 0);
      adjusted = number_in (get_or w.adjusts.serials p 0);
      candidate = number_in (get_or w.votes.latest p 0);
      adjuster = number_in (get_or w.adjusts.latest p 0);
    }

-- a phase, by the weights of its turn and close marks
abbrev pub phase_in : Marks → PhaseRow → ℕ → ℕ → Phase
phase_in m w turn closed =
    record {
      turn = has_mark m.0 turn;
      closed = has_mark m.0 closed;
      early = eqb w.early 1;
      choice = number_in w.choice;
      sent = w.sent;
    }

unfoldable pub record_in : HeadRow → HeadRecord
record_in w =
    record {
      n = w.heads;
      f = w.faulty;
      own = w.own;
      last = reading w.last;
      started = has_mark w.marks.0 1;
      confirmed = has_mark w.marks.0 2;
      vote = phase_in w.marks w.votes 4 8;
      adjust = phase_in w.marks w.adjusts 16 32;
      adjustment = reading w.adjustment;
      senders = table (sender_in w) 0 16;
    }

-- the marks are those of the record, the one for a candidate among them; those of early closes are 0 or 1, and the numbers that
-- stand for nothing are 0
unfoldable pub row_fits : HeadRow → Bool
row_fits w =
    eqb w.marks.0 (marks_number (record_in w)) && (ltb w.votes.early 2 && (ltb w.adjusts.early 2 && (eqb (get_or w.spare 0 0) 0
    && (eqb (get_or w.spare 1 0) 0 && (eqb (get_or w.spare 2 0) 0 && eqb (get_or w.spare 3 0) 0)))))

-- cause 10 of a row: it holds a record in its ranges
unfoldable pub row_in_range : HeadRow → Bool
row_in_range w = row_fits w && record_in_range (record_in w)

-- a row's phase
abbrev pub phase_in_row : Kind → HeadRow → PhaseRow
phase_in_row votes w = w.votes
phase_in_row adjusts w = w.adjusts

-- what an array of rows has beyond its end
abbrev pub no_phase : PhaseRow
no_phase = record { choice = 0; sent = 0; early = 0; serials = []; latest = [] }

abbrev pub no_row : HeadRow
no_row =
    record { last = 0; marks = record { 0 = 0 }; adjustment = 0; heads = 0; faulty = 0; own = 0; spare = []; start_readings = []; vote_readings = []; votes = no_phase; adjusts = no_phase }
