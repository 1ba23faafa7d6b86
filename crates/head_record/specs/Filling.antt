-- A row that is filled sender by sender.
use Rattle.std.specs.Prelude.{◌≡◌, List, ℕ, ◌+◌, replicate, set}
use Rattle.protocol.specs.declared.Sender.{Sender}
use Rattle.protocol.specs.declared.HeadRecord.{HeadRecord}
use Rattle.protocol.specs.declared.HeadRow.{HeadRow}
use Rattle.protocol.specs.declared.PhaseRow.{PhaseRow}
use Rattle.protocol.specs.declared.Phase.{Phase}
use Rattle.protocol.specs.Record.{no_sender, votes, adjusts, mark_number}
use Rattle.protocol.specs.Row.{number_plus1, start_number, vote_number, serial_number, latest_number, row_of}

-- the six numbers of sender p
abbrev pub with_numbers : HeadRow → ℕ → Sender → HeadRow
with_numbers w p k =
    record w {
      start_readings = set w.start_readings p (start_number k);
      vote_readings = set w.vote_readings p (vote_number k);
      votes = record w.votes { serials = set w.votes.serials p (serial_number votes k); latest = set w.votes.latest p (latest_number votes k) };
      adjusts = record w.adjusts { serials = set w.adjusts.serials p (serial_number adjusts k); latest = set w.adjusts.latest p (latest_number adjusts k) };
    }

-- a phase with nothing kept by sender
abbrev pub bare_phase : Phase → PhaseRow
bare_phase p = record { choice = number_plus1 p.choice; sent = p.sent; early = mark_number p.early 1; serials = replicate 16 0; latest = replicate 16 0 }

-- the record with nothing kept by sender
abbrev pub bare : HeadRecord → HeadRecord
bare r =
    record { n = r.n; f = r.f; own = r.own; last = r.last; started = r.started; confirmed = r.confirmed; vote = r.vote; adjust = r.adjust; adjustment = r.adjustment; senders = replicate 16 no_sender }

-- the row of a record with nothing kept by sender becomes that of the record which keeps l
abbrev pub Completes : HeadRow → List Sender → HeadRow → Type 0
Completes before l after = (r : HeadRecord) → before ≡ row_of (bare r) → l ≡ r.senders → after ≡ row_of r
