-- A record's row, number by number: what is read there, and which record's row it is after a write.
-- Main results: `start_read`, `vote_read`, `serial_read`, `latest_read`; `start_written`, `own_vote_written`, `own_adjust_written`,
-- `taken_vote_written`, `taken_adjust_written`; `reading_left`; `absent_at_0`, `there_unless_0`, `same_name`.
use Rattle.protocol.specs.declared.Reading.{Reading}
use Rattle.std.specs.Prelude.{Option, Some, None, is_some}
use mathlib.Core.Path.{◌≡◌, refl, sym, ◌∙◌}
use mathlib.Core.Bool.{Bool, true, false, cond}
use mathlib.Core.List.{map}
use mathlib.Core.Logic.{◌≢◌}
use Prim.Native.Nat.{ℕ, ◌+◌}
use native.Mathlib.Omega.{arith}
use lib.Dec.{eqb}
use lib.ListN.{get_or, set, get_or-map}
use lib.Seq.{map-set_same}
use Rattle.std.proofs.lemmas.List.{map-set}
use borrow.Author.Tests.{eq-eqb, ne_eqb, eqb-true, eqb-false}
use Rattle.protocol.specs.declared.Sender.{Sender}
use Rattle.protocol.specs.declared.HeadRecord.{HeadRecord}
use Rattle.protocol.specs.declared.HeadRow.{HeadRow}
use Rattle.protocol.specs.declared.PhaseRow.{PhaseRow}
use Rattle.protocol.specs.declared.Kind.{Kind}
use Rattle.protocol.specs.Record.{no_sender, kept_of, start_of, vote_of, votes, adjusts, phase_of, latest_of, same_number, marks_number}
use Rattle.protocol.specs.Step.{with_start, with_vote_reading, with_candidate, with_adjuster, with_sender, keep_vote, keep_adjust}
use Rattle.protocol.specs.Row.{number_plus1, reading_plus1, start_number, vote_number, serial_of, serial_number, latest_number, phase_row, row_of}
use Rattle.protocol.proofs.Tests.{is_1, cases}

module _ (r : HeadRecord) (p : ℕ) where
  pub start_read : get_or (row_of r).start_readings p 0 ≡ reading_plus1 (start_of r p)
  start_read = get_or-map start_number r.senders p no_sender

  pub vote_read : get_or (row_of r).vote_readings p 0 ≡ reading_plus1 (vote_of r p)
  vote_read = get_or-map vote_number r.senders p no_sender

  pub serial_read : (k : Kind) → get_or (phase_row k r).serials p 0 ≡ number_plus1 (serial_of k (kept_of r p))
  serial_read votes = get_or-map (serial_number votes) r.senders p no_sender
  serial_read adjusts = get_or-map (serial_number adjusts) r.senders p no_sender

  pub latest_read : (k : Kind) → get_or (phase_row k r).latest p 0 ≡ number_plus1 (latest_of k (kept_of r p))
  latest_read votes = get_or-map (latest_number votes) r.senders p no_sender
  latest_read adjusts = get_or-map (latest_number adjusts) r.senders p no_sender

  -- a number that k keeps, and one that it changes
  same : (f : Sender → ℕ) (k : Sender) → f k ≡ f (kept_of r p) → map f (set r.senders p k) ≡ map f r.senders
  same f k e = map-set_same f r.senders p k no_sender e

  new : (f : Sender → ℕ) (k : Sender) → map f (set r.senders p k) ≡ set (map f r.senders) p (f k)
  new f k = map-set f r.senders p k

  pub start_written : (x : Option Reading) → (record (row_of r) { start_readings = set (row_of r).start_readings p (reading_plus1 x) }) ≡ row_of (with_sender r p (with_start (kept_of r p) x))
  unfolding marks_number
  start_written x = let k = with_start (kept_of r p) x in rw (new start_number k, same vote_number k refl, same (serial_number votes) k refl, same (serial_number adjusts) k refl, same (latest_number votes) k refl, same (latest_number adjusts) k refl) refl

  -- the head's own vote: its reading, and whom it names; its own adjust
  pub own_vote_written : (x : Option Reading) (c : ℕ) → (record (row_of r) { vote_readings = set (row_of r).vote_readings p (reading_plus1 x); votes = record (row_of r).votes { latest = set (row_of r).votes.latest p (c + 1) } }) ≡ row_of (with_sender r p (with_candidate (with_vote_reading (kept_of r p) x) c))
  unfolding marks_number
  own_vote_written x c = let k = with_candidate (with_vote_reading (kept_of r p) x) c in rw (same start_number k refl, new vote_number k, same (serial_number votes) k refl, same (serial_number adjusts) k refl, new (latest_number votes) k, same (latest_number adjusts) k refl) refl

  pub own_adjust_written : (a : ℕ) → (record (row_of r) { adjusts = record (row_of r).adjusts { latest = set (row_of r).adjusts.latest p (a + 1) } }) ≡ row_of (with_sender r p (with_adjuster (kept_of r p) a))
  unfolding marks_number
  own_adjust_written a = let k = with_adjuster (kept_of r p) a in rw (same start_number k refl, same vote_number k refl, same (serial_number votes) k refl, same (serial_number adjusts) k refl, same (latest_number votes) k refl, new (latest_number adjusts) k) refl

  -- what is kept of a delivered vote: its reading, its serial, and whom it names; and of a delivered adjust
  pub taken_vote_written : (x : Option Reading) (j c : ℕ) → (record (row_of r) { vote_readings = set (row_of r).vote_readings p (reading_plus1 x); votes = record (row_of r).votes { serials = set (row_of r).votes.serials p (j + 1); latest = set (row_of r).votes.latest p (c + 1) } }) ≡ row_of (with_sender r p (keep_vote (kept_of r p) j c x))
  unfolding marks_number
  taken_vote_written x j c = let k = keep_vote (kept_of r p) j c x in rw (same start_number k refl, new vote_number k, new (serial_number votes) k, same (serial_number adjusts) k refl, new (latest_number votes) k, same (latest_number adjusts) k refl) refl

  pub taken_adjust_written : (j a : ℕ) → (record (row_of r) { adjusts = record (row_of r).adjusts { serials = set (row_of r).adjusts.serials p (j + 1); latest = set (row_of r).adjusts.latest p (a + 1) } }) ≡ row_of (with_sender r p (keep_adjust (kept_of r p) j a))
  unfolding marks_number
  taken_adjust_written j a = let k = keep_adjust (kept_of r p) j a in rw (same start_number k refl, same vote_number k refl, same (serial_number votes) k refl, new (serial_number adjusts) k, same (latest_number votes) k refl, new (latest_number adjusts) k) refl

  -- all that is kept
  pub sender_written : (k : Sender) → (record (row_of r) {
    start_readings = set (row_of r).start_readings p (start_number k);
    vote_readings = set (row_of r).vote_readings p (vote_number k);
    votes = record (row_of r).votes { serials = set (row_of r).votes.serials p (serial_number votes k); latest = set (row_of r).votes.latest p (latest_number votes k) };
    adjusts = record (row_of r).adjusts { serials = set (row_of r).adjusts.serials p (serial_number adjusts k); latest = set (row_of r).adjusts.latest p (latest_number adjusts k) };
  })
      ≡ row_of (with_sender r p k)
  unfolding marks_number
  sender_written k = rw (new start_number k, new vote_number k, new (serial_number votes) k, new (serial_number adjusts) k, new (latest_number votes) k, new (latest_number adjusts) k) refl

-- A PHASE of a row

abbrev pub part : Kind → HeadRow → PhaseRow
part votes w = w.votes
part adjusts w = w.adjusts

-- 1 for a phase that was closed early, 0 for another
pub early_read : (k : Kind) (r : HeadRecord) {row : HeadRow} → row ≡ row_of r → eqb (part k row).early 1 ≡ (phase_of k r).early
early_read votes r is = rw is (is_1 r.vote.early)
early_read adjusts r is = rw is (is_1 r.adjust.early)

-- A READING that is kept or dropped

pub reading_left : (b : Bool) (x : Option Reading) → cond b (reading_plus1 x) 0 ≡ reading_plus1 (cond b x None)
reading_left true x = refl
reading_left false x = refl

-- A CHOICE, of which the row has k

pub absent_at_0 : (m : Option ℕ) {k : ℕ} → k ≡ number_plus1 m → k ≡ 0 → is_some m ≡ false
absent_at_0 None k-is e = refl
absent_at_0 (Some v) k-is e = absurd (omega arith)

pub there_unless_0 : (m : Option ℕ) {k : ℕ} → k ≡ number_plus1 m → k ≢ 0 → is_some m ≡ true
there_unless_0 None k-is e = absurd (e k-is)
there_unless_0 (Some v) k-is e = refl

-- it is the number v
pub same_name : (m : Option ℕ) (v : ℕ) → eqb (number_plus1 m) (v + 1) ≡ same_number m (Some v)
same_name None v = ne_eqb 0 (v + 1) (λ e. absurd (omega arith))
same_name (Some c) v =
    cases (eqb c v) (λ t. let e = eqb-true c v t in eq-eqb (c + 1) (v + 1) (omega arith) ∙ sym t)
    (λ t. let d = eqb-false c v t in ne_eqb (c + 1) (v + 1) (λ e. d (omega arith)) ∙ sym t)
