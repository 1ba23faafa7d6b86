-- A row in its ranges is the row of the record that it holds, a record in its ranges is the one that its row holds, and a row
-- is in its ranges exactly if its record is. So nothing is lost between one action and the next.
-- Main results: `row_of_record`, `record_of_row`, `range_of_row`.
use Rattle.protocol.specs.declared.Reading.{Reading}
use Rattle.std.specs.Prelude.{Option, Some, None, is_some}
use mathlib.Core.Path.{◌≡◌, refl, sym, ◌∙◌, ap, ap₂, subst}
use mathlib.Core.Bool.{Bool, true, false, cond, ◌&&◌, ◌||◌}
use mathlib.Core.List.{List, map}
use Prim.Native.Nat.{ℕ, zero, suc, ◌+◌, ◌-◌, ◌^◌, ◌<◌}
use native.Mathlib.Omega.{arith}
use lib.Dec.{ltb, eqb, lit<}
use lib.ListN.{length, get_or, replicate}
use borrow.Author.Tests.{ltb-true, ltb-false, lt-ltb, eqb-true, eq-eqb, ne_eqb}
use Rattle.protocol.specs.declared.Sender.{Sender}
use Rattle.protocol.specs.declared.HeadRecord.{HeadRecord}
use Rattle.protocol.specs.declared.HeadRow.{HeadRow}
use Rattle.protocol.specs.Base.{◌⇒◌, table}
use Rattle.protocol.specs.Words.{is_time, heads_fit}
use Rattle.protocol.specs.Record.{reading_or0, no_sender, kept_of, start_of, vote_of, votes, adjusts, mark_number, marks_number, reading_in_range, sender_in_range, sender_is_none, same_number, reading_counts, phase_in_range, marks_in_range, record_in_range}
use Rattle.protocol.specs.Step.{with_senders}
use Rattle.protocol.specs.Row.{number_plus1, reading_plus1, start_number, vote_number, serial_number, latest_number, row_of, number_in, reading_in, sender_in, record_in, row_fits, row_in_range}
use Rattle.protocol.proofs.Tests.{cases, and_left, and_right, parts, all_same, is_1}
use Rattle.protocol.proofs.Tables.{table_at, is_table}
use Rattle.protocol.proofs.Ranges.{InRange, in_range}
use Rattle.head_row.proofs.Rows.{start_read, vote_read, serial_read, latest_read}
use Rattle.head_open.proofs.Marks.{has_started, has_confirmed, has_vote_turn, has_vote_closed, has_adjust_turn, has_adjust_closed}
use Rattle.head_ranges.specs.Parts.{Sized}

-- ONE NUMBER

number_back : (x : Option ℕ) → number_in (number_plus1 x) ≡ x
number_back None = refl
number_back (Some k) = let same : k + 1 - 1 ≡ k = omega arith in rw (ne_eqb (k + 1) 0 (λ z. omega arith), same) refl

number_forth : (k : ℕ) → number_plus1 (number_in k) ≡ k
number_forth zero = refl
number_forth (suc k) = rw (ne_eqb (suc k) 0 (λ z. omega arith)) (omega arith)

-- the mark of an early close, as 0 or 1
mark_below_2 : (b : Bool) → ltb (mark_number b 1) 2 ≡ true
mark_below_2 true = refl
mark_below_2 false = refl

early_forth : (k : ℕ) → ltb k 2 ≡ true → mark_number (eqb k 1) 1 ≡ k
early_forth zero t = refl
early_forth (suc zero) t = refl
early_forth (suc (suc k)) t = absurd (let below = ltb-true (suc (suc k)) 2 t in omega arith)

reading_back : (x : Option Reading) → reading_or0 x < 2 ^ 28 → reading_in (reading_plus1 x) ≡ x
reading_back None below = refl
reading_back (Some x) below =
    let same : x.0 + 1 - 1 ≡ x.0 = omega arith in rw (lt-ltb x.0 (2 ^ 28) below, ne_eqb (x.0 + 1) 0 (λ z. omega arith), same) refl

reading_forth : (k : ℕ) → reading_or0 (reading_in k) < 2 ^ 28 → reading_plus1 (reading_in k) ≡ k
reading_forth zero below = refl
reading_forth (suc k) below =
    let some = ne_eqb (suc k) 0 (λ z. omega arith) in
    let short : suc k - 1 < 2 ^ 28 = rw some at below in
    rw (some, lt-ltb (suc k - 1) (2 ^ 28) short) (omega arith)

-- a reading of 2²⁸ or more is written as another of them
range_back : (x : Option Reading) → reading_in_range (reading_in (reading_plus1 x)) ≡ reading_in_range x
range_back None = refl
range_back (Some x) =
    cases (is_time x.0) (λ t. ap reading_in_range (reading_back (Some x) (ltb-true x.0 (2 ^ 28) t)))
    (λ t. rw t refl)

is_reading_back : (x : Option Reading) → is_some (reading_in (reading_plus1 x)) ≡ is_some x
is_reading_back None = refl
is_reading_back (Some x) = cases (is_time x.0) (λ t. rw (t, ne_eqb (x.0 + 1) 0 (λ z. omega arith)) refl) (λ t. rw t refl)

-- A SENDER

-- in range, every reading kept is below 2²⁸
readings_below : {r : HeadRecord} → InRange r → (p : ℕ) → p < 16 → (reading_or0 (start_of r p) < 2 ^ 28) × (reading_or0 (vote_of r p) < 2 ^ 28)
readings_below {r} h p short =
    cases (ltb p r.n) (λ t. let s = (h.kept p).below (ltb-true p r.n t) in (s.start, s.vote))
    (λ t. subst (λ (k : Sender). (reading_or0 k.start < 2 ^ 28) × (reading_or0 k.vote < 2 ^ 28))
    (sym ((h.kept p).above (ltb-false p r.n t) short)) (lit< tt, lit< tt))

-- what a row holds of a sender's numbers
abbrev held_of : Sender → Sender
held_of k =
    record {
      start = reading_in (reading_plus1 k.start);
      vote = reading_in (reading_plus1 k.vote);
      voted = k.voted;
      adjusted = k.adjusted;
      candidate = k.candidate;
      adjuster = k.adjuster;
    }

held_back : (k : Sender) → reading_or0 k.start < 2 ^ 28 → reading_or0 k.vote < 2 ^ 28 → held_of k ≡ k
held_back k s v = rw (reading_back k.start s, reading_back k.vote v) refl

-- THE RECORD THAT A ROW HOLDS has all but what is kept by sender as it was

held_but_senders : (r : HeadRecord) → record_in (row_of r) ≡ with_senders r (table (sender_in (row_of r)) 0 16)
unfolding record_in
held_but_senders r =
    rw (
      has_started r,
      has_confirmed r,
      has_vote_turn r,
      has_vote_closed r,
      has_adjust_turn r,
      has_adjust_closed r,
      is_1 r.vote.early,
      is_1 r.adjust.early,
      number_back r.vote.choice,
      number_back r.adjust.choice,
    ) refl

module _ (r : HeadRecord) (long : length r.senders ≡ 16) where
  sender_held : (p : ℕ) → p < 16 → sender_in (row_of r) p ≡ held_of (kept_of r p)
  sender_held p short =
      rw (
        start_read r p,
        vote_read r p,
        serial_read r p votes,
        serial_read r p adjusts,
        latest_read r p votes,
        latest_read r p adjusts,
        number_back (kept_of r p).voted,
        number_back (kept_of r p).adjusted,
        number_back (kept_of r p).candidate,
        number_back (kept_of r p).adjuster,
      ) refl

  abbrev kept_test : ℕ → Sender → Bool
  kept_test p k =
      cond (ltb p r.n) (sender_in_range r.n k && (eqb p r.own || (is_some k.vote ⇒ same_number k.candidate r.vote.choice)))
      (sender_is_none k)

  test_held : (p : ℕ) (k : Sender) → kept_test p (held_of k) ≡ kept_test p k
  unfolding sender_in_range sender_is_none
  test_held p k = rw (range_back k.start, range_back k.vote, is_reading_back k.start, is_reading_back k.vote) refl

  row_fits_lem : row_fits (row_of r) ≡ true
  unfolding row_fits marks_number
  row_fits_lem =
      let same : marks_number (record_in (row_of r)) ≡ marks_number r = ap marks_number (held_but_senders r) in
      rw (eq-eqb (marks_number r) (marks_number (record_in (row_of r))) (sym same), mark_below_2 r.vote.early, mark_below_2 r.adjust.early) refl

  range_by_senders : (l : List Sender) → ((p : ℕ) → p < 16 → kept_test p (get_or l p no_sender) ≡ kept_test p (kept_of r p))
      → record_in_range (with_senders r l) ≡ record_in_range r
  unfolding record_in_range marks_in_range reading_counts
  range_by_senders l same =
      ap (λ (kept : Bool).
      heads_fit r.n r.f && (ltb r.own r.n && (is_time r.last.0 && (is_time r.adjustment.0
      && ((is_some r.adjust.choice || eqb r.adjustment.0 0) && (phase_in_range r.n r.vote && (phase_in_range r.n r.adjust
      && (marks_in_range r && kept))))))))
      (all_same 16 (λ p. kept_test p (get_or l p no_sender)) (λ p. kept_test p (kept_of r p)) same)

  pub range_of_row : row_in_range (row_of r) ≡ record_in_range r
  unfolding row_in_range
  range_of_row =
      ap₂ ◌&&◌ row_fits_lem
      (ap record_in_range (held_but_senders r)
      ∙ range_by_senders (table (sender_in (row_of r)) 0 16)
      (λ p short. ap (kept_test p) (table_at (sender_in (row_of r)) 16 p no_sender short ∙ sender_held p short) ∙ test_held p (kept_of r p)))

pub record_of_row : (r : HeadRecord) → record_in_range r ≡ true → length r.senders ≡ 16 → record_in (row_of r) ≡ r
record_of_row r e long =
    held_but_senders r
    ∙ ap (with_senders r) (sym (is_table (sender_in (row_of r)) 16 no_sender r.senders long (λ p short. sym (sender_back p short))))
  where
    sender_back : (p : ℕ) → p < 16 → sender_in (row_of r) p ≡ kept_of r p
    sender_back p short = let b = readings_below (in_range e) p short in sender_held r long p short ∙ held_back (kept_of r p) b.0 b.1

-- THE ROW OF THE RECORD THAT IT HOLDS

module _ (w : HeadRow) (sized : Sized w) (e : row_in_range w ≡ true) where
  fits : row_fits w ≡ true
  unfolding row_in_range
  fits = and_left (row_fits w) _ e

  held_in_range : InRange (record_in w)
  unfolding row_in_range
  held_in_range = in_range (and_right (row_fits w) _ e)

  readings : (p : ℕ) → p < 16 → (reading_or0 (reading_in (get_or w.start_readings p 0)) < 2 ^ 28) × (reading_or0 (reading_in (get_or w.vote_readings p 0)) < 2 ^ 28)
  unfolding record_in
  readings p short =
      subst (λ (k : Sender). (reading_or0 k.start < 2 ^ 28) × (reading_or0 k.vote < 2 ^ 28)) (table_at (sender_in w) 16 p no_sender short)
      (readings_below held_in_range p short)

  field_part : (l : List ℕ) (f : Sender → ℕ) → length l ≡ 16 → ((p : ℕ) → p < 16 → get_or l p 0 ≡ f (sender_in w p)) → map f (table (sender_in w) 0 16) ≡ l
  field_part l f long same = sym (is_table (λ p. f (sender_in w p)) 16 0 l long same)

  spare_part : replicate 4 0 ≡ w.spare
  unfolding row_fits
  spare_part =
      let t = fits in
      sym (is_table (λ p. 0) 4 0 w.spare sized.spare (four (get_or w.spare)
      (eqb-true (get_or w.spare 0 0) 0 (search parts depth 9)) (eqb-true (get_or w.spare 1 0) 0 (search parts depth 9))
      (eqb-true (get_or w.spare 2 0) 0 (search parts depth 9)) (eqb-true (get_or w.spare 3 0) 0 (search parts depth 9))))
    where
      four : (f : ℕ → ℕ → ℕ) → f 0 0 ≡ 0 → f 1 0 ≡ 0 → f 2 0 ≡ 0 → f 3 0 ≡ 0 → (p : ℕ) → p < 4 → f p 0 ≡ 0
      four f a b c d zero l = a
      four f a b c d (suc zero) l = b
      four f a b c d (suc (suc zero)) l = c
      four f a b c d (suc (suc (suc zero))) l = d
      four f a b c d (suc (suc (suc (suc p)))) l = absurd (omega arith)

  pub row_of_record : w ≡ row_of (record_in w)
  unfolding row_fits record_in
  row_of_record =
      let t = fits in
      let marks : w.marks.0 ≡ marks_number (record_in w) = eqb-true _ _ (and_left (eqb w.marks.0 (marks_number (record_in w))) _ t) in
      rw (
        ← marks,
        spare_part,
        number_forth w.votes.choice,
        number_forth w.adjusts.choice,
        early_forth w.votes.early (search parts depth 9),
        early_forth w.adjusts.early (search parts depth 9),
        field_part w.start_readings start_number sized.starts (λ p short. sym (reading_forth (get_or w.start_readings p 0) (readings p short).0)),
        field_part w.vote_readings vote_number sized.votes (λ p short. sym (reading_forth (get_or w.vote_readings p 0) (readings p short).1)),
        field_part w.votes.serials (serial_number votes) sized.vote_serials (λ p short. sym (number_forth (get_or w.votes.serials p 0))),
        field_part w.votes.latest (latest_number votes) sized.latest_votes (λ p short. sym (number_forth (get_or w.votes.latest p 0))),
        field_part w.adjusts.serials (serial_number adjusts) sized.adjust_serials (λ p short. sym (number_forth (get_or w.adjusts.serials p 0))),
        field_part w.adjusts.latest (latest_number adjusts) sized.latest_adjusts (λ p short. sym (number_forth (get_or w.adjusts.latest p 0))),
      ) refl
