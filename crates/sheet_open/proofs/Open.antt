-- Cause 9 of an entry, read off the heads' rows and the table.
-- Main results: `start_passes`, `frame_passes`, `others_pass`; `in_table`, `at_index`, `closed_there`, `open_there`.
use mathlib.Core.Path.{◌≡◌, refl, sym, ◌∙◌, ap, ap₂, subst}
use mathlib.Core.Bool.{Bool, true, false, cond, not, ◌&&◌, ◌||◌}
use mathlib.Core.List.{List, []}
use mathlib.Core.Logic.{◌≢◌}
use Prim.Native.Nat.{ℕ, ◌%◌, ◌≤◌, ◌<◌}
use native.Mathlib.Omega.{arith}
use lib.Dec.{ltb, eqb}
use lib.ListN.{get_or}
use borrow.Author.Tests.{ne_eqb}
use Rattle.protocol.specs.declared.HeadRecord.{HeadRecord}
use Rattle.protocol.specs.declared.HeadRow.{HeadRow}
use Rattle.protocol.specs.declared.Action.{Action}
use Rattle.protocol.specs.declared.Action.TheVariants.{Look}
use Rattle.protocol.specs.declared.Setting.{Setting}
use Rattle.protocol.specs.declared.Entry.{Entry}
use Rattle.protocol.specs.Types.{NoFrame, Start}
use Rattle.protocol.specs.Words.{has_sender, has_serial, setting_at, entry_at, entry_fits_at}
use Rattle.protocol.specs.declared.Kind.{Kind}
use Rattle.protocol.specs.Record.{votes, adjusts, phase_of, marks_number}
use Rattle.protocol.specs.Step.{number, has_mark, is_closed, is_spent, taken_as, action_of}
use Rattle.protocol.specs.Row.{row_of}
use Rattle.protocol.specs.Run.{History, record_of, frame_of, is_frame, input_of}
use Rattle.protocol.specs.Premises.{delivery, is_early}
use Rattle.protocol.specs.OpenTable.{no, open_index, open_actions}
use Rattle.protocol.proofs.Tests.{absurd_bool, cases, and_false, and_true, or_right}
use Rattle.protocol.proofs.Fits.{entry_fits_lem}
use Rattle.protocol.proofs.Valid.{Valid, fixed}
use Rattle.protocol.proofs.Runs.{start_sent, sent_below}
use Rattle.head_row.proofs.Rows.{early_read}
use Rattle.head_open.proofs.Marks.{has_started, marks_below_128, made_of, not_spent}
use Rattle.protocol.specs.Row.{no_row}
use Rattle.sheet_state.specs.Arrays.{Stands}
use Rattle.sheet_state.proofs.Standing.{valid_history, head_row, sender_row}
use Rattle.sheet_open.specs.Open.{is_open, sender_passes, marks_at, IsInTable}
use Rattle.sheet_open.proofs.Table.{open_rule}

-- THE SENDER, BY THE RECORDS

start_if : (b : Bool) → is_frame (cond b Start NoFrame) ≡ b
start_if true = refl
start_if false = refl

module _ (g : Setting) (s : History) (v : Valid g s) (e : Entry) where
  start_sent_by : e.action ≡ 2 → has_mark (marks_number (record_of g s e.sender)) 1 ≡ sender_passes s e
  start_sent_by a = rw (a, start_sent g v e.sender e.serial, has_started (record_of g s e.sender)) (sym (and_true (is_frame (cond (record_of g s e.sender).started Start NoFrame)) ∙ start_if (record_of g s e.sender).started))

  frame_sent_by : (k : Kind) → e.action ≡ delivery k → (ltb e.serial (phase_of k (record_of g s e.sender)).sent && not (eqb e.sender e.head)) ≡ sender_passes s e
  frame_sent_by votes a = rw (a, sent_below g votes v e.sender e.serial) refl
  frame_sent_by adjusts a = rw (a, sent_below g adjusts v e.sender e.serial) refl

-- THE TABLE, BY THE RECORDS

-- a spent action is taken as a look, which is never closed
closed_unspent : (r : HeadRecord) (a : Action) → is_closed r (taken_as r a) ≡ (is_closed r a && not (is_spent (number a) r.vote.early r.adjust.early))
unfolding is_closed taken_as
closed_unspent r a = go (is_spent (number a) r.vote.early r.adjust.early)
  where
    go : (b : Bool) → is_closed r (cond b Look a) ≡ (is_closed r a && not b)
    go true = sym (and_false (is_closed r a) false refl)
    go false = sym (and_true (is_closed r a))

-- and has no sender
spent_plain : (a : ℕ) (vote adjust : Bool) → is_spent a vote adjust ≡ true → has_sender a ≡ false
spent_plain a vote adjust spent = cases (has_sender a) (λ t. absurd_bool spent (sym (not_spent a vote adjust (unlike 6 refl t) (unlike 7 refl t) (unlike 9 refl t)))) (λ t. t)
  where
    unlike : (b : ℕ) → has_sender b ≡ false → has_sender a ≡ true → a ≢ b
    unlike b plain t z = absurd_bool t (ap has_sender z ∙ plain)

-- so where the table says no an entry is open if it is spent, and elsewhere by its sender alone
spent_or_passes : (sent own says_no spent : Bool) → (spent ≡ true → (sent ≡ true) × (own ≡ false))
    → (sent && not ((own || says_no) && not spent)) ≡ cond says_no spent (sent && not own)
spent_or_passes sent own true true plain = rw ((plain refl).0, (plain refl).1) refl
spent_or_passes sent own false true plain = rw ((plain refl).0, (plain refl).1) refl
spent_or_passes true true true false plain = refl
spent_or_passes true true false false plain = refl
spent_or_passes true false true false plain = refl
spent_or_passes true false false false plain = refl
spent_or_passes false own true false plain = refl
spent_or_passes false own false false plain = refl

abbrev spent_at : Setting → History → Entry → Bool
spent_at g s e = is_spent e.action (is_early g votes s e.head) (is_early g adjusts s e.head)

open_by : (g : Setting) (s : History) → Valid g s → (e : Entry) → e.action ≤ 9
    → is_open g s e ≡ cond (eqb (get_or open_actions (open_index e.action (marks_number (record_of g s e.head))) 0) no) (spent_at g s e) (sender_passes s e)
unfolding is_open input_of
open_by g s v e h =
    let r = record_of g s e.head in
    let a = action_of (input_of e (frame_of s e)) in
    let made = made_of r (input_of e (frame_of s e)) h in
    rw (closed_unspent r a, open_rule r a, made.0, made.1, (fixed g v e.head).own_is)
    (spent_or_passes (not (has_sender e.action) || is_frame (frame_of s e)) (has_serial e.action && eqb e.sender e.head) _ (spent_at g s e)
    (λ t. let plain = spent_plain e.action _ _ t in (rw plain refl, rw (or_right (eqb e.action 2) _ plain) refl)))

-- BY THE ROWS: an entry after the first i

marks_in : (r : HeadRecord) → (row_of r).marks.0 ≡ marks_number r
marks_in r = refl

-- the votes and the adjusts sent
abbrev pub sent_in : Kind → HeadRow → ℕ
sent_in votes row = row.votes.sent
sent_in adjusts row = row.adjusts.sent

sent_in_lem : (k : Kind) (r : HeadRecord) → sent_in k (row_of r) ≡ (phase_of k r).sent
sent_in_lem votes r = refl
sent_in_lem adjusts r = refl

module _ {ws : List ℕ} {i : ℕ} {s : History} {heads : List HeadRow} (now : Stands ws i s heads) {e : Entry} (is : e ≡ entry_at ws i) where
  pub start_passes : (at : ℕ) → at ≡ e.sender % 16 → e.action ≡ 2 → has_mark ((get_or heads at no_row).marks.0) 1 ≡ sender_passes s e
  start_passes at u a = rw (sender_row now is at u, marks_in (record_of (setting_at ws) s e.sender)) (start_sent_by (setting_at ws) s (valid_history now) e a)

  pub frame_passes : (k : Kind) (at : ℕ) → at ≡ e.sender % 16 → e.action ≡ delivery k
      → (ltb e.serial (sent_in k (get_or heads at no_row)) && not (eqb e.sender e.head)) ≡ sender_passes s e
  frame_passes k at u a = rw (sender_row now is at u, sent_in_lem k (record_of (setting_at ws) s e.sender)) (frame_sent_by (setting_at ws) s (valid_history now) e k a)

  marks_of_head : marks_at heads e.head ≡ marks_number (record_of (setting_at ws) s e.head)
  marks_of_head = ap (λ (row : HeadRow). row.marks.0) (head_row now is (e.head % 16) refl) ∙ marks_in (record_of (setting_at ws) s e.head)

  -- what `is_open` asks of its caller
  pub in_table : entry_fits_at ws i ≡ true → IsInTable e heads
  in_table fits =
      let few = subst (λ (e : Entry). e.action ≤ 9) (sym is) (entry_fits_lem _ _ _ _ fits).action in
      (omega arith, rw marks_of_head (marks_below_128 (record_of (setting_at ws) s e.head)))

  -- by the entry of the table at the index that is asked
  module _ (t : List ℕ) (table_is : t ≡ open_actions) (inside : IsInTable e heads) (at j : ℕ) (u : at ≡ e.head % 16) (index_is : j ≡ open_index e.action ((get_or heads at no_row).marks.0)) where
    table_says : is_open (setting_at ws) s e ≡ cond (eqb (get_or t j 0) no) (spent_at (setting_at ws) s e) (sender_passes s e)
    table_says =
        let few = inside.0 in
        rw (table_is, index_is, head_row now is at u, marks_in (record_of (setting_at ws) s e.head)) (open_by (setting_at ws) s (valid_history now) e (omega arith))

    pub closed_there : get_or t j 0 ≡ no → (b : Bool) → b ≡ is_spent e.action (eqb ((get_or heads at no_row).votes.early) 1) (eqb ((get_or heads at no_row).adjusts.early) 1) → b ≡ is_open (setting_at ws) s e
    closed_there says b spent =
        let r = record_of (setting_at ws) s e.head in
        spent ∙ ap₂ (is_spent e.action) (early_read votes r (head_row now is at u)) (early_read adjusts r (head_row now is at u)) ∙ sym (table_says ∙ rw says refl)

    pub open_there : get_or t j 0 ≢ no → (b : Bool) → b ≡ sender_passes s e → b ≡ is_open (setting_at ws) s e
    open_there says b passes = passes ∙ sym (table_says ∙ rw (ne_eqb (get_or t j 0) no says) refl)

-- the same at the index that a head has in the array
pub at_index : (heads : List HeadRow) (e : Entry) (at : ℕ) → at ≡ e.head % 16 → IsInTable e heads → (e.action < 10) × ((get_or heads at no_row).marks.0 < 128)
at_index heads e at u inside = (inside.0, rw u inside.1)

-- every action but 2, 5 and 8 passes
pub others_pass : (s : History) (e : Entry) → e.action ≢ 2 → e.action ≢ 5 → e.action ≢ 8 → true ≡ sender_passes s e
others_pass s e a b d = rw (ne_eqb e.action 2 a, ne_eqb e.action 5 b, ne_eqb e.action 8 d) refl
