-- Whether an accepted entry with the action that closes a phase is a correct close: it is if its head is correct and has not closed the
-- phase early, as the head's row says before the entry.
-- Main results: `close_of_faulty`, `not_after_early`, `is_correct_close`.
use mathlib.Core.Path.{◌≡◌, sym, ◌∙◌, ap, ap₂}
use mathlib.Core.Bool.{Bool, true, false, not, ◌&&◌}
use mathlib.Core.List.{List, []}
use mathlib.Core.Logic.{◌≢◌}
use Prim.Native.Nat.{ℕ, ◌+◌, ◌%◌, ◌<◌}
use lib.Dec.{eqb}
use lib.ListN.{get_or}
use borrow.Author.Tests.{eq-eqb, ne_eqb}
use Rattle.protocol.specs.declared.HeadRecord.{HeadRecord}
use Rattle.protocol.specs.declared.HeadRow.{HeadRow}
use Rattle.protocol.specs.declared.Setting.{Setting}
use Rattle.protocol.specs.declared.Entry.{Entry}
use Rattle.protocol.specs.Types.{Accepted}
use Rattle.protocol.specs.Words.{is_correct, setting_at, entry_at}
use Rattle.protocol.specs.Record.{votes, adjusts, phase_of}
use Rattle.protocol.specs.declared.Kind.{Kind}
use Rattle.protocol.specs.Row.{no_row, row_of, phase_in_row}
use Rattle.protocol.specs.Run.{History, record_of}
use Rattle.protocol.specs.Premises.{closing, correct_closes, is_early}
use Rattle.protocol.proofs.Tests.{and_true, and_false}
use Rattle.protocol.proofs.Phases.{close_by_entry}
use Rattle.head_row.proofs.Rows.{early_read}
use Rattle.sheet_state.specs.Arrays.{answer_at, event_at, Stands}
use Rattle.sheet_state.proofs.Standing.{valid_history, next_taken, head_row}

early_read_lem : (k : Kind) {row : HeadRow} (r : HeadRecord) → row ≡ row_of r → eqb (phase_in_row k row).early 1 ≡ (phase_of k r).early
early_read_lem votes r is = early_read votes r is
early_read_lem adjusts r is = early_read adjusts r is

module _ {ws : List ℕ} {j : ℕ} {s : History} {rows : List HeadRow} (S : Stands ws j s rows) {g : Setting} (g-is : g ≡ setting_at ws) {e : Entry} (is : e ≡ entry_at ws j)
    (ok : (answer_at ws j s).verdict ≡ Accepted) (k : Kind) (act : e.action ≡ closing k) (i : ℕ) (i-is : i ≡ e.head % 16) where
  abbrev early_number : ℕ
  early_number = (phase_in_row k (get_or rows i no_row)).early

  closes_is : correct_closes g k (event_at ws j s) ≡ (is_correct g e.head && not (eqb early_number 1))
  closes_is =
      let acts : (entry_at ws j).action ≡ closing k = ap (λ (x : Entry). x.action) (sym is) ∙ act in
      let early = (close_by_entry (setting_at ws) k (next_taken S ok) (valid_history S) acts).1
      ∙ ap (λ (x : Entry). is_early (setting_at ws) k s x.head) (sym is) ∙ sym (early_read_lem k (record_of (setting_at ws) s e.head) (head_row S is i i-is)) in
      ap₂ ◌&&◌ (ap₂ ◌&&◌ (ap (λ (x : Entry). is_correct g x.head) (sym is)) (eq-eqb _ _ acts) ∙ and_true (is_correct g e.head)) (ap not early)

  pub close_of_faulty : is_correct g e.head ≡ false → correct_closes g k (event_at ws j s) ≡ false
  close_of_faulty c = closes_is ∙ ap (λ (b : Bool). b && not (eqb early_number 1)) c

  pub not_after_early : early_number ≡ 1 → correct_closes g k (event_at ws j s) ≡ false
  not_after_early u = closes_is ∙ and_false (is_correct g e.head) _ (ap not (eq-eqb early_number 1 u))

  pub is_correct_close : is_correct g e.head ≡ true → early_number ≢ 1 → correct_closes g k (event_at ws j s) ≡ true
  is_correct_close c n = closes_is ∙ ap₂ ◌&&◌ c (ap not (ne_eqb early_number 1 n))
