-- The row of a record with nothing kept by sender becomes that of the record with what is kept, once the numbers of all sixteen
-- senders are written.
-- Main results: `next_written`, `all_written`.
use mathlib.Core.Path.{◌≡◌, refl, sym, ◌∙◌, ap}
use mathlib.Core.List.{List}
use Prim.Native.Nat.{ℕ, zero, suc, ◌+◌, ◌≤◌, ◌<◌}
use native.Mathlib.Numerals.{add-one}
use native.Mathlib.Omega.{arith}
use lib.ListN.{length, get_or, set, replicate, length-set}
use lib.Seq.{ext_get_or}
use Rattle.protocol.specs.declared.Sender.{Sender}
use Rattle.protocol.specs.declared.HeadRecord.{HeadRecord}
use Rattle.protocol.specs.declared.HeadRow.{HeadRow}
use Rattle.protocol.specs.Record.{no_sender}
use Rattle.protocol.specs.Row.{row_of}
use Rattle.protocol.proofs.Tables.{fill_next}
use Rattle.protocol.specs.Step.{with_senders}
use Rattle.head_row.proofs.Rows.{sender_written}
use Rattle.head_record.specs.Filling.{bare, with_numbers, Completes}

module _ (l : List Sender) where
  abbrev sender : ℕ → Sender
  sender p = get_or l p no_sender

  -- the numbers of the senders below i written, and those senders kept
  abbrev pub written_below : HeadRow → ℕ → HeadRow
  written_below w zero = w
  written_below w (suc i) = with_numbers (written_below w i) i (sender i)

  pub next_written : (w row after : HeadRow) (i : ℕ) → row ≡ written_below w i → after ≡ with_numbers row i (sender i) → after ≡ written_below w (i + 1)
  next_written w row after i is e = rw add-one (e ∙ ap (λ (v : HeadRow). with_numbers v i (sender i)) is)

  abbrev kept : ℕ → List Sender
  kept zero = replicate 16 no_sender
  kept (suc i) = set (kept i) i (sender i)

  size : (i : ℕ) → length (kept i) ≡ 16
  size zero = refl
  size (suc i) = length-set (kept i) i (sender i) ∙ size i

  kept_at : (i : ℕ) → i ≤ 16 → (p : ℕ) → p < i → get_or (kept i) p no_sender ≡ sender p
  kept_at zero h p lt = absurd (omega arith)
  kept_at (suc i) h p lt = fill_next sender (kept i) i (sender i) no_sender (rw (size i) (omega arith)) refl (kept_at i (omega arith)) p (omega arith)

  row_written : (r : HeadRecord) (i : ℕ) → i ≤ 16 → written_below (row_of (bare r)) i ≡ row_of (with_senders r (kept i))
  row_written r zero h = refl
  row_written r (suc i) h =
      ap (λ (w : HeadRow). with_numbers w i (sender i)) (row_written r i (omega arith))
      ∙ sender_written (with_senders r (kept i)) i (sender i)

  pub all_written : length l ≡ 16 → (w after : HeadRow) (i : ℕ) → i ≡ 16 → after ≡ written_below w i → Completes w l after
  all_written long w after i end e r is same =
      e ∙ ap (λ (k : ℕ). written_below w k) end ∙ ap (λ (v : HeadRow). written_below v 16) is ∙ row_written r 16 (omega arith)
      ∙ ap (λ (m : List Sender). row_of (with_senders r m)) (all_kept ∙ same)
    where
      all_kept : kept 16 ≡ l
      all_kept = ext_get_or no_sender (kept 16) l (size 16 ∙ sym long) (λ p lt. kept_at 16 (omega arith) p (omega (arith, lt, size 16)))
