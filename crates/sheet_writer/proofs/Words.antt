-- One entry's words more in the buffer, and the whole sheet in it.
-- Main results: `next_entry`, `wrote`, `turned_back`.
use mathlib.Core.Path.{◌≡◌, refl, sym, ◌∙◌, ap, ap₂}
use mathlib.Core.Bool.{true}
use mathlib.Core.List.{List, [], ◌∷◌}
use Prim.Native.Nat.{ℕ, ◌+◌, ◌≤◌, ◌<◌}
use native.Mathlib.Omega.{arith}
use lib.ListN.{length}
use Rattle.protocol.specs.declared.Cause.{Cause}
use Rattle.protocol.specs.declared.Entry.{Entry}
use Rattle.protocol.specs.declared.Setting.{Setting}
use Rattle.protocol.specs.Types.{Accepted, Refused}
use Rattle.protocol.specs.Base.{all, table}
use Rattle.protocol.specs.Words.{place_of}
use Rattle.protocol.specs.Spelling.{entry_words, sheet_of}
use Rattle.protocol.specs.Recorder.{entry_in, count_in, entries_in, entry_in_width, write_verdict, write_sheet, Recorded}
use Rattle.protocol.proofs.Tests.{all_at}
use Rattle.protocol.proofs.Tables.{length_table, table_at, table_last}
use Rattle.protocol.proofs.Spelling.{writable, length_entry_words, recorded, told}
use Rattle.sheet_spelling.specs.Placed.{placed, setting_in_front}
use Rattle.sheet_spelling.proofs.Placed.{placed_none, placed_more, words_joined, sheet_placed}
use Rattle.sheet_writer.specs.Buffer.{entries_behind}

-- ONE ENTRY

-- an entry of which all fit, fits
pub one_of_them : (xs : List ℕ) (i : ℕ) → all entry_in_width (entries_in xs) ≡ true → i < count_in xs → entry_in_width (entry_in xs i) ≡ true
one_of_them xs i e h =
    ap entry_in_width (sym (table_at (entry_in xs) (count_in xs) i (entry_in [] 0) h))
    ∙ all_at entry_in_width (entries_in xs) (entry_in [] 0) e i (rw (length_table (entry_in xs) 0 (count_in xs)) h)

-- before the first entry the buffer is as it was
pub no_entries : (out xs : List ℕ) → out ≡ entries_behind out xs 0
unfolding entry_words
no_entries out xs = sym (placed_none out (place_of 0))

module _ (before xs : List ℕ) (i : ℕ) (below : i < count_in xs) (room : place_of (count_in xs) ≤ length before) where
  abbrev words : List ℕ
  words = entry_words (table (entry_in xs) 0 i)

  words_length : place_of 0 + length words ≡ place_of i
  words_length = let long = length_entry_words (table (entry_in xs) 0 i) in let count = length_table (entry_in xs) 0 i in omega arith

  pub next_entry : (out after : List ℕ) (e : Entry) → out ≡ entries_behind before xs i → e ≡ entry_in xs i
      → after ≡ placed out (place_of i) (entry_words (e ∷ [])) → after ≡ entries_behind before xs (i + 1)
  next_entry out after e was is written =
      written ∙ ap₂ (λ (o : List ℕ) (d : Entry). placed o (place_of i) (entry_words (d ∷ []))) was is
      ∙ ap (λ (k : ℕ). placed (entries_behind before xs i) k (entry_words (entry_in xs i ∷ []))) (sym words_length)
      ∙ placed_more before (place_of 0) words (let long = words_length in omega arith) (entry_words (entry_in xs i ∷ []))
      ∙ ap (placed before (place_of 0)) (sym (ap entry_words (table_last (entry_in xs) i) ∙ words_joined (table (entry_in xs) 0 i) (entry_in xs i ∷ [])))

-- THE WHOLE SHEET

module _ (g : Setting) (xs out : List ℕ) where
  pub wrote : (front after : List ℕ) → write_verdict g xs (length out) ≡ Accepted → front ≡ setting_in_front out g → after ≡ entries_behind front xs (count_in xs)
      → (Accepted ≡ (write_sheet g xs out).verdict) × (after ≡ (write_sheet g xs out).buffer) × Recorded g xs Accepted after
  unfolding write_sheet
  wrote front after e setting entries =
      let room = (writable g xs (length out) e).enough in
      told (write_verdict g xs (length out)) (sheet_of g (entries_in xs)) out (Recorded g xs) (recorded g xs out) Accepted after e
      (entries ∙ ap (λ (l : List ℕ). entries_behind l xs (count_in xs)) setting ∙ sheet_placed out g (entries_in xs) (omega arith))

  pub turned_back : (c : Cause) → write_verdict g xs (length out) ≡ Refused c
      → (Refused c ≡ (write_sheet g xs out).verdict) × (out ≡ (write_sheet g xs out).buffer) × Recorded g xs (Refused c) out
  unfolding write_sheet
  turned_back c e = told (write_verdict g xs (length out)) (sheet_of g (entries_in xs)) out (Recorded g xs) (recorded g xs out) (Refused c) out e refl
