-- What follows where the first i entries of a sheet are accepted and the rows are those of the heads after them.
-- Main results: `heads_few`, `at_most_16`, `valid_history`, `next_taken`, `row_at`, `head_row`, `sender_row`; `entry_sized`.
use mathlib.Core.Path.{◌≡◌, sym, ◌∙◌, ap, subst}
use mathlib.Core.Bool.{true}
use mathlib.Core.List.{List, [], ◌∷◌}
use Prim.Native.Nat.{ℕ, suc, ◌%◌, ◌≤◌, ◌<◌}
use native.Mathlib.Omega.{arith}
use lib.ListN.{get_or}
use Rattle.protocol.specs.declared.Entry.{Entry}
use Rattle.protocol.specs.declared.HeadRow.{HeadRow}
use Rattle.protocol.specs.Types.{Accepted}
use Rattle.protocol.specs.Words.{heads_fit, entry_of, setting_at, entry_at}
use Rattle.protocol.specs.Row.{row_of}
use Rattle.protocol.specs.Run.{History, record_of}
use Rattle.protocol.proofs.Fits.{heads_in_word}
use Rattle.protocol.proofs.Tables.{table_at}
use Rattle.protocol.proofs.Valid.{Taken, Valid, valid_run, valid_taken, heads_fit_lem}
use Rattle.protocol.proofs.Runs.{goes_on}
use Rattle.protocol.specs.Row.{no_row}
use Rattle.sheet_state.specs.Arrays.{answer_at, event_at, Stands}

-- head, sender and serial are four bits of a word each
pub entry_sized : (ws : List ℕ) (i : ℕ) → ((entry_at ws i).head < 16) × ((entry_at ws i).sender < 16) × ((entry_at ws i).serial < 16)
unfolding entry_of
entry_sized ws i = (omega arith, omega arith, omega arith)

module _ {ws : List ℕ} {i : ℕ} {s : History} {heads : List HeadRow} (now : Stands ws i s heads) where
  pub heads_few : heads_fit (setting_at ws).n (setting_at ws).f ≡ true
  heads_few = heads_in_word (get_or ws 0 0) (get_or ws 1 0) now.first_fits

  pub at_most_16 : (setting_at ws).n ≤ 16
  at_most_16 = (heads_fit_lem _ _ heads_few).1

  pub valid_history : Valid (setting_at ws) s
  valid_history = valid_run ws i s now.is_run

  -- the entry after them, where it is accepted
  pub next_taken : (answer_at ws i s).verdict ≡ Accepted → Taken (setting_at ws) s (event_at ws i s)
  next_taken a = valid_taken (valid_run ws (suc i) (event_at ws i s ∷ s) (goes_on ws i now.is_run a))

  pub row_at : (q : ℕ) → q < 16 → get_or heads q no_row ≡ row_of (record_of (setting_at ws) s q)
  row_at q l = ap (λ (h : List HeadRow). get_or h q no_row) now.heads_are ∙ table_at (λ q. row_of (record_of (setting_at ws) s q)) 16 q no_row l

  -- at the index of a head stands that head's row
  row_of_lem : (q at : ℕ) → q < 16 → at ≡ q % 16 → get_or heads at no_row ≡ row_of (record_of (setting_at ws) s q)
  row_of_lem q at below index_is = let same : at ≡ q = omega arith in ap (λ (j : ℕ). get_or heads j no_row) same ∙ row_at q below

  module _ {e : Entry} (is : e ≡ entry_at ws i) where
    pub head_row : (at : ℕ) → at ≡ e.head % 16 → get_or heads at no_row ≡ row_of (record_of (setting_at ws) s e.head)
    head_row at = row_of_lem e.head at (subst (λ (e : Entry). e.head < 16) (sym is) (entry_sized ws i).0)

    pub sender_row : (at : ℕ) → at ≡ e.sender % 16 → get_or heads at no_row ≡ row_of (record_of (setting_at ws) s e.sender)
    sender_row at = row_of_lem e.sender at (subst (λ (e : Entry). e.sender < 16) (sym is) (entry_sized ws i).1)
