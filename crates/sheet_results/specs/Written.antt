-- The result words that are made of the heads' rows.
use Rattle.std.specs.Prelude.{◌≡◌, true, List, ◌++◌, ℕ, ◌*◌, ◌<◌, length, drop}
use Rattle.protocol.specs.declared.HeadRecord.{HeadRecord}
use Rattle.protocol.specs.declared.HeadRow.{HeadRow}
use Rattle.protocol.specs.Base.{table}
use Rattle.protocol.specs.Record.{record_in_range}
use Rattle.protocol.specs.Row.{row_of}
use Rattle.protocol.specs.Results.{head_words, words_per_head, words_from}

abbrev pub RecordInRange : HeadRecord → Type 0
RecordInRange r = (record_in_range r ≡ true) × (length r.senders ≡ 16)

-- head q's words, of the record in its ranges that the row is of
abbrev pub AreWords : ℕ → HeadRow → List ℕ → Type 0
AreWords q row ws = (r : HeadRecord) → row ≡ row_of r → RecordInRange r → ws ≡ head_words q r

-- the words of n heads from word 0 on, later words kept
abbrev pub Writes : ℕ → List HeadRow → List ℕ → List ℕ → Type 0
Writes n heads before after =
    (r : ℕ → HeadRecord) → heads ≡ table (λ q. row_of (r q)) 0 16 → ((q : ℕ) → q < n → RecordInRange (r q)) → after ≡ words_from r 0 n ++ drop (words_per_head * n) before
