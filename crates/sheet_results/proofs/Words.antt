-- A head's result words, and one head's words more in the buffer.
-- Main results: `outcome_is`, `adjustment_is`, `start_is`, `frames_is`; `next_head`.
use mir.Val.{bool_byte}
use Rattle.std.specs.Prelude.{unwrap_or}
use mathlib.Core.Path.{◌≡◌, refl, sym, ◌∙◌, ap}
use mathlib.Core.Bool.{Bool, true, false}
use mathlib.Core.List.{List, ◌++◌, append_assoc}
use Prim.Native.Nat.{ℕ, zero, suc, ◌+◌, ◌*◌, ◌/◌, ◌%◌, ◌^◌, ◌<◌}
use native.Mathlib.Numerals.{add-one}
use native.Mathlib.Omega.{arith}
use lib.ListN.{length, get_or, take, drop}
use lib.Dec.{lit<}
use lib.Seq.{drop-append-add, drop-drop, take-append_seam}
use borrow.Author.Tests.{eqb-true, eqb-false}
use Rattle.protocol.specs.declared.HeadRecord.{HeadRecord}
use Rattle.protocol.specs.declared.HeadRow.{HeadRow}
use Rattle.protocol.specs.Record.{votes, adjusts, reading_or0, chosen_start, outcome, mark_number, marks_number}
use Rattle.protocol.specs.Step.{has_mark}
use Rattle.protocol.specs.Row.{row_of}
use Rattle.protocol.specs.Board.{result_numbers}
use Rattle.protocol.specs.Results.{outcome_word, adjustment_word, start_word, frames_word, head_words, words_from}
use Rattle.protocol.proofs.Tables.{table_at}
use Rattle.protocol.proofs.Ranges as Ranges
use Rattle.protocol.proofs.Ranges.{in_range}
use Rattle.protocol.proofs.ResultWords.{length_words, outcome_below, number_below, sent_below, mark_below, start_below, adopted_below}
use Rattle.head_open.proofs.Marks.{has_started}
use Rattle.head_result.specs.Result.{IsResult}
use Rattle.protocol.specs.Row.{no_row}
use Rattle.sheet_results.specs.Written.{RecordInRange, AreWords, Writes}

-- ONE HEAD

abbrev field6 : ℕ → ℕ → ℕ → ℕ → ℕ
field6 o q c a = 6 * 2 ^ 28 + o * 2 ^ 24 + q * 2 ^ 20 + c * 2 ^ 16 + a * 2 ^ 12

low_bits : (x : ℕ) → x < 16 → x % 16 ≡ x
low_bits x h = omega arith

low_time : (x : ℕ) → x < 2 ^ 28 → x % 2 ^ 28 ≡ x
low_time x h = omega arith

low_count : (x : ℕ) → x < 256 → x % 256 ≡ x
low_count x h = omega arith

-- a mark as the number 1 or 0
mark_counted : (b : Bool) → bool_byte b ≡ mark_number b 1
mark_counted true = refl
mark_counted false = refl

-- the words of a result's numbers
module _ (q : ℕ) (row : HeadRow) (x : List ℕ) (w : ℕ) (low : q < 16) (result : IsResult row x) (is : w ≡ field6 (get_or x 0 0 % 16) (q % 16) (get_or x 1 0 % 16) (get_or x 2 0 % 16))
    (r : HeadRecord) (row_is : row ≡ row_of r) (range : RecordInRange r) where
  facts : Ranges.InRange r
  facts = in_range range.0

  number_is : (i : ℕ) → get_or x i 0 ≡ get_or (result_numbers r) i 0
  number_is i = ap (λ (l : List ℕ). get_or l i 0) (result r row_is range.0 range.1)

  pub outcome_is : w ≡ outcome_word q r
  unfolding outcome_word
  outcome_is =
      let c = number_below r.n r.vote.choice r.vote.sent facts.heads.1 (facts.phase votes) in
      let a = number_below r.n r.adjust.choice r.adjust.sent facts.heads.1 (facts.phase adjusts) in
      is ∙ rw (
        number_is 0,
        number_is 1,
        number_is 2,
        low_bits (outcome r) (let o = outcome_below r in omega arith),
        low_bits q low,
        low_bits _ (adopted_below r (unwrap_or r.vote.choice 0) 16 (lit< tt) c),
        low_bits _ (adopted_below r (unwrap_or r.adjust.choice 0) 16 (lit< tt) a),
      ) refl

  pub adjustment_is : 7 * 2 ^ 28 + get_or x 3 0 % 2 ^ 28 ≡ adjustment_word r
  unfolding adjustment_word
  adjustment_is = rw (number_is 3, low_time _ (adopted_below r r.adjustment.0 (2 ^ 28) (lit< tt) facts.adjustment)) refl

  pub start_is : 8 * 2 ^ 28 + get_or x 4 0 % 2 ^ 28 ≡ start_word r
  unfolding start_word chosen_start
  start_is = rw (number_is 4, low_time _ (adopted_below r (reading_or0 (chosen_start r)) (2 ^ 28) (lit< tt) (start_below r r.vote.choice facts (facts.phase votes)))) refl

-- the fourth word, of a row's numbers
pub frames_is : (row : HeadRow) (w : ℕ) → w ≡ 9 * 2 ^ 28 + bool_byte (has_mark row.marks.0 1) % 256 * 2 ^ 20 + row.votes.sent % 256 * 2 ^ 12 + row.adjusts.sent % 256 * 2 ^ 4
    → (r : HeadRecord) → row ≡ row_of r → RecordInRange r → w ≡ frames_word r
unfolding frames_word
frames_is row w is r row_is range =
    let facts = in_range range.0 in
    is ∙ rw (
      row_is,
      has_started r,
      mark_counted r.started,
      low_count _ (mark_below r.started),
      low_count _ (sent_below r.n r.vote.choice r.vote.sent facts.heads.1 (facts.phase votes)),
      low_count _ (sent_below r.n r.adjust.choice r.adjust.sent facts.heads.1 (facts.phase adjusts)),
    ) refl

-- ONE HEAD MORE

words_more : (f : ℕ → HeadRecord) (q k : ℕ) → words_from f q (suc k) ≡ words_from f q k ++ head_words (q + k) (f (q + k))
unfolding words_from
words_more f q zero = ap (λ (p : ℕ). head_words p (f p)) (omega arith)
words_more f q (suc k) = ap (λ (l : List ℕ). head_words q (f q) ++ l) (words_more f (suc q) k ∙ ap (λ (p : ℕ). words_from f (suc q) k ++ head_words p (f p)) (omega arith))

-- the words of k places from a head's place on, which are four, are the head's now
module _ (q k : ℕ) (four : k ≡ 4) (before out ws after : List ℕ) (stored : after ≡ take (4 * q) out ++ (ws ++ drop k (drop (4 * q) out))) where
  next_words : (f : ℕ → HeadRecord) → out ≡ words_from f 0 q ++ drop (4 * q) before → ws ≡ head_words q (f q) → after ≡ words_from f 0 (q + 1) ++ drop (4 * (q + 1)) before
  next_words f was is =
      let front = words_from f 0 q in
      let rest = drop (4 * q) before in
      let long : length front ≡ 4 * q = length_words f 0 q in
      let kept : take (4 * q) out ≡ front = ap (take (4 * q)) was ∙ ap (λ (i : ℕ). take i (front ++ rest)) (sym long) ∙ take-append_seam front rest in
      let both : 4 * q + k ≡ 4 * (q + 1) = omega arith in
      let left : drop k (drop (4 * q) out) ≡ drop (4 * (q + 1)) before =
      drop-drop k (4 * q) out ∙ ap (drop (4 * q + k)) was ∙ ap (λ (i : ℕ). drop (i + k) (front ++ rest)) (sym long) ∙ drop-append-add front rest k
      ∙ drop-drop k (4 * q) before ∙ ap (λ (i : ℕ). drop i before) both in
      let more : words_from f 0 (q + 1) ≡ front ++ head_words q (f q) = let same : 0 + q ≡ q = omega arith in rw (add-one, words_more f 0 q, same) refl in
      stored ∙ rw (kept, left, is, more) (sym (append_assoc front (head_words q (f q)) (drop (4 * (q + 1)) before)))

  pub next_head : (heads : List HeadRow) → q < 16 → Writes q heads before out → AreWords q (get_or heads q no_row) ws → Writes (q + 1) heads before after
  next_head heads low was words r is range =
      next_words r (was r is (λ p l. range p (omega arith)))
      (words (r q) (ap (λ (l : List HeadRow). get_or l q no_row) is ∙ table_at (λ p. row_of (r p)) 16 q no_row low) (range q (omega arith)))
