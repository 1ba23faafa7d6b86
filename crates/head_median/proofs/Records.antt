-- The row of a record says how many readings the record holds (`starts_read`, `votes_read`), which its vote readings are
-- (`vote_readings_read`), and so their median (`no_median_read`, `odd_read`, `same_read`, `least_read`).
use Rattle.protocol.specs.declared.Reading.{Reading}
use Rattle.std.specs.Prelude.{Option, Some, None, is_some}
use mathlib.Core.Path.{◌≡◌, refl, sym, ◌∙◌, ap, ap₂}
use mathlib.Core.Bool.{Bool, true}
use mathlib.Core.List.{List, map}
use Prim.Native.Nat.{ℕ, zero, suc, ◌+◌, ◌-◌, ◌/◌, ◌%◌, ◌^◌, ◌≤◌, ◌<◌, min}
use native.Mathlib.Numerals.{add-one}
use native.Mathlib.Omega.{arith}
use lib.ListN.{length, take}
use Rattle.std.proofs.lemmas.List.{get_or-take, length-map, length-take-le}
use borrow.Author.Tests.{ltb-true, lt-ltb, ne_eqb}
use Rattle.protocol.specs.declared.Sender.{Sender}
use Rattle.protocol.specs.declared.HeadRecord.{HeadRecord}
use Rattle.protocol.specs.declared.HeadRow.{HeadRow}
use Rattle.protocol.specs.Base.{count_below}
use Rattle.protocol.specs.Words.{is_time}
use Rattle.protocol.specs.Record.{reading_or0, reading, start_of, vote_of}
use Rattle.protocol.specs.Median.{ordered_at, median}
use Rattle.protocol.specs.Row.{reading_plus1, start_number, vote_number, reading_in, row_of}
use Rattle.protocol.specs.Step.{starts_held, prepend, vote_readings}
use Rattle.protocol.proofs.Tests.{cond_elim}
use Rattle.protocol.proofs.Ranks.{Every, count, is_below, all_counted}
use Rattle.protocol.proofs.Medians.{lower, median_odd, median_none}
use Rattle.protocol.proofs.Ranges.{every_vote_reading}
use Rattle.head_row.specs.Promises.{Fits, Reads}
use Rattle.head_row.proofs.Rows.{start_read, vote_read}
use Rattle.head_median.specs.Ranks.{none, least_from}
use Rattle.head_median.specs.Readings.{holds, held_in, readings_in}
use Rattle.head_median.proofs.Ranks.{same_middle, least_middle}
use Rattle.head_median.proofs.Counts.{held_counted}

-- ONE NUMBER

is_reading_lem : (x : Option Reading) → holds (is_below none) (reading_plus1 x) ≡ is_some x
unfolding holds
is_reading_lem None = refl
is_reading_lem (Some x) =
    cond_elim (λ (y : ℕ). holds (is_below none) y ≡ true) (is_time x.0)
    (λ t. let h = ltb-true x.0 (2 ^ 28) t in rw (ne_eqb (x.0 + 1) 0 (λ z. absurd (omega arith)), lt-ltb (x.0 + 1 - 1) none (omega arith)) refl) (λ _. refl)

reading_back : (x : Option Reading) → reading_or0 x < 2 ^ 28 → reading_in (reading_plus1 x) ≡ x
reading_back None h = refl
reading_back (Some x) h =
    rw (lt-ltb x.0 (2 ^ 28) h, ne_eqb (x.0 + 1) 0 (λ z. absurd (omega arith)))
    (ap (λ (y : ℕ). Some (reading y)) (omega arith))

-- THE ROW OF A RECORD

module _ (r : HeadRecord) (f : Fits r) where
  count_in_row : min (row_of r).heads 16 ≡ r.n
  count_in_row = let h = f.heads in omega arith

  starts_in_row : (k : ℕ) → held_in (is_below none) (row_of r).start_readings k ≡ count_below k (λ p. is_some (start_of r p))
  unfolding held_in
  starts_in_row zero = refl
  starts_in_row (suc k) = rw (ap (holds (is_below none)) (start_read r k) ∙ is_reading_lem (start_of r k), starts_in_row k) refl

  vote_readings_in_row : (k : ℕ) → readings_in (row_of r).vote_readings k ≡ vote_readings r k
  unfolding readings_in vote_readings
  vote_readings_in_row zero = refl
  vote_readings_in_row (suc k) = ap₂ prepend (ap reading_in (vote_read r k) ∙ reading_back (vote_of r k) (f.readings k)) (vote_readings_in_row k)

-- THE BENCH'S PART of a row's array: its first readings, of which a record has as many as its bench has heads

held_taken : (t : ℕ → Bool) (n : ℕ) (l : List ℕ) (k : ℕ) → k ≤ n → held_in t (take n l) k ≡ held_in t l k
unfolding held_in
held_taken t n l zero h = refl
held_taken t n l (suc k) h = rw (get_or-take n l k 0 h, held_taken t n l k (omega arith)) refl

readings_taken : (n : ℕ) (l : List ℕ) (k : ℕ) → k ≤ n → readings_in (take n l) k ≡ readings_in l k
unfolding readings_in
readings_taken n l zero h = refl
readings_taken n l (suc k) h = rw (get_or-take n l k 0 h, readings_taken n l k (omega arith)) refl

abbrev pub starts : HeadRow → List ℕ
starts w = take (min w.heads 16) w.start_readings

abbrev pub votes : HeadRow → List ℕ
votes w = take (min w.heads 16) w.vote_readings

module _ (r : HeadRecord) (f : Fits r) where
  length_bench : (g : Sender → ℕ) → length (take (min r.n 16) (map g r.senders)) ≡ r.n
  length_bench g =
      let long : length (map g r.senders) ≡ 16 = length-map r.senders g ∙ f.senders in
      length-take-le (min r.n 16) (map g r.senders) (omega arith) ∙ count_in_row r f

  starts_in_bench : held_in (is_below none) (starts (row_of r)) (length (starts (row_of r))) ≡ count_below r.n (λ p. is_some (start_of r p))
  starts_in_bench = rw (length_bench start_number) (held_taken (is_below none) (min r.n 16) (row_of r).start_readings r.n (omega (arith, f.heads)) ∙ starts_in_row r f r.n)

  votes_in_bench : readings_in (votes (row_of r)) (length (votes (row_of r))) ≡ vote_readings r r.n
  votes_in_bench = rw (length_bench vote_number) (readings_taken (min r.n 16) (row_of r).vote_readings r.n (omega (arith, f.heads)) ∙ vote_readings_in_row r f r.n)

-- MAIN RESULTS

-- what is read off is how many vote readings the record holds; what their median is
abbrev ReadsCount : HeadRow → ℕ → Type 0
ReadsCount w k = Reads (λ (r : HeadRecord). length (vote_readings r r.n)) w k

abbrev ReadsMedian : HeadRow → ℕ → Type 0
ReadsMedian w x = Reads (λ (r : HeadRecord). median (vote_readings r r.n)) w x

pub starts_read : (w : HeadRow) → Reads starts_held w (held_in (is_below none) (starts w) (length (starts w)))
unfolding starts_held
starts_read w r is f = rw is (starts_in_bench r f)

-- each of them is below `none`, so that all are counted
readings_below : (r : HeadRecord) → Fits r → Every (λ z. z < none) (vote_readings r r.n)
readings_below r f =
    every_vote_reading (λ z. z < none) r r.n (λ p _ x e. let h = (rw e at (f.readings p)) in omega arith)

vote_readings_read : (w : HeadRow) → Reads (λ (r : HeadRecord). vote_readings r r.n) w (readings_in (votes w) (length (votes w)))
vote_readings_read w r is f = rw is (votes_in_bench r f)

pub votes_read : (w : HeadRow) → ReadsCount w (held_in (is_below none) (votes w) (length (votes w)))
votes_read w r is f =
    held_counted (is_below none) (votes w) (length (votes w)) ∙ ap (count (is_below none)) (vote_readings_read w r is f) ∙ all_counted none (vote_readings r r.n) (readings_below r f)

-- THE MEDIAN: of k readings x is the one at (k − 1) / 2

pub no_median_read : (w : HeadRow) (k : ℕ) → k ≡ held_in (is_below none) (votes w) (length (votes w)) → k ≡ 0 → ReadsMedian w 0
no_median_read w k counted_all empty r is f = sym (median_none (vote_readings r r.n) (sym (counted_all ∙ votes_read w r is f) ∙ empty))

module _ (w : HeadRow) (k x : ℕ) (counted_all : k ≡ held_in (is_below none) (votes w) (length (votes w)))
    (found : x ≡ ordered_at ((k - 1) / 2) (readings_in (votes w) (length (votes w)))) where
  held : ReadsCount w k
  held r is f = counted_all ∙ votes_read w r is f

  lower_read : Reads (λ (r : HeadRecord). lower (vote_readings r r.n)) w x
  lower_read r is f = found ∙ rw (held r is f, vote_readings_read w r is f) refl

  pub odd_read : k % 2 ≡ 1 → ReadsMedian w x
  odd_read odd r is f = lower_read r is f ∙ sym (median_odd (vote_readings r r.n) (rw (sym (held r is f)) odd))

  -- an even count, in which `upto` readings are up to x
  module _ (some : k ≡ 0 → ⊥) (even : k % 2 ≡ 1 → ⊥) (upto : ℕ) (counted : upto ≡ held_in (is_below (x + 1)) (votes w) (length (votes w))) where
    upto_read : Reads (λ (r : HeadRecord). count (is_below (suc (lower (vote_readings r r.n)))) (vote_readings r r.n)) w upto
    upto_read r is f = counted ∙ held_counted (is_below (x + 1)) (votes w) (length (votes w)) ∙ rw (vote_readings_read w r is f, lower_read r is f, add-one) refl

    pub same_read : k / 2 < upto → ReadsMedian w x
    same_read h r is f =
        let k-is = held r is f in
        lower_read r is f ∙ sym (same_middle (vote_readings r r.n) (omega arith) (omega arith) (omega (arith, upto_read r is f)))

    pub least_read : (y : ℕ) → upto ≤ k / 2 → y ≡ least_from (x + 1) (readings_in (votes w) (length (votes w))) → ReadsMedian w (x + (y - x) / 2)
    least_read y h least r is f =
        let k-is = held r is f in
        let l : List ℕ = vote_readings r r.n in
        let least-is : y ≡ least_from (suc (lower l)) l = least ∙ rw (vote_readings_read w r is f, lower_read r is f, add-one) refl in
        ap₂ (λ (a b : ℕ). a + (b - a) / 2) (lower_read r is f) least-is
        ∙ sym (least_middle l (omega arith) (omega arith) (readings_below r f) (omega (arith, upto_read r is f)))
