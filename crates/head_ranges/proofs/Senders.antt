-- The sum over a row's numbers by sender is 0 exactly if what is kept of each sender is in its ranges.
-- Main results: `six_counted`; `sum_next`, `sum_fits`, `sum_tested`.
use Rattle.protocol.specs.declared.Reading.{Reading}
use Rattle.std.specs.Prelude.{Option, Some, None, is_some}
use mathlib.Core.Path.{◌≡◌, refl, sym, ◌∙◌, ap, ap₂}
use mathlib.Core.Bool.{Bool, true, false, cond, not, ◌&&◌, ◌||◌, and_assoc, and_comm}
use Prim.Native.Nat.{ℕ, zero, suc, ◌+◌, ◌-◌, ◌*◌, ◌^◌, ◌≤◌, ◌<◌}
use native.Mathlib.Numerals.{add-one}
use native.Mathlib.Omega.{arith}
use lib.Dec.{ltb, eqb, leb-suc-suc}
use lib.ListN.{get_or}
use borrow.Author.Tests.{ltb-true, ltb-false, lt-ltb, le-ltb, eqb-true, eqb-false, eq-eqb, ne_eqb}
use Rattle.protocol.specs.declared.Sender.{Sender}
use Rattle.protocol.specs.declared.HeadRow.{HeadRow}
use Rattle.protocol.specs.Base.{◌⇒◌, all_below}
use Rattle.protocol.specs.Record.{reading_in_range, serial_in_range, name_in_range, sender_in_range, sender_is_none, same_number, reading_counts}
use Rattle.protocol.specs.Row.{number_in, reading_in, sender_in, record_in}
use Rattle.protocol.proofs.Tests.{cases, cond_elim, and_false, and_true, eqb_same}
use Rattle.head_ranges.specs.Parts.{greatest, exceeds, counted_limit, greatest_vote, beyond, senders_in_range}

-- ONE NUMBER is within the greatest exactly if it is in its range, and none where there is no sender

abbrev within : ℕ → ℕ → Bool
within most x = eqb (exceeds most x) 0

within_0 : (x : ℕ) → within 0 x ≡ eqb x 0
within_0 zero = refl
within_0 (suc k) = rw (lt-ltb 0 (suc k) (omega arith), ne_eqb (suc k) 0 (λ z. omega arith)) refl

-- what is not none is one more than itself
within_range : (most k : ℕ) → within most (suc k) ≡ ltb k most
within_range most k =
    cases (ltb k most) (λ t. let below = ltb-true k most t in rw (t, le-ltb most (suc k) (omega arith)) refl)
    (λ t. let above = ltb-false k most t in rw (t, lt-ltb most (suc k) (omega arith)) refl)

reading_none : (x : ℕ) → within 0 x ≡ not (is_some (reading_in x))
reading_none x = within_0 x ∙ cases (eqb x 0) (λ t. rw t refl) (λ t. rw t refl)

number_none : (x : ℕ) → within 0 x ≡ not (is_some (number_in x))
number_none x = within_0 x ∙ cases (eqb x 0) (λ t. rw t refl) (λ t. rw t refl)

reading_within : (x : ℕ) → within (2 ^ 28) x ≡ reading_in_range (reading_in x)
reading_within zero = refl
reading_within (suc k) =
    let same : suc k - 1 ≡ k = omega arith in
    within_range (2 ^ 28) k ∙ rw (ne_eqb (suc k) 0 (λ z. omega arith), same) refl

name_within : (n x : ℕ) → within n x ≡ name_in_range n (number_in x)
name_within n zero = rw (le-ltb n 0 (omega arith)) refl
name_within n (suc k) =
    let same : suc k - 1 ≡ k = omega arith in
    within_range n k ∙ rw (ne_eqb (suc k) 0 (λ z. omega arith), same) refl

below_16 : (m : Option ℕ) → name_in_range 16 m ≡ serial_in_range m
below_16 None = refl
below_16 (Some k) = leb-suc-suc k 15

serial_within : (x : ℕ) → within 16 x ≡ serial_in_range (number_in x)
serial_within x = name_within 16 x ∙ below_16 (number_in x)

-- THE VOTE READING of another sender counts if its latest vote names the candidate

-- where no reading counts, none alone is in range; where each does, each below 2²⁸
none_in_range : (x : Option Reading) → not (is_some x) ≡ (reading_in_range x && (is_some x ⇒ false))
none_in_range None = refl
none_in_range (Some x) = sym (and_false (reading_in_range (Some x)) false refl)

any_in_range : (x : Option Reading) → reading_in_range x ≡ (reading_in_range x && (is_some x ⇒ true))
any_in_range None = refl
any_in_range (Some x) = sym (and_true (reading_in_range (Some x)))

counted_within : (counts : Bool) (x : ℕ) → within (cond counts (2 ^ 28) 0) x ≡ (reading_in_range (reading_in x) && (is_some (reading_in x) ⇒ counts))
counted_within true x = reading_within x ∙ any_in_range (reading_in x)
counted_within false x = reading_none x ∙ none_in_range (reading_in x)

-- latest vote and candidate are the same in a row, and not none
same_in_row : (latest candidate : ℕ)
    → cond (eqb latest candidate) (counted_limit candidate) 0 ≡ cond (same_number (number_in latest) (number_in candidate)) (2 ^ 28) 0
unfolding counted_limit
same_in_row latest candidate =
    cases (eqb latest candidate)
    (λ t. cases (eqb candidate 0) (λ z. rw (t, eqb-true latest candidate t, z) refl)
    (λ z. rw (t, eqb-true latest candidate t, z, eqb_same (candidate - 1)) refl))
    (λ t. let no = eqb-false latest candidate t in cases (eqb latest 0) (λ y. rw (t, y) refl)
    (λ y. cases (eqb candidate 0) (λ z. rw (t, y, z) refl)
    (λ z. let a = eqb-false latest 0 y in let b = eqb-false candidate 0 z in rw (t, y, z, ne_eqb (latest - 1) (candidate - 1) (λ e. no (omega arith))) refl)))

module _ (own : Bool) (latest candidate : ℕ) where
  -- the greatest of a sender of the bench or of no sender, and the test
  abbrev vote_most : Bool → ℕ
  vote_most here = cond own (cond here (2 ^ 28) 0) (cond (eqb latest candidate) (cond here (counted_limit candidate) 0) 0)

  abbrev vote_counts : ℕ → Bool
  vote_counts x = own || (is_some (reading_in x) ⇒ same_number (number_in latest) (number_in candidate))

vote_within : (own : Bool) (latest candidate x : ℕ) → within (vote_most own latest candidate true) x ≡ (reading_in_range (reading_in x) && vote_counts own latest candidate x)
vote_within true latest candidate x = reading_within x ∙ sym (and_true (reading_in_range (reading_in x)))
vote_within false latest candidate x =
    ap (λ (most : ℕ). within most x) (same_in_row latest candidate) ∙ counted_within (same_number (number_in latest) (number_in candidate)) x

no_vote_most : (own : Bool) (latest candidate : ℕ) → vote_most own latest candidate false ≡ 0
no_vote_most true latest candidate = refl
no_vote_most false latest candidate = cases (eqb latest candidate) (λ t. rw t refl) (λ t. rw t refl)

-- A SENDER'S SIX NUMBERS

sum_zero : (a b : ℕ) → eqb (a + b) 0 ≡ (eqb a 0 && eqb b 0)
sum_zero a b =
    cases (eqb a 0)
    (λ t. let x = eqb-true a 0 t in cases (eqb b 0)
    (λ u. let y = eqb-true b 0 u in rw (t, u) (eq-eqb (a + b) 0 (omega arith)))
    (λ u. let y = eqb-false b 0 u in rw (t, u) (ne_eqb (a + b) 0 (λ z. omega arith))))
    (λ t. let x = eqb-false a 0 t in rw t (ne_eqb (a + b) 0 (λ z. omega arith)))

at_most_1 : (most x : ℕ) → exceeds most x ≤ 1
at_most_1 most x = cond_elim (λ (k : ℕ). k ≤ 1) (ltb most x) (λ _. omega arith) (λ _. omega arith)

module _ (reading vote serial name a b c d e f : ℕ) where
  abbrev six_beyond : ℕ
  six_beyond =
      exceeds reading a + exceeds vote b + (exceeds serial c + exceeds serial d) + (exceeds name e + exceeds name f)

  six_within : eqb six_beyond 0
      ≡ (within reading a && (within vote b && (within serial c && (within serial d && (within name e && within name f)))))
  six_within = simp (sum_zero, and_assoc)

  at_most_6 : six_beyond ≤ 6
  at_most_6 =
      let i = at_most_1 reading a in let j = at_most_1 vote b in let k = at_most_1 serial c in let l = at_most_1 serial d in
      let g = at_most_1 name e in let h = at_most_1 name f in
      omega arith

second_last : (x y z rest : Bool) → (x && ((y && z) && rest)) ≡ ((x && (y && rest)) && z)
second_last true true z rest = and_comm z rest
second_last true false z rest = refl
second_last false y z rest = refl

-- of a sender of the bench or of no sender
six_fit : (here own : Bool) (n candidate a b c d e f : ℕ)
    → (let kept : Sender = record { start = reading_in a; vote = reading_in b; voted = number_in c; adjusted = number_in d; candidate = number_in e; adjuster = number_in f } in
    eqb (six_beyond (cond here (2 ^ 28) 0) (vote_most own e candidate here) (cond here 16 0) (cond here n 0) a b c d e f) 0
    ≡ cond here (sender_in_range n kept && vote_counts own e candidate b) (sender_is_none kept))
unfolding sender_in_range sender_is_none
six_fit true own n candidate a b c d e f =
    six_within (2 ^ 28) (vote_most own e candidate true) 16 n a b c d e f
    ∙ ap₂ ◌&&◌ (reading_within a) (ap₂ ◌&&◌ (vote_within own e candidate b) (ap₂ ◌&&◌ (serial_within c) (ap₂ ◌&&◌ (serial_within d)
    (ap₂ ◌&&◌ (name_within n e) (name_within n f)))))
    ∙ second_last (reading_in_range (reading_in a)) (reading_in_range (reading_in b)) (vote_counts own e candidate b) _
six_fit false own n candidate a b c d e f =
    six_within 0 (vote_most own e candidate false) 0 0 a b c d e f
    ∙ ap₂ ◌&&◌ (reading_none a) (ap₂ ◌&&◌ (ap (λ (most : ℕ). within most b) (no_vote_most own e candidate) ∙ reading_none b)
    (ap₂ ◌&&◌ (number_none c) (ap₂ ◌&&◌ (number_none d) (ap₂ ◌&&◌ (number_none e) (number_none f)))))

module _ (w : HeadRow) (p : ℕ) where
  abbrev heads : ℕ
  heads = w.heads

  beyond_at_most_6 : beyond w p ≤ 6
  unfolding beyond
  beyond_at_most_6 =
      at_most_6 (greatest heads p (2 ^ 28)) (greatest_vote w p) (greatest heads p 16) (greatest heads p heads) (get_or w.start_readings p 0)
      (get_or w.vote_readings p 0) (get_or w.votes.serials p 0) (get_or w.adjusts.serials p 0) (get_or w.votes.latest p 0) (get_or w.adjusts.latest p 0)

  -- counted one by one
  pub six_counted : (reading vote serial name a b c d e f : ℕ)
      → reading ≡ greatest heads p (2 ^ 28) → vote ≡ greatest_vote w p → serial ≡ greatest heads p 16 → name ≡ greatest heads p heads
      → a ≡ exceeds reading (get_or w.start_readings p 0) → b ≡ exceeds vote (get_or w.vote_readings p 0)
      → c ≡ exceeds serial (get_or w.votes.serials p 0) → d ≡ exceeds serial (get_or w.adjusts.serials p 0)
      → e ≡ exceeds name (get_or w.votes.latest p 0) → f ≡ exceeds name (get_or w.adjusts.latest p 0) → a + b + (c + d) + (e + f) ≡ beyond w p
  unfolding beyond
  six_counted reading vote serial name a b c d e f g v h i j k l m o q = rw (j, k, l, m, o, q, g, v, h, i) refl

  abbrev sender_fits : Bool
  sender_fits =
      cond (ltb p heads) (sender_in_range heads (sender_in w p) && vote_counts (eqb p w.own) (get_or w.votes.latest p 0) w.votes.choice (get_or w.vote_readings p 0))
      (sender_is_none (sender_in w p))

  beyond_zero : eqb (beyond w p) 0 ≡ sender_fits
  unfolding beyond greatest_vote
  beyond_zero =
      six_fit (ltb p heads) (eqb p w.own) heads w.votes.choice (get_or w.start_readings p 0) (get_or w.vote_readings p 0) (get_or w.votes.serials p 0)
      (get_or w.adjusts.serials p 0) (get_or w.votes.latest p 0) (get_or w.adjusts.latest p 0)

-- ALL SENDERS
module _ (w : HeadRow) where
  -- the sum over the senders below p
  abbrev pub beyond_below : ℕ → ℕ
  beyond_below zero = 0
  beyond_below (suc p) = beyond_below p + beyond w p

  sum_at_most : (p : ℕ) → beyond_below p ≤ 6 * p
  sum_at_most zero = omega arith
  sum_at_most (suc p) = let ih = sum_at_most p in let six = beyond_at_most_6 w p in omega arith

  sum_none : (k : ℕ) → eqb (beyond_below k) 0 ≡ all_below k (sender_fits w)
  sum_none zero = refl
  sum_none (suc p) =
      sum_zero (beyond_below p) (beyond w p) ∙ ap₂ ◌&&◌ (sum_none p) (beyond_zero w p) ∙ and_comm (all_below p (sender_fits w)) (sender_fits w p)

  none_beyond : eqb (beyond_below 16) 0 ≡ senders_in_range (record_in w)
  unfolding senders_in_range record_in reading_counts
  none_beyond = sum_none 16

  -- a loop that takes the sum
  module _ (p bad : ℕ) (is : bad ≡ beyond_below p) where
    pub sum_next : (k : ℕ) → k ≡ beyond w p → bad + k ≡ beyond_below (p + 1)
    sum_next k e = rw (add-one, is, e) refl

    pub sum_fits : (k : ℕ) → k ≡ beyond w p → p < 16 → bad + k ≤ 96
    sum_fits k e below = let s = sum_at_most p in let six = beyond_at_most_6 w p in omega arith

    pub sum_tested : p ≡ 16 → eqb bad 0 ≡ senders_in_range (record_in w)
    sum_tested all = ap (λ (x : ℕ). eqb x 0) (is ∙ ap beyond_below all) ∙ none_beyond
