-- What a sheet's words say, and the rules that whatever passes causes 1 to 4 and 6 keeps, told in numbers.
-- Main results: `heads_in_word`, `not_accepted`, `sheet_fits`, `correct_heads_below_n`,
-- `entry_fits_lem`, `input_fits_lem`.
use mathlib.Core.Path.{◌≡◌, refl, ap}
use mathlib.Core.Bool.{Bool, true, not, ◌&&◌, ◌||◌}
use mathlib.Core.List.{List, ◌∷◌}
use mathlib.Core.Logic.{◌≢◌}
use Prim.Native.Nat.{ℕ, ◌+◌, ◌-◌, ◌*◌, ◌/◌, ◌%◌, ◌^◌, ◌≤◌, ◌<◌}
use native.Mathlib.Nat.{lt_of_lt_of_le, div-eq_of_lt}
use native.Mathlib.Omega.{arith}
use lib.Dec.{ltb, eqb}
use lib.ListN.{length, get_or}
use lib.Pow.{pow_mono}
use borrow.Author.Tests.{ltb-true, ltb-false, leb-true, eqb-true, ne_eqb}
use Rattle.protocol.specs.Types.{Setting, Input, Cause, Verdict, Accepted, Refused}
use Rattle.protocol.specs.Words.{most_words, bits, kind_of, setting_of, is_correct, heads_fit, setting_at, first_word_fits, second_word_fits, has_serial, has_sender, zero_where_unused, entry_of, entry_fits, entry_count}
use Rattle.protocol.specs.Step.{input_fits}
use Rattle.protocol.specs.Causes.{sheet_verdict}
use Rattle.protocol.specs.Program.{big_endian, bytes_verdict}
use Rattle.protocol.proofs.Tests.{absurd_bool, cases, cond_elim, not_false, and_left, and_right, parts, or_left, or_right, or_cases}

-- "big-endian words": the byte of the highest bits comes first
pub word_of_bytes : (w : ℕ) (l : List ℕ) → big_endian (w / 2 ^ 24 ∷ w / 2 ^ 16 % 2 ^ 8 ∷ w / 2 ^ 8 % 2 ^ 8 ∷ w % 2 ^ 8 ∷ l) ≡ w ∷ big_endian l
unfolding big_endian
word_of_bytes w l =
    let whole : ((w / 2 ^ 24 * 256 + w / 2 ^ 16 % 2 ^ 8) * 256 + w / 2 ^ 8 % 2 ^ 8) * 256 + w % 2 ^ 8 ≡ w = omega arith in
    ap (λ (x : ℕ). x ∷ big_endian l) whole

-- "bit 0 for head 0"
pub bit_0_for_head_0 : (g : Setting) → is_correct g 0 ≡ eqb (g.correct % 2) 1
bit_0_for_head_0 g = ap (λ (x : ℕ). eqb (x % 2) 1) (let whole : g.correct / 2 ^ 0 ≡ g.correct = omega arith in whole)

-- causes 1 to 4
pub record FittingSheet (ws : List ℕ) : Type 0 where
  pub at_least_two : 2 ≤ length ws
  pub whole_entries : length ws ≡ 2 + 3 * entry_count ws
  pub most_entries : entry_count ws ≤ 4096
  pub first_fits : first_word_fits (get_or ws 0 0) ≡ true
  pub second_fits : second_word_fits (get_or ws 1 0) ≡ true
  pub heads : heads_fit (setting_at ws).n (setting_at ws).f ≡ true

pub heads_in_word : (a b : ℕ) → first_word_fits a ≡ true → heads_fit (setting_of a b).n (setting_of a b).f ≡ true
unfolding first_word_fits setting_of
heads_in_word a b e = and_left (heads_fit (bits a 27 20) (bits a 19 16)) _ (and_right (eqb (kind_of a) 1) _ e)

pub not_accepted : {A : Type 0} (c : Cause) → Refused c ≡ Accepted → A
not_accepted c e = absurd (let z : ◌≡◌ {A = ℕ} 0 1 = cc in omega arith)

pub sheet_fits : (ws : List ℕ) → sheet_verdict ws ≡ Accepted → FittingSheet ws
unfolding sheet_verdict
sheet_fits ws =
    cond_elim Fits (ltb most_words (length ws)) (λ _. not_accepted _)
    (λ few. cond_elim Fits (ltb (length ws) 2 || not (eqb ((length ws - 2) % 3) 0)) (λ _. not_accepted _)
    (λ whole. cond_elim Fits (not (first_word_fits (get_or ws 0 0))) (λ _. not_accepted _)
    (λ first. cond_elim Fits (not (second_word_fits (get_or ws 1 0))) (λ _. not_accepted _)
    (λ second _.
    let most = ltb-false most_words (length ws) few in
    let two = ltb-false (length ws) 2 (or_left (ltb (length ws) 2) _ whole) in
    let threes = eqb-true ((length ws - 2) % 3) 0 (not_false (or_right (ltb (length ws) 2) _ whole)) in
    record {
      at_least_two = two;
      whole_entries = omega arith;
      most_entries = omega arith;
      first_fits = not_false first;
      second_fits = not_false second;
      heads = heads_in_word _ (get_or ws 1 0) (not_false first);
    }))))
  where
    Fits : Verdict → Type 0
    Fits v = v ≡ Accepted → FittingSheet ws

-- causes 1 and 2 of a sheet's bytes
pub few_bytes : (bytes : List ℕ) → bytes_verdict bytes ≡ Accepted → length bytes ≤ 49160
unfolding bytes_verdict
few_bytes bytes =
    cond_elim (λ (v : Verdict). v ≡ Accepted → length bytes ≤ 49160) (ltb 49160 (length bytes)) (λ _. not_accepted _)
    (λ few _. ltb-false 49160 (length bytes) few)

-- cause 3: no "correct bit at n or above"
pub correct_heads_below_n : (a b q : ℕ) → first_word_fits a ≡ true → is_correct (setting_of a b) q ≡ true → q < (setting_of a b).n
unfolding first_word_fits setting_of
correct_heads_below_n a b q fits bit =
    cases (ltb q (bits a 27 20)) (λ t. ltb-true q (bits a 27 20) t)
    (λ t. absurd (let none = div-eq_of_lt (lt_of_lt_of_le below (pow_mono (ltb-false q (bits a 27 20) t))) in
    let one = eqb-true (bits a 15 0 / 2 ^ q % 2) 1 bit in omega arith))
  where
    below : bits a 15 0 < 2 ^ bits a 27 20
    below = ltb-true _ _ (search parts)

-- "Sender is zero except in actions 2, 5, 8; serial is zero except in 5 and 8"
pub record UnusedZero (a p k : ℕ) : Type 0 where
  pub sender : a ≢ 2 → a ≢ 5 → a ≢ 8 → p ≡ 0
  pub serial : a ≢ 5 → a ≢ 8 → k ≡ 0

no_serial : (a : ℕ) (b : Bool) → (has_serial a || b) ≡ true → a ≢ 5 → a ≢ 8 → b ≡ true
no_serial a b t y z = or_cases (has_serial a) b t (λ u. absurd_bool u (rw (ne_eqb a 5 y, ne_eqb a 8 z) refl)) (λ v. v)

unused_zero : (a p k : ℕ) → zero_where_unused a p k ≡ true → UnusedZero a p k
unused_zero a p k t =
    record {
      sender = λ x y z. or_cases (has_sender a) (eqb p 0) (search parts) (λ v. absurd_bool v (rw (ne_eqb a 2 x, ne_eqb a 5 y, ne_eqb a 8 z) refl)) (eqb-true p 0);
      serial = λ y z. eqb-true k 0 (no_serial a (eqb k 0) (search parts) y z);
    }

-- cause 6 on a sheet: "entry's kinds, action above 9, head or sender not below n, a must-be-zero field"
pub record FittingWords (n t a w : ℕ) : Type 0 where
  pub kind_of_time : kind_of t ≡ 3
  pub kind_of_reading : kind_of a ≡ 4
  pub kind_of_action : kind_of w ≡ 5
  pub low_bits : bits w 11 0 ≡ 0
  pub action : (entry_of t a w).action ≤ 9
  pub head : (entry_of t a w).head < n
  pub sender : (entry_of t a w).sender < n
  pub unused : UnusedZero (entry_of t a w).action (entry_of t a w).sender (entry_of t a w).serial

pub entry_fits_lem : (n t a w : ℕ) → entry_fits n t a w ≡ true → FittingWords n t a w
unfolding entry_fits entry_of
entry_fits_lem n t a w e =
    record {
      kind_of_time = eqb-true _ _ (search parts);
      kind_of_reading = eqb-true _ _ (search parts);
      kind_of_action = eqb-true _ _ (search parts);
      low_bits = eqb-true _ _ (search parts);
      action = leb-true _ _ (search parts);
      head = ltb-true _ _ (search parts depth 7);
      sender = ltb-true _ _ (search parts depth 8);
      unused = unused_zero _ _ _ (search parts depth 8);
    }

-- cause 6 for one head: "also a candidate or adjuster not below n, a reading or adjustment of 2²⁸ or more, or a serial above
-- 15". What the frame carries is "zero where unused"; "Beside the mark "none" (action 5 only) the carried reading is zero"
pub record FittingInput (n : ℕ) (i : Input) : Type 0 where
  pub action : i.action ≤ 9
  pub sender : i.sender < n
  pub serial : i.serial ≤ 15
  pub unused : UnusedZero i.action i.sender i.serial
  pub reading : i.reading < 2 ^ 28
  pub choice : i.choice < n
  pub carried : i.carried < 2 ^ 28
  pub no_choice : i.action ≢ 5 → i.action ≢ 8 → i.choice ≡ 0
  pub nothing_carried : i.action ≢ 5 → i.action ≢ 8 → i.carried ≡ 0
  pub none_of_a_vote : i.none ≡ true → i.action ≡ 5
  pub none_carries_0 : i.none ≡ true → i.carried ≡ 0

pub input_fits_lem : (n : ℕ) (i : Input) → input_fits n i ≡ true → FittingInput n i
unfolding input_fits
input_fits_lem n i e =
    let carries : (has_serial i.action || (eqb i.choice 0 && eqb i.carried 0)) ≡ true = search parts depth 9 in
    let marked : (not i.none || (eqb i.action 5 && eqb i.carried 0)) ≡ true = search parts depth 9 in
    let none : i.none ≡ true → (eqb i.action 5 && eqb i.carried 0) ≡ true = λ h. or_cases (not i.none) _ marked (λ u. absurd_bool u (rw h refl)) (λ v. v) in
    record {
      action = leb-true _ _ (search parts);
      sender = ltb-true _ _ (search parts);
      serial = leb-true _ _ (search parts);
      unused = unused_zero _ _ _ (search parts);
      reading = ltb-true _ _ (search parts depth 6);
      choice = ltb-true _ _ (search parts depth 7);
      carried = ltb-true _ _ (search parts depth 8);
      no_choice = λ y z. eqb-true _ _ (and_left _ _ (no_serial i.action _ carries y z));
      nothing_carried = λ y z. eqb-true _ _ (and_right (eqb i.choice 0) _ (no_serial i.action _ carries y z));
      none_of_a_vote = λ h. eqb-true _ _ (and_left _ _ (none h));
      none_carries_0 = λ h. eqb-true _ _ (and_right (eqb i.action 5) _ (none h));
    }
