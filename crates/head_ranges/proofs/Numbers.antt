-- The marks that a row has, as one number.
use Rattle.std.specs.Prelude.{is_some}
use mathlib.Core.Path.{◌≡◌, refl, sym, ap, ◌∙◌}
use mathlib.Core.Bool.{◌&&◌, and_assoc}
use Prim.Native.Nat.{ℕ, ◌+◌, ◌*◌, ◌/◌, ◌%◌}
use native.Mathlib.Nat.{mul-one, mul-zero, one-mul, div-one, div-add-mod', div-div-eq-div-mul}
use native.Mathlib.Omega.{arith}
use lib.Bits.{bit_or, or_zero_l, or_add_and, and_le_r}
use lib.Dec.{eqb}
use borrow.Author.Tests.{eqb-true, eqb-false, ne_eqb}
use Rattle.protocol.specs.declared.HeadRow.{HeadRow}
use Rattle.protocol.specs.Record.{mark_number, marks_number}
use Rattle.protocol.specs.Row.{number_in, record_in}
use Rattle.protocol.proofs.Tests.{cases}

-- THE MARKS THAT A ROW HAS: the lower six are the number's own, the seventh is that of a candidate

weight_of_lem : (x w : ℕ) → mark_number (eqb (x % 2) 1) w ≡ w * (x % 2)
weight_of_lem x w =
    cases (eqb (x % 2) 1) (λ t. rw (t, eqb-true (x % 2) 1 t) (sym (mul-one w)))
    (λ t. let none : x % 2 ≡ 0 = let no = eqb-false (x % 2) 1 t in omega arith in rw (t, none) (sym (mul-zero w)))

-- the marks below weight k, and the one of weight k
one_mark_more : (m k : ℕ) → m % k + k * (m / k % 2) ≡ m % (k * 2)
one_mark_more m k =
    from (m % k) (m / k % 2) (m / k / 2) (m % (k * 2)) (sym (div-add-mod' m k) ∙ ap (λ (x : ℕ). x * k + m % k) (sym (div-add-mod' (m / k) 2)))
    (sym (div-add-mod' m (k * 2)) ∙ ap (λ (x : ℕ). x * (k * 2) + m % (k * 2)) (sym (div-div-eq-div-mul m k 2)))
  where
    from : (low bit high lower : ℕ) → m ≡ (high * 2 + bit) * k + low → m ≡ high * (k * 2) + lower → low + k * bit ≡ lower
    from low bit high lower e f = omega arith

pub marks_of_row : (w : HeadRow) → marks_number (record_in w) ≡ w.marks.0 % 64 + mark_number (is_some (number_in w.votes.choice)) 64
unfolding marks_number record_in
marks_of_row w =
    let m = w.marks.0 in
    rw (
      weight_of_lem (m / 1) 1,
      div-one m,
      one-mul (m % 2),
      weight_of_lem (m / 2) 2,
      weight_of_lem (m / 4) 4,
      weight_of_lem (m / 8) 8,
      weight_of_lem (m / 16) 16,
      weight_of_lem (m / 32) 32,
      one_mark_more m 2,
      one_mark_more m 4,
      one_mark_more m 8,
      one_mark_more m 16,
      one_mark_more m 32,
    ) refl

-- THE SPARE NUMBERS
or_zero : (a b : ℕ) → eqb (bit_or a b) 0 ≡ (eqb a 0 && eqb b 0)
or_zero a b =
    cases (eqb a 0) (λ t. rw (eqb-true a 0 t, or_zero_l b) refl)
    (λ t. let some = eqb-false a 0 t in let sum = or_add_and a b in let low = and_le_r a b in rw t (ne_eqb (bit_or a b) 0 (λ z. omega arith)))

pub spare_zero : (a b c d : ℕ) → eqb (bit_or (bit_or (bit_or a b) c) d) 0 ≡ (eqb a 0 && (eqb b 0 && (eqb c 0 && eqb d 0)))
spare_zero a b c d = simp (or_zero, and_assoc)
