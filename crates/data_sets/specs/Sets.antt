-- Sets of heads as numbers of sixteen bits: "one bit per correct head, bit 0 for head 0".
use Rattle.std.specs.Prelude.{Bool, cond, ℕ, zero, suc, ◌+◌, ◌*◌, ◌%◌, ◌^◌, eqb}
use Rattle.std.specs.Int.Bits.{bit_and, bit_or}

-- the heads below n that pass the test
abbrev pub set_below : ℕ → (ℕ → Bool) → ℕ
set_below zero p = 0
set_below (suc n) p = cond (p n) 1 0 * 2 ^ n + set_below n p

abbrev pub set_of : (ℕ → Bool) → ℕ
set_of p = set_below 16 p

abbrev pub with_head : ℕ → ℕ → ℕ
with_head m q = bit_or m (2 ^ (q % 16))

-- these heads are all in the set
abbrev pub has_all : ℕ → ℕ → Bool
has_all m heads = eqb (bit_and m heads) heads
