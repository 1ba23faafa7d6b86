-- Of a number below 256 nothing is cut; and what a row's number stands for.
-- Main results: `number_same`, `number_back`.
use Rattle.std.specs.Prelude.{Option, Some, None, unwrap_or}
use mathlib.Core.Path.{◌≡◌, refl, ap}
use Prim.Native.Nat.{ℕ, ◌+◌, ◌<◌}
use native.Mathlib.Omega.{arith}
use borrow.Author.Tests.{ne_eqb}
use Rattle.protocol.specs.Row.{number_plus1, number_in}
use Rattle.data_values.specs.Numbers.{cut_number}

pub number_same : (x : Option ℕ) → unwrap_or x 0 < 256 → cut_number x ≡ x
number_same None lt = refl
number_same (Some k) lt = ap Some (omega arith)

pub number_back : (x : Option ℕ) (w : ℕ) → w ≡ number_plus1 x → unwrap_or x 0 < 256 → cut_number (number_in w) ≡ x
number_back None w e lt = rw e refl
number_back (Some k) w e lt = rw (e, ne_eqb (k + 1) 0 (λ z. omega arith)) (ap Some (omega arith))
