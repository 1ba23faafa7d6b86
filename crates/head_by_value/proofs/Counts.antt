-- The counter's reading in its two cases.
-- Main results: `counts`, `too_far`.
use Rattle.std.proofs.Common.{◌≡◌, ℕ, ◌+◌, ◌%◌, ◌^◌, ◌<◌, ◌≤◌, refl, arith, le-ltb, lt-ltb, Ok, Err}
use Rattle.protocol.specs.declared.Cause.TheVariants.{CounterTooFar}
use Rattle.protocol.specs.Record.{reading}
use Rattle.protocol.specs.Counter.{since_base, counter_reading}

since_base_lem : (counter base t : ℕ) → counter < 2 ^ 32 → base < 2 ^ 32 → t < 2 ^ 32 → (t + base) % 2 ^ 32 ≡ counter → since_base counter base ≡ t
since_base_lem counter base t h g k e = omega arith

module _ (counter base t : ℕ) (h : counter < 2 ^ 32) (g : base < 2 ^ 32) (k : t < 2 ^ 32) (e : (t + base) % 2 ^ 32 ≡ counter) where
  pub counts : t < 2 ^ 28 → Ok (reading t) ≡ counter_reading counter base
  unfolding counter_reading
  counts l = rw (since_base_lem counter base t h g k e, lt-ltb t (2 ^ 28) l) refl

  pub too_far : 2 ^ 28 ≤ t → Err CounterTooFar ≡ counter_reading counter base
  unfolding counter_reading
  too_far l = rw (since_base_lem counter base t h g k e, le-ltb t (2 ^ 28) l) refl
