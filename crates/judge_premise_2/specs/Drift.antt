-- Premise 2 by two differences that each entry has by itself.
use Rattle.std.specs.Prelude.{Bool, ◌&&◌, ℕ, ◌+◌, ◌*◌, ℤ}
use Rattle.std.proofs.Math.IntN.{sub_ℕ}
use Rattle.std.specs.Int.{int_min}
use Rattle.std.specs.Int.Signed.{le_z}
use Rattle.protocol.specs.Base.{◌⇒◌}
use Rattle.protocol.specs.declared.Entry.{Entry}
use Rattle.judge_premise_2.specs.declared.Drift.{Drift}

-- how far the clock has run ahead of real time and how far it has fallen behind, in millionths of a microsecond, each less
-- what drift allows since real time 0 and less the slack
abbrev pub gain_of : ℕ → Entry → ℕ → ℤ
gain_of drift e slack = sub_ℕ (1000000 * e.reading.0) ((1000000 + drift) * e.time.0 + slack)

abbrev pub loss_of : ℕ → Entry → ℕ → ℤ
loss_of drift e slack = sub_ℕ (1000000 * e.time.0) (1000000 * e.reading.0 + drift * e.time.0 + slack)

abbrev pub drift_of : ℕ → Entry → ℕ → Drift
drift_of drift e slack = record { gain = gain_of drift e slack; loss = loss_of drift e slack }

-- the least of each
abbrev pub least_of : Drift → Drift → Drift
least_of d e = record { gain = int_min d.gain e.gain; loss = int_min d.loss e.loss }

-- an entry keeps premise 2 with those before it that have the least gain and the least loss
abbrev pub stays_steady : Bool → ℕ → Entry → Drift → Bool
stays_steady correct drift e least = correct ⇒ (le_z (gain_of drift e 1000000) least.gain && le_z (loss_of drift e 1000000) least.loss)
