-- Votes stand at head × 16 + serial, adjusts 256 further.
use Rattle.std.specs.Prelude.{cond, ℕ, ◌+◌, ◌*◌, ◌%◌, eqb}

-- the index of the vote (action 5) or adjust (action 8) of head p under serial k
abbrev pub frame_index : ℕ → ℕ → ℕ → ℕ
frame_index a p k = cond (eqb a 8) 256 0 + p % 16 * 16 + k % 16
