-- The readings in a head's row of numbers, each 0 for none, else one more than the reading.
use Rattle.std.specs.Prelude.{Bool, false, cond, List, [], ℕ, zero, suc, ◌-◌, eqb, get_or}
use Rattle.protocol.specs.Base.{count_below}
use Rattle.protocol.specs.Row.{reading_in}
use Rattle.protocol.specs.Step.{prepend}

-- y is the number of a reading that passes the test
unfoldable pub holds : (ℕ → Bool) → ℕ → Bool
holds t y = cond (eqb y 0) false (t (y - 1))

-- how many of the first k numbers are such
unfoldable pub held_in : (ℕ → Bool) → List ℕ → ℕ → ℕ
held_in t l k = count_below k (λ p. holds t (get_or l p 0))

-- the readings of the senders below k, the last sender's first
unfoldable pub readings_in : List ℕ → ℕ → List ℕ
readings_in l zero = []
readings_in l (suc p) = prepend (reading_in (get_or l p 0)) (readings_in l p)
