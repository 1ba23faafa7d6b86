-- The code's tests in their order make up input_fits.
use mathlib.Core.Path.{◌≡◌}
use mathlib.Core.Bool.{◌&&◌, and_assoc}
use Prim.Native.Nat.{ℕ}
use lib.Dec.{leb}
use Rattle.protocol.specs.declared.Input.{Input}
use Rattle.protocol.specs.Words.{is_time}
use Rattle.protocol.specs.Step.{input_fits}
use Rattle.head_input.specs.Parts.{sender_fits, carried_fits}

pub in_parts : (n : ℕ) (i : Input) → input_fits n i ≡ (leb i.action 9 && (sender_fits n i && (is_time i.reading && carried_fits n i)))
unfolding input_fits
in_parts n i = simp and_assoc
