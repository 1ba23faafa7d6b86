-- Premise 3 by the real times at which the starts last reached the heads.
use Rattle.std.specs.Prelude.{ℕ, ◌+◌, ◌/◌, ◌%◌, cond, List}
use Rattle.protocol.specs.Base.{table}
use Rattle.protocol.specs.Run.{History}
use Rattle.protocol.specs.Premises.{received, last_start}

-- by sender and head, one more than the real time at which the sender's start last reached the head, 0 where it never did
abbrev pub start_time : History → ℕ → ℕ → ℕ
start_time s p q = cond (received 2 p 0 q s) (last_start s p q + 1) 0

unfoldable pub start_times : History → List ℕ
start_times s = table (λ j. start_time s (j / 16) (j % 16)) 0 256
