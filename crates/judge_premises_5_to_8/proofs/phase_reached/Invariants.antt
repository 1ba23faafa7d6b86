use mathlib.Core.Path.{◌≡◌}
use mathlib.Core.Bool.{true, false}
use mathlib.Core.List.{List}
use Prim.Native.Nat.{ℕ}
use Rattle.protocol.specs.Base.{◌⇒◌, any, all_below}
use Rattle.protocol.specs.Words.{is_correct, setting_at}
use Rattle.protocol.specs.Run.{History}
use Rattle.protocol.specs.Premises.{correct_closes}
use Rattle.sheet_state.specs.Arrays.{Stands}
use Rattle.judge_premise_3.specs.Starts.{start_times}
use Rattle.judge_premises_5_to_8.specs.Closes.{receiver_sets, head_reached}
use Rattle.judge_premises_5_to_8.proofs.phase_reached.Given as goal

abbrev pub invariant-loop-p : goal.invariant-loop-p
invariant-loop-p l =
    (ws : List ℕ) (i : ℕ) (s : History) → Stands ws i s l.heads → l.g ≡ setting_at ws → l.receivers.0 ≡ receiver_sets s → l.times.0 ≡ start_times s
    → any (correct_closes l.g l.kind) s ≡ false → all_below l.p (λ q. is_correct l.g q ⇒ head_reached l.g l.kind s q) ≡ true
