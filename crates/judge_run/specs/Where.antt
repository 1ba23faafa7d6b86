-- Where a premise was broken: the entry at which its test fails, of those premises that have one at entries.
use Rattle.std.specs.Prelude.{◌≡◌, false, ℕ, ◌<◌}
use Rattle.protocol.specs.declared.Setting.{Setting}
use Rattle.protocol.specs.Run.{History, Run, ran}
use Rattle.protocol.specs.Premises.{is_asked_at_end, broken_at}

-- premises 2, 3 and 5 to 8
abbrev pub IsAskedAtEntries : ℕ → Type 0
IsAskedAtEntries i = (1 < i) × (i < 9) × (is_asked_at_end i ≡ false)

-- k is the entry at which the premise was broken, if the run is not refused
abbrev pub TellsWhere : Setting → Run → ℕ → ℕ → Type 0
TellsWhere g run i k = (h : History) → run ≡ ran h → IsAskedAtEntries i → k ≡ broken_at g i h
