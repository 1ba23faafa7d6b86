-- The planner's answer, by its verdict.
-- Main results: `read_by`, `inside`, `plans`.
use mathlib.Core.Path.{◌≡◌, refl, sym, ◌∙◌}
use mathlib.Core.Bool.{Bool}
use mathlib.Core.List.{List, ◌++◌}
use Prim.Native.Nat.{ℕ, ◌+◌, ◌*◌, ◌<◌}
use native.Mathlib.Omega.{arith}
use lib.Dec.{eqb}
use lib.ListN.{length}
use Rattle.protocol.specs.Types.{Verdict, Accepted}
use Rattle.protocol.specs.Results.{word_of}
use Rattle.protocol.specs.Readers.{counts_in, shown_at, is_head_of, kinds_fit, first_failed, read_verdict, tell, plan}
use Rattle.protocol.proofs.Readers.{head_below, read_means}

-- the verdict of the words, by the three tests
pub read_by : (n q : ℕ) (words : List ℕ) {b f : Bool} {v : Verdict} → b ≡ is_head_of n q → f ≡ kinds_fit 4 words → v ≡ first_failed b (eqb (length words) (4 * n)) f → read_verdict 4 n q words ≡ v
unfolding read_verdict
read_by n q words is fit e = sym (e ∙ rw (is, fit) refl)

-- where it is accepted, the head's four words are there
pub inside : (n q j : ℕ) (words : List ℕ) → read_verdict 4 n q words ≡ Accepted → j < 4 → 4 * q + j < length words
inside n q j words e lt = let facts = read_means 4 n q words e in let low = head_below n q facts.0 in let long = facts.1 in omega arith

-- the answer by the verdict
pub plans : (n q : ℕ) (words : List ℕ) (v : Verdict) → read_verdict 4 n q words ≡ v → plan n q words ≡ tell v (shown_at 4 words q ++ counts_in (word_of 4 words q 3))
unfolding plan
plans n q words v e = rw e refl
