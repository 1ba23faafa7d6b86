-- What a replay answers and leaves, after the pass over an accepted sheet's entries.
use Rattle.std.specs.Prelude.{◌≡◌, cond, List, ℕ, ◌*◌, ◌<◌, ltb, length}
use Rattle.protocol.specs.declared.HeadRow.{HeadRow}
use Rattle.protocol.specs.declared.Setting.{Setting}
use Rattle.protocol.specs.Types.{Judged, Replayed}
use Rattle.protocol.specs.declared.Cause.TheVariants.{ShortBuffer}
use Rattle.protocol.specs.Run.{History, record_of, Run, stopped, ran}
use Rattle.protocol.specs.Results.{Replay, fill, words_per_head}
use Rattle.sheet_results.specs.Written.{RecordInRange}
use Rattle.judge_run.specs.Pass.{Passes}

-- cause 5, then the run
abbrev pub filled_by : Setting → Run → List ℕ → Replay
filled_by g run out = cond (ltb (length out) (words_per_head * g.n)) (fill g out (stopped ShortBuffer 0)) (fill g out run)

abbrev pub Replays : Judged → ℕ → List HeadRow → List ℕ → Replayed → List ℕ → Type 0
Replays j n heads before r after =
    (g : Setting) (run : Run) → Passes g run j heads → n ≡ g.n → ((s : History) → run ≡ ran s → (q : ℕ) → q < n → RecordInRange (record_of g s q))
    → (r ≡ (filled_by g run before).answer) × (after ≡ (filled_by g run before).buffer)
