-- What the program trace shows of an entry.
use Rattle.std.specs.Prelude.{Bool, cond, not, ◌&&◌, List, [], ◌∷◌, ℕ, ◌+◌, ltb, Option, Some, None, Result, Ok, Err}
use Rattle.protocol.specs.declared.HeadRecord.{HeadRecord}
use Rattle.protocol.specs.declared.Setting.{Setting}
use Rattle.protocol.specs.declared.Entry.{Entry}
use Rattle.protocol.specs.declared.Cause.{Cause}
use Rattle.protocol.specs.declared.Refusal.{Refusal}
use Rattle.protocol.specs.Words.{setting_at, entry_count, entry_at}
use Rattle.protocol.specs.Record.{votes, adjusts, outcome}
use Rattle.protocol.specs.Run.{History, record_of, Run, stopped, ran, run_first}
use Rattle.protocol.specs.Premises.{is_early}
use Rattle.trace_entries.specs.declared.Line.{Line}

-- after an entry; where the run was refused; past the last entry
abbrev pub Traced : Type 0
Traced = Result (Option Line) Refusal

pattern abbrev pub After : Line → Traced
After l = Ok (Some l)

abbrev pub RefusedAt : Cause → ℕ → Traced
RefusedAt c p = Err (record { cause = c; place = p })

pattern abbrev pub Ended : Traced
Ended = Ok None

-- the head's record after the entry, and whether it had closed its votes and its adjust phase early before
unfoldable pub line_of : Entry → Bool → Bool → HeadRecord → Line
line_of e votes_before adjusts_before r =
    record {
      time = e.time;
      head = e.head;
      action = e.action;
      candidate = r.vote.choice;
      adjuster = r.adjust.choice;
      adjustment = r.adjustment;
      outcome = outcome r;
      early = record { votes = not votes_before && r.vote.early; adjusts = not adjusts_before && r.adjust.early };
    }

-- the history before its last event
abbrev pub past_of : History → History
past_of [] = []
past_of (e ∷ s) = s

abbrev pub shown_after : Setting → Entry → History → Line
shown_after g e s = line_of e (is_early g votes (past_of s) e.head) (is_early g adjusts (past_of s) e.head) (record_of g s e.head)

-- entry k after the run of the entries up to it
abbrev pub traced_after : List ℕ → ℕ → Run → Traced
traced_after ws k (stopped c p) = RefusedAt c p
traced_after ws k (ran s) =
    cond (ltb k (entry_count ws)) (After (shown_after (setting_at ws) (entry_at ws k) s)) Ended

unfoldable pub traced : List ℕ → ℕ → Traced
traced ws k = traced_after ws k (run_first ws (k + 1))
