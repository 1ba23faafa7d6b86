-- Premises 5 to 8 by the heads that each vote and adjust reached, and by what was found of each phase at the entries before.
use Rattle.std.specs.Prelude.{Bool, not, ◌&&◌, ◌||◌, List, ℕ, get_or}
use Rattle.protocol.specs.declared.Setting.{Setting}
use Rattle.protocol.specs.Base.{◌⇒◌, any, table}
use Rattle.protocol.specs.declared.Kind.{Kind}
use Rattle.protocol.specs.Record.{votes, adjusts}
use Rattle.protocol.specs.Run.{History, record_of}
use Rattle.protocol.specs.Premises.{delivery, before, took, received, each, correct_all, correct_takes, correct_closes, is_early, frames_reached, votes_reached, adjusts_reached, none_between}
use Rattle.data_sets.specs.Sets.{set_of, with_head, has_all}
use Rattle.sheet_state.specs.Indices.{frame_index}
use Rattle.sheet_state.specs.Arrays.{action_at, head_at, serial_at}
use Rattle.judge_premises_5_to_8.specs.declared.Findings.{Findings}

-- by sender and serial, the heads that a vote or an adjust reached
unfoldable pub receiver_sets : History → List ℕ
receiver_sets s = table (λ j. set_of (λ q. received (action_at j) (head_at j) (serial_at j) q s)) 0 512

-- by these sets, the frame of head p under serial k reached all correct heads, p itself left aside
abbrev pub frame_reached : Setting → List ℕ → ℕ → ℕ → ℕ → Bool
frame_reached g sets a p k = has_all (with_head (get_or sets (frame_index a p k) 0) p) g.correct

-- what premise 5 or 7 asks of a correct head p at the first correct close, s being the history before it
abbrev pub head_reached : Setting → Kind → History → ℕ → Bool
head_reached g votes s p =
    (took 5 p s || (took 1 p s && (took 3 p s && took 4 p s)))
    && ((took 1 p s ⇒ correct_all g (λ q. received 2 p 0 q s)) && frames_reached g 5 (record_of g s p).vote.sent s p)
head_reached g adjusts s p = (took 7 p s || is_early g adjusts s p) && frames_reached g 8 (record_of g s p).adjust.sent s p

-- and of all correct heads
abbrev pub phase_reached : Setting → Kind → History → Bool
phase_reached g votes s = votes_reached g s
phase_reached g adjusts s = adjusts_reached g s

-- what was found of a phase so far: premise 5 or 7 is kept, premise 6 or 8 is, no frame of the phase reached a correct head after the
-- first correct close, and a correct head has closed the phase
abbrev pub findings_of : Setting → History → Kind → Findings
findings_of g s k =
    record {
      reached = any (correct_closes g k) s ⇒ phase_reached g k (before (correct_closes g k) s);
      undisturbed = none_between g k s;
      in_time = each (λ d past. correct_takes g (delivery k) d ⇒ not (any (correct_closes g k) past)) s;
      closed = any (correct_closes g k) s;
    }
