-- An accepted entry: the times before it, a start that it delivers, and the mark of a confirmed start in its sender's row.
-- Main results: `confirmed_mark`, `starts_early`, `times_after`.
use Rattle.std.proofs.Common.{◌≡◌, ℕ, ◌+◌, ◌*◌, ◌%◌, ◌^◌, ◌<◌, ◌≤◌, Bool, true, false, cond, ◌&&◌, List, [], ◌∷◌, get_or, set, sym, refl, ap, ◌∙◌, le_trans, arith}
use Rattle.protocol.specs.declared.HeadRow.{HeadRow}
use Rattle.protocol.specs.declared.Setting.{Setting}
use Rattle.protocol.specs.declared.Entry.{Entry}
use Rattle.protocol.specs.Types.{Frame, NoFrame, Start, Vote, Adjust, Accepted}
use Rattle.protocol.specs.Words.{entry_of, has_sender, setting_at, entry_at}
use Rattle.protocol.specs.Step.{has_mark}
use Rattle.protocol.specs.Run.{Event, History, record_of, frame_of, last_time}
use Rattle.protocol.specs.Premises.{receives, took, last_start}
use Rattle.protocol.proofs.Tests.{cond_elim}
use Rattle.protocol.proofs.Effects.{delivered_by, serial_of}
use Rattle.protocol.proofs.Valid.{Taken, Valid, start, more, confirmed_took}
use Rattle.head_open.proofs.Marks.{has_confirmed}
use Rattle.protocol.specs.Row.{no_row}
use Rattle.sheet_state.specs.Arrays.{answer_at, event_at, Stands}
use Rattle.sheet_state.proofs.Standing.{entry_sized, at_most_16, valid_history, next_taken, row_at}
use Rattle.judge_premise_3.specs.Starts.{start_times}
use Rattle.judge_premise_3.proofs.Events.{times_delivered}

-- no start was delivered after the last entry
starts_before : {g : Setting} {s : History} → Valid g s → (v q : ℕ) → last_start s v q ≤ last_time s
unfolding last_start
starts_before start v q = omega arith
starts_before (more {e = e} t valid) v q =
    cond_elim (λ x. x ≤ e.entry.time.0) (receives 2 v 0 q e) (λ _. omega arith) (λ _. le_trans (starts_before valid v q) t.time_rises)

-- a start has no serial
start_serial : (x : Frame) → delivered_by x ≡ 2 → serial_of x ≡ 0
start_serial NoFrame e = refl
start_serial Start e = refl
start_serial (Vote j c x) e = absurd (omega arith)
start_serial (Adjust j c x) e = absurd (omega arith)

delivered_serial : {g : Setting} (s : History) (e : Event) → Taken g s e → e.entry.action ≡ 2 → e.entry.serial ≡ 0
delivered_serial s e t h =
    sym t.asked.serial_is ∙ start_serial (frame_of s e.entry) (t.asked.frame_is ∙ ap (λ (a : ℕ). cond (has_sender a) a 0) h)

pub entry_time : (ws : List ℕ) (i : ℕ) → (entry_at ws i).time.0 < 2 ^ 28
unfolding entry_of
entry_time ws i = omega arith

module _ {ws : List ℕ} {i : ℕ} {s : History} {heads : List HeadRow} (now : Stands ws i s heads) where
  pub few_heads : {g : Setting} → g ≡ setting_at ws → g.n ≤ 16
  few_heads is = rw is (at_most_16 now)

  -- e is the entry after those that stand, as its function was given it
  module _ {e : Entry} (is : e ≡ entry_at ws i) where
    pub head_small : e.head < 16
    head_small = rw is (entry_sized ws i).0

    pub confirmed_mark : {j : ℕ} {b : Bool} → j ≡ e.sender % 16 → b ≡ has_mark (get_or heads j no_row).marks.0 2 → b ≡ took 3 e.sender s
    confirmed_mark at mark =
        let sized : e.sender < 16 = rw is (entry_sized ws i).1 in
        mark ∙ ap (λ (p : ℕ). has_mark (get_or heads p no_row).marks.0 2) (at ∙ omega arith)
        ∙ ap (λ (row : HeadRow). has_mark row.marks.0 2) (row_at now e.sender sized)
        ∙ has_confirmed (record_of (setting_at ws) s e.sender) ∙ confirmed_took (setting_at ws) (valid_history now) e.sender

    module _ (accepted : (answer_at ws i s).verdict ≡ Accepted) where
      pub starts_early : (v q : ℕ) → last_start s v q < 2 ^ 28
      starts_early v q =
          let before = starts_before (valid_history now) v q in let rises = (next_taken now accepted).time_rises in let small = entry_time ws i in omega arith

      pub times_after : e.action ≡ 2 → {times : List ℕ} → times ≡ start_times s
          → {j q t : ℕ} → j ≡ e.sender % 16 → q ≡ e.head % 16 → t ≡ (e.time.0 + 1) % 2 ^ 32
          → set times (j * 16 + q) t ≡ start_times (event_at ws i s ∷ s)
      times_after two are at-sender at_head at-time =
          let sized = entry_sized ws i in
          let two' : (entry_at ws i).action ≡ 2 = rw is at two in
          rw (are, at-sender, at_head, at-time, is)
          (ap (set (start_times s) ((entry_at ws i).sender % 16 * 16 + (entry_at ws i).head % 16)) (let small = entry_time ws i in omega arith)
          ∙ times_delivered (event_at ws i s) s two' sized.0 sized.1 (delivered_serial s (event_at ws i s) (next_taken now accepted) two'))
