-- An entry's verdict, by the tests made of its head's row.
-- Main results: `bad_entry`, `time_fell`, `reading_fell`, `rest_is_open`.
use mathlib.Core.Path.{◌≡◌, refl, sym, ◌∙◌, ap, ap₂}
use mathlib.Core.Bool.{Bool, true, false, cond, not, ◌&&◌, ◌||◌}
use mathlib.Core.List.{List, []}
use Prim.Native.Nat.{ℕ, ◌%◌, ◌≤◌, ◌<◌}
use lib.Dec.{ltb}
use lib.ListN.{get_or}
use borrow.Author.Tests.{lt-ltb, le-ltb}
use Rattle.protocol.specs.declared.Reading.{Reading}
use Rattle.protocol.specs.declared.HeadRecord.{HeadRecord}
use Rattle.protocol.specs.declared.HeadRow.{HeadRow}
use Rattle.protocol.specs.declared.Setting.{Setting}
use Rattle.protocol.specs.declared.Entry.{Entry}
use Rattle.protocol.specs.declared.Action.{Action}
use Rattle.protocol.specs.declared.Cause.TheVariants.{BadEntry, TimeFell, ReadingFell, ActionClosed}
use Rattle.protocol.specs.Types.{Verdict, Accepted, Refused}
use Rattle.protocol.specs.declared.Stepped.{Stepped}
use Rattle.protocol.specs.Words.{setting_at, entry_at, entry_fits_at}
use Rattle.protocol.specs.Step.{with_last, refused, is_closed, act, taken_as, take_action}
use Rattle.protocol.specs.Row.{row_of}
use Rattle.protocol.specs.Run.{History, record_of, last_time, step_entry}
use Rattle.protocol.proofs.Effects.{act_accepted}
use Rattle.protocol.specs.Row.{no_row}
use Rattle.sheet_state.specs.Arrays.{answer_at, Stands}
use Rattle.sheet_state.proofs.Standing.{head_row}
use Rattle.sheet_open.specs.Open.{is_open}

last_in : (r : HeadRecord) → (row_of r).last ≡ r.last.0
last_in r = refl

taken_verdict : (r : HeadRecord) (x : Reading) (sent : Bool) (a : Action)
    → (take_action r x sent a).verdict ≡ cond (ltb x.0 r.last.0) (Refused ReadingFell) (cond (sent && not (is_closed r (taken_as r a))) Accepted (Refused ActionClosed))
unfolding take_action
taken_verdict r x sent a = go (ltb x.0 r.last.0) sent (is_closed r (taken_as r a))
  where
    accepts : (act (with_last r x) (taken_as r a)).verdict ≡ Accepted
    accepts = ap (λ (t : Stepped). t.verdict) (sym (act_accepted (with_last r x) (taken_as r a)))

    go : (b c d : Bool) → (cond b (refused r ReadingFell) (cond (not c || d) (refused r ActionClosed) (act (with_last r x) (taken_as r a)))).verdict
        ≡ cond b (Refused ReadingFell) (cond (c && not d) Accepted (Refused ActionClosed))
    go true c d = refl
    go false false d = refl
    go false true true = refl
    go false true false = accepts

-- "entry by entry 6 to 9"
entry_verdict_is : (g : Setting) (s : History) (fits : Bool) (e : Entry)
    → cond (not fits) (Refused BadEntry) (cond (ltb e.time.0 (last_time s)) (Refused TimeFell)
    (cond (ltb e.reading.0 (record_of g s e.head).last.0) (Refused ReadingFell) (cond (is_open g s e) Accepted (Refused ActionClosed))))
    ≡ (step_entry g s fits e).verdict
unfolding step_entry is_open
entry_verdict_is g s fits e = go fits (ltb e.time.0 (last_time s)) _ _ (sym (taken_verdict _ _ _ _))
  where
    go : (b c : Bool) (v : Verdict) (t : Stepped) → v ≡ t.verdict
        → cond (not b) (Refused BadEntry) (cond c (Refused TimeFell) v)
        ≡ (cond (not b) (refused (record_of g s e.head) BadEntry) (cond c (refused (record_of g s e.head) TimeFell) t)).verdict
    go false c v t u = refl
    go true true v t u = refl
    go true false v t u = u

-- the same, on the rows, cause by cause
module _ {ws : List ℕ} {i : ℕ} {s : History} {heads : List HeadRow} (now : Stands ws i s heads) {time : ℕ} (last : time ≡ last_time s)
    {e : Entry} (is : e ≡ entry_at ws i) {fits : Bool} (tested : fits ≡ entry_fits_at ws i) where
  verdict_is : cond (not fits) (Refused BadEntry) (cond (ltb e.time.0 time) (Refused TimeFell)
      (cond (ltb e.reading.0 (record_of (setting_at ws) s e.head).last.0) (Refused ReadingFell) (cond (is_open (setting_at ws) s e) Accepted (Refused ActionClosed))))
      ≡ (answer_at ws i s).verdict
  verdict_is =
      rw last (entry_verdict_is (setting_at ws) s fits e ∙ ap₂ (λ (b : Bool) (e : Entry). (step_entry (setting_at ws) s b e).verdict) tested is)

  pub bad_entry : not fits ≡ true → Refused BadEntry ≡ (answer_at ws i s).verdict
  bad_entry f = rw f at verdict_is

  module _ (f : not fits ≡ false) where
    pub time_fell : e.time.0 < time → Refused TimeFell ≡ (answer_at ws i s).verdict
    time_fell t = rw (f, lt-ltb _ _ t) at verdict_is

    module _ (t : time ≤ e.time.0) (at : ℕ) (u : at ≡ e.head % 16) where
      last_is : (get_or heads at no_row).last ≡ (record_of (setting_at ws) s e.head).last.0
      last_is = ap (λ (row : HeadRow). row.last) (head_row now is at u) ∙ last_in (record_of (setting_at ws) s e.head)

      pub reading_fell : e.reading.0 < (get_or heads at no_row).last → Refused ReadingFell ≡ (answer_at ws i s).verdict
      reading_fell x = rw (f, le-ltb _ _ t, lt-ltb _ _ (rw last_is at x)) at verdict_is

      pub rest_is_open : (get_or heads at no_row).last ≤ e.reading.0 → (b : Bool) → is_open (setting_at ws) s e ≡ b → cond b Accepted (Refused ActionClosed) ≡ (answer_at ws i s).verdict
      rest_is_open x b o = rw (f, le-ltb _ _ t, le-ltb _ _ (rw last_is at x), o) at verdict_is
