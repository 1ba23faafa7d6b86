-- The bound on D is attained, so no smaller bound holds: sheets that keep all eight premises, computed.
-- Head 0 runs as fast as the drift allows from the delivery of the chosen start to its look, head 1 as slowly, and the two
-- deliveries are as far apart as the tightness allows. Three sheets: every head closes both phases early; none does, a third head
-- being silent; head 0 does, and head 1, which the third head's frames do not reach, closes both by entry.
-- Main results: `bound_attained`.
use Rattle.std.specs.Prelude.{Err}
use mathlib.Core.Path.{◌≡◌, refl}
use mathlib.Core.Bool.{Bool, true, false, ◌&&◌}
use mathlib.Core.List.{List, [], ◌∷◌}
use Prim.Native.Nat.{ℕ, ◌+◌, ◌-◌, ◌*◌, ◌<◌}
use lib.Dec.{eqb}
use lib.ListN.{get_or}
use borrow.Author.Tests.{eqb-true}
use Rattle.protocol.specs.Base.{all, table}
use Rattle.protocol.specs.Types.{HeadRecord, Setting, Entry, Judged, Kept, Broken}
use Rattle.protocol.specs.Words.{setting_at, entry_at}
use Rattle.protocol.specs.Record.{corrected_clock, mark_number}
use Rattle.protocol.specs.Run.{History, Run, stopped, ran, record_of, run_sheet}
use Rattle.protocol.specs.Premises.{last_start, judge}
use Rattle.protocol.specs.Claim.{ending_of, apart, bound_on_d}
use Rattle.protocol.specs.Spelling.{sheet_of}
use Rattle.protocol.specs.Recorder.{setting_from, entries_in}
use Rattle.protocol.proofs.Tests.{absurd_bool, and_left, and_right, same_list, same_list_lem, all_at}
use Rattle.protocol.proofs.Computed.{sheets_compute}

-- a sheet, the indices of the two looks, and by head what it has closed early at the end: 1 for the votes, 2 for the adjusts
pub record Widest : Type 0 where
  pub words : List ℕ
  pub fast : ℕ
  pub slow : ℕ
  pub early : List ℕ

-- drift 1,000 ppm, tightness 1,000 µs; the last two entries are the looks, at 10,000
pub all_early : Widest
all_early =
    record {
      words = sheet_of (setting_from 2 0 3 1000 1000)
          (entries_in (
          900 ∷ 900 ∷ 0 ∷ 1 ∷ 0 ∷ 0 ∷ 1000 ∷ 1000 ∷ 0 ∷ 2 ∷ 0 ∷ 0 ∷ 2000 ∷ 7000 ∷ 1 ∷ 2 ∷ 0 ∷ 0
          ∷ 2100 ∷ 2102 ∷ 0 ∷ 3 ∷ 0 ∷ 0 ∷ 2200 ∷ 2202 ∷ 0 ∷ 4 ∷ 0 ∷ 0 ∷ 2300 ∷ 7299 ∷ 1 ∷ 5 ∷ 0 ∷ 0
          ∷ 2400 ∷ 2402 ∷ 0 ∷ 5 ∷ 1 ∷ 0 ∷ 3000 ∷ 3002 ∷ 0 ∷ 6 ∷ 0 ∷ 0 ∷ 3000 ∷ 7999 ∷ 1 ∷ 6 ∷ 0 ∷ 0
          ∷ 3100 ∷ 3103 ∷ 0 ∷ 7 ∷ 0 ∷ 0 ∷ 3200 ∷ 8198 ∷ 1 ∷ 8 ∷ 0 ∷ 0 ∷ 3300 ∷ 3303 ∷ 0 ∷ 8 ∷ 1 ∷ 0
          ∷ 3400 ∷ 8398 ∷ 1 ∷ 7 ∷ 0 ∷ 0 ∷ 4000 ∷ 4003 ∷ 0 ∷ 9 ∷ 0 ∷ 0 ∷ 4000 ∷ 8998 ∷ 1 ∷ 9 ∷ 0 ∷ 0
          ∷ 10000 ∷ 10010 ∷ 0 ∷ 0 ∷ 0 ∷ 0 ∷ 10000 ∷ 14991 ∷ 1 ∷ 0 ∷ 0 ∷ 0
          ∷ []));
      fast = 15;
      slow = 16;
      early = 3 ∷ 3 ∷ [];
    }

-- the same with a third head that is silent and not marked correct; f is 1, so head 1 sends a start too
none_early : Widest
none_early =
    record {
      words = sheet_of (setting_from 3 1 3 1000 1000)
          (entries_in (
          900 ∷ 900 ∷ 0 ∷ 1 ∷ 0 ∷ 0 ∷ 950 ∷ 5950 ∷ 1 ∷ 1 ∷ 0 ∷ 0 ∷ 960 ∷ 960 ∷ 0 ∷ 2 ∷ 1 ∷ 0 ∷ 960 ∷ 5960 ∷ 1 ∷ 2 ∷ 1 ∷ 0
          ∷ 1000 ∷ 1000 ∷ 0 ∷ 2 ∷ 0 ∷ 0 ∷ 2000 ∷ 7000 ∷ 1 ∷ 2 ∷ 0 ∷ 0 ∷ 2100 ∷ 2102 ∷ 0 ∷ 3 ∷ 0 ∷ 0 ∷ 2200 ∷ 2202 ∷ 0 ∷ 4 ∷ 0 ∷ 0
          ∷ 2300 ∷ 7299 ∷ 1 ∷ 5 ∷ 0 ∷ 0 ∷ 2400 ∷ 2402 ∷ 0 ∷ 5 ∷ 1 ∷ 0 ∷ 3000 ∷ 3002 ∷ 0 ∷ 6 ∷ 0 ∷ 0 ∷ 3000 ∷ 7999 ∷ 1 ∷ 6 ∷ 0 ∷ 0
          ∷ 3100 ∷ 3103 ∷ 0 ∷ 7 ∷ 0 ∷ 0 ∷ 3200 ∷ 8198 ∷ 1 ∷ 8 ∷ 0 ∷ 0 ∷ 3300 ∷ 3303 ∷ 0 ∷ 8 ∷ 1 ∷ 0 ∷ 3400 ∷ 8398 ∷ 1 ∷ 7 ∷ 0 ∷ 0
          ∷ 4000 ∷ 4003 ∷ 0 ∷ 9 ∷ 0 ∷ 0 ∷ 4000 ∷ 8998 ∷ 1 ∷ 9 ∷ 0 ∷ 0 ∷ 10000 ∷ 10010 ∷ 0 ∷ 0 ∷ 0 ∷ 0 ∷ 10000 ∷ 14991 ∷ 1 ∷ 0 ∷ 0 ∷ 0
          ∷ []));
      fast = 18;
      slow = 19;
      early = 0 ∷ 0 ∷ 0 ∷ [];
    }

-- the same with a third head whose vote and adjust reach head 0 alone; head 1 is the adjuster, and head 0 takes none of 6, 7 and 9
some_early : Widest
some_early =
    record {
      words = sheet_of (setting_from 3 1 3 1000 1000)
          (entries_in (
          900 ∷ 900 ∷ 0 ∷ 1 ∷ 0 ∷ 0 ∷ 950 ∷ 5950 ∷ 1 ∷ 1 ∷ 0 ∷ 0 ∷ 960 ∷ 960 ∷ 0 ∷ 2 ∷ 1 ∷ 0 ∷ 960 ∷ 5960 ∷ 1 ∷ 2 ∷ 1 ∷ 0
          ∷ 1000 ∷ 1000 ∷ 0 ∷ 2 ∷ 0 ∷ 0 ∷ 2000 ∷ 7000 ∷ 1 ∷ 2 ∷ 0 ∷ 0 ∷ 2100 ∷ 2102 ∷ 0 ∷ 3 ∷ 0 ∷ 0 ∷ 2200 ∷ 2202 ∷ 0 ∷ 4 ∷ 0 ∷ 0
          ∷ 2300 ∷ 7299 ∷ 1 ∷ 5 ∷ 0 ∷ 0 ∷ 2300 ∷ 2300 ∷ 2 ∷ 5 ∷ 0 ∷ 0 ∷ 2400 ∷ 2402 ∷ 0 ∷ 5 ∷ 1 ∷ 0 ∷ 2450 ∷ 2452 ∷ 0 ∷ 5 ∷ 2 ∷ 0
          ∷ 3000 ∷ 7999 ∷ 1 ∷ 6 ∷ 0 ∷ 0 ∷ 3100 ∷ 8098 ∷ 1 ∷ 7 ∷ 0 ∷ 0 ∷ 3200 ∷ 3203 ∷ 0 ∷ 8 ∷ 1 ∷ 0 ∷ 3200 ∷ 3200 ∷ 2 ∷ 8 ∷ 1 ∷ 0
          ∷ 3300 ∷ 8298 ∷ 1 ∷ 8 ∷ 0 ∷ 0 ∷ 3350 ∷ 3353 ∷ 0 ∷ 8 ∷ 2 ∷ 0 ∷ 4000 ∷ 8998 ∷ 1 ∷ 9 ∷ 0 ∷ 0
          ∷ 10000 ∷ 10010 ∷ 0 ∷ 0 ∷ 0 ∷ 0 ∷ 10000 ∷ 14991 ∷ 1 ∷ 0 ∷ 0 ∷ 0
          ∷ []));
      fast = 19;
      slow = 20;
      early = 3 ∷ 0 ∷ 0 ∷ [];
    }

pub widest : List Widest
widest = all_early ∷ none_early ∷ some_early ∷ []

-- what each head has closed early at the end of a run
pub early_of : HeadRecord → ℕ
early_of r = mark_number r.vote.early 1 + mark_number r.adjust.early 2

pub early_marks : Setting → Run → List ℕ
early_marks g (stopped c p) = []
early_marks g (ran h) = table (λ q. early_of (record_of g h q)) 0 g.n

-- a million times D at the looks of entries d and e, and the bound
pub millionths : Setting → Entry → Entry → Run → ℕ
millionths g d e (stopped c p) = 0
millionths g d e (ran h) = 1000000 * apart (corrected_clock (record_of g h d.head) d.reading) (corrected_clock (record_of g h e.head) e.reading)

-- the microseconds from the delivery of a head's chosen start to its look
pub since_received : Setting → History → Entry → ℕ
since_received g h e = e.time.0 - last_start h (ending_of (record_of g h e.head)).candidate e.head

pub bound : Setting → Entry → Entry → Run → ℕ
bound g d e (stopped c p) = 0
bound g d e (ran h) = bound_on_d g (since_received g h d) (since_received g h e)

pub distance_in : Widest → ℕ
distance_in x = millionths (setting_at x.words) (entry_at x.words x.fast) (entry_at x.words x.slow) (run_sheet x.words)

pub bound_in : Widest → ℕ
bound_in x = bound (setting_at x.words) (entry_at x.words x.fast) (entry_at x.words x.slow) (run_sheet x.words)

pub record Attains (x : Widest) : Type 0 where
  pub all_kept : judge x.words ≡ Kept
  pub at_bound : distance_in x ≡ bound_in x
  pub closes_so : early_marks (setting_at x.words) (run_sheet x.words) ≡ x.early

abbrev is_kept : Judged → Bool
is_kept Kept = true
is_kept (Broken i) = false
is_kept (Err x) = false

is_kept_lem : (j : Judged) → is_kept j ≡ true → j ≡ Kept
is_kept_lem Kept e = refl
is_kept_lem (Broken i) e = absurd_bool e refl
is_kept_lem (Err x) e = absurd_bool e refl

abbrev passes : Widest → Bool
passes x = is_kept (judge x.words) && (eqb (distance_in x) (bound_in x) && same_list (early_marks (setting_at x.words) (run_sheet x.words)) x.early)

all_pass : all passes widest ≡ true
unfolding sheets_compute widest all_early none_early some_early early_of early_marks millionths since_received bound distance_in bound_in
all_pass = refl

-- each of the three sheets attains the bound, whichever way its phases close
pub bound_attained : (i : ℕ) → i < 3 → Attains (get_or widest i all_early)
unfolding widest
bound_attained i h =
    let x = get_or widest i all_early in
    let e = all_at passes widest all_early all_pass i h in
    let rest = and_right (is_kept (judge x.words)) _ e in
    record {
      all_kept = is_kept_lem (judge x.words) (and_left (is_kept (judge x.words)) _ e);
      at_bound = eqb-true (distance_in x) (bound_in x) (and_left (eqb (distance_in x) (bound_in x)) _ rest);
      closes_so = same_list_lem (early_marks (setting_at x.words) (run_sheet x.words)) x.early (and_right (eqb (distance_in x) (bound_in x)) _ rest);
    }
