-- The trace of a sheet, entry by entry: what the next entry shows, and what it leaves.
-- Main results: `sheet_sized`, `entry_inside`; `first_follows`; `refused_next`, `accepted_next`, `ended_next`.
use mathlib.Core.Path.{◌≡◌, refl, sym, ◌∙◌, ap, ap₂, subst}
use mathlib.Core.Bool.{Bool}
use mathlib.Core.List.{List, [], ◌∷◌}
use Prim.Native.Nat.{ℕ, zero, suc, ◌+◌, ◌*◌, ◌%◌, ◌≤◌, ◌<◌, min}
use native.Mathlib.Omega.{arith}
use lib.Dec.{eqb}
use lib.ListN.{length, get_or, replicate}
use borrow.Author.Tests.{lt-ltb, le-ltb}
use Rattle.protocol.specs.declared.HeadRow.{HeadRow}
use Rattle.protocol.specs.declared.Setting.{Setting}
use Rattle.protocol.specs.declared.Entry.{Entry}
use Rattle.protocol.specs.declared.Cause.{Cause}
use Rattle.protocol.specs.Types.{Accepted, Refused}
use Rattle.protocol.specs.Base.{table}
use Rattle.protocol.specs.Words.{setting_at, entry_count, place_of, entry_at}
use Rattle.protocol.specs.declared.Kind.{Kind}
use Rattle.protocol.specs.Record.{votes, adjusts}
use Rattle.protocol.specs.Causes.{sheet_verdict}
use Rattle.protocol.specs.Run.{History, record_of, frame_sent, run_of, run_first}
use Rattle.protocol.specs.Premises.{is_early}
use Rattle.protocol.proofs.Fits.{sheet_fits}
use Rattle.protocol.proofs.Valid.{fixed}
use Rattle.protocol.proofs.Ranges.{range_test, run_in_range}
use Rattle.protocol.proofs.Runs.{goes_on, stops}
use Rattle.head_row.proofs.Rows.{part, early_read}
use Rattle.protocol.specs.Row.{no_row}
use Rattle.sheet_state.specs.Arrays.{head_rows, choices_of, carried_of, answer_at, event_at, Stands, Carries}
use Rattle.sheet_state.proofs.Standing.{entry_sized, heads_few, valid_history, next_taken, row_at}
use Rattle.trace_entries.specs.declared.Line.{Line}
use Rattle.trace_entries.specs.Trace.{After, RefusedAt, Ended, line_of, shown_after, traced_after, traced}
use Rattle.trace_entries.specs.Follows.{Follows, GoesOn, IsLine}

-- AN ACCEPTED SHEET'S WORDS

module _ (ws : List ℕ) (sheet : sheet_verdict ws ≡ Accepted) where
  pub sheet_sized : (2 ≤ length ws) × (length ws ≤ 12290)
  sheet_sized =
      let fits = sheet_fits ws sheet in
      let whole = fits.whole_entries in
      let most = fits.most_entries in
      (fits.at_least_two, omega arith)

  pub entry_inside : {i count : ℕ} → count ≡ entry_count ws → i < count → 2 + 3 * i + 2 < length ws
  entry_inside all lt = let whole = (sheet_fits ws sheet).whole_entries in omega arith

-- BEFORE THE FIRST ENTRY

zeros : (k i : ℕ) → table {A = ℕ} (λ _. 0) i k ≡ replicate k 0
zeros zero i = refl
zeros (suc k) i = ap (λ (l : List ℕ). 0 ∷ l) (zeros k (suc i))

nothing_sent : Carries [] (replicate 512 0) (replicate 512 0)
unfolding choices_of carried_of frame_sent
nothing_sent = record { choices_are = sym (zeros 512 0); carried_are = sym (zeros 512 0) }

pub first_follows : (ws : List ℕ) (heads : List HeadRow) (g : Setting) → sheet_verdict ws ≡ Accepted → g ≡ setting_at ws
    → heads ≡ head_rows g [] → Follows ws 0 heads (replicate 512 0) (replicate 512 0) 0
unfolding run_of
first_follows ws heads g sheet g-is fresh =
    record {
      sheet = sheet;
      reached = omega arith;
      past = [];
      stands = record { first_fits = (sheet_fits ws sheet).first_fits; is_run = refl; heads_are = fresh ∙ ap (λ (s : Setting). head_rows s []) g-is };
      carries = nothing_sent;
      time_is = refl;
    }

-- THE NEXT ENTRY

module _ {ws : List ℕ} {i : ℕ} {heads : List HeadRow} {choices carried : List ℕ} {time : ℕ} (now : Follows ws i heads choices carried time)
    {count : ℕ} (all : count ≡ entry_count ws) where
  -- the run that entry i is shown after
  traced_run : (k : ℕ) → min (i + 1) (entry_count ws) ≡ k → traced ws i ≡ traced_after ws i (run_of ws k)
  unfolding traced run_first
  traced_run k e = rw now.sheet (ap (λ (j : ℕ). traced_after ws i (run_of ws j)) (omega arith))

  pub refused_next : i < count → (c : Cause) → (answer_at ws i now.past).verdict ≡ Refused c
      → (RefusedAt c (place_of i) ≡ traced ws i) × GoesOn ws i (RefusedAt c (place_of i)) heads choices carried
  refused_next lt c a = (
    rw (traced_run (suc i) (omega arith), stops ws i now.stands.is_run c a) refl,
    λ l e. absurd (let z : ◌≡◌ {A = ℕ} 0 1 = cc in omega arith),
  )

  pub ended_next : count ≤ i → (Ended ≡ traced ws i) × GoesOn ws i Ended heads choices carried
  ended_next le =
      let reached = now.reached in (
        rw (traced_run i (omega arith), now.stands.is_run, le-ltb i (entry_count ws) (omega arith)) refl,
        λ l e. absurd (let z : ◌≡◌ {A = ℕ} 0 1 = cc in omega arith),
      )

  module _ (lt : i < count) (a : (answer_at ws i now.past).verdict ≡ Accepted) {rows : List HeadRow} {named read : List ℕ}
      (done : (rows ≡ head_rows (setting_at ws) (event_at ws i now.past ∷ now.past)) × Carries (event_at ws i now.past ∷ now.past) named read) where
    abbrev next : History
    next = event_at ws i now.past ∷ now.past

    stands_next : Stands ws (suc i) next rows
    stands_next = record { first_fits = now.stands.first_fits; is_run = goes_on ws i now.stands.is_run a; heads_are = done.0 }

    follows_next : Follows ws (i + 1) rows named read (entry_at ws i).time.0
    follows_next =
        record {
          sheet = now.sheet;
          reached = omega arith;
          past = next;
          stands = subst (λ (k : ℕ). Stands ws k next rows) (omega arith) stands_next;
          carries = done.1;
          time_is = refl;
        }

    -- a mark of an early close before the entry, as the rows have it
    early_before : (k : Kind) (h : ℕ) → h ≡ (entry_at ws i).head % 16 → eqb (part k (get_or heads h no_row)).early 1 ≡ is_early (setting_at ws) k now.past (entry_at ws i).head
    early_before k h index_is =
        let q = (entry_at ws i).head in
        let low = (entry_sized ws i).0 in
        let same : h ≡ q = omega arith in
        early_read k (record_of (setting_at ws) now.past q) (ap (λ (p : ℕ). get_or heads p no_row) same ∙ row_at now.stands q low)

    line_next : (h : ℕ) (votes_before adjusts_before : Bool) (l : Line) → h ≡ (entry_at ws i).head % 16 → votes_before ≡ eqb (get_or heads h no_row).votes.early 1 → adjusts_before ≡ eqb (get_or heads h no_row).adjusts.early 1
        → IsLine (entry_at ws i) votes_before adjusts_before (get_or rows h no_row) l → l ≡ shown_after (setting_at ws) (entry_at ws i) next
    line_next h votes_before adjusts_before l index_is votes-are adjusts-are is =
        let q = (entry_at ws i).head in
        let low = (entry_sized ws i).0 in
        let below = (next_taken now.stands a).head_below in
        let same : h ≡ q = omega arith in
        let row = ap (λ (p : ℕ). get_or rows p no_row) same ∙ row_at stands_next q low in
        is _ row (range_test (run_in_range (heads_few stands_next) (valid_history stands_next) q below)) (fixed (setting_at ws) (valid_history stands_next) q).size_is
        ∙ ap₂ (λ (v w : Bool). line_of (entry_at ws i) v w (record_of (setting_at ws) next q)) (votes-are ∙ early_before votes h index_is) (adjusts-are ∙ early_before adjusts h index_is)

    pub accepted_next : (e : Entry) (h : ℕ) (votes_before adjusts_before : Bool) (l : Line) → e ≡ entry_at ws i → h ≡ e.head % 16
        → votes_before ≡ eqb (get_or heads h no_row).votes.early 1 → adjusts_before ≡ eqb (get_or heads h no_row).adjusts.early 1 → IsLine e votes_before adjusts_before (get_or rows h no_row) l
        → (After l ≡ traced ws i) × GoesOn ws i (After l) rows named read
    unfolding line_of
    accepted_next e h votes_before adjusts_before l is index_is votes-are adjusts-are line =
        let shown = line_next h votes_before adjusts_before l (index_is ∙ ap (λ (d : Entry). d.head % 16) is) votes-are adjusts-are (subst (λ (d : Entry). IsLine d votes_before adjusts_before (get_or rows h no_row) l) is line) in (
          rw (traced_run (suc i) (omega arith), stands_next.is_run, lt-ltb i (entry_count ws) (omega arith)) (ap After shown),
          λ k same. subst (λ (t : ℕ). Follows ws (i + 1) rows named read t)
              (sym (ap (λ (m : Line). m.time.0) (let z : l ≡ k = cc in sym z ∙ shown))) follows_next,
        )
