-- "The judge finds every premise kept": for every n, f, first real time and spacing that are not refused, the drafted sheet is accepted,
-- keeps all eight premises, and leaves every head with a clock, with head 0 as candidate and as adjuster.
-- Main results: `plain_round`, and `drafted` of what is left in a buffer.
use Rattle.std.specs.Prelude.{Option, Some, None, unwrap_or}
use mathlib.Core.Path.{◌≡◌, refl, sym, ◌∙◌, ap, ap₂, subst}
use mathlib.Core.Bool.{Bool, true, not, ◌&&◌}
use mathlib.Core.List.{List, [], ◌∷◌}
use Prim.Native.Nat.{ℕ, suc, ◌+◌, ◌-◌, ◌*◌, ◌^◌, ◌≤◌, ◌<◌}
use native.Mathlib.Nat.{mul-le-mul, one-le-pow, pow-le-pow_right}
use native.Mathlib.Omega.{arith}
use lib.Dec.{ltb, eqb}
use lib.ListN.{length, get_or}
use lib.Seq.{take_at}
use borrow.Author.Tests.{ltb-true, ltb-false, lt-ltb, le-leb, eqb-true}
use Rattle.protocol.specs.Base.{◌⇒◌, any, all}
use Rattle.protocol.specs.Types.{Setting, Entry, Stepped, Verdict, Accepted, Refused, Kept}
use Rattle.protocol.specs.Words.{is_time, heads_fit, first_fields_fit, is_correct, setting_at, entry_count, entry_at, entry_fits_at}
use Rattle.protocol.specs.declared.Kind.{Kind}
use Rattle.protocol.specs.Record.{votes, adjusts}
use Rattle.protocol.specs.Run.{Event, History, record_of, step_entry, ran, run_of, after_verdict, run_sheet}
use Rattle.protocol.specs.Premises.{closing, each, before, correct_closes, votes_reached, adjusts_reached, premise5, premise7, first_broken, judge_run, judge}
use Rattle.protocol.specs.Claim.{CorrectHead, ending_of}
use Rattle.protocol.specs.Recorder.{entry_in, entry_in_width, entry_in_range, Spells, write_if}
use Rattle.protocol.specs.Draft.{draft_entry, draft_entries, draft_setting, draft_sheet, last_slot_time, draft_room, draft_verdict, draft, EndsPlain, PlainRound, Drafted, slot_time}
use Rattle.protocol.proofs.Tests.{cond_elim, and_left, and_right, and_both, not_false, implies, implied}
use Rattle.protocol.proofs.Tables.{length_table, table_at}
use Rattle.protocol.proofs.Moments.{Earlier, now, later, first_of, each_at}
use Rattle.protocol.proofs.Fits.{not_accepted}
use Rattle.protocol.proofs.Spelling.{SettingWidths, spells_them}
use Rattle.protocol.proofs.Valid.{heads_fit_lem}
use Rattle.protocol.proofs.Phases.{held}
use Rattle.protocol.proofs.Runs.{goes_on}
use Rattle.protocol.proofs.ThirdPoint.{third_point}
use Rattle.protocol.proofs.DraftRoom.{in_time_lem, entries_count, draft_length}
use Rattle.protocol.proofs.DraftOrder.{At, facts}
use Rattle.protocol.proofs.DraftPast.{event_of, history_after, after_later, Before, by_entry}
use Rattle.protocol.proofs.DraftPremises.{correct, premise_1, premise_2, premise_3, premise_4, votes_reached_lem, premise_6, adjusts_reached_lem, premise_8}
use Rattle.protocol.proofs.DraftRun.{held_0, is_taken, taken_accepted, Ran, by_run}

-- FROM WORDS TO THE HISTORY

-- a test of every event's entry is one of every entry
all_earlier : (t : Event → Bool) {s h : History} → Earlier s h → all t h ≡ true → all t s ≡ true
all_earlier t now a = a
all_earlier t (later {e = e} x) a = all_earlier t x (and_right (t e) _ a)

all_entries : (g : Setting) (t : Entry → Bool) (s : History) (es : List Entry) → all (λ (e : Event). t e.entry) (history_after g s es) ≡ true → all t es ≡ true
unfolding history_after
all_entries g t s [] a = refl
all_entries g t s (e ∷ es) a =
    let now = all_earlier (λ (e : Event). t e.entry) (after_later g (event_of g s e ∷ s) es) a in
    and_both (and_left (t e) _ now) (all_entries g t (event_of g s e ∷ s) es a)

-- the run of a sheet's entries from entry i on, each of them taken
run_on : (ws : List ℕ) (g : Setting) → setting_at ws ≡ g → (i : ℕ) (es : List Entry) (s : History)
    → ((j : ℕ) → j < length es → (entry_at ws (i + j) ≡ get_or es j (entry_in [] 0)) × (entry_fits_at ws (i + j) ≡ true))
    → run_of ws i ≡ ran s → each (is_taken g) (history_after g s es) ≡ true → run_of ws (i + length es) ≡ ran (history_after g s es)
unfolding history_after
run_on ws g set i [] s is r a = ap (run_of ws) (let z : i + 0 ≡ i = omega arith in z) ∙ r
run_on ws g set i (e ∷ es) s is r a =
    let here : i + 0 ≡ i = omega arith in
    let entry-is : entry_at ws i ≡ e = ap (entry_at ws) (sym here) ∙ (is 0 (omega arith)).0 in
    let fits : entry_fits_at ws i ≡ true = ap (entry_fits_at ws) (sym here) ∙ (is 0 (omega arith)).1 in
    let taken = taken_accepted g (event_of g s e) s (each_at (is_taken g) a (after_later g (event_of g s e ∷ s) es)) in
    let answer : step_entry (setting_at ws) s (entry_fits_at ws i) (entry_at ws i) ≡ step_entry g s true e =
    ap (λ (x : Setting). step_entry x s (entry_fits_at ws i) (entry_at ws i)) set ∙ ap (λ (b : Bool). step_entry g s b (entry_at ws i)) fits ∙ ap (step_entry g s true) entry-is in
    let next : run_of ws (suc i) ≡ ran (event_of g s e ∷ s) =
    goes_on ws i r (ap (λ (t : Stepped). t.verdict) answer ∙ taken) ∙ ap₂ (λ (x : Entry) (t : Stepped). ran (record { entry = x; after = t.after; frame = t.frame } ∷ s)) entry-is answer in
    ap (run_of ws) (let z : i + suc (length es) ≡ suc i + length es = omega arith in z)
    ∙ run_on ws g set (suc i) es (event_of g s e ∷ s) (λ j l. let z : i + suc j ≡ suc i + j = omega arith in subst (λ (x : ℕ). (entry_at ws x ≡ get_or es j (entry_in [] 0)) × (entry_fits_at ws x ≡ true)) z (is (suc j) (omega arith))) next a

spelled_run : (ws : List ℕ) (g : Setting) (es : List Entry) → Spells g es ws → each (is_taken g) (history_after g [] es) ≡ true → run_sheet ws ≡ ran (history_after g [] es)
unfolding run_sheet run_of
spelled_run ws g es s a =
    let count : length es ≡ entry_count ws = sym (ap length s.entries) ∙ length_table (entry_at ws) 0 (entry_count ws) in
    let run : run_of ws (0 + length es) ≡ ran (history_after g [] es) =
    run_on ws g s.setting 0 es []
    (λ j l. let z : j ≡ 0 + j = omega arith in
    let below : j < entry_count ws = omega arith in
    subst (λ (x : ℕ). (entry_at ws x ≡ get_or es j (entry_in [] 0)) × (entry_fits_at ws x ≡ true)) z
    (sym (table_at (entry_at ws) (entry_count ws) j (entry_in [] 0) below) ∙ ap (λ (l : List Entry). get_or l j (entry_in [] 0)) s.entries, s.entries_fit j below)) refl a in
    ap (λ (v : Verdict). after_verdict v (run_of ws (entry_count ws))) s.accepted ∙ ap (run_of ws) (let z : entry_count ws ≡ 0 + length es = omega arith in z) ∙ run

-- THE DRAFTED SHEET

module _ (n f first spacing : ℕ) (two : 2 ≤ n) (small : n ≤ 16) (few : 2 * f + 1 ≤ n) (in_range : last_slot_time n first spacing < 2 ^ 28) where
  abbrev g : Setting
  g = draft_setting n f

  abbrev h : History
  h = history_after g [] (draft_entries n first spacing)

  -- a test of every entry
  all_draft : (t : Entry → Bool) → ((a q p i : ℕ) → At n a q p i → t (draft_entry (slot_time first spacing i) a q p) ≡ true) → all t (draft_entries n first spacing) ≡ true
  all_draft t each-one =
      all_entries g t [] (draft_entries n first spacing)
      (by_entry n first spacing g (λ s. all (λ (e : Event). t e.entry) s ≡ true) refl (λ a q p i s at u x. and_both (each-one a q p i at) x) (omega arith))

  within : all entry_in_width (draft_entries n first spacing) ≡ true
  unfolding entry_in_width
  within =
      all_draft entry_in_width
      (λ a q p i at. let x = facts at in
      let time : is_time (slot_time first spacing i) ≡ true = lt-ltb (slot_time first spacing i) (2 ^ 28) (in_time_lem n first spacing in_range i x.in_round) in
      let nine = x.action_below in
      let lq = x.head_below in
      let lp = x.sender_below in
      and_both time (and_both time (and_both (lt-ltb q 16 (omega arith)) (and_both (lt-ltb a 16 (omega arith)) (and_both (lt-ltb p 16 (omega arith)) x.unused)))))

  ranged : all (entry_in_range n) (draft_entries n first spacing) ≡ true
  unfolding entry_in_range
  ranged = all_draft (entry_in_range n) (λ a q p i at. let x = facts at in and_both (le-leb a 9 x.action_below) (and_both (lt-ltb q n x.head_below) (lt-ltb p n x.sender_below)))

  few_entries : length (draft_entries n first spacing) ≤ 4096
  few_entries =
      let count = entries_count n first spacing two in
      let square : n * n ≤ 16 * 16 = mul-le-mul small small in
      omega arith

  widths : SettingWidths g
  widths =
      let bits : 2 ^ n ≤ 2 ^ 16 = pow-le-pow_right (omega arith) small in
      let pos = one-le-pow n 2 (omega arith) in
      record { n = omega arith; f = omega arith; correct = omega arith; drift = omega arith; tightness = omega arith }

  fields_fit : first_fields_fit n f (2 ^ n - 1) ≡ true
  fields_fit =
      let pos = one-le-pow n 2 (omega arith) in
      and_both (and_both (le-leb 2 n two) (and_both (le-leb n 16 small) (le-leb (2 * f + 1) n few))) (lt-ltb (2 ^ n - 1) (2 ^ n) (omega arith))

  spells : Spells g (draft_entries n first spacing) (draft_sheet n f first spacing)
  unfolding draft_sheet
  spells = spells_them g (draft_entries n first spacing) widths fields_fit within ranged few_entries

  -- PREMISES 5 AND 7

  -- what holds before every close holds before the first one
  at_first : (k : Kind) (t : History → Bool) → each (λ e s. correct_closes g k e ⇒ t s) h ≡ true → (any (correct_closes g k) h ⇒ t (before (correct_closes g k) h)) ≡ true
  at_first k t all =
      implies (any (correct_closes g k) h) (t (before (correct_closes g k) h))
      (λ some. let x = first_of (correct_closes g k) h some in
      implied (correct_closes g k x.event) (t (before (correct_closes g k) h)) (each_at (λ e s. correct_closes g k e ⇒ t s) all x.there) x.holds)

  run_of_lem : (t : Event → History → Bool) → ((a q p i : ℕ) (s : History) → At n a q p i → Before n first spacing a i s → Ran n f first spacing two small few s
      → t (event_of g s (draft_entry (slot_time first spacing i) a q p)) s ≡ true) → Ran n f first spacing two small few h × (each t h ≡ true)
  unfolding each
  run_of_lem t one = by_run n f first spacing two small few in_range (λ s. each t s ≡ true) refl (λ a q p i s at u r x. and_both (one a q p i s at u r) x)

  abbrev drafted_event : (a q p i : ℕ) → History → Event
  drafted_event a q p i s = event_of g s (draft_entry (slot_time first spacing i) a q p)

  closes_at : (k : Kind) (a q p i : ℕ) (s : History) → correct_closes g k (drafted_event a q p i s) ≡ true → a ≡ closing k
  closes_at k a q p i s w = eqb-true a (closing k) (and_right (is_correct g q) _ (and_left (is_correct g q && eqb a (closing k)) _ w))

  premise_5 : premise5 g h ≡ true
  unfolding premise5
  premise_5 =
      at_first votes (votes_reached g) (run_of_lem (λ e s. correct_closes g votes e ⇒ votes_reached g s)
      (λ a q p i s at u r. implies (correct_closes g votes (drafted_event a q p i s)) (votes_reached g s)
      (λ w. votes_reached_lem n f first spacing two at u (r.plain votes).one (closes_at votes a q p i s w)))).1

  premise_7 : premise7 g h ≡ true
  unfolding premise7
  premise_7 =
      at_first adjusts (adjusts_reached g) (run_of_lem (λ e s. correct_closes g adjusts e ⇒ adjusts_reached g s)
      (λ a q p i s at u r. implies (correct_closes g adjusts (drafted_event a q p i s)) (adjusts_reached g s)
      (λ w. adjusts_reached_lem n f first spacing two at u (r.plain adjusts).one (closes_at adjusts a q p i s w)))).1

  -- THE WHOLE

  has_run : Ran n f first spacing two small few h
  has_run = (run_of_lem (λ e s. true) (λ a q p i s at u r. refl)).0

  runs : run_sheet (draft_sheet n f first spacing) ≡ ran h
  runs = spelled_run (draft_sheet n f first spacing) g (draft_entries n first spacing) spells has_run.taken

  keeps : judge (draft_sheet n f first spacing) ≡ Kept
  unfolding judge first_broken
  keeps =
      ap (judge_run (setting_at (draft_sheet n f first spacing))) runs ∙ ap (λ (x : Setting). judge_run x (ran h)) spells.setting
      ∙ rw (premise_1 n f first spacing two, premise_2 n f first spacing two, premise_3 n f first spacing two, premise_4 n f first spacing two, premise_5, premise_6 n f first spacing two, premise_7, premise_8 n f first spacing two) refl

  -- every head chooses head 0, in each phase
  chooses_0 : (k : Kind) (q : ℕ) → unwrap_or (held g k h q) 0 ≡ 0
  chooses_0 k q = go (held g k h q) refl
    where
      go : (m : Option ℕ) → held g k h q ≡ m → unwrap_or m 0 ≡ 0
      go None e = refl
      go (Some c) e = held_0 g k has_run.valid (has_run.plain k) q c e

  ends_plain : {q : ℕ} → q < n → EndsPlain (ending_of (record_of g h q))
  unfolding ending_of
  ends_plain {q} l =
      record {
        outcome = subst (λ (x : Setting). (ending_of (record_of x h q)).outcome ≡ 2) spells.setting
            ((third_point (draft_sheet n f first spacing) keeps h runs).has_clock
            (subst (λ (x : Setting). CorrectHead x q) (sym spells.setting) (record { is_head = l; marked_correct = correct n f first spacing two q l })));
        candidate = chooses_0 votes q;
        adjuster = chooses_0 adjusts q;
      }

  is_plain : PlainRound n (draft_sheet n f first spacing)
  is_plain = record { history = h; accepted = runs; kept = keeps; ends = λ {q} l. subst (λ (x : Setting). EndsPlain (ending_of (record_of x h q))) (sym spells.setting) (ends_plain l) }

-- WHAT IS NOT REFUSED

pub record Fits (n f first spacing room : ℕ) : Type 0 where
  pub heads : heads_fit n f ≡ true
  pub in_time_lem : is_time (last_slot_time n first spacing) ≡ true
  pub enough : draft_room n ≤ room

pub fits : (n f first spacing room : ℕ) → draft_verdict n f first spacing room ≡ Accepted → Fits n f first spacing room
unfolding draft_verdict
fits n f first spacing room =
    cond_elim Passes (not (heads_fit n f)) (λ _. not_accepted _)
    (λ heads. cond_elim Passes (not (is_time (last_slot_time n first spacing))) (λ _. not_accepted _)
    (λ time. cond_elim Passes (ltb room (draft_room n)) (λ _. not_accepted _)
    (λ short _. record { heads = not_false heads; in_time_lem = not_false time; enough = ltb-false room (draft_room n) short })))
  where
    Passes : Verdict → Type 0
    Passes v = v ≡ Accepted → Fits n f first spacing room

-- for every n, f, first real time and spacing
pub plain_round : (n f first spacing : ℕ) → heads_fit n f ≡ true → is_time (last_slot_time n first spacing) ≡ true → PlainRound n (draft_sheet n f first spacing)
plain_round n f first spacing h t = let x = heads_fit_lem n f h in is_plain n f first spacing x.0 x.1 x.2 (ltb-true (last_slot_time n first spacing) (2 ^ 28) t)

pub drafted : (n f first spacing : ℕ) (out : List ℕ) → Drafted n (draft n f first spacing out).verdict (draft n f first spacing out).buffer
unfolding draft
drafted n f first spacing out = go (draft_verdict n f first spacing (length out)) refl
  where
    ws : List ℕ
    ws = draft_sheet n f first spacing

    go : (v : Verdict) → draft_verdict n f first spacing (length out) ≡ v → Drafted n (write_if v ws out).verdict (write_if v ws out).buffer
    go Accepted e =
        λ _. let x = fits n f first spacing (length out) e in
        subst (PlainRound n) (sym (take_at ws _ (draft_room n) (draft_length n f first spacing (heads_fit_lem n f x.heads).0))) (plain_round n f first spacing x.heads x.in_time_lem)
    go (Refused c) e = not_accepted c
