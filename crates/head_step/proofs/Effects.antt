-- What each action does to a row, by the numbers that the code computes, is what it does to the record: its effect, and the test at
-- its end. A mark is set by one law; a delivered vote and a delivered adjust go by one law, whose instances say where each phase
-- has its numbers.
-- Main results: `start_sent_acts` and its like for the marks; `spent_acts`; `late_start`, `start_led`, `start_waits`,
-- `start_decided`; `vote_passed_over`, `vote_taken_lem`, `vote_adopted`, `vote_kept`, and the same for an adjust.
use Rattle.std.proofs.Common.{◌≡◌, ℕ, ◌+◌, ◌%◌, ◌^◌, ◌<◌, Bool, true, false, cond, not, ◌&&◌, ◌||◌, eqb, ltb, ◌≢◌, List, get_or, set, sym, refl, ap, ◌∙◌, ap₂, arith, lit<, ltb-false, ltb-true, le-ltb, lt-ltb, eq-eqb, ne_eqb, Option, Some, None, is_some}
use Rattle.protocol.specs.declared.Reading.{Reading}
use Rattle.protocol.specs.declared.Phase.{Phase}
use Rattle.protocol.specs.declared.HeadRecord.{HeadRecord}
use Rattle.protocol.specs.declared.HeadRow.{HeadRow}
use Rattle.protocol.specs.declared.PhaseRow.{PhaseRow}
use Rattle.protocol.specs.declared.Marks.{Marks}
use Rattle.protocol.specs.declared.Stepped.{Stepped}
use Rattle.head_row.specs.declared.Sent.{Sent}
use Rattle.protocol.specs.Types.{NoFrame, Start}
use Rattle.protocol.specs.declared.Action.{Action}
use Rattle.protocol.specs.declared.Action.TheVariants.{Look, StartSent, StartDelivered, StartConfirmed, VoteTurn, VoteDelivered, VoteClose}
use Rattle.protocol.specs.declared.Action.TheVariants.{AdjustTurn, AdjustDelivered, AdjustClose}
use Rattle.protocol.specs.declared.Kind.{Kind}
use Rattle.protocol.specs.Record.{votes, adjusts, phase_of, reading, reading_or0, kept_of, same_number, marks_number}
use Rattle.protocol.specs.Step.{take_turn, with_start, with_sender, keep_vote, keep_adjust, kept_for, silent, vote, adjust, may_lead, lead, propose}
use Rattle.protocol.specs.Step.{is_above, is_passed_over, outranks, candidate_after, delivered, effect, has_mark, is_tested, act, taken_as}
use Rattle.protocol.specs.Row.{number_plus1, reading_plus1, phase_row, row_of, phase_in_row}
use Rattle.head_row.specs.Sent.{sent_of}
use Rattle.protocol.proofs.Tests.{absurd_bool, eqb_same, cases, cond_elim, not_true, and_left, and_right}
use Rattle.protocol.proofs.Effects.{no_number}
use Rattle.head_row.specs.Promises.{Fits, Gives, Acts, Becomes}
use Rattle.head_row.proofs.Rows.{part, early_read, serial_read, start_written, taken_vote_written, taken_adjust_written, reading_left, same_name}
use Rattle.head_row.proofs.Fitting.{fits_heads, vote_phase_fits, adjust_phase_fits, sender_fits_lem}
use Rattle.head_open.proofs.Marks.{marks_are, with_mark, has_vote_closed, has_adjust_closed, has_candidate}
use Rattle.head_open.proofs.Marks.{with_started, with_confirmed, with_vote_turn, with_vote_closed, with_adjust_turn, with_adjust_closed}
use Rattle.head_early.specs.Parts.{closes}
use Rattle.head_early.proofs.Closing.{idle}
use Rattle.head_step.specs.Parts.{close_of, close_weight, take_vote, take_adjust}
use Rattle.head_step.proofs.Tested.{tested_gives, untested_gives, idle_gives}

-- A SPENT ACTION

not_early : (k : Kind) (r : HeadRecord) {row : HeadRow} → row ≡ row_of r → (part k row).early ≢ 1 → (phase_of k r).early ≡ false
not_early k r is late = sym (early_read k r is) ∙ ne_eqb _ 1 late

unspent : (r : HeadRecord) (a : Action) (early : Bool) {row : HeadRow} {x : Sent} → early ≡ false → Gives (act r a) row x → Gives (act r (cond early Look a)) row x
unspent r a early e g = rw e g

-- "has no effect": the row stays
pub spent_acts : (k : Kind) (a : Action) (row : HeadRow) (x : Sent) → ((r : HeadRecord) → taken_as r a ≡ cond (phase_of k r).early Look a) → (part k row).early ≡ 1 → x ≡ sent_of NoFrame
    → Acts (λ (r : HeadRecord). act r (taken_as r a)) row row x
unfolding effect is_tested
spent_acts k a row x taken early none r is fit =
    rw (taken r, sym (early_read k r is) ∙ eq-eqb _ 1 early) (untested_gives r Look (is, none) refl)

pub spent_close : (k : Kind) (row : HeadRow) (x : Sent) → (phase_in_row k row).early ≡ 1 → x ≡ sent_of NoFrame → Acts (λ (r : HeadRecord). act r (taken_as r (close_of k))) row row x
unfolding taken_as
spent_close votes row x early none = spent_acts votes VoteClose row x (λ r. refl) early none
spent_close adjusts row x early none = spent_acts adjusts AdjustClose row x (λ r. refl) early none

-- A MARK

module _ (row : HeadRow) (m : Marks) where
  -- s is r but for its marks, which are r's and the one of that weight
  marked : (weight : ℕ) → m.0 ≡ with_mark row.marks.0 weight → (r s : HeadRecord) → row ≡ row_of r
      → with_mark (marks_number r) weight ≡ marks_number s → record (row_of r) { marks = record { 0 = marks_number s } } ≡ row_of s
      → record row { marks = m } ≡ row_of s
  marked weight m-is r s is e same = rw (marks_are m {n = marks_number s} (m-is ∙ rw is e), is) same

  -- closed is what the test leaves of the row
  module _ (closed : HeadRow) (tests : Becomes closes (record row { marks = m }) closed) where
    pub start_sent_acts : m.0 ≡ with_mark row.marks.0 1 → Acts (λ (r : HeadRecord). act r StartSent) row closed (sent_of Start)
    unfolding effect is_tested
    start_sent_acts m-is r is fit = tested_gives r StartSent (marked 1 m-is r _ is (with_started r) refl, refl) (fits_heads fit) refl tests

    module _ (x : Sent) (none : x ≡ sent_of NoFrame) where
      pub start_confirmed_acts : m.0 ≡ with_mark row.marks.0 2 → Acts (λ (r : HeadRecord). act r StartConfirmed) row closed x
      unfolding effect is_tested
      start_confirmed_acts m-is r is fit = tested_gives r StartConfirmed (marked 2 m-is r _ is (with_confirmed r) refl, none) (fits_heads fit) refl tests

      vote_close_acts : (row.votes.early ≢ 1) → m.0 ≡ with_mark row.marks.0 8 → Acts (λ (r : HeadRecord). act r (taken_as r VoteClose)) row closed x
      unfolding effect is_tested taken_as
      vote_close_acts late m-is r is fit =
          unspent r VoteClose _ (not_early votes r is late)
          (tested_gives r VoteClose (marked 8 m-is r _ is (with_vote_closed r) refl, none) (fits_heads fit) refl tests)

      adjust_close_acts : (row.adjusts.early ≢ 1) → m.0 ≡ with_mark row.marks.0 32 → Acts (λ (r : HeadRecord). act r (taken_as r AdjustClose)) row closed x
      unfolding effect is_tested taken_as
      adjust_close_acts late m-is r is fit =
          unspent r AdjustClose _ (not_early adjusts r is late)
          (tested_gives r AdjustClose (marked 32 m-is r _ is (with_adjust_closed r r.adjustment) refl, none) (fits_heads fit) refl tests)

      pub close_acts : (k : Kind) → ((phase_in_row k row).early ≢ 1) → m.0 ≡ with_mark row.marks.0 (close_weight k) → Acts (λ (r : HeadRecord). act r (taken_as r (close_of k))) row closed x
      close_acts votes late m-is = vote_close_acts late m-is
      close_acts adjusts late m-is = adjust_close_acts late m-is

  module _ (row' closed : HeadRow) (x : Sent) (tests : Becomes closes row' closed) where
    pub vote_turn_acts : m.0 ≡ with_mark row.marks.0 4 → Acts lead (record row { marks = m }) row' x → Acts (λ (r : HeadRecord). act r VoteTurn) row closed x
    unfolding effect is_tested
    vote_turn_acts m-is led r is fit =
        tested_gives r VoteTurn (led _ (marked 4 m-is r _ is (with_vote_turn r) refl) (vote_phase_fits fit (take_turn r.vote) (fit.sent votes)))
        (fits_heads fit) refl tests

    pub adjust_turn_acts : (row.adjusts.early ≢ 1) → m.0 ≡ with_mark row.marks.0 16 → Acts propose (record row { marks = m }) row' x → Acts (λ (r : HeadRecord). act r (taken_as r AdjustTurn)) row closed x
    unfolding effect is_tested taken_as
    adjust_turn_acts late m-is proposed r is fit =
        unspent r AdjustTurn _ (not_early adjusts r is late)
        (tested_gives r AdjustTurn
        (proposed _ (marked 16 m-is r _ is (with_adjust_turn r r.adjustment) refl) (adjust_phase_fits fit (take_turn r.adjust) r.adjustment (fit.sent adjusts)))
        (fits_heads fit) refl tests)

-- A DELIVERED START

-- a reading in 28 bits, as the row has it
pub reading_written : (x : Reading) → x.0 < 2 ^ 28 → (x.0 + 1) % 2 ^ 32 ≡ reading_plus1 (Some x)
reading_written x b = rw (lt-ltb _ _ b) (omega arith)

adjust_closed_read : (row : HeadRow) (b : Bool) → b ≡ has_mark row.marks.0 32 → (r : HeadRecord) → row ≡ row_of r → b ≡ r.adjust.closed
adjust_closed_read row b b-is r is = b-is ∙ ap (λ (n : ℕ). has_mark n 32) (ap (λ (v : HeadRow). v.marks.0) is) ∙ has_adjust_closed r

module _ (row : HeadRow) (b : Bool) (p : ℕ) (b-is : b ≡ has_mark row.marks.0 32) where
  pub late_start : (x : Sent) → b ≡ true → x ≡ sent_of NoFrame → Acts (λ (r : HeadRecord). act r (StartDelivered p)) row row x
  unfolding effect is_tested
  late_start x t none r is fit =
      let shut = sym (adjust_closed_read row b b-is r is) ∙ t in
      untested_gives r (StartDelivered p)
      (cond_elim (λ (u : Stepped). Gives u row x) r.adjust.closed (λ _. (is, none)) (absurd_bool shut)) (ap not shut)

  module _ (i w : ℕ) (t : b ≡ false) (i-is : i ≡ p % 16) (w-is : w ≡ (row.last + 1) % 2 ^ 32) (small : p < 16) (r : HeadRecord) (is : row ≡ row_of r) (fit : Fits r) where
    abbrev started : HeadRecord
    started = with_sender r p (with_start (kept_of r p) (Some r.last))

    still_open : r.adjust.closed ≡ false
    still_open = sym (adjust_closed_read row b b-is r is) ∙ t

    started_row : record row { start_readings = set row.start_readings i w } ≡ row_of started
    started_row =
        let at : i ≡ p = omega arith in
        let new : w ≡ reading_plus1 (Some r.last) =
        w-is ∙ ap (λ (n : ℕ). (n + 1) % 2 ^ 32) (ap (λ (v : HeadRow). v.last) is) ∙ reading_written r.last fit.last in
        rw (at, new, is) (start_written r p (Some r.last))

    start_taken : (row' : HeadRow) (x : Sent) → Gives (lead started) row' x → Gives (effect r (StartDelivered p)) row' x
    unfolding effect
    start_taken row' x g = cond_elim (λ (u : Stepped). Gives u row' x) r.adjust.closed (λ f. absurd_bool f still_open) (λ _. g)

    is_tested_lem : is_tested r (StartDelivered p) ≡ true
    unfolding is_tested
    is_tested_lem = ap not still_open

    leads : (row' : HeadRow) (x : Sent) → Acts lead (record row { start_readings = set row.start_readings i w }) row' x → Gives (lead started) row' x
    leads row' x led = led started started_row (sender_fits_lem fit p _ (fit.readings p))

    -- it leads, and the test follows
    pub start_led : (row' closed : HeadRow) (x : Sent) → Acts lead (record row { start_readings = set row.start_readings i w }) row' x → Becomes closes row' closed → Gives (act r (StartDelivered p)) closed x
    start_led row' closed x led tests = tested_gives r (StartDelivered p) (start_taken row' x (leads row' x led)) (fits_heads fit) is_tested_lem tests

    -- u is what the marks say: the vote open and no candidate
    module _ (u : Bool) (u-is : u ≡ (not (has_mark row.marks.0 8) && not (has_mark row.marks.0 64))) where
      marks_read : u ≡ (not r.vote.closed && not (is_some r.vote.choice))
      marks_read =
          u-is ∙ ap (λ (m : ℕ). not (has_mark m 8) && not (has_mark m 64)) (ap (λ (v : HeadRow). v.marks.0) started_row)
          ∙ ap₂ (λ (x y : Bool). not x && not y) (has_vote_closed started) (has_candidate started)

      -- then a head that sends nothing has nothing to close, and the test may be left out
      pub start_waits : (row' : HeadRow) (x : Sent) → u ≡ true → x.kind ≡ 0 → Acts lead (record row { start_readings = set row.start_readings i w }) row' x → Gives (act r (StartDelivered p)) row' x
      unfolding lead vote effect
      start_waits row' x y none led =
          let both = sym marks_read ∙ y in
          idle_gives r (StartDelivered p) (start_taken row' x (leads row' x led)) is_tested_lem
          (cond_elim (λ (v : Stepped). closes v.after ≡ v.after) r.adjust.closed (λ f. absurd_bool f still_open)
          (λ _. cond_elim (λ (v : Stepped). Gives v row' x → closes v.after ≡ v.after) (may_lead started)
          (λ _ g. absurd (let e : ◌≡◌ {A = ℕ} 0 5 = sym none ∙ ap (λ (s : Sent). s.kind) g.1 in omega arith))
          (λ _ _. idle started (fits_heads (sender_fits_lem fit p _ (fit.readings p)))
          (not_true (and_left (not r.vote.closed) _ both)) (no_number _ (not_true (and_right (not r.vote.closed) _ both))))
          (leads row' x led)))

      -- otherwise it does not lead
      pub start_decided : (closed : HeadRow) (x : Sent) → u ≡ false → x ≡ sent_of NoFrame → Becomes closes (record row { start_readings = set row.start_readings i w }) closed → Gives (act r (StartDelivered p)) closed x
      unfolding lead may_lead
      start_decided closed x n none tests =
          tested_gives r (StartDelivered p) (start_taken _ x (cond_elim (λ (v : Stepped). Gives v (record row { start_readings = set row.start_readings i w }) x) (may_lead started)
          (λ y. absurd_bool (led_undecided r.vote.turn (not r.vote.closed) (not (is_some r.vote.choice)) _ y) (sym marks_read ∙ n)) (λ _. (started_row, none))))
          (fits_heads fit) is_tested_lem tests
        where
          led_undecided : (a b c d : Bool) → (a && (b && (c && d))) ≡ true → (b && c) ≡ true
          led_undecided true true true d e = refl
          led_undecided true true false d e = e
          led_undecided true false c d e = e
          led_undecided false b c d e = absurd_bool e refl

-- A DELIVERED VOTE OR ADJUST

below_next : (k : ℕ) (last : Option ℕ) → ltb k (number_plus1 last) ≡ not (is_above k last)
below_next k None = le-ltb k 0 (omega arith)
below_next k (Some j) =
    cases (ltb j k) (λ t. rw t (let l = ltb-true j k t in le-ltb k (j + 1) (omega arith)))
    (λ t. rw t (let l = ltb-false j k t in lt-ltb k (j + 1) (omega arith)))

one_more : (c v : ℕ) → ltb (c + 1) (v + 1) ≡ ltb c v
one_more c v =
    cases (ltb c v) (λ t. rw t (let l = ltb-true c v t in lt-ltb (c + 1) (v + 1) (omega arith)))
    (λ t. rw t (let l = ltb-false c v t in le-ltb (c + 1) (v + 1) (omega arith)))

outranks_held : (c : ℕ) (choice : Option ℕ) → c < 16
    → (eqb (number_plus1 choice) 0 || ltb ((c + 1) % 2 ^ 32) (number_plus1 choice)) ≡ outranks c choice
outranks_held c None small = refl
outranks_held c (Some v) small =
    let e : (c + 1) % 2 ^ 32 ≡ c + 1 = omega arith in rw (e, ne_eqb (v + 1) 0 (λ z. absurd (omega arith))) (one_more c v)

-- by the tests that the code makes: h and next are what the row has of the phase's close and of the last serial taken from the sender
module _ (phase : Phase) (last : Option ℕ) (serial : ℕ) {b h : Bool} {next : ℕ} (b-is : b ≡ (h || ltb serial next)) (h-is : h ≡ phase.closed) (next-is : next ≡ number_plus1 last) where
  over : b ≡ is_passed_over phase last serial
  over = b-is ∙ ap₂ (λ y z. y || z) h-is (ap (ltb serial) next-is ∙ below_next serial last)

  module _ (c : ℕ) (r taken : HeadRecord) (adopt : HeadRecord → Stepped) (row : HeadRow) (x : Sent) where
    passes_over : b ≡ true → row ≡ row_of r → x ≡ sent_of NoFrame → Gives (delivered phase last serial c r taken adopt) row x
    unfolding delivered
    passes_over t is none =
        cond_elim (λ (u : Stepped). Gives u row x) (is_passed_over phase last serial) (λ _. (is, none)) (absurd_bool (sym over ∙ t))

    takes : b ≡ false → Gives (cond (outranks c phase.choice) (adopt taken) (silent taken)) row x → Gives (delivered phase last serial c r taken adopt) row x
    unfolding delivered
    takes f g =
        cond_elim (λ (u : Stepped). Gives u row x) (is_passed_over phase last serial) (λ t. absurd_bool t (sym over ∙ f)) (λ _. g)

-- held is what the row has of the choice
module _ (choice : Option ℕ) (c : ℕ) (small : c < 16) {o : Bool} {held : ℕ} (o_is : o ≡ (eqb held 0 || ltb ((c + 1) % 2 ^ 32) held)) (held_is : held ≡ number_plus1 choice)
    (taken : HeadRecord) (adopt : HeadRecord → Stepped) (row : HeadRow) (x : Sent) where
  higher : o ≡ outranks c choice
  higher = o_is ∙ ap (λ (v : ℕ). eqb v 0 || ltb ((c + 1) % 2 ^ 32) v) held_is ∙ outranks_held c choice small

  adopts : o ≡ true → Gives (adopt taken) row x → Gives (cond (outranks c choice) (adopt taken) (silent taken)) row x
  adopts t g = cond_elim (λ (u : Stepped). Gives u row x) (outranks c choice) (λ _. g) (absurd_bool (sym higher ∙ t))

  keeps : o ≡ false → row ≡ row_of taken → x ≡ sent_of NoFrame → Gives (cond (outranks c choice) (adopt taken) (silent taken)) row x
  keeps t is none = cond_elim (λ (u : Stepped). Gives u row x) (outranks c choice) (λ e. absurd_bool e (sym higher ∙ t)) (λ _. (is, none))

-- A VOTE THAT IS TAKEN

-- o and n are what the code has of the rank and the number of c: the head then has the candidate c
then_candidate : (c : ℕ) (choice : Option ℕ) {o : Bool} {n : ℕ} → o ≡ outranks c choice → n ≡ c + 1
    → (o || eqb n (number_plus1 choice)) ≡ same_number (Some c) (candidate_after c choice)
then_candidate c None o_is n_is = rw (o_is, eqb_same c) refl
then_candidate c (Some v) o_is n_is =
    rw (o_is, n_is) (cases (ltb c v) (λ t. rw (t, eqb_same c) refl) (λ t. rw t (same_name (Some c) v)))

module _ (row : HeadRow) (p serial c x q n z w : ℕ) (o k : Bool) (q-is : q ≡ p % 16) (n_is : n ≡ (c + 1) % 2 ^ 32)
    (o_is : o ≡ (eqb (row.votes.choice) 0 || ltb ((c + 1) % 2 ^ 32) (row.votes.choice))) (k-is : k ≡ (o || eqb n (row.votes.choice))) (z-is : z ≡ cond k x 0) (w-is : w ≡ (serial + 1) % 2 ^ 32) where
  abbrev vote_row : HeadRow
  vote_row = record row { vote_readings = set row.vote_readings q z; votes = record row.votes { serials = set row.votes.serials q w; latest = set row.votes.latest q n } }

  module _ (lp : p < 16) (ls : serial < 16) (lc : c < 16) (y : Option Reading) (x-is : x ≡ reading_plus1 y) (ly : reading_or0 y < 2 ^ 28)
      (r : HeadRecord) (is : row ≡ row_of r) (fit : Fits r) where
    abbrev vote_taken : HeadRecord
    vote_taken = with_sender r p (kept_for (candidate_after c r.vote.choice) (keep_vote (kept_of r p) serial c y))

    held_is : row.votes.choice ≡ number_plus1 r.vote.choice
    held_is = ap (λ (v : HeadRow). v.votes.choice) is

    name : n ≡ c + 1
    name = omega arith

    abbrev counts : Bool
    counts = same_number (Some c) (candidate_after c r.vote.choice)

    reading_is : z ≡ reading_plus1 (cond counts y None)
    reading_is =
        z-is ∙ ap₂ (λ (b : Bool) (v : ℕ). cond b v 0) (k-is ∙ ap (λ (v : ℕ). o || eqb n v) held_is ∙ then_candidate c r.vote.choice rank name) x-is ∙ reading_left counts y
      where
        rank : o ≡ outranks c r.vote.choice
        rank = higher r.vote.choice c lc o_is held_is vote_taken (vote c) row (sent_of NoFrame)

    vote_row_is : vote_row ≡ row_of vote_taken
    vote_row_is =
        let voter : q ≡ p = omega arith in
        let new : w ≡ serial + 1 = omega arith in
        rw (is, voter, reading_is, new, name) (taken_vote_written r p (cond counts y None) serial c)

    module _ (s : Sent) where
      pub vote_adopted : (row' : HeadRow) → o ≡ true → (c < 16 → Acts (vote c) vote_row row' s) → Gives (take_vote p serial c y r) row' s
      vote_adopted row' t voted =
          adopts r.vote.choice c lc o_is held_is vote_taken (vote c) row' s t
          (voted lc vote_taken vote_row_is (sender_fits_lem fit p _ (cond_elim (λ (v : Option Reading). reading_or0 v < 2 ^ 28) counts (λ _. ly) (λ _. omega arith))))

      pub vote_kept : o ≡ false → s ≡ sent_of NoFrame → Gives (take_vote p serial c y r) vote_row s
      vote_kept t none = keeps r.vote.choice c lc o_is held_is vote_taken (vote c) vote_row s t vote_row_is none

-- A DELIVERED VOTE
module _ (row : HeadRow) (p serial c x q : ℕ) (b h : Bool) (q-is : q ≡ p % 16) (h-is : h ≡ has_mark row.marks.0 8)
    (b-is : b ≡ (h || ltb serial (get_or row.votes.serials q 0))) (lp : p < 16) (ls : serial < 16) (lc : c < 16) (y : Option Reading)
    (x-is : x ≡ reading_plus1 y) (ly : reading_or0 y < 2 ^ 28) (r : HeadRecord) (is : row ≡ row_of r) (fit : Fits r) where
  vote_closed_read : h ≡ r.vote.closed
  vote_closed_read = h-is ∙ ap (λ (n : ℕ). has_mark n 8) (ap (λ (v : HeadRow). v.marks.0) is) ∙ has_vote_closed r

  voted_next : get_or row.votes.serials q 0 ≡ number_plus1 (kept_of r p).voted
  voted_next = let voter : q ≡ p = omega arith in rw (is, voter) (serial_read r p votes)

  vote_over : b ≡ is_passed_over r.vote (kept_of r p).voted serial
  vote_over = over r.vote (kept_of r p).voted serial b-is vote_closed_read voted_next

  pub vote_passed_over : (s : Sent) → b ≡ true → s ≡ sent_of NoFrame → Gives (act r (VoteDelivered p serial c y)) row s
  unfolding effect is_tested
  vote_passed_over s t none =
      untested_gives r (VoteDelivered p serial c y) (passes_over r.vote (kept_of r p).voted serial b-is vote_closed_read voted_next c r _ (vote c) row s t is none) (ap not (sym vote_over ∙ t))

  pub vote_taken_lem : (row' closed : HeadRow) (s : Sent) → b ≡ false
      → (p < 16 → serial < 16 → c < 16 → (y : Option Reading) → x ≡ reading_plus1 y → reading_or0 y < 2 ^ 28 → Acts (take_vote p serial c y) row row' s)
      → Becomes closes row' closed → Gives (act r (VoteDelivered p serial c y)) closed s
  unfolding effect is_tested
  vote_taken_lem row' closed s f takes-it tests =
      tested_gives r (VoteDelivered p serial c y)
      (takes r.vote (kept_of r p).voted serial b-is vote_closed_read voted_next c r _ (vote c) row' s f (takes-it lp ls lc y x-is ly r is fit))
      (fits_heads fit) (ap not (sym vote_over ∙ f)) tests

-- AN ADJUST THAT IS TAKEN

module _ (row : HeadRow) (p serial a x q w n : ℕ) (q-is : q ≡ p % 16) (w-is : w ≡ (serial + 1) % 2 ^ 32) (n_is : n ≡ (a + 1) % 2 ^ 32) where
  abbrev adjust_row : HeadRow
  adjust_row = record row { adjusts = record row.adjusts { serials = set row.adjusts.serials q w; latest = set row.adjusts.latest q n } }

  module _ (lp : p < 16) (ls : serial < 16) (la : a < 16) (r : HeadRecord) (is : row ≡ row_of r) (fit : Fits r) where
    abbrev adjust_taken : HeadRecord
    adjust_taken = with_sender r p (keep_adjust (kept_of r p) serial a)

    adjust_row_is : adjust_row ≡ row_of adjust_taken
    adjust_row_is =
        let adjuster : q ≡ p = omega arith in
        let new : w ≡ serial + 1 = omega arith in
        let name : n ≡ a + 1 = omega arith in
        rw (is, adjuster, new, name) (taken_adjust_written r p serial a)

    module _ (o : Bool) (o_is : o ≡ (eqb (adjust_row.adjusts.choice) 0 || ltb ((a + 1) % 2 ^ 32) (adjust_row.adjusts.choice))) (s : Sent) where
      pub adjust_adopted : (row' : HeadRow) → o ≡ true → (a < 16 → Acts (adjust a (reading x)) adjust_row row' s) → Gives (take_adjust p serial a (reading x) r) row' s
      adjust_adopted row' t adjusted =
          adopts r.adjust.choice a la o_is (ap (λ (v : HeadRow). v.adjusts.choice) adjust_row_is) adjust_taken (adjust a (reading x)) row' s t
          (adjusted la adjust_taken adjust_row_is (sender_fits_lem fit p _ (fit.readings p)))

      pub adjust_kept : o ≡ false → s ≡ sent_of NoFrame → Gives (take_adjust p serial a (reading x) r) adjust_row s
      adjust_kept t none = keeps r.adjust.choice a la o_is (ap (λ (v : HeadRow). v.adjusts.choice) adjust_row_is) adjust_taken (adjust a (reading x)) adjust_row s t adjust_row_is none

-- A DELIVERED ADJUST
module _ (row : HeadRow) (p serial a x q : ℕ) (b h : Bool) (q-is : q ≡ p % 16) (h-is : h ≡ has_mark row.marks.0 32)
    (b-is : b ≡ (h || ltb serial (get_or row.adjusts.serials q 0))) (lp : p < 16) (ls : serial < 16) (la : a < 16)
    (r : HeadRecord) (is : row ≡ row_of r) (fit : Fits r) where
  adjusted_next : get_or row.adjusts.serials q 0 ≡ number_plus1 (kept_of r p).adjusted
  adjusted_next = let adjuster : q ≡ p = omega arith in rw (is, adjuster) (serial_read r p adjusts)

  adjust_over : b ≡ is_passed_over r.adjust (kept_of r p).adjusted serial
  adjust_over = over r.adjust (kept_of r p).adjusted serial b-is (adjust_closed_read row h h-is r is) adjusted_next

  pub adjust_passed_over : (s : Sent) → b ≡ true → s ≡ sent_of NoFrame → Gives (act r (AdjustDelivered p serial a (reading x))) row s
  unfolding effect is_tested
  adjust_passed_over s t none =
      untested_gives r (AdjustDelivered p serial a (reading x))
      (passes_over r.adjust (kept_of r p).adjusted serial b-is (adjust_closed_read row h h-is r is) adjusted_next a r _ (adjust a (reading x)) row s t is none) (ap not (sym adjust_over ∙ t))

  pub adjust_taken_lem : (row' closed : HeadRow) (s : Sent) → b ≡ false → (p < 16 → serial < 16 → a < 16 → Acts (take_adjust p serial a (reading x)) row row' s)
      → Becomes closes row' closed → Gives (act r (AdjustDelivered p serial a (reading x))) closed s
  unfolding effect is_tested
  adjust_taken_lem row' closed s f takes-it tests =
      tested_gives r (AdjustDelivered p serial a (reading x))
      (takes r.adjust (kept_of r p).adjusted serial b-is (adjust_closed_read row h h-is r is) adjusted_next a r _ (adjust a (reading x)) row' s f (takes-it lp ls la r is fit))
      (fits_heads fit) (ap not (sym adjust_over ∙ f)) tests
