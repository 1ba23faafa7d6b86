-- THE THIRD POINT: a sheet of any words that is accepted and keeps all eight premises ends with every correct head having a
-- clock, all with the same candidate, adjuster and adjustment, and the bound on the distance of corrected clocks.
-- Main result: `third_point`, of the records; of the result words see ResultWords.antt.
use Rattle.std.specs.Prelude.{Option, Some, unwrap_or}
use mathlib.Core.Path.{◌≡◌, refl, sym, ◌∙◌, ap, subst}
use mathlib.Core.Bool.{true, false}
use mathlib.Core.List.{List, ◌∷◌}
use Prim.Native.Nat.{ℕ, ◌+◌, ◌-◌, ◌*◌, ◌≤◌}
use native.Mathlib.Omega.{arith}
use lib.Dec.{eqb}
use lib.IntN.{pos, sub_ℕ, ◌+ℤ◌}
use borrow.Author.Tests.{eqb-true, leb-true}
use Rattle.protocol.specs.Base.{distance}
use Rattle.protocol.specs.Types.{Reading, Setting, Kept}
use Rattle.protocol.specs.Words.{setting_at}
use Rattle.protocol.specs.Record.{reading_or0, chosen_start, outcome, correction}
use Rattle.protocol.specs.Run.{Event, History, record_of, ran, run_sheet}
use Rattle.protocol.specs.Premises.{takes, receives, took, is_steady, last_start, premises, first_broken, judge}
use Rattle.protocol.specs.Claim.{CorrectHead, ending_of, LookedAt, shown, apart, since_start, bound_on_d, Agreement, ThirdPoint}
use Rattle.protocol.proofs.Tests.{absurd_bool, cases, and_left, and_right, or_first}
use Rattle.protocol.proofs.Moments.{Earlier, now, earlier_trans, earlier_past, earlier_append, later_event}
use Rattle.protocol.proofs.Effects.{votes, adjusts}
use Rattle.protocol.proofs.Valid.{valid_earlier, accepted_sheet}
use Rattle.protocol.proofs.Phases.{held, ChosenAt, chosen_at, over_later}
use Rattle.protocol.proofs.Starts.{StartAt, candidate_confirmed}
use Rattle.protocol.proofs.Rounds.{Round, kept_round, ends_closed}
use Rattle.protocol.proofs.Adjustments.{one_adjustment}
use Rattle.protocol.proofs.Agreement.{adjust_later, candidate_agreed, Confirmation, confirmation, start_known, adjuster_agreed}
use Rattle.protocol.proofs.Precision.{apart_distance, triangle, steady, start_stays}

module _ {g : Setting} {h : History} (r : Round g h) where
  -- the candidate and the adjuster of the round
  candidate : ℕ
  candidate = (candidate_agreed r).choice

  adjuster : ℕ
  adjuster = (adjuster_agreed r).choice

  -- whoever has the candidate knows that it confirmed its start
  confirmed : {s : History} → Earlier s h → (q : ℕ) → held g votes s q ≡ Some candidate → took 3 candidate s ≡ true
  confirmed x q u = candidate_confirmed g r.sheet.at_most_16 r.sheet.heads_fit_test (valid_earlier x r.sheet.valid) q candidate u

  -- what a correct head ends with; `vote` is its vote for the candidate, `start` the delivery of its chosen start
  record Ends (q : ℕ) : Type 0 where
    candidate_is : (record_of g h q).vote.choice ≡ Some candidate
    adjuster_is : (record_of g h q).adjust.choice ≡ Some adjuster
    closed : (record_of g h q).adjust.closed ≡ true
    vote : ChosenAt g votes h q candidate
    start : StartAt g (vote.event ∷ vote.past) q candidate
    reading_is : chosen_start (record_of g h q) ≡ Some start.event.entry.reading
    time_is : last_start h candidate q ≡ start.event.entry.time.0

  ends : {q : ℕ} → CorrectHead g q → Ends q
  unfolding candidate adjuster chosen_start
  ends {q} c =
      let chose = (candidate_agreed r).holds c in
      let w = chosen_at g votes r.sheet.valid q candidate chose in
      let known = confirmed w.there q w.holds in
      let x = start_known r w.there candidate c known w.was_open in
      let stays = start_stays r candidate q w.there now known c in
      record {
        candidate_is = chose;
        adjuster_is = (adjuster_agreed r).holds c;
        closed = ends_closed r adjusts c;
        vote = w;
        start = x;
        reading_is = rw chose (stays.0 ∙ x.reading_is);
        time_is = stays.1 ∙ x.time_is;
      }

  has_clock : {q : ℕ} → CorrectHead g q → outcome (record_of g h q) ≡ 2
  unfolding outcome
  has_clock c = let e = ends c in rw (e.reading_is, e.adjuster_is, e.closed) refl

  same_adjustment : {p q : ℕ} → CorrectHead g p → CorrectHead g q → (record_of g h p).adjustment ≡ (record_of g h q).adjustment
  same_adjustment {p} {q} cp cq = one_adjustment g r.sheet.valid p q adjuster (ends cp).adjuster_is (ends cq).adjuster_is

  -- a look comes after the chosen start, and is steady against it
  steady_look : {q : ℕ} {e : Event} (c : CorrectHead g q) → LookedAt g h q e → is_steady g.drift (ends c).start.event.entry e.entry ≡ true
  steady_look {q} {e} c k =
      let x : Earlier (e ∷ k.earlier) h = earlier_append k.later k.in_history in
      let w = (ends c).vote in
      let b = (ends c).start in
      let v = valid_earlier (earlier_past w.there) r.sheet.valid in
      let open-then = adjust_later r v q c.is_head w.was_open in
      let since = later_event w.there (earlier_past x) (λ y. absurd_bool (over_later g adjusts y v q k.closed) open-then) in
      steady r x (earlier_trans b.there since) c k.at_head (eqb-true _ q (and_left (eqb b.event.entry.head q) _ (and_left (takes 2 q b.event) _ b.is_start)))

  -- the last deliveries before the confirmation are the last ones
  before_confirm : (k : Confirmation r candidate h) (q : ℕ) → CorrectHead g q → last_start h candidate q ≡ last_start k.past candidate q
  unfolding last_start
  before_confirm k q c =
      let three : k.event.entry.action ≡ 3 = eqb-true _ 3 (and_right (eqb k.event.entry.head candidate) _ k.confirms) in
      let no_start : receives 2 candidate 0 q k.event ≡ false = cases (receives 2 candidate 0 q k.event)
      (λ u. absurd (let two : k.event.entry.action ≡ 2 = eqb-true _ 2 (and_right (eqb k.event.entry.head q) _ (and_left (takes 2 q k.event) _ u)) in omega arith)) (λ u. u) in
      (start_stays r candidate q k.there now (or_first (takes 3 candidate k.event) _ k.confirms) c).1 ∙ rw no_start refl

  -- the two last deliveries of the chosen start lie within the tightness
  near_starts : {p q : ℕ} (cp : CorrectHead g p) (cq : CorrectHead g q) → distance (ends cp).start.event.entry.time.0 (ends cq).start.event.entry.time.0 ≤ g.tightness
  near_starts {p} {q} cp cq =
      let k = confirmation r candidate now (confirmed now p (ends cp).candidate_is) in
      let at : (q : ℕ) → CorrectHead g q → last_start h candidate q ≡ last_start k.past candidate q = λ q c. before_confirm k q c in
      subst (λ (x : ℕ). distance x (ends cq).start.event.entry.time.0 ≤ g.tightness) (sym (at p cp) ∙ (ends cp).time_is)
      (subst (λ (x : ℕ). distance (last_start k.past candidate p) x ≤ g.tightness) (sym (at q cq) ∙ (ends cq).time_is) (k.near cp cq))

  clocks_together : {p q : ℕ} {d e : Event} → CorrectHead g p → CorrectHead g q → LookedAt g h p d → LookedAt g h q e → d.entry.time.0 ≡ e.entry.time.0
      → 1000000 * apart (shown d (ending_of (record_of g h p))) (shown e (ending_of (record_of g h q)))
      ≤ bound_on_d g (since_start h p (ending_of (record_of g h p)) d) (since_start h q (ending_of (record_of g h q)) e)
  unfolding ending_of correction
  clocks_together {p} {q} {d} {e} cp cq kp kq same =
      subst (λ (x : Option Reading). Within x (chosen_start (record_of g h q)) (record_of g h q).adjustment (received p) (received q)) (sym P.reading_is)
      (subst (λ (y : Option Reading). Within (Some a) y (record_of g h q).adjustment (received p) (received q)) (sym Q.reading_is)
      (subst (λ (z : Reading). Within (Some a) (Some b) z (received p) (received q)) (same_adjustment cp cq)
      (subst (λ (s : ℕ). Within (Some a) (Some b) (record_of g h p).adjustment s (received q)) (sym (rw P.candidate_is P.time_is))
      (subst (λ (t : ℕ). Within (Some a) (Some b) (record_of g h p).adjustment P.start.event.entry.time.0 t) (sym (rw Q.candidate_is Q.time_is)) at_starts))))
    where
      P : Ends p
      P = ends cp

      Q : Ends q
      Q = ends cq

      a : Reading
      a = P.start.event.entry.reading

      b : Reading
      b = Q.start.event.entry.reading

      received : ℕ → ℕ
      received q = last_start h (unwrap_or (record_of g h q).vote.choice 0) q

      Within : Option Reading → Option Reading → Reading → ℕ → ℕ → Type 0
      Within x y z s t =
          1000000 * apart (pos d.entry.reading.0 +ℤ sub_ℕ (record_of g h p).adjustment.0 (reading_or0 x)) (pos e.entry.reading.0 +ℤ sub_ℕ z.0 (reading_or0 y))
          ≤ bound_on_d g (d.entry.time.0 - s) (e.entry.time.0 - t)

      over : (k x y m n : ℕ) → m ≤ n + (k * x + k * y) → m ≤ n + k * (x + y)
      over k x y m n h = omega arith

      at_starts : Within (Some a) (Some b) (record_of g h p).adjustment P.start.event.entry.time.0 Q.start.event.entry.time.0
      at_starts =
          let close = triangle d.entry.reading.0 P.start.event.entry.time.0 a.0 e.entry.reading.0 Q.start.event.entry.time.0 b.0 d.entry.time.0
          (g.drift * (d.entry.time.0 - P.start.event.entry.time.0)) (g.drift * (e.entry.time.0 - Q.start.event.entry.time.0)) g.tightness (record_of g h p).adjustment.0
          (leb-true _ _ (steady_look cp kp))
          (subst (λ (z : ℕ). 1000000 * distance (e.entry.reading.0 + Q.start.event.entry.time.0) (b.0 + z) ≤ g.drift * (e.entry.time.0 - Q.start.event.entry.time.0) + 1000000)
          (sym same) (leb-true _ _ (steady_look cq kq))) (near_starts cp cq) in
          subst (λ (x : ℕ). 1000000 * x ≤ bound_on_d g (d.entry.time.0 - P.start.event.entry.time.0) (e.entry.time.0 - Q.start.event.entry.time.0))
          (sym (apart_distance d.entry.reading.0 (record_of g h p).adjustment.0 a.0 e.entry.reading.0 (record_of g h p).adjustment.0 b.0))
          (over g.drift _ _ _ _ close)

  pub agreement : Agreement g h (λ q. ending_of (record_of g h q))
  unfolding ending_of
  agreement = record {
    has_clock = has_clock;
    same_candidate = λ cp cq. ap (λ m. unwrap_or m 0) ((ends cp).candidate_is ∙ sym (ends cq).candidate_is);
    same_adjuster = λ cp cq. ap (λ m. unwrap_or m 0) ((ends cp).adjuster_is ∙ sym (ends cq).adjuster_is);
    same_adjustment = λ cp cq. ap (λ (x : Reading). x.0) (same_adjustment cp cq);
    clocks_together = clocks_together;
  }

-- the judge's answer is about the run's history
kept_run : (ws : List ℕ) (h : History) → run_sheet ws ≡ ran h → judge ws ≡ Kept → first_broken 1 (premises (setting_at ws) h) ≡ Kept
unfolding judge
kept_run ws h e k = rw e at k

pub third_point : (ws : List ℕ) → ThirdPoint ws
third_point ws k h e = agreement (kept_round (setting_at ws) h (accepted_sheet ws h e) (kept_run ws h e k))
