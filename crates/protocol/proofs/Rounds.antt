-- A round: an accepted sheet that keeps all eight premises. If no head closes a phase early: what the premises say at the
-- first correct close of the phase, and that nothing changes a correct head's choice from then on. If a head does, the
-- lemma of document 02 No. 4 says that all heads have its choice. All of it is said once, over the phase.
-- Main results: `first_close`, `reaches`, `same_choice`, `agreed`.
use Rattle.std.specs.Prelude.{Some}
use mathlib.Core.Path.{◌≡◌, refl, sym, ◌∙◌, ap}
use mathlib.Core.Bool.{Bool, true, false, not, ◌&&◌, ◌||◌}
use mathlib.Core.List.{List, [], ◌∷◌}
use Prim.Native.Nat.{ℕ, suc, ◌-◌, ◌<◌}
use native.Mathlib.Omega.{arith}
use lib.Dec.{ltb, eqb}
use borrow.Author.Tests.{eqb-true, eqb-false, eq-eqb, ne_eqb, leb-true, ltb-true, lt-ltb}
use Rattle.protocol.specs.Base.{◌⇒◌, any, all, count_below}
use Rattle.protocol.specs.Types.{Setting, Kept}
use Rattle.protocol.specs.Words.{is_correct}
use Rattle.protocol.specs.Run.{Event, History, record_of}
use Rattle.protocol.specs.Premises.{takes, took, received, before, correct_all, correct_takes, correct_closes, premise1, premise2, premise3, premise4, premise5, premise6, premise7, premise8, premises, frames_reached, votes_reached, adjusts_reached, none_between, first_broken, is_early}
use Rattle.protocol.specs.Claim.{CorrectHead}
use Rattle.protocol.proofs.Tests.{absurd_bool, cases, and_left, and_right, and_both, or_first, or_second, or_cases, implied, not_true, eqb_same, all_below_lem, count_some, some_count}
use Rattle.protocol.proofs.Moments.{Earlier, now, later, earlier_trans, earlier_past, any_grows, First, first_of, find_after, each_at}
use Rattle.protocol.proofs.Effects.{Kind, votes, adjusts, delivery, closing, none_is_some, same_number_lem}
use Rattle.protocol.proofs.Valid.{Valid, valid_past, valid_taken, valid_earlier, Taken, Sheet, by_head, closed_took}
use Rattle.protocol.proofs.Phases.{held, sent, is_over, held_other, early_later, is_close_lem, took_close, Origin, own, reached, Turn, sends_none, sends_one, SendsOne, turn, agree}
use Rattle.protocol.proofs.Spoken.{all_hold, early_unanimous}

pub record Round (g : Setting) (h : History) : Type 0 where
  pub sheet : Sheet g h
  pub p1 : premise1 g ≡ true
  pub p2 : premise2 g h ≡ true
  pub p3 : premise3 g h ≡ true
  pub p4 : premise4 g h ≡ true
  pub p5 : premise5 g h ≡ true
  pub p6 : premise6 g h ≡ true
  pub p7 : premise7 g h ≡ true
  pub p8 : premise8 g h ≡ true

none_broken : (i : ℕ) (l : List Bool) → first_broken i l ≡ Kept → all (λ b. b) l ≡ true
unfolding first_broken
none_broken i [] e = refl
none_broken i (true ∷ l) e = none_broken (suc i) l e
none_broken i (false ∷ l) e = absurd (let z : ◌≡◌ {A = ℕ} 0 1 = cc in omega arith)

pub kept_round : (g : Setting) (h : History) → Sheet g h → first_broken 1 (premises g h) ≡ Kept → Round g h
kept_round g h a e =
    let e1 = none_broken 1 (premises g h) e in
    let e2 = and_right (premise1 g) _ e1 in
    let e3 = and_right (premise2 g h) _ e2 in
    let e4 = and_right (premise3 g h) _ e3 in
    let e5 = and_right (premise4 g h) _ e4 in
    let e6 = and_right (premise5 g h) _ e5 in
    let e7 = and_right (premise6 g h) _ e6 in
    let e8 = and_right (premise7 g h) _ e7 in
    record {
      sheet = a;
      p1 = and_left (premise1 g) _ e1;
      p2 = and_left (premise2 g h) _ e2;
      p3 = and_left (premise3 g h) _ e3;
      p4 = and_left (premise4 g h) _ e4;
      p5 = and_left (premise5 g h) _ e5;
      p6 = and_left (premise6 g h) _ e6;
      p7 = and_left (premise7 g h) _ e7;
      p8 = and_left (premise8 g h) _ e8;
    }

module _ {g : Setting} where
  pub correct_at : (p : ℕ → Bool) → correct_all g p ≡ true → {q : ℕ} → CorrectHead g q → p q ≡ true
  correct_at p e {q} c = implied (is_correct g q) (p q) (all_below_lem g.n (λ q. is_correct g q ⇒ p q) e q c.is_head) c.marked_correct

-- no delivery is a close
apart : (k : Kind) (a : ℕ) → a ≡ delivery k → a ≡ closing k → ⊥
apart votes a d c = omega arith
apart adjusts a d c = omega arith

module _ {g : Setting} {h : History} (r : Round g h) where
  -- at least f + 1 heads are correct
  pub correct_heads : g.f < count_below g.n (is_correct g)
  unfolding premise1
  correct_heads = let le = leb-true (g.n - g.f) (count_below g.n (is_correct g)) r.p1 in let few = r.sheet.few_faulty in omega arith

  pub some_correct : (q : ℕ) × CorrectHead g q
  some_correct =
      let lt = correct_heads in
      let x = count_some g.n (is_correct g) (omega arith) in
      (x.0, record { is_head = x.1; marked_correct = x.2 })

  -- premise 4
  pub closes : (k : Kind) {q : ℕ} → CorrectHead g q → (took (closing k) q h || is_early g k h q) ≡ true
  unfolding premise4
  closes k {q} c = go k
    where
      taken : ((took 6 q h || (record_of g h q).vote.early) && ((took 7 q h && took 9 q h) || (record_of g h q).adjust.early)) ≡ true
      taken = correct_at (λ q. (took 6 q h || (record_of g h q).vote.early) && ((took 7 q h && took 9 q h) || (record_of g h q).adjust.early)) r.p4 c

      go : (k : Kind) → (took (closing k) q h || is_early g k h q) ≡ true
      go votes = and_left (took 6 q h || (record_of g h q).vote.early) _ taken
      go adjusts =
          or_cases (took 7 q h && took 9 q h) (record_of g h q).adjust.early (and_right (took 6 q h || (record_of g h q).vote.early) _ taken)
          (λ u. or_first (took 9 q h) _ (and_right (took 7 q h) _ u)) (λ u. or_second (took 9 q h) _ u)

  pub ends_closed : (k : Kind) {q : ℕ} → CorrectHead g q → is_over g k h q ≡ true
  ends_closed k {q} c = closed_took g k r.sheet.valid q ∙ closes k c

module _ {g : Setting} {h : History} (r : Round g h) (k : Kind) where
  -- a correct close by entry, at a head still open
  abbrev pub is_close : Event → Bool
  is_close = correct_closes g k

  -- the moment before the first of them
  abbrev pub moment : History
  moment = before is_close h

  -- no head closes the phase early
  abbrev pub Late : Type 0
  Late = (q : ℕ) → q < g.n → is_early g k h q ≡ false

-- THE PHASE IS CLOSED BY ENTRIES ALONE
module _ {g : Setting} {h : History} (r : Round g h) (k : Kind) (late : Late r k) where
  pub never_early : {s : History} → Earlier s h → (q : ℕ) → q < g.n → is_early g k s q ≡ false
  never_early {s} x q l = cases (is_early g k s q) (λ u. absurd_bool (early_later g k x r.sheet.valid q u) (late q l)) (λ u. u)

  -- so a close that a correct head has taken is one
  took_it : {s : History} {q : ℕ} → Earlier s h → CorrectHead g q → took (closing k) q s ≡ true → any (is_close r k) s ≡ true
  took_it {q = q} x c = took_close g k (valid_earlier x r.sheet.valid) q c.marked_correct (never_early x q c.is_head)

  takes_close : {q : ℕ} → CorrectHead g q → took (closing k) q h ≡ true
  takes_close {q} c = or_cases (took (closing k) q h) (is_early g k h q) (closes r k c) (λ u. u) (λ u. absurd_bool u (late q c.is_head))

  pub has_close : any (is_close r k) h ≡ true
  has_close = let x = some_correct r in took_it now x.1 (takes_close x.1)

  pub first_close : First (is_close r k) h
  first_close = first_of (is_close r k) h has_close

  pub moment_earlier : Earlier (moment r k) h
  moment_earlier = earlier_past first_close.there

  pub valid_moment : Valid g (moment r k)
  valid_moment = valid_earlier moment_earlier r.sheet.valid

  -- until then no correct head has closed
  none_closed : {s : History} → Earlier s (moment r k) → {q : ℕ} → CorrectHead g q → took (closing k) q s ≡ false
  none_closed {s} x {q} c =
      cases (took (closing k) q s) (λ t. absurd_bool (any_grows (is_close r k) x (took_it (earlier_trans x moment_earlier) c t)) first_close.none_before) (λ t. t)

  pub still_open : {s : History} → Earlier s (moment r k) → {q : ℕ} → CorrectHead g q → is_over g k s q ≡ false
  still_open {s} x {q} c =
      closed_took g k (valid_earlier x valid_moment) q ∙ rw (none_closed x c) (never_early (earlier_trans x moment_earlier) q c.is_head)

  -- premises 5 and 7: by then every frame of a correct head reached the other correct heads
  reached_at : (s : History) (p : ℕ) → frames_reached g (delivery k) (sent g k s p) s p ≡ true → (j : ℕ) → j < sent g k s p
      → {q : ℕ} → CorrectHead g q → eqb q p ≡ false → received (delivery k) p j q s ≡ true
  unfolding frames_reached
  reached_at s p e j l {q} c d =
      implied (not (eqb q p)) _ (correct_at (λ q. not (eqb q p) ⇒ received (delivery k) p j q s)
      (all_below_lem (sent g k s p) (λ j. correct_all g (λ q. not (eqb q p) ⇒ received (delivery k) p j q s)) e j l) c) (rw d refl)

-- premises 5 and 7 at their moments
module _ {g : Setting} {h : History} (r : Round g h) where
  pub votes_reached_lem : Late r votes → {q : ℕ} → CorrectHead g q
      → ((took 5 q (moment r votes) || (took 1 q (moment r votes) && (took 3 q (moment r votes) && took 4 q (moment r votes)))) ≡ true)
      × ((took 1 q (moment r votes) ⇒ correct_all g (λ p. received 2 q 0 p (moment r votes))) ≡ true)
      × (frames_reached g 5 (sent g votes (moment r votes) q) (moment r votes) q ≡ true)
  unfolding premise5 votes_reached
  votes_reached_lem late {q} c =
      let s = moment r votes in
      let e = correct_at (λ p. (took 5 p s || (took 1 p s && (took 3 p s && took 4 p s))) && ((took 1 p s ⇒ correct_all g (λ q. received 2 p 0 q s)) && frames_reached g 5 (record_of g s p).vote.sent s p))
      (implied (any (correct_closes g votes) h) _ r.p5 (has_close r votes late)) c in
      let e2 = and_right (took 5 q s || (took 1 q s && (took 3 q s && took 4 q s))) _ e in (
        and_left (took 5 q s || (took 1 q s && (took 3 q s && took 4 q s))) _ e,
        and_left (took 1 q s ⇒ correct_all g (λ p. received 2 q 0 p s)) _ e2,
        and_right (took 1 q s ⇒ correct_all g (λ p. received 2 q 0 p s)) _ e2,
      )

  pub adjusts_reached_lem : Late r adjusts → {q : ℕ} → CorrectHead g q → (took 7 q (moment r adjusts) ≡ true) × (frames_reached g 8 (sent g adjusts (moment r adjusts) q) (moment r adjusts) q ≡ true)
  unfolding premise7 adjusts_reached
  adjusts_reached_lem late {q} c =
      let s = moment r adjusts in
      let e = correct_at (λ p. (took 7 p s || (record_of g s p).adjust.early) && frames_reached g 8 (record_of g s p).adjust.sent s p) (implied (any (correct_closes g adjusts) h) _ r.p7 (has_close r adjusts late)) c in (
        or_cases (took 7 q s) (record_of g s q).adjust.early (and_left (took 7 q s || (record_of g s q).adjust.early) _ e) (λ u. u)
            (λ u. absurd_bool u (never_early r adjusts late (moment_earlier r adjusts late) q c.is_head)),
        and_right (took 7 q s || (record_of g s q).adjust.early) _ e,
      )

  all_reached : (k : Kind) → Late r k → {p : ℕ} → CorrectHead g p → frames_reached g (delivery k) (sent g k (moment r k) p) (moment r k) p ≡ true
  all_reached votes late c = (votes_reached_lem late c).2
  all_reached adjusts late c = (adjusts_reached_lem late c).1

module _ {g : Setting} {h : History} (r : Round g h) (k : Kind) (late : Late r k) where
  pub reaches : {p q : ℕ} → CorrectHead g p → CorrectHead g q → eqb q p ≡ false → (j : ℕ) → j < sent g k (moment r k) p → received (delivery k) p j q (moment r k) ≡ true
  reaches {p} cp cq d j l = reached_at r k late (moment r k) p (all_reached r k late cp) j l cq d

  -- (b) two correct heads that have a choice then have the same
  pub same_choice : {p q : ℕ} → CorrectHead g p → CorrectHead g q → (c w : ℕ) → held g k (moment r k) p ≡ Some c → held g k (moment r k) q ≡ Some w → c ≡ w
  same_choice {p} {q} cp cq c w hp hq =
      cases (eqb p q) (λ t. same_number_lem (sym hp ∙ ap (held g k (moment r k)) (eqb-true p q t) ∙ hq))
      (λ d. agree g k r.sheet.at_most_16 (valid_moment r k late) p q c w hp hq
      (reaches cp cq (ne_eqb q p (λ e. eqb-false p q d (sym e)))) (reaches cq cp d) (still_open r k late now cp) (still_open r k late now cq))

  -- premises 6 and 8: a frame that reaches a correct head after the first correct close finds it closed
  none_between_lem : none_between g k h ≡ true
  unfolding premise6 premise8
  none_between_lem = go k
    where
      go : (k : Kind) → none_between g k h ≡ true
      go votes = r.p6
      go adjusts = r.p8

  finds_closed : {s : History} (e : Event) → Earlier (e ∷ s) h → any (is_close r k) s ≡ true → CorrectHead g e.entry.head → e.entry.action ≡ delivery k → is_over g k s e.entry.head ≡ true
  unfolding none_between
  finds_closed {s} e x begun c a =
      closed_took g k (valid_earlier (earlier_past x) r.sheet.valid) e.entry.head
      ∙ cases (took (closing k) e.entry.head s) (λ u. or_first (took (closing k) e.entry.head s) _ u)
      (λ u. let open-yet : took (closing k) e.entry.head (e ∷ s) ≡ false = rw (eqb_same e.entry.head, ne_eqb e.entry.action (closing k) (apart k e.entry.action a)) u in
      let b = find_after (takes (closing k) e.entry.head) x (takes_close r k late c) open-yet in
      let closing-it = is_close_lem g k b.event b.past e.entry.head c.marked_correct b.holds (never_early r k late b.there e.entry.head c.is_head) in
      let inner = implied (is_close r k b.event) _ (each_at _ none_between_lem b.there) closing-it in
      let here = implied (correct_takes g (delivery k) e) _ (each_at _ inner b.since) (and_both c.marked_correct (eq-eqb _ _ a)) in
      absurd_bool begun (not_true here))

  -- (c) A CHOICE THAT EVERY CORRECT HEAD HAS AT THE FIRST CLOSE STAYS
  module _ (has : (q : ℕ) → CorrectHead g q → (c : ℕ) × (held g k (moment r k) q ≡ Some c)) where
    chosen : ℕ
    chosen = (has (some_correct r).0 (some_correct r).1).0

    Settled : History → Type 0
    Settled s = (q : ℕ) → CorrectHead g q → held g k s q ≡ Some chosen

    settled_first : Settled (moment r k)
    unfolding Settled chosen
    settled_first q c =
        let x = has q c in
        let y = some_correct r in
        x.1 ∙ ap (λ (z : ℕ). Some z) (same_choice c y.1 x.0 _ x.1 (has y.0 y.1).1)

    settled_step : {s : History} {e : Event} → Settled s → Taken g s e → Valid g s → (CorrectHead g e.entry.head → e.entry.action ≡ delivery k → is_over g k s e.entry.head ≡ true)
        → Settled (e ∷ s)
    unfolding Settled
    settled_step {s} {e} z t v finds q =
        by_head (λ q. CorrectHead g q → held g k (e ∷ s) q ≡ Some chosen) e q (λ c. go c (turn g k t v))
        (λ d c. held_other g k e s q d ∙ z q c)
      where
        silent : (x : SendsOne g k s e) → CorrectHead g e.entry.head → Origin g k s e x.choice → ⊥
        silent x c (own is none tu) = none_is_some (sym none ∙ z e.entry.head c)
        silent x c (reached a n) = absurd_bool (finds c a) x.was_open

        go : CorrectHead g e.entry.head → Turn g k s e → held g k (e ∷ s) e.entry.head ≡ Some chosen
        go c (sends_none x) = x.held_same ∙ z e.entry.head c
        go c (sends_one x) = absurd (silent x c x.origin)

    settled_after : (b : Event) {s : History} → is_close r k b ≡ true → Earlier (b ∷ moment r k) s → Earlier s h → Settled s
    settled_after b close now x =
        let v = valid_earlier x r.sheet.valid in
        settled_step settled_first (valid_taken v) (valid_past v)
        (λ c a. absurd (apart k _ a (eqb-true _ _ (and_right (is_correct g b.entry.head) _ (and_left (correct_takes g (closing k) b) _ close)))))
    settled_after b close (later {e = e} y) x =
        let v = valid_earlier x r.sheet.valid in
        settled_step (settled_after b close y (earlier_past x)) (valid_taken v) (valid_past v)
        (finds_closed e x (any_grows (is_close r k) y (or_first (is_close r k b) _ close)))

    -- so all end with it
    settled_end : Settled h
    settled_end = let f = first_close r k late in settled_after f.event f.holds f.there now

-- ALL CORRECT HEADS END WITH THE SAME CHOICE

pub record Agreed (g : Setting) (h : History) (k : Kind) : Type 0 where
  pub choice : ℕ
  pub holds : {q : ℕ} → CorrectHead g q → held g k h q ≡ Some choice

module _ {g : Setting} {h : History} (r : Round g h) (k : Kind) where
  -- if a head has closed early, by the lemma; else by the closes, at the first of which every correct head has one
  pub agreed : ((late : Late r k) (q : ℕ) → CorrectHead g q → (c : ℕ) × (held g k (moment r k) q ≡ Some c)) → Agreed g h k
  unfolding Settled
  agreed has =
      cases (ltb 0 (count_below g.n (is_early g k h)))
      (λ t. let e = count_some g.n (is_early g k h) (ltb-true 0 _ t) in
      let u = early_unanimous g k r.sheet.at_most_16 r.sheet.valid e.0 e.2 in
      record { choice = u.0; holds = λ {q} c. all_hold g k r.sheet.valid u.1 q c.is_head })
      (λ t. let late : Late r k = λ q l. cases (is_early g k h q) (λ u. absurd_bool (lt-ltb 0 _ (some_count g.n (is_early g k h) q l u)) t) (λ u. u) in
      record { choice = chosen r k late (has late); holds = λ {q} c. settled_end r k late (has late) q c })
