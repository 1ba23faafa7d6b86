-- What the premises ask of a drafted round's entries, whatever the run makes of them: premises 1 to 4, 6 and 8, and of 5 and 7 all but
-- how many frames were sent.
-- Main results: `each_entry`, `premise_1` to `premise_4`, `premise_6`, `premise_8`, `votes_reached_lem`, `adjusts_reached_lem`.
use mathlib.Core.Path.{◌≡◌, refl, sym, ◌∙◌, ap, subst}
use mathlib.Core.Bool.{Bool, true, false, cond, not, ◌&&◌, ◌||◌}
use mathlib.Core.List.{[], ◌∷◌}
use Prim.Native.Nat.{ℕ, zero, suc, ◌+◌, ◌-◌, ◌*◌, ◌/◌, ◌%◌, ◌^◌, ◌≤◌, ◌<◌}
use native.Mathlib.Nat.{not-suc-le-zero, one-le-pow, two-pow-succ, pow-succ', div-div-eq-div-mul}
use native.Mathlib.Omega.{arith}
use lib.Dec.{leb, eqb}
use borrow.Author.Tests.{le-leb, eqb-true, eqb-false, eq-eqb}
use Rattle.protocol.specs.Base.{◌⇒◌, any, all, count_below, distance}
use Rattle.protocol.specs.Types.{Setting, Entry}
use Rattle.protocol.specs.Words.{is_correct, has_sender}
use Rattle.protocol.specs.declared.Kind.{Kind}
use Rattle.protocol.specs.Record.{votes, adjusts}
use Rattle.protocol.specs.Run.{Event, History, record_of}
use Rattle.protocol.specs.Premises.{turning, delivery, closing, takes, receives, took, received, each, last_start, is_steady, correct_all, correct_takes, correct_closes, is_early}
use Rattle.protocol.specs.Premises.{premise1, premise2, start_within, premise3, premise4, frames_reached, votes_reached, none_between, premise6, adjusts_reached, premise8}
use Rattle.protocol.specs.Draft.{draft_entry, draft_entries, draft_setting, slot_time}
use Rattle.protocol.proofs.Tests.{absurd_bool, cases, and_left, and_right, and_both, or_first, or_second, not_true, implies, not_is_true, below_all, count_all, In, first, next}
use Rattle.protocol.proofs.Phases.{sent}
use Rattle.protocol.proofs.DraftOrder.{above_0, opens, At, starts, start_heard, confirms, leads, first_heard, turns, heard, closes, earliest, earliest_close, facts}
use Rattle.protocol.proofs.DraftPast.{event_of, history_after, Until, Before, limit_at, limit_low, by_entry, until_end, took_it, absent, not_yet}

-- TESTS AT EVERY EVENT

-- what holds all along holds all along before each event
each_past : (c : Event → Bool) (t : Event → History → Bool) (h : History) → each t h ≡ true → each (λ e s. c e ⇒ each t s) h ≡ true
unfolding each
each_past c t [] k = refl
each_past c t (e ∷ s) k = let past = and_right (t e s) _ k in and_both (implies (c e) (each t s) (λ _. past)) (each_past c t s past)

-- clocks equal to real time never drift
steady : (d e : Entry) → d.reading.0 ≡ d.time.0 → e.reading.0 ≡ e.time.0 → is_steady 0 d e ≡ true
steady d e x y =
    let none : distance (e.reading.0 + d.time.0) (d.reading.0 + e.time.0) ≡ 0 = omega arith in
    le-leb (1000000 * distance (e.reading.0 + d.time.0) (d.reading.0 + e.time.0)) (0 * (e.time.0 - d.time.0) + 1000000) (omega arith)

all_steady : (e : Event) (s : History) → e.entry.reading.0 ≡ e.entry.time.0 → ((d : Event) → In d s → d.entry.reading.0 ≡ d.entry.time.0)
    → all (λ d. eqb d.entry.head e.entry.head ⇒ is_steady 0 d.entry e.entry) s ≡ true
all_steady e [] x h = refl
all_steady e (d ∷ s) x h =
    and_both (implies (eqb d.entry.head e.entry.head) (is_steady 0 d.entry e.entry) (λ _. steady d.entry e.entry (h d first) x))
    (all_steady e s x (λ d i. h d (next i)))

-- the last start is one of those delivered
last_start_lem : (h : History) (v q top : ℕ) → ((d : Event) → In d h → receives 2 v 0 q d ≡ true → d.entry.time.0 ≡ top) → received 2 v 0 q h ≡ true → last_start h v q ≡ top
unfolding last_start
last_start_lem [] v q top f h = absurd_bool h refl
last_start_lem (d ∷ s) v q top f h = go (receives 2 v 0 q d) refl h (last_start_lem s v q top (λ e i. f e (next i)))
  where
    go : (b : Bool) → receives 2 v 0 q d ≡ b → (receives 2 v 0 q d || received 2 v 0 q s) ≡ true → (received 2 v 0 q s ≡ true → last_start s v q ≡ top) → cond b d.entry.time.0 (last_start s v q) ≡ top
    go true u h ih = f d first u
    go false u h ih = ih (rw u at h)

no_distance : (a b c : ℕ) → a ≡ c → b ≡ c → leb (distance a b) 0 ≡ true
no_distance a b c x y = le-leb (distance a b) 0 (omega arith)

-- "all heads correct"
all_ones : (n q : ℕ) → q < n → (2 ^ n - 1) / 2 ^ q % 2 ≡ 1
all_ones zero q h = absurd (not-suc-le-zero h)
all_ones (suc n) zero h = let eq = two-pow-succ n in let pos = one-le-pow n 2 (omega arith) in omega arith
all_ones (suc n) (suc q) h =
    let half : (2 ^ suc n - 1) / 2 ≡ 2 ^ n - 1 = (let eq = two-pow-succ n in omega arith) in
    ap (λ (x : ℕ). (2 ^ suc n - 1) / x % 2) (pow-succ' 2 q)
    ∙ ap (λ (x : ℕ). x % 2) (sym (div-div-eq-div-mul (2 ^ suc n - 1) 2 (2 ^ q)) ∙ ap (λ (x : ℕ). x / 2 ^ q) half) ∙ all_ones n q (omega arith)

module _ (n f begin spacing : ℕ) (two : 2 ≤ n) where
  abbrev g : Setting
  g = draft_setting n f

  abbrev pub drafted : History
  drafted = history_after g [] (draft_entries n begin spacing)

  pub correct : (q : ℕ) → q < n → is_correct g q ≡ true
  correct q l = eq-eqb ((2 ^ n - 1) / 2 ^ q % 2) 1 (all_ones n q l)

  correct_all_lem : (p : ℕ → Bool) → ((q : ℕ) → q < n → p q ≡ true) → correct_all g p ≡ true
  correct_all_lem p h = below_all n (λ q. is_correct g q ⇒ p q) (λ q l. implies (is_correct g q) (p q) (λ _. h q l))

  at_end : Until n begin spacing (9 * n) (9 * n) drafted
  at_end = until_end n begin spacing g (omega arith)

  -- a test that holds at each entry holds at every event
  each_entry : (t : Event → History → Bool) → ((a q p i : ℕ) (s : History) → At n a q p i → Before n begin spacing a i s → t (event_of g s (draft_entry (slot_time begin spacing i) a q p)) s ≡ true) → each t drafted ≡ true
  unfolding each
  each_entry t h = by_entry n begin spacing g (λ s. each t s ≡ true) refl (λ a q p i s at u k. and_both (h a q p i s at u) k) (omega arith)

  pub premise_1 : premise1 g ≡ true
  unfolding premise1
  premise_1 = le-leb (n - f) (count_below n (is_correct g)) (let eq = count_all n (is_correct g) correct in omega arith)

  pub premise_2 : premise2 g drafted ≡ true
  unfolding premise2
  premise_2 =
      each_entry (λ e s. is_correct g e.entry.head ⇒ all (λ d. eqb d.entry.head e.entry.head ⇒ is_steady 0 d.entry e.entry) s)
      (λ a q p i s at u. implies (is_correct g q) _ (λ _. all_steady (event_of g s (draft_entry (slot_time begin spacing i) a q p)) s refl
      (λ d m. subst (λ (x : Entry). x.reading.0 ≡ x.time.0) (sym (u.came d m).is) refl)))

  took_turn : (k : Kind) {i limit : ℕ} {s : History} → Until n begin spacing i limit s → (q : ℕ) → q < n → opens n k + 1 + n ≤ i → took (turning k) q s ≡ true
  took_turn k {s = s} u q l h =
      cases (eqb q 0) (λ w. subst (λ (x : ℕ). took (turning k) x s ≡ true) (sym (eqb-true q 0 w)) (took_it u (leads k (omega arith)) (omega arith)))
      (λ w. took_it u (turns k (above_0 q (eqb-false q 0 w)) l) (omega arith))

  -- the slot of an action that is no delivery
  slot_is : (b : ℕ) {a q p i : ℕ} → has_sender b ≡ false → At n a q p i → a ≡ b → i ≡ earliest n b q
  slot_is b {a} {q} plain at is = (facts at).timed (ap has_sender is ∙ plain) ∙ ap (λ (a : ℕ). earliest n a q) is

  -- premise 3
  start_time_lem : {i limit : ℕ} {s : History} → Until n begin spacing i limit s → (v q : ℕ) → v < n → q < n → n + v < i → last_start s v q ≡ slot_time begin spacing (n + v)
  start_time_lem {s = s} u v q lv lq h =
      last_start_lem s v q (slot_time begin spacing (n + v))
      (λ d m t. let c = u.came d m in
      let act : c.action ≡ 2 = sym (ap (λ (x : Entry). x.action) c.is) ∙ eqb-true d.entry.action 2 (and_right (eqb d.entry.head q) _ (and_left (takes 2 q d) _ t)) in
      let from : c.sender ≡ v = sym (ap (λ (x : Entry). x.sender) c.is) ∙ eqb-true d.entry.sender v (and_left (eqb d.entry.sender v) _ (and_right (takes 2 q d) _ t)) in
      ap (λ (x : Entry). x.time.0) c.is ∙ ap (slot_time begin spacing) ((facts c.at).start_slot act ∙ ap (λ (x : ℕ). n + x) from))
      (u.done (start_heard lq lv) h)

  pub premise_3 : premise3 g drafted ≡ true
  unfolding premise3 start_within
  premise_3 =
      each_entry (λ e s. (eqb e.entry.action 3 ⇒ start_within g e.entry.head s) && (correct_takes g 2 e ⇒ not (took 3 e.entry.sender s)))
      (λ a q p i s at u. and_both (implies (eqb a 3) (start_within g q s) (λ w. heard_by_all at u (eqb-true a 3 w)))
      (implies (is_correct g q && eqb a 2) (not (took 3 p s)) (λ w. not_is_true (unconfirmed at u (eqb-true a 2 (and_right (is_correct g q) _ w))))))
    where
      heard_by_all : {a q p i : ℕ} {s : History} → At n a q p i → Before n begin spacing a i s → a ≡ 3 → start_within g q s ≡ true
      heard_by_all {q = q} {s = s} at u is =
          let here = slot_is 3 refl at is in
          let lq = (facts at).head_below in
          and_both (correct_all_lem (λ x. received 2 q 0 x s) (λ x l. u.done (start_heard l lq) (omega arith)))
          (correct_all_lem (λ x. correct_all g (λ y. leb (distance (last_start s q x) (last_start s q y)) 0))
          (λ x lx. correct_all_lem (λ y. leb (distance (last_start s q x) (last_start s q y)) 0)
          (λ y ly. no_distance (last_start s q x) (last_start s q y) _ (start_time_lem u q x lq lx (omega arith)) (start_time_lem u q y lq ly (omega arith)))))

      unconfirmed : {a q p i : ℕ} {s : History} → At n a q p i → Before n begin spacing a i s → a ≡ 2 → took 3 p s ≡ false
      unconfirmed {a} {q} {p} {i} at u is = let eq = (facts at).start_slot is in let le = limit_low a i in not_yet u 3 p (omega arith)

  pub premise_4 : premise4 g drafted ≡ true
  unfolding premise4
  premise_4 =
      correct_all_lem (λ q. (took 6 q drafted || is_early g votes drafted q) && ((took 7 q drafted && took 9 q drafted) || is_early g adjusts drafted q))
      (λ q l. and_both (or_first (took 6 q drafted) _ (took_it at_end (closes votes l) (omega arith)))
      (or_first (took 7 q drafted && took 9 q drafted) _ (and_both (took_turn adjusts at_end q l (omega arith)) (took_it at_end (closes adjusts l) (omega arith)))))

  -- premises 5 and 7: before a close each head's one frame has reached all others
  frames_reached_lem : (k : Kind) {i limit : ℕ} {s : History} → Until n begin spacing i limit s → ((q : ℕ) → sent g k s q ≤ 1) → opens n k + 2 * n ≤ i → (p : ℕ) → p < n
      → frames_reached g (delivery k) (sent g k s p) s p ≡ true
  unfolding frames_reached
  frames_reached_lem k {s = s} u one h p lp =
      below_all (sent g k s p) (λ j. correct_all g (λ q. not (eqb q p) ⇒ received (delivery k) p j q s))
      (λ j lj. let none : 0 ≡ j = (let z = one p in omega arith) in
      subst (λ (j : ℕ). correct_all g (λ q. not (eqb q p) ⇒ received (delivery k) p j q s) ≡ true) none
      (correct_all_lem (λ q. not (eqb q p) ⇒ received (delivery k) p 0 q s)
      (λ q l. implies (not (eqb q p)) (received (delivery k) p 0 q s) (λ w. got_frame q l (eqb-false q p (not_true w))))))
    where
      got_frame : (q : ℕ) → q < n → (q ≡ p → ⊥) → received (delivery k) p 0 q s ≡ true
      got_frame q l d =
          cases (eqb p 0)
          (λ w. let z = eqb-true p 0 w in subst (λ (p : ℕ). received (delivery k) p 0 q s ≡ true) (sym z) (u.done (first_heard k (not_same q z d) l) (omega arith)))
          (λ w. u.done (heard k d l (above_0 p (eqb-false p 0 w)) lp) (omega arith))
        where
          not_same : (q : ℕ) → p ≡ 0 → (q ≡ p → ⊥) → 0 < q
          not_same q z d = omega arith

  pub votes_reached_lem : {a q p i : ℕ} {s : History} → At n a q p i → Before n begin spacing a i s → ((q : ℕ) → sent g votes s q ≤ 1) → a ≡ 6 → votes_reached g s ≡ true
  unfolding votes_reached
  votes_reached_lem {s = s} at u one is =
      let here = slot_is 6 refl at is in
      correct_all_lem (λ p. (took 5 p s || (took 1 p s && (took 3 p s && took 4 p s))) && ((took 1 p s ⇒ correct_all g (λ q. received 2 p 0 q s)) && frames_reached g 5 (record_of g s p).vote.sent s p))
      (λ p l. and_both (or_second (took 5 p s) _ (and_both (took_it u (starts l) (omega arith)) (and_both (took_it u (confirms l) (omega arith)) (took_turn votes u p l (omega arith)))))
      (and_both (implies (took 1 p s) (correct_all g (λ q. received 2 p 0 q s)) (λ _. correct_all_lem (λ q. received 2 p 0 q s) (λ q lq. u.done (start_heard lq l) (omega arith))))
      (frames_reached_lem votes u one (omega arith) p l)))

  pub adjusts_reached_lem : {a q p i : ℕ} {s : History} → At n a q p i → Before n begin spacing a i s → ((q : ℕ) → sent g adjusts s q ≤ 1) → a ≡ 9 → adjusts_reached g s ≡ true
  unfolding adjusts_reached
  adjusts_reached_lem {s = s} at u one is =
      let here = slot_is 9 refl at is in
      correct_all_lem (λ p. (took 7 p s || is_early g adjusts s p) && frames_reached g 8 (record_of g s p).adjust.sent s p)
      (λ p l. and_both (or_first (took 7 p s) _ (took_turn adjusts u p l (omega arith))) (frames_reached_lem adjusts u one (omega arith) p l))

  -- premises 6 and 8: no frame is delivered after a close of its phase
  none_between_lem : (k : Kind) → none_between g k drafted ≡ true
  unfolding none_between
  none_between_lem k =
      each_past (correct_closes g k) (λ d past. correct_takes g (delivery k) d ⇒ not (any (correct_closes g k) past)) drafted
      (each_entry (λ d past. correct_takes g (delivery k) d ⇒ not (any (correct_closes g k) past))
      (λ a q p i s at u. implies (is_correct g q && eqb a (delivery k)) (not (any (correct_closes g k) s)) (λ w. not_is_true (none_closed at u (eqb-true a (delivery k) (and_right (is_correct g q) _ w))))))
    where
      none_closed : {a q p i : ℕ} {s : History} → At n a q p i → Before n begin spacing a i s → a ≡ delivery k → any (correct_closes g k) s ≡ false
      none_closed {a} {q} {p} {i} at u is =
          absent u (correct_closes g k)
          (λ e w. let act : e.entry.action ≡ closing k = eqb-true e.entry.action (closing k) (and_right (is_correct g e.entry.head) _ (and_left (correct_takes g (closing k) e) _ w)) in
          let lt = (facts at).before_closes k is in let le = limit_low a i in let eq = earliest_close n e.entry.head k in
          subst (λ (b : ℕ). limit_at a i ≤ earliest n b e.entry.head) (sym act) (omega arith))

  pub premise_6 : premise6 g drafted ≡ true
  unfolding premise6
  premise_6 = none_between_lem votes

  pub premise_8 : premise8 g drafted ≡ true
  unfolding premise8
  premise_8 = none_between_lem adjusts
