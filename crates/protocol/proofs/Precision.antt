-- (f) The distance of corrected clocks. The adjustment cancels; premise 2 holds between the delivery of the chosen start and
-- the look, at each of the two heads; the two deliveries lie within the tightness; the rest is the triangle inequality.
-- Main results: `apart_distance` (D without signs), `triangle`, `steady`, `start_stays`.
use mathlib.Core.Path.{◌≡◌, refl, sym, ◌∙◌, ap, subst}
use mathlib.Core.Bool.{true, false}
use mathlib.Core.List.{◌∷◌}
use Prim.Native.Nat.{ℕ, ◌+◌, ◌*◌, ◌≤◌}
use native.Mathlib.Omega.{arith}
use lib.Dec.{eqb}
use lib.IntN.{pos, sub_ℕ, ◌+ℤ◌}
use borrow.Author.Tests.{eqb-true}
use Rattle.protocol.specs.Base.{◌⇒◌, distance}
use Rattle.protocol.specs.Types.{HeadRecord, Setting}
use Rattle.protocol.specs.Words.{is_correct}
use Rattle.protocol.specs.Record.{start_of}
use Rattle.protocol.specs.Run.{Event, History, record_of}
use Rattle.protocol.specs.Premises.{takes, receives, took, correct_takes, premise3, is_steady, last_start, start_within}
use Rattle.protocol.specs.Claim.{CorrectHead, apart}
use Rattle.protocol.proofs.Tests.{absurd_bool, cases, and_left, and_right, and_both, implied, not_true}
use Rattle.protocol.proofs.Signed.{difference_of, difference_pos, difference_add, difference_sub, difference_abs}
use Rattle.protocol.proofs.Moments.{Earlier, now, later, earlier_past, any_grows, each_at}
use Rattle.protocol.proofs.Laws.{any_two_entries_steady}
use Rattle.protocol.proofs.Valid.{valid_past, valid_taken, valid_earlier, record_other, by_head}
use Rattle.protocol.proofs.Starts.{start_same}
use Rattle.protocol.proofs.Rounds.{Round}

-- D WITHOUT SIGNS

-- the distance of x + (a − s) and y + (b − t) is that of x + a + t and y + b + s
pub apart_distance : (x a s y b t : ℕ) → apart (pos x +ℤ sub_ℕ a s) (pos y +ℤ sub_ℕ b t) ≡ distance (x + a + t) (y + b + s)
apart_distance x a s y b t =
    difference_abs (difference_sub (difference_add (difference_pos x) (difference_of a s)) (difference_add (difference_pos y) (difference_of b t)))
    ∙ regroup (x + a) s t (y + b)
  where
    regroup : (p s t q : ℕ) → distance (p + (0 + t)) (0 + s + q) ≡ distance (p + t) (q + s)
    regroup p s t q = omega arith

-- THE TRIANGLE INEQUALITY

-- a bound on a distance, without a subtraction; and back
both_ways : (a b m : ℕ) → 1000000 * distance a b ≤ m → (1000000 * a ≤ m + 1000000 * b) × (1000000 * b ≤ m + 1000000 * a)
both_ways a b m h = (omega arith, omega arith)

one_way : (a b m : ℕ) → 1000000 * a ≤ m + 1000000 * b → 1000000 * b ≤ m + 1000000 * a → 1000000 * distance a b ≤ m
one_way a b m h k = omega arith

near_ways : (a b m : ℕ) → distance a b ≤ m → (a ≤ m + b) × (b ≤ m + a)
near_ways a b m h = (omega arith, omega arith)

-- two clocks show e and d at z; they showed a and b at s and t; each kept its drift since, and s and t are near
pub triangle : (e s a d t b z x y w c : ℕ) → 1000000 * distance (e + s) (a + z) ≤ x + 1000000 → 1000000 * distance (d + t) (b + z) ≤ y + 1000000
    → distance s t ≤ w → 1000000 * distance (e + c + b) (d + c + a) ≤ 1000000 * (w + 2) + (x + y)
triangle e s a d t b z x y w c h k l =
    sum e s a d t b z x y w c (both_ways (e + s) (a + z) (x + 1000000) h) (both_ways (d + t) (b + z) (y + 1000000) k) (near_ways s t w l)
  where
    sum : (e s a d t b z x y w c : ℕ) → (1000000 * (e + s) ≤ x + 1000000 + 1000000 * (a + z)) × (1000000 * (a + z) ≤ x + 1000000 + 1000000 * (e + s))
        → (1000000 * (d + t) ≤ y + 1000000 + 1000000 * (b + z)) × (1000000 * (b + z) ≤ y + 1000000 + 1000000 * (d + t)) → (s ≤ w + t) × (t ≤ w + s)
        → 1000000 * distance (e + c + b) (d + c + a) ≤ 1000000 * (w + 2) + (x + y)
    sum e s a d t b z x y w c h k l = one_way (e + c + b) (d + c + a) (1000000 * (w + 2) + (x + y)) (omega arith) (omega arith)

-- AN EVENT IS STEADY AGAINST EVERY EARLIER ONE OF ITS HEAD

module _ {g : Setting} {h : History} (r : Round g h) where
  pub steady : {s past : History} {d e : Event} {q : ℕ} → Earlier (e ∷ s) h → Earlier (d ∷ past) s → CorrectHead g q → e.entry.head ≡ q → d.entry.head ≡ q
      → is_steady g.drift d.entry e.entry ≡ true
  steady x y c eh dh = any_two_entries_steady g r.p2 x y (ap (is_correct g) eh ∙ c.marked_correct) (dh ∙ sym eh)

  -- no start of c reaches a correct head once c has confirmed it
  no_late_start : {s : History} (e : Event) (c q : ℕ) → Earlier (e ∷ s) h → took 3 c s ≡ true → CorrectHead g q → receives 2 c 0 q e ≡ false
  unfolding premise3
  no_late_start {s} e c q x t cq =
      cases (receives 2 c 0 q e)
      (λ u. let taken = and_left (takes 2 q e) _ u in
      let from : e.entry.sender ≡ c = eqb-true _ c (and_left (eqb e.entry.sender c) _ (and_right (takes 2 q e) _ u)) in
      let at-correct : correct_takes g 2 e ≡ true = and_both (ap (is_correct g) (eqb-true _ q (and_left (eqb e.entry.head q) _ taken)) ∙ cq.marked_correct) (and_right (eqb e.entry.head q) _ taken) in
      absurd_bool t (subst (λ (v : ℕ). took 3 v s ≡ false) from
      (not_true (implied (correct_takes g 2 e) _ (and_right (eqb e.entry.action 3 ⇒ start_within g e.entry.head s) _ (each_at _ r.p3 x)) at-correct))))
      (λ u. u)

  -- so its start reading stays, and the time of that start
  pub start_stays : {m s : History} (c q : ℕ) → Earlier m s → Earlier s h → took 3 c m ≡ true → CorrectHead g q
      → (start_of (record_of g s q) c ≡ start_of (record_of g m q) c) × (last_start s c q ≡ last_start m c q)
  unfolding last_start
  start_stays c q now x t cq = (refl, refl)
  start_stays {m} c q (later {e = e} {h = s} y) x t cq =
      let ih = start_stays c q y (earlier_past x) t cq in
      let none = no_late_start e c q x (any_grows (takes 3 c) y t) cq in
      let v = valid_earlier x r.sheet.valid in (
        by_head (λ p. receives 2 c 0 p e ≡ false → start_of (record_of g (e ∷ s) p) c ≡ start_of (record_of g s p) c) e q
            (λ u. start_same g r.sheet.at_most_16 (valid_taken v) (valid_past v) c u) (λ d u. ap (λ (y : HeadRecord). start_of y c) (record_other g e s q d)) none ∙ ih.0,
        rw none ih.1,
      )
