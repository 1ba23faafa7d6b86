-- What was found of a phase so far, after one more entry: an entry changes it only if it delivers a frame of the phase or closes it.
-- Main results: `findings_same`; `found_delivered`, `found_unclosed`, `found_closed`.
use mathlib.Core.Path.{◌≡◌, refl, sym, ◌∙◌, ap, ap₂}
use mathlib.Core.Bool.{Bool, true, false, cond, not, ◌&&◌, ◌||◌}
use mathlib.Core.List.{[], ◌∷◌}
use mathlib.Core.Logic.{◌≢◌}
use Prim.Native.Nat.{ℕ, ◌<◌}
use native.Mathlib.Omega.{arith}
use lib.Dec.{eqb}
use borrow.Author.Tests.{ne_eqb}
use Rattle.protocol.specs.declared.Setting.{Setting}
use Rattle.protocol.specs.Base.{◌⇒◌, any}
use Rattle.protocol.specs.Words.{is_correct}
use Rattle.protocol.specs.declared.Kind.{Kind}
use Rattle.protocol.specs.Record.{votes, adjusts, phase_of}
use Rattle.protocol.specs.Run.{Event, History}
use Rattle.protocol.specs.Premises.{delivery, closing, each, before, correct_takes, correct_closes, none_between}
use Rattle.protocol.proofs.Tests.{or_right, and_true, eqb_same}
use Rattle.judge_premises_5_to_8.specs.declared.Findings.{Findings}
use Rattle.judge_premises_5_to_8.specs.Closes.{phase_reached, findings_of}

-- after an entry that may be a correct head's delivery or its close of the phase; reached is what premise 5 or 7 says of the
-- entries before it
abbrev findings_after : Bool → Bool → Bool → Findings → Findings
findings_after delivers closes reached w =
    record {
      reached = ((closes && not w.closed) ⇒ reached) && w.reached;
      undisturbed = (closes ⇒ w.in_time) && w.undisturbed;
      in_time = (delivers ⇒ not w.closed) && w.in_time;
      closed = closes || w.closed;
    }

-- no frame is late before the first correct close
in_time_before : (g : Setting) (k : Kind) (s : History) → any (correct_closes g k) s ≡ false
    → each (λ d past. correct_takes g (delivery k) d ⇒ not (any (correct_closes g k) past)) s ≡ true
unfolding each
in_time_before g k [] o = refl
in_time_before g k (e ∷ s) o =
    let unclosed = or_right (correct_closes g k e) (any (correct_closes g k) s) o in
    rw (unclosed, in_time_before g k s unclosed) (if_any (correct_takes g (delivery k) e))
  where
    if_any : (b : Bool) → ((b ⇒ true) && true) ≡ true
    if_any true = refl
    if_any false = refl

-- what holds before the first event that passes, asked where there is one
first_asked : (p : Event → Bool) (Q : History → Bool) (e : Event) (s : History)
    → (any p (e ∷ s) ⇒ Q (before p (e ∷ s))) ≡ (((p e && not (any p s)) ⇒ Q s) && (any p s ⇒ Q (before p s)))
unfolding before
first_asked p Q e s = go (any p s) (p e)
  where
    go : (a b : Bool) → ((b || a) ⇒ Q (cond a (before p s) (cond b s (e ∷ s)))) ≡ (((b && not a) ⇒ Q s) && (a ⇒ Q (before p s)))
    go true true = refl
    go true false = refl
    go false true = sym (and_true (Q s))
    go false false = refl

module _ (g : Setting) (e : Event) (s : History) where
  findings_next : (k : Kind) → findings_of g (e ∷ s) k ≡ findings_after (correct_takes g (delivery k) e) (correct_closes g k e) (phase_reached g k s) (findings_of g s k)
  unfolding none_between each
  findings_next k =
      ap (λ (b : Bool). record { reached = b; undisturbed = none_between g k (e ∷ s); in_time = in_time_now; closed = any (correct_closes g k) (e ∷ s) })
      (first_asked (correct_closes g k) (phase_reached g k) e s)
    where
      in_time_now : Bool
      in_time_now = each (λ d past. correct_takes g (delivery k) d ⇒ not (any (correct_closes g k) past)) (e ∷ s)

  not_taken : (a : ℕ) → e.entry.action ≢ a → correct_takes g a e ≡ false
  not_taken a other = rw (ne_eqb e.entry.action a other) (neither (is_correct g e.entry.head))
    where
      neither : (b : Bool) → (b && false) ≡ false
      neither true = refl
      neither false = refl

  not_closing : (k : Kind) → e.entry.action ≢ closing k → correct_closes g k e ≡ false
  not_closing k other = ap (λ (b : Bool). b && not (phase_of k e.after).early) (not_taken (closing k) other)

  pub findings_same : (k : Kind) → e.entry.action ≢ delivery k → e.entry.action ≢ closing k → findings_of g (e ∷ s) k ≡ findings_of g s k
  findings_same k d c =
      findings_next k ∙ ap₂ (λ (x y : Bool). findings_after x y (phase_reached g k s) (findings_of g s k)) (not_taken (delivery k) d) (not_closing k c)

-- ONE MORE ENTRY

no_close : (k : Kind) → delivery k ≢ closing k
no_close votes z = omega arith
no_close adjusts z = omega arith

module _ (g : Setting) (e : Event) (s : History) (k : Kind) where
  abbrev was : Findings
  was = findings_of g s k

  -- it delivers a frame of the phase
  pub found_delivered : e.entry.action ≡ delivery k
      → record was { in_time = was.in_time && not (is_correct g e.entry.head && was.closed) } ≡ findings_of g (e ∷ s) k
  found_delivered is =
      sym (findings_next g e s k
      ∙ ap₂ (λ (d c : Bool). findings_after d c (phase_reached g k s) was) takes (not_closing g e s k (λ z. no_close k (sym is ∙ z)))
      ∙ ap (λ (b : Bool). record was { in_time = b }) (late (is_correct g e.entry.head) was.closed was.in_time))
    where
      takes : correct_takes g (delivery k) e ≡ is_correct g e.entry.head
      takes = ap (λ (a : ℕ). is_correct g e.entry.head && eqb a (delivery k)) is ∙ ap (λ (b : Bool). is_correct g e.entry.head && b) (eqb_same (delivery k)) ∙ and_true _

      late : (b c t : Bool) → ((b ⇒ not c) && t) ≡ (t && not (b && c))
      late true c true = and_true (not c)
      late true true false = refl
      late true false false = refl
      late false c true = refl
      late false c false = refl

  -- it has the action that closes the phase
  module _ (is : e.entry.action ≡ closing k) where
    by_close : {b : Bool} → correct_closes g k e ≡ b → findings_of g (e ∷ s) k ≡ findings_after false b (phase_reached g k s) was
    by_close c =
        findings_next g e s k
        ∙ ap₂ (λ (x y : Bool). findings_after x y (phase_reached g k s) was) (not_taken g e s (delivery k) (λ z. no_close k (sym z ∙ is))) c

    pub found_unclosed : correct_closes g k e ≡ false → was ≡ findings_of g (e ∷ s) k
    found_unclosed c = sym (by_close c)

    pub found_closed : correct_closes g k e ≡ true → was.closed ≡ true → record was { undisturbed = was.in_time && was.undisturbed } ≡ findings_of g (e ∷ s) k
    found_closed c o = sym (by_close c ∙ rw o refl)

    pub found_first : correct_closes g k e ≡ true → was.closed ≡ false → record was { closed = true; reached = phase_reached g k s } ≡ findings_of g (e ∷ s) k
    found_first c o = sym (by_close c ∙ rw (o, in_time_before g k s o) (ap (λ (b : Bool). record { reached = b; undisturbed = none_between g k s; in_time = true; closed = true }) (and_true (phase_reached g k s))))
