-- Document 01, "The eight premises" and "The third point's words": the third point with one premise left out, and how its claim can fail.
use Rattle.std.specs.Prelude.{◌≡◌, Bool, true, false, not, ◌&&◌, List, [], ◌∷◌, ℕ, suc, ◌-◌, ◌*◌, ltb, eqb, length, get_or, drop}
use Rattle.protocol.specs.Base.{◌⇒◌, all_below}
use Rattle.protocol.specs.declared.Setting.{Setting}
use Rattle.protocol.specs.Words.{is_correct, setting_at}
use Rattle.protocol.specs.Run.{Event, History, record_of, ran, run_sheet}
use Rattle.protocol.specs.Premises.{premises}
use Rattle.protocol.specs.Claim.{Ending, ending_of, shown, apart, since_start, bound_on_d, Agreement}

-- a clause of `Agreement` that fails, and where: at a head, at two heads, or at two looks by the indices of their entries. Where
-- adjustments differ, adjusters do too (`one_adjustment`, which asks no premise)
pub data Failure : Type 0 where
  without_clock : ℕ → Failure
  candidates_differ : ℕ → ℕ → Failure
  adjustments_differ : ℕ → ℕ → Failure
  clocks_apart : ℕ → ℕ → Failure

abbrev pub is_correct_head : Setting → ℕ → Bool
is_correct_head g q = ltb q g.n && is_correct g q

-- the history up to entry i, which comes first in it
abbrev pub up_to : History → ℕ → History
up_to h i = drop (length h - suc i) h

module _ (g : Setting) (h : History) where
  -- premise j, from 1 to 8, is kept; every premise is, but perhaps premise i
  abbrev pub keeps : ℕ → Bool
  keeps j = get_or (premises g h) (j - 1) true

  unfoldable pub keeps_others : ℕ → Bool
  keeps_others i = all_below 8 (λ j. not (eqb (suc j) i) ⇒ keeps (suc j))

  abbrev pub ending : ℕ → Ending
  ending q = ending_of (record_of g h q)

  -- two correct heads end with different numbers
  abbrev pub differ : ℕ → ℕ → (Ending → ℕ) → Bool
  differ p q number = is_correct_head g p && (is_correct_head g q && not (eqb (number (ending p)) (number (ending q))))

  -- an event, with the history before it, is a look at a correct head
  abbrev pub is_look : Event → History → Bool
  is_look e s = is_correct_head g e.entry.head && (record_of g s e.entry.head).adjust.closed

  -- at a look, the microseconds since its head last received its chosen start
  abbrev pub since : Event → ℕ
  since e = since_start h e.entry.head (ending e.entry.head) e

  -- two looks in the same real microsecond show clocks that are farther apart than the bound on D
  abbrev pub beyond_bound : Event → Event → Bool
  beyond_bound d e =
      eqb d.entry.time.0 e.entry.time.0
      && ltb (bound_on_d g (since d) (since e)) (1000000 * apart (shown d (ending d.entry.head)) (shown e (ending e.entry.head)))

  abbrev pub are_apart : History → History → Bool
  are_apart [] t = false
  are_apart (d ∷ s) [] = false
  are_apart (d ∷ s) (e ∷ t) = is_look d s && (is_look e t && beyond_bound d e)

  -- the clause does fail there
  unfoldable pub fails : Failure → Bool
  fails (without_clock q) = is_correct_head g q && not (eqb (ending q).outcome 2)
  fails (candidates_differ p q) = differ p q (λ x. x.candidate)
  fails (adjustments_differ p q) = differ p q (λ x. x.adjustment)
  fails (clocks_apart i j) = are_apart (up_to h i) (up_to h j)

-- the third point with premise i left out of the eight; 0 leaves out none
abbrev pub ThirdPointWithout : ℕ → Type 0
ThirdPointWithout i =
    (ws : List ℕ) (h : History) → run_sheet ws ≡ ran h → keeps_others (setting_at ws) h i ≡ true → Agreement (setting_at ws) h (ending (setting_at ws) h)

-- a sheet of these words is accepted, breaks premise i and keeps the seven others, and the claim fails on it
pub record BrokenAlone (i : ℕ) (ws : List ℕ) (x : Failure) : Type 0 where
  pub history : History
  pub accepted : run_sheet ws ≡ ran history
  pub broken : keeps (setting_at ws) history i ≡ false
  pub others_kept : keeps_others (setting_at ws) history i ≡ true
  pub clause_fails : fails (setting_at ws) history x ≡ true
  pub no_agreement : ¬ Agreement (setting_at ws) history (ending (setting_at ws) history)
