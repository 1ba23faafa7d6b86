-- The heads of a run that stands, and a test of all correct ones by sets.
use mathlib.Core.Path.{◌≡◌, refl, sym, ◌∙◌, ap}
use mathlib.Core.Bool.{Bool, true}
use mathlib.Core.List.{List}
use Prim.Native.Nat.{ℕ, ◌^◌, ◌≤◌, ◌<◌}
use native.Mathlib.Omega.{arith}
use lib.ListN.{get_or}
use Rattle.protocol.specs.declared.HeadRow.{HeadRow}
use Rattle.protocol.specs.declared.Setting.{Setting}
use Rattle.protocol.specs.Base.{◌⇒◌, all_below}
use Rattle.protocol.specs.Words.{is_correct, heads_fit, setting_of, setting_at}
use Rattle.protocol.specs.Run.{History}
use Rattle.protocol.specs.Premises.{correct_all}
use Rattle.protocol.proofs.Tests.{cases, implied, all_below_lem, below_all}
use Rattle.protocol.proofs.Fits.{correct_heads_below_n}
use Rattle.sheet_state.specs.Arrays.{Stands}
use Rattle.sheet_state.proofs.Standing.{heads_few, at_most_16}
use Rattle.data_sets.specs.Sets.{set_of, has_all}
use Rattle.data_sets.proofs.Sets.{set_bits, set_all, same_test}

pub record Heads (g : Setting) : Type 0 where
  pub fit : heads_fit g.n g.f ≡ true
  pub few : g.n ≤ 16
  pub sixteen_bits : g.correct < 2 ^ 16
  pub below : (q : ℕ) → is_correct g q ≡ true → q < g.n

pub heads_stand : {ws : List ℕ} {i : ℕ} {s : History} {rows : List HeadRow} → Stands ws i s rows → Heads (setting_at ws)
unfolding setting_of
heads_stand {ws} S =
    record {
      fit = heads_few S;
      few = at_most_16 S;
      sixteen_bits = omega arith;
      below = λ q c. correct_heads_below_n (get_or ws 0 0) (get_or ws 1 0) q S.first_fits c;
    }

module _ {g : Setting} (H : Heads g) where
  if_false : (q : ℕ) (b : Bool) → (is_correct g q ≡ true → b ≡ true) → (is_correct g q ⇒ b) ≡ true
  if_false q b f = cases (is_correct g q) (λ t. rw t (f t)) (λ t. rw t refl)

  -- a set has all correct heads if each of them passes
  pub all_correct : (p : ℕ → Bool) → has_all (set_of p) g.correct ≡ correct_all g p
  all_correct p =
      ap (has_all (set_of p)) (sym (set_bits g.correct H.sixteen_bits))
      ∙ set_all p (is_correct g)
      ∙ same_test (all_below 16 (λ q. is_correct g q ⇒ p q)) (correct_all g p)
      (λ t. below_all g.n (λ q. is_correct g q ⇒ p q) (λ q l. all_below_lem 16 (λ q. is_correct g q ⇒ p q) t q (let n = H.few in omega arith)))
      (λ t. below_all 16 (λ q. is_correct g q ⇒ p q) (λ q l. if_false q (p q) (λ c. implied (is_correct g q) (p q) (all_below_lem g.n (λ q. is_correct g q ⇒ p q) t q (H.below q c)) c)))
