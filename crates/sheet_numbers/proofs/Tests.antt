-- A test that holds of each entry, one entry more.
use mathlib.Core.Path.{◌≡◌, refl, sym, ◌∙◌, ap, ap₂}
use mathlib.Core.Bool.{Bool, true, false, ◌&&◌}
use mathlib.Core.List.{List, [], ◌∷◌, ◌++◌}
use Prim.Native.Nat.{ℕ, ◌+◌}
use Rattle.protocol.specs.Base.{all, table}
use Rattle.protocol.proofs.Tables.{table_last}

module _ {A : Type 0} (p : A → Bool) where
  all_last : (l : List A) (x : A) → all p (l ++ (x ∷ [])) ≡ (all p l && p x)
  all_last [] x = go (p x)
    where
      go : (b : Bool) → (b && true) ≡ b
      go true = refl
      go false = refl
  all_last (y ∷ l) x = ap (λ (b : Bool). p y && b) (all_last l x) ∙ go (p y)
    where
      go : (b : Bool) → (b && (all p l && p x)) ≡ ((b && all p l) && p x)
      go true = refl
      go false = refl

  pub all_more : (f : ℕ → A) (i : ℕ) (b c : Bool) → b ≡ all p (table f 0 i) → c ≡ p (f i) → (b && c) ≡ all p (table f 0 (i + 1))
  all_more f i b c e h = ap₂ ◌&&◌ e h ∙ sym (ap (all p) (table_last f i) ∙ all_last (table f 0 i) (f i))
