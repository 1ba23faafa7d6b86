-- Document 01, "Actions and steps of one head h": the median, as document 02, No. 6 amends it.
use Rattle.std.specs.Prelude.{Bool, cond, List, [], ◌∷◌, ℕ, ◌+◌, ◌-◌, ◌/◌, ◌%◌, leb, eqb, length, get_or}

abbrev pub insert : ℕ → List ℕ → List ℕ
insert x [] = x ∷ []
insert x (y ∷ l) = cond (leb x y) (x ∷ y ∷ l) (y ∷ insert x l)

abbrev pub in_order : List ℕ → List ℕ
in_order [] = []
in_order (x ∷ l) = insert x (in_order l)

-- the reading at a place of the readings in order, "from place 0"; 0 past the last one
unfoldable pub ordered_at : ℕ → List ℕ → ℕ
ordered_at i l = get_or (in_order l) i 0

abbrev pub is_even : ℕ → Bool
is_even k = eqb (k % 2) 0

-- document 02, No. 6: "With an even count, the adjustment becomes half the sum of the two middle readings, rounded down"; with an
-- odd one document 01: "The median of k readings in order is the one at place (k − 1) / 2, rounded down"
unfoldable pub median : List ℕ → ℕ
median l =
    cond (is_even (length l)) ((ordered_at (length l / 2 - 1) l + ordered_at (length l / 2) l) / 2) (ordered_at ((length l - 1) / 2) l)
