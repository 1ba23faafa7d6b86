-- The rank of a number in a list, by counting, and what follows a number in order.
use Rattle.std.specs.Prelude.{Bool, cond, ◌&&◌, List, [], ◌∷◌, ℕ, suc, ltb, leb, min}
use Rattle.protocol.proofs.Ranks.{count, is_below}

-- x stands at the index once the list is in order: those below it are no more than the index, those up to it are more
unfoldable pub covers : ℕ → List ℕ → ℕ → Bool
covers index l x = leb (count (is_below x) l) index && ltb index (count (is_below (suc x)) l)

-- above every reading
abbrev pub none : ℕ
none = 4294967295

-- z if it is not below the bound
abbrev pub number_from : ℕ → ℕ → ℕ
number_from bound z = cond (ltb z bound) none z

-- the least number of the list that is not below the bound
unfoldable pub least_from : ℕ → List ℕ → ℕ
least_from bound [] = none
least_from bound (z ∷ l) = min (least_from bound l) (number_from bound z)
