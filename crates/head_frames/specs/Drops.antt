-- Vote readings, of senders whose latest votes are given, when the candidate becomes the one of that name.
use Rattle.std.specs.Prelude.{List, ℕ, zero, suc, cond, eqb, get_or, set}

-- those below p are dropped unless they are for that name
unfoldable pub dropped_below : ℕ → List ℕ → List ℕ → ℕ → List ℕ
dropped_below name latest l zero = l
dropped_below name latest l (suc p) =
    set (dropped_below name latest l p) p (cond (eqb (get_or latest p 0) name) (get_or (dropped_below name latest l p) p 0) 0)
