-- Sixteen fresh rows of head 0 become those of the sixteen heads, one after the other.
-- Main results: `none_numbered`, `one_numbered`, `all_numbered`.
use mathlib.Core.Path.{◌≡◌, refl, sym, ◌∙◌, ap}
use mathlib.Core.Bool.{Bool, cond}
use mathlib.Core.List.{List, []}
use Prim.Native.Nat.{ℕ, ◌+◌, ◌≤◌, ◌<◌}
use native.Mathlib.Omega.{arith}
use lib.Dec.{ltb}
use lib.ListN.{length, get_or, set, replicate, length-set, get_or-replicate}
use borrow.Author.Tests.{lt-ltb, le-ltb}
use Rattle.protocol.specs.declared.Setting.{Setting}
use Rattle.protocol.specs.declared.HeadRow.{HeadRow}
use Rattle.protocol.specs.Record.{fresh, marks_number}
use Rattle.protocol.specs.Row.{row_of}
use Rattle.protocol.specs.Run.{record_of}
use Rattle.protocol.proofs.Tables.{is_table, fill_over}
use Rattle.protocol.specs.Row.{no_row}
use Rattle.sheet_state.specs.Arrays.{head_rows}

renumbered : (n f q : ℕ) → record (row_of (fresh n f 0)) { own = q } ≡ row_of (fresh n f q)
unfolding fresh marks_number
renumbered n f q = refl

module _ (g : Setting) where
  abbrev pub fresh_of : ℕ → HeadRow
  fresh_of q = row_of (fresh g.n g.f q)

  -- the first q rows have their numbers
  pub record Numbered (q : ℕ) (heads : List HeadRow) : Type 0 where
    pub sixteen : length heads ≡ 16
    pub each_is : (j : ℕ) → j < 16 → get_or heads j no_row ≡ cond (ltb j q) (fresh_of j) (fresh_of 0)

  -- which of the two rows it is goes by the test alone
  same_row : (j : ℕ) {a b : Bool} → a ≡ b → cond a (fresh_of j) (fresh_of 0) ≡ cond b (fresh_of j) (fresh_of 0)
  same_row j e = ap (λ (b : Bool). cond b (fresh_of j) (fresh_of 0)) e

  pub none_numbered : (heads : List HeadRow) → heads ≡ replicate 16 (fresh_of 0) → Numbered 0 heads
  none_numbered heads is =
      record {
        sixteen = ap length is;
        each_is = λ j lt. ap (λ (l : List HeadRow). get_or l j no_row) is ∙ get_or-replicate 16 j (fresh_of 0) no_row lt
            ∙ same_row j (sym (le-ltb j 0 (omega arith)));
      }

  pub one_numbered : (heads : List HeadRow) (q : ℕ) → q < 16 → Numbered q heads → Numbered (q + 1) (set heads q (record (get_or heads q no_row) { own = q }))
  one_numbered heads q lt was =
      let here = was.each_is q lt ∙ same_row q (le-ltb q q (omega arith)) in
      record {
        sixteen = length-set heads q _ ∙ was.sixteen;
        each_is = fill_over fresh_of (λ _. fresh_of 0) heads 16 q _ no_row was.sixteen lt
            (ap (λ (w : HeadRow). record w { own = q }) here ∙ renumbered g.n g.f q) was.each_is;
      }

  pub all_numbered : (heads : List HeadRow) (q : ℕ) → 16 ≤ q → Numbered q heads → heads ≡ head_rows g []
  unfolding record_of
  all_numbered heads q le was =
      is_table (λ p. row_of (record_of g [] p)) 16 no_row heads was.sixteen (λ j lt. was.each_is j lt ∙ same_row j (lt-ltb j q (omega arith)))
