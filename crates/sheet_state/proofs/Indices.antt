-- An index stands for one action, head and serial, and each vote and adjust has one index.
-- Main results: `index_fields`, `frame_at_index`, `fields_index`.
use mathlib.Core.Path.{◌≡◌, refl, ◌∙◌, ap}
use mathlib.Core.Bool.{Bool, true, false, cond}
use Prim.Native.Nat.{ℕ, ◌+◌, ◌*◌, ◌%◌, ◌<◌}
use native.Mathlib.Omega.{arith}
use lib.Dec.{ltb}
use borrow.Author.Tests.{lt-ltb, le-ltb, ltb-true, ltb-false}
use Rattle.protocol.specs.declared.Kind.{Kind}
use Rattle.protocol.specs.Record.{votes, adjusts}
use Rattle.protocol.specs.Premises.{delivery}
use Rattle.protocol.specs.Run.{History, frame_sent}
use Rattle.sheet_state.specs.Indices.{frame_index}
use Rattle.sheet_state.specs.Arrays.{action_at, head_at, serial_at, frame_at}

-- the fields at an index
pub index_fields : (k : Kind) (p j : ℕ) → p < 16 → j < 16
    → (frame_index (delivery k) p j < 512) × (action_at (frame_index (delivery k) p j) ≡ delivery k) × (head_at (frame_index (delivery k) p j) ≡ p) × (serial_at (frame_index (delivery k) p j) ≡ j)
index_fields votes p j hp hj = (omega arith, ap (λ (b : Bool). cond b 5 8) (lt-ltb (0 + p % 16 * 16 + j % 16) 256 (omega arith)), omega arith, omega arith)
index_fields adjusts p j hp hj = (omega arith, ap (λ (b : Bool). cond b 5 8) (le-ltb (256 + p % 16 * 16 + j % 16) 256 (omega arith)), omega arith, omega arith)

pub frame_at_index : (s : History) (k : Kind) (p j : ℕ) → p < 16 → j < 16 → frame_at s (frame_index (delivery k) p j) ≡ frame_sent s (delivery k) p j
frame_at_index s k p j hp hj =
    let f = index_fields k p j hp hj in
    ap (λ (a : ℕ). frame_sent s a (head_at (frame_index (delivery k) p j)) (serial_at (frame_index (delivery k) p j))) f.1
    ∙ ap (λ (q : ℕ). frame_sent s (delivery k) q (serial_at (frame_index (delivery k) p j))) f.2 ∙ ap (frame_sent s (delivery k) p) f.3

-- the index of an index's fields
pub fields_index : (k : Kind) (j : ℕ) → j < 512 → action_at j ≡ delivery k → frame_index (delivery k) (head_at j) (serial_at j) ≡ j
fields_index k j h e = go k (ltb j 256) refl e
  where
    go : (k : Kind) (b : Bool) → ltb j 256 ≡ b → cond b 5 8 ≡ delivery k → frame_index (delivery k) (head_at j) (serial_at j) ≡ j
    go votes true u e = let l = ltb-true j 256 u in omega arith
    go votes false u e = absurd (omega arith)
    go adjusts true u e = absurd (omega arith)
    go adjusts false u e = let l = ltb-false j 256 u in omega arith
