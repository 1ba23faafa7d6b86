-- A line's fields, one behind the other.
-- Main results: `field_then`, `last_field`, `next_line`.
use mathlib.Core.List.{List, [], ◌∷◌, ◌++◌, append_assoc}
use Prim.Native.Nat.{ℕ, ◌+◌, ◌^◌, ◌<◌}
use native.Mathlib.Numerals.{add-one}
use lib.ListN.{length}
use Rattle.protocol.specs.Program.{line, head_lines}
use Rattle.print_lines.specs.Lines.{head_line_of}
use Rattle.print_text.proofs.Texts.{Wrote, then, length_written}

still : (out a : List ℕ) (at p : ℕ) (x : List ℕ) → length out < 2 ^ 64 → Wrote out a at p x → length a < 2 ^ 64
still out a at p x h w = rw (w.0, length_written out at x) h

-- a text, and what is written behind it
pub and_then : (out a b : List ℕ) (at p r : ℕ) (x y : List ℕ) → length out < 2 ^ 64 → Wrote out a at p x → (length a < 2 ^ 64 → Wrote a b p r y) → Wrote out b at r (x ++ y)
and_then out a b at p r x y h w k = then out a b at p r x y h w (k (still out a at p x h w))

-- a field with its blank, and the rest of the line
pub field_then : (out a b : List ℕ) (at p r : ℕ) (x y : List ℕ) (l : List (List ℕ)) → length out < 2 ^ 64 → Wrote out a at p (x ++ (32 ∷ []))
    → (length a < 2 ^ 64 → Wrote a b p r (line (y ∷ l))) → Wrote out b at r (line (x ∷ y ∷ l))
unfolding line
field_then out a b at p r x y l h w k = rw (← append_assoc x (32 ∷ []) (line (y ∷ l))) (and_then out a b at p r (x ++ (32 ∷ [])) (line (y ∷ l)) h w k)

pub last_field : (out a b : List ℕ) (at p r : ℕ) (x : List ℕ) → length out < 2 ^ 64 → Wrote out a at p x → Wrote a b p r (10 ∷ []) → Wrote out b at r (line (x ∷ []))
unfolding line
last_field out a b at p r x h w v = then out a b at p r x (10 ∷ []) h w v

-- THE HEADS' LINES

pub next_line : (results out a b : List ℕ) (at p r q : ℕ) → length out < 2 ^ 64 → Wrote out a at p (head_lines results q) → Wrote a b p r (head_line_of results q)
    → Wrote out b at r (head_lines results (q + 1))
unfolding head_lines head_line_of
next_line results out a b at p r q h w v = rw add-one (then out a b at p r (head_lines results q) (head_line_of results q) h w v)
