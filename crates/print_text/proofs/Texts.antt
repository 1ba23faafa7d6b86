-- A text in a buffer, and a text behind a text.
-- Main results: `one_byte`, `no_room`, `then`, `next_byte`, `length_written`, `all_in`, `from_first`.
use mathlib.Core.Path.{◌≡◌, refl, sym, ◌∙◌, ap}
use mathlib.Core.List.{List, [], ◌∷◌, ◌++◌}
use Prim.Native.Nat.{ℕ, suc, ◌+◌, ◌^◌, ◌≤◌, ◌<◌}
use native.Mathlib.Numerals.{add-one}
use native.Mathlib.Omega.{arith}
use lib.ListN.{length, get_or, set, take, drop, length-set, length-append}
use lib.Seq.{take-suc, set_out, sets, sets-eq}
use lib.Dec.{ltb}
use borrow.Author.Tests.{ltb-true, ltb-false}
use Rattle.protocol.proofs.Tests.{cases}
use Rattle.print_text.specs.Written.{written, end_of, last_position}

-- what a function of this crate leaves and returns
abbrev pub Wrote : List ℕ → List ℕ → ℕ → ℕ → List ℕ → Type 0
Wrote out after at r text = (after ≡ written out at text) × (r ≡ end_of at text)

pub nothing : (out : List ℕ) (at : ℕ) → at < 2 ^ 64 → Wrote out out at at []
unfolding written end_of
nothing out at h = (refl, omega arith)

-- ONE BYTE

pub one_byte : (out : List ℕ) (at b : ℕ) → at < last_position → Wrote out (set out at b) at (at + 1) (b ∷ [])
unfolding written end_of
one_byte out at b h = (refl, omega arith)

pub no_room : (out : List ℕ) (at b : ℕ) → length out ≤ at → at < last_position → Wrote out out at (at + 1) (b ∷ [])
unfolding written end_of
no_room out at b h l = (sym (set_out out at b h), omega arith)

pub no_position : (out : List ℕ) (at b : ℕ) → length out ≤ at → at < 2 ^ 64 → last_position ≤ at → Wrote out out at at (b ∷ [])
unfolding written end_of
no_position out at b h l m = (sym (set_out out at b h), omega arith)

-- A TEXT BEHIND A TEXT

pub length_written : (out : List ℕ) (at : ℕ) (text : List ℕ) → length (written out at text) ≡ length out
unfolding written
length_written out at [] = refl
length_written out at (b ∷ text) = length_written (set out at b) (suc at) text ∙ length-set out at b

written_past : (out : List ℕ) (at : ℕ) (text : List ℕ) → length out ≤ at → written out at text ≡ out
unfolding written
written_past out at [] h = refl
written_past out at (b ∷ text) h = rw (set_out out at b h) (written_past out (suc at) text (omega arith))

written_append : (out : List ℕ) (at : ℕ) (x y : List ℕ) → written out at (x ++ y) ≡ written (written out at x) (at + length x) y
unfolding written
written_append out at [] y = ap (λ (k : ℕ). written out k y) (omega arith)
written_append out at (b ∷ x) y = written_append (set out at b) (suc at) x y ∙ ap (λ (k : ℕ). written (written (set out at b) (suc at) x) k y) (omega arith)

-- a position that stopped at the largest is past every buffer
at_end : (out : List ℕ) (at : ℕ) (x y : List ℕ) → length out < 2 ^ 64 → written out (end_of at x) y ≡ written out (at + length x) y
unfolding end_of
at_end out at x y h =
    cases (ltb (at + length x) last_position)
    (λ t. let l = ltb-true (at + length x) last_position t in ap (λ (k : ℕ). written out k y) (omega arith))
    (λ t. let l = ltb-false (at + length x) last_position t in written_past out _ y (omega arith) ∙ sym (written_past out _ y (omega arith)))

pub then : (out a b : List ℕ) (at p r : ℕ) (x y : List ℕ) → length out < 2 ^ 64 → Wrote out a at p x → Wrote a b p r y → Wrote out b at r (x ++ y)
unfolding end_of
then out a b at p r x y h (ea, ep) (eb, er) = (buffer, position)
  where
    buffer : b ≡ written out at (x ++ y)
    buffer = rw (eb, ep, ea, at_end (written out at x) at x y (rw (length_written out at x) h), ← written_append out at x y) refl

    position : r ≡ end_of at (x ++ y)
    position = rw (length-append x y) (omega arith)

-- one byte more of a text
pub next_byte : (out a b : List ℕ) (at p r i : ℕ) (text : List ℕ) → length out < 2 ^ 64 → i < length text → Wrote out a at p (take i text)
    → Wrote a b p r (get_or text i 0 ∷ []) → Wrote out b at r (take (i + 1) text)
next_byte out a b at p r i text h l x y = rw (add-one, take-suc text i 0 l) (then out a b at p r (take i text) (get_or text i 0 ∷ []) h x y)

stores : (out : List ℕ) (at : ℕ) (text : List ℕ) → written out at text ≡ sets out at text
unfolding written
stores out at [] = refl
stores out at (b ∷ text) = stores (set out at b) (suc at) text

-- where there is room the text stands in the buffer whole, between what stood before and behind it
pub all_in : (out : List ℕ) (at : ℕ) (text : List ℕ) → at + length text ≤ length out → written out at text ≡ take at out ++ text ++ drop (at + length text) out
all_in out at text h = stores out at text ∙ sets-eq text out at h

-- a text from the first byte on: the position that comes back is the number of its bytes
pub from_first : (out after text : List ℕ) (r most : ℕ) → length text ≤ most → most < last_position → Wrote out after 0 r text → (r ≡ length text) × (r ≤ most)
unfolding end_of
from_first out after text r most short room w = let end = w.1 in (omega arith, omega arith)
