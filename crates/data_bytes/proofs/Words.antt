-- The word at an index of the big-endian words of a list of bytes.
use mathlib.Core.Path.{◌≡◌, refl, sym, ◌∙◌}
use mathlib.Core.List.{List, [], ◌∷◌}
use Prim.Native.Nat.{ℕ, zero, suc, ◌+◌, ◌*◌, ◌/◌, ◌≤◌, ◌<◌}
use native.Mathlib.Omega.{arith}
use lib.ListN.{length, take, get_or}
use lib.Seq.{ext_get_or, get_or-take, length-take-le}
use Rattle.std.specs.Int.{w32, from_be_bytes}
use Rattle.protocol.specs.Types.{Verdict, Accepted}
use Rattle.protocol.specs.Program.{big_endian, bytes_verdict}
use Rattle.protocol.proofs.Fits.{few_bytes}

abbrev word : ℕ → ℕ → ℕ → ℕ → ℕ
word a b c d = ((a * 256 + b) * 256 + c) * 256 + d

at : (l : List ℕ) (i j : ℕ) → j ≡ 4 * i → i < length l / 4 → get_or (big_endian l) i 0 ≡ word (get_or l j 0) (get_or l (suc j) 0) (get_or l (suc (suc j)) 0) (get_or l (suc (suc (suc j))) 0)
unfolding big_endian
at [] i j e h = absurd (omega arith)
at (a ∷ []) i j e h = absurd (omega arith)
at (a ∷ b ∷ []) i j e h = absurd (omega arith)
at (a ∷ b ∷ c ∷ []) i j e h = absurd (omega arith)
at (a ∷ b ∷ c ∷ d ∷ l) zero zero e h = refl
at (a ∷ b ∷ c ∷ d ∷ l) zero (suc j) e h = absurd (omega arith)
at (a ∷ b ∷ c ∷ d ∷ l) (suc i) zero e h = absurd (omega arith)
at (a ∷ b ∷ c ∷ d ∷ l) (suc i) (suc zero) e h = absurd (omega arith)
at (a ∷ b ∷ c ∷ d ∷ l) (suc i) (suc (suc zero)) e h = absurd (omega arith)
at (a ∷ b ∷ c ∷ d ∷ l) (suc i) (suc (suc (suc zero))) e h = absurd (omega arith)
at (a ∷ b ∷ c ∷ d ∷ l) (suc i) (suc (suc (suc (suc j)))) e h = at l i j (omega arith) (omega arith)

big_endian_4 : (a b c d : ℕ) → from_be_bytes w32 (a ∷ b ∷ c ∷ d ∷ []) ≡ word a b c d
big_endian_4 a b c d = omega arith

pub word_inside : (l : List ℕ) (i w : ℕ) → i < length l / 4
    → w ≡ from_be_bytes w32 (get_or l (4 * i) 0 ∷ get_or l (4 * i + 1) 0 ∷ get_or l (4 * i + 2) 0 ∷ get_or l (4 * i + 3) 0 ∷ []) → w ≡ get_or (big_endian l) i 0
word_inside l i w h is =
    let one : 4 * i + 1 ≡ suc (4 * i) = omega arith in
    let two : 4 * i + 2 ≡ suc (suc (4 * i)) = omega arith in
    let three : 4 * i + 3 ≡ suc (suc (suc (4 * i))) = omega arith in
    rw (at l i (4 * i) refl h, ← three, ← two, ← one) (is ∙ big_endian_4 (get_or l (4 * i) 0) (get_or l (4 * i + 1) 0) (get_or l (4 * i + 2) 0) (get_or l (4 * i + 3) 0))

pub word_past : (l : List ℕ) (i : ℕ) → length l / 4 ≤ i → 0 ≡ get_or (big_endian l) i 0
unfolding big_endian
word_past [] i h = refl
word_past (a ∷ []) i h = refl
word_past (a ∷ b ∷ []) i h = refl
word_past (a ∷ b ∷ c ∷ []) i h = refl
word_past (a ∷ b ∷ c ∷ d ∷ l) zero h = absurd (omega arith)
word_past (a ∷ b ∷ c ∷ d ∷ l) (suc i) h = word_past l i (omega arith)

length_words : (l : List ℕ) → length (big_endian l) ≡ length l / 4
unfolding big_endian
length_words [] = refl
length_words (a ∷ []) = omega arith
length_words (a ∷ b ∷ []) = omega arith
length_words (a ∷ b ∷ c ∷ []) = omega arith
length_words (a ∷ b ∷ c ∷ d ∷ l) = let ih = length_words l in omega arith

-- an array that holds the words, as far as it goes
pub whole_words : (l r : List ℕ) → length r ≡ 12290 → ((k : ℕ) → k < 12290 → get_or r k 0 ≡ get_or (big_endian l) k 0) → length l ≤ 49160 → take (length l / 4) r ≡ big_endian l
whole_words l r n h few =
    ext_get_or 0 (take (length l / 4) r) (big_endian l) (size ∙ sym (length_words l)) (λ k lt.
    let below : k < length l / 4 = omega (arith, size) in get_or-take (length l / 4) r k 0 below ∙ h k (omega arith))
  where
    size : length (take (length l / 4) r) ≡ length l / 4
    size = length-take-le (length l / 4) r (omega arith)

-- the words of accepted bytes are so many of those read, for a program to lend on
pub accepted_words : (bytes words : List ℕ) (v : Verdict) → v ≡ bytes_verdict bytes → v ≡ Accepted → 12290 ≡ length words
    → (length bytes / 4 ≤ 12290) × (length bytes / 4 ≡ length (take (length bytes / 4) words))
accepted_words bytes words v is accepted n =
    let few = few_bytes bytes (sym is ∙ accepted) in (omega arith, sym (length-take-le _ words (omega arith)))
