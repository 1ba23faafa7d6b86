-- Words placed in a buffer: nothing, one part after the other, and a setting in front.
-- Main results: `placed_none`, `placed_length`, `placed_more`, `words_joined`, `sheet_placed`.
use mathlib.Core.Path.{◌≡◌, refl, sym, ◌∙◌, ap}
use mathlib.Core.List.{List, [], ◌∷◌, ◌++◌, append_assoc}
use Prim.Native.Nat.{ℕ, suc, ◌+◌, ◌≤◌}
use native.Mathlib.Omega.{arith}
use lib.ListN.{length, set, take, drop, length-append, length-take, length-drop, take-append-drop}
use lib.Seq.{drop-append-add, drop-drop, take-append_seam}
use Rattle.protocol.specs.declared.Setting.{Setting}
use Rattle.protocol.specs.declared.Entry.{Entry}
use Rattle.protocol.specs.Spelling.{time_word, reading_word, action_word, entry_words, sheet_of}
use Rattle.sheet_spelling.specs.Placed.{placed, setting_in_front}

pub placed_none : (out : List ℕ) (at : ℕ) → placed out at [] ≡ out
unfolding placed
placed_none out at =
    let here : at + 0 ≡ at = omega arith in
    ap (λ (k : ℕ). take at out ++ drop k out) here ∙ take-append-drop at out

module _ (out : List ℕ) (at : ℕ) (ws : List ℕ) (fits : at + length ws ≤ length out) where
  pub placed_length : length (placed out at ws) ≡ length out
  unfolding placed
  placed_length =
      let whole = length-append (take at out) (ws ++ drop (at + length ws) out) in
      let back = length-append ws (drop (at + length ws) out) in
      let kept = length-take at out in
      let rest = length-drop (at + length ws) out in omega arith

  -- words behind those that were placed, as if all were placed at once
  pub placed_more : (vs : List ℕ) → placed (placed out at ws) (at + length ws) vs ≡ placed out at (ws ++ vs)
  unfolding placed
  placed_more vs =
      let front = take at out ++ ws in
      let rest = drop (at + length ws) out in
      let long : length front ≡ at + length ws = let a = length-append (take at out) ws in let b = length-take at out in omega arith in
      let split : placed out at ws ≡ front ++ rest = sym (append_assoc (take at out) ws rest) in
      let kept : take (at + length ws) (placed out at ws) ≡ front =
      ap (take (at + length ws)) split ∙ ap (λ (k : ℕ). take k (front ++ rest)) (sym long) ∙ take-append_seam front rest in
      let both : at + length ws + length vs ≡ at + length (ws ++ vs) = let l = length-append ws vs in omega arith in
      let left : drop (at + length ws + length vs) (placed out at ws) ≡ drop (at + length (ws ++ vs)) out =
      ap (drop (at + length ws + length vs)) split ∙ ap (λ (k : ℕ). drop (k + length vs) (front ++ rest)) (sym long)
      ∙ drop-append-add front rest (length vs) ∙ drop-drop (length vs) (at + length ws) out ∙ ap (λ (k : ℕ). drop k out) both in
      rw (kept, left) (append_assoc (take at out) ws _ ∙ ap (λ (l : List ℕ). take at out ++ l) (sym (append_assoc ws vs _)))

-- ENTRIES AND THE SETTING

pub words_joined : (es fs : List Entry) → entry_words (es ++ fs) ≡ entry_words es ++ entry_words fs
unfolding entry_words
words_joined [] fs = refl
words_joined (e ∷ es) fs = ap (λ (l : List ℕ). time_word e ∷ reading_word e ∷ action_word e ∷ l) (words_joined es fs)

-- a setting in front and entries behind it are a sheet at the buffer's beginning
pub sheet_placed : (out : List ℕ) (g : Setting) (es : List Entry) → 2 ≤ length out
    → placed (setting_in_front out g) 2 (entry_words es) ≡ sheet_of g es ++ drop (length (sheet_of g es)) out
unfolding placed sheet_of
sheet_placed [] g es h = absurd (omega arith)
sheet_placed (u ∷ []) g es h = absurd (omega arith)
sheet_placed (u ∷ v ∷ out) g es h =
    let behind : 2 + length (entry_words es) ≡ suc (suc (length (entry_words es))) = omega arith in rw behind refl
