-- What a replay leaves is what the program prints of a sheet.
-- Main results: `turned_back`, `prints_refusal`, `prints_results`, `prints_cause`, `prints_sheet`.
use mathlib.Core.Path.{◌≡◌, refl, sym, ◌∙◌, ap}
use mathlib.Core.List.{List, ◌++◌}
use Prim.Native.Nat.{ℕ, zero, suc, ◌+◌, ◌*◌, ◌≤◌, ◌<◌}
use native.Mathlib.Omega.{arith}
use lib.ListN.{length, get_or, drop, get_or-append}
use borrow.Author.Tests.{le-ltb}
use Rattle.std.specs.Prelude.{[], Result, Ok, Err, IsErrAnd}
use Rattle.protocol.specs.declared.Refusal.{Refusal}
use Rattle.protocol.specs.declared.Setting.{Setting}
use Rattle.protocol.specs.declared.Cause.{Cause}
use Rattle.protocol.specs.Types.{Verdict, Accepted, Refused, Replayed, Filled, TurnedBack}
use Rattle.protocol.specs.Words.{setting_at, entry_count}
use Rattle.protocol.specs.Causes.{sheet_verdict}
use Rattle.protocol.specs.Run.{History, record_of, Run, stopped, ran, run_of, after_verdict, run_sheet}
use Rattle.protocol.specs.Results.{words_per_head, words_from, result_words, Replay, fill_after, replay}
use Rattle.protocol.specs.Premises.{premise_number, judge}
use Rattle.protocol.specs.Claim.{ending_in_words}
use Rattle.protocol.specs.Program.{head_line, head_lines, refused_line, big_endian, print_run, print_sheet, bytes_verdict, printed}
use Rattle.protocol.proofs.Valid.{heads_fit_lem, accepted_sheet}
use Rattle.protocol.proofs.ResultWords.{length_words, filled}
use Rattle.protocol.proofs.Fits.{sheet_fits}
use Rattle.print_lines.specs.Lines.{result_lines}
use Rattle.print_lines.specs.declared.Results.{Results}
use Rattle.print_replay.specs.Printout.{text_of}

-- the line of a refusal: `cc` takes equal records apart no further
abbrev line_of : {A : Type 0} → Result A Refusal → List ℕ
line_of (Ok _) = []
line_of (Err x) = refused_line x.cause x.place

-- what `?` hands on
pub turned_back : (r : Result Results Refusal) (x : Refusal) → IsErrAnd r (λ y. y ≡ x) → text_of r ≡ refused_line x.cause x.place
turned_back (Ok _) x e = absurd e
turned_back (Err y) x e = ap (λ (x : Refusal). refused_line x.cause x.place) e

-- LINES OF THE SAME WORDS

same_line : (a b : List ℕ) (n q : ℕ) → ((i : ℕ) → i < words_per_head * n → get_or a i 0 ≡ get_or b i 0) → q < n → head_line a q (ending_in_words a q) ≡ head_line b q (ending_in_words b q)
unfolding ending_in_words
same_line a b n q same l = rw (same (words_per_head * q + 0) (omega arith), same (words_per_head * q + 1) (omega arith), same (words_per_head * q + 2) (omega arith)) refl

same_lines : (a b : List ℕ) (n k : ℕ) → ((i : ℕ) → i < words_per_head * n → get_or a i 0 ≡ get_or b i 0) → k ≤ n → head_lines a k ≡ head_lines b k
unfolding head_lines
same_lines a b n zero same l = refl
same_lines a b n (suc q) same l = rw (same_lines a b n q same (omega arith), same_line a b n q same l) refl

words_first : (g : Setting) (h : History) (rest : List ℕ) (i : ℕ) → i < words_per_head * g.n → get_or (result_words g h ++ rest) i 0 ≡ get_or (result_words g h) i 0
unfolding result_words
words_first g h rest i l = get_or-append (words_from (record_of g h) 0 g.n) rest 0 i (omega (arith, length_words (record_of g h) 0 g.n))

-- THE ENDS OF A REPLAY INTO 64 WORDS

module _ (ws out : List ℕ) (room : 64 ≤ length out) where
  heads_fit_in : (v : Verdict) → sheet_verdict ws ≡ v → v ≡ Accepted → words_per_head * (setting_at ws).n ≤ length out
  heads_fit_in v is e = let few = (heads_fit_lem (setting_at ws).n (setting_at ws).f (sheet_fits ws (is ∙ e)).heads).1 in omega arith

  stopped_answer : (c : Cause) (p : ℕ) → run_sheet ws ≡ stopped c p → (replay ws out).answer ≡ TurnedBack c p
  unfolding replay run_sheet
  stopped_answer c p = go (sheet_verdict ws) refl
    where
      go : (v : Verdict) → sheet_verdict ws ≡ v → after_verdict v (run_of ws (entry_count ws)) ≡ stopped c p → (fill_after v ws out).answer ≡ TurnedBack c p
      go (Refused d) is e = cc
      go Accepted is e = rw (le-ltb (length out) (words_per_head * (setting_at ws).n) (heads_fit_in Accepted is refl), e) refl

  -- a sheet that is not turned back has its first two words
  pub has_setting : (r : Replayed) → r ≡ (replay ws out).answer → r ≡ Filled → 2 ≤ length ws
  unfolding replay
  has_setting r is e = go (sheet_verdict ws) refl (sym e ∙ is)
    where
      go : (v : Verdict) → sheet_verdict ws ≡ v → Filled ≡ (fill_after v ws out).answer → 2 ≤ length ws
      go (Refused d) was h = absurd (let z : ◌≡◌ {A = ℕ} 0 1 = cc in omega arith)
      go Accepted was h = (sheet_fits ws was).at_least_two

  -- a sheet that is turned back
  pub prints_refusal : (r : Replayed) (c : Cause) (p : ℕ) → r ≡ (replay ws out).answer → r ≡ TurnedBack c p → refused_line c p ≡ print_sheet ws
  unfolding print_sheet
  prints_refusal r c p is e = go (run_sheet ws) refl
    where
      go : (x : Run) → run_sheet ws ≡ x → refused_line c p ≡ print_run (setting_at ws) (judge ws) x
      go (stopped d k) h = let same : TurnedBack c p ≡ TurnedBack d k = sym e ∙ is ∙ stopped_answer d k h in ap (λ (x : Replayed). line_of x) same
      go (ran s) h =
          let few = (accepted_sheet ws s h).at_most_16 in
          let other : TurnedBack c p ≡ Filled = sym e ∙ is ∙ ap (λ (x : Replay). x.answer) (filled ws out s h (omega arith)) in
          absurd (let z : ◌≡◌ {A = ℕ} 0 1 = cc in omega arith)

  -- a sheet whose result words stand in front of the buffer
  pub prints_results : (r : Replayed) (results : List ℕ) (n k : ℕ) → r ≡ (replay ws out).answer → results ≡ (replay ws out).buffer → r ≡ Filled → n ≡ (setting_at ws).n
      → k ≡ premise_number (judge ws) → result_lines results n k ≡ print_sheet ws
  unfolding print_sheet result_lines
  prints_results r results n k is left e en ek = go (run_sheet ws) refl
    where
      go : (x : Run) → run_sheet ws ≡ x → result_lines results n k ≡ print_run (setting_at ws) (judge ws) x
      go (stopped d p) h =
          let other : Filled ≡ TurnedBack d p = sym e ∙ is ∙ stopped_answer d p h in
          absurd (let z : ◌≡◌ {A = ℕ} 0 1 = cc in omega arith)
      go (ran s) h =
          let g = setting_at ws in
          let few = (accepted_sheet ws s h).at_most_16 in
          let words : results ≡ result_words g s ++ drop (words_per_head * g.n) out = left ∙ ap (λ (x : Replay). x.buffer) (filled ws out s h (omega arith)) in
          rw (en, ek, words, same_lines (result_words g s ++ drop (words_per_head * g.n) out) (result_words g s) g.n g.n (words_first g s (drop (words_per_head * g.n) out)) (omega arith)) refl

-- THE PROGRAM

module _ (bytes : List ℕ) (v : Verdict) (says : v ≡ bytes_verdict bytes) where
  -- causes 1 and 2 of the bytes
  pub prints_cause : (c : Cause) → v ≡ Refused c → refused_line c 0 ≡ printed bytes
  unfolding printed
  prints_cause c e = rw (← says, e) refl

  pub prints_sheet : v ≡ Accepted → (ws : List ℕ) → ws ≡ big_endian bytes → print_sheet ws ≡ printed bytes
  unfolding printed
  prints_sheet e ws is = rw (← says, e, is) refl
