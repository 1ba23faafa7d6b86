-- How long numbers and lines can be.
-- Main results: `any_number`, `two_digits`, `time_digits`, `signed_digits`; `length_line`, `refused_short`, `premises_short`,
-- `broken_short`, `last_short`.
use mathlib.Core.Path.{◌≡◌, refl}
use mathlib.Core.List.{List, [], ◌∷◌}
use Prim.Native.Nat.{ℕ, zero, suc, ◌+◌, ◌-◌, ◌*◌, ◌/◌, ◌%◌, ◌^◌, ◌≤◌, ◌<◌}
use native.Mathlib.Omega.{arith}
use native.Mathlib.Nat.{pow-suc}
use lib.Dec.{ltb}
use lib.IntN.{sub_ℕ}
use lib.ListN.{length, length-append}
use borrow.Author.Tests.{ltb-true, ltb-false}
use Rattle.protocol.specs.declared.Cause.{Cause}
use Rattle.protocol.specs.Causes.{cause_number}
use Rattle.protocol.specs.Premises.{is_asked_at_end}
use Rattle.protocol.specs.Program.{digits, decimal, signed, line, premises_word, refused_word, entry_word, end_word, refused_line, premises_line, broken_line}
use Rattle.protocol.proofs.Tests.{cond_elim}
use Rattle.print_lines.specs.declared.LastLine.{LastLine}
use Rattle.print_lines.specs.declared.LastLine.TheVariants.{Premises, BrokenAtEnd, BrokenAt, Refused}
use Rattle.print_lines.specs.Lines.{last_text}

-- NUMBERS

most_digits : (k x : ℕ) → length (digits k x) ≤ k
most_digits zero x = omega arith
most_digits (suc k) x =
    cond_elim (λ (l : List ℕ). length l ≤ suc k) (ltb x 10) (λ _. omega arith)
    (λ _. rw (length-append (digits k (x / 10)) ((48 + x % 10) ∷ [])) (let m = most_digits k (x / 10) in omega arith))

few_digits : (k j x : ℕ) → x < 10 ^ suc j → length (digits k x) ≤ suc j
few_digits zero j x h = omega arith
few_digits (suc k) zero x h = cond_elim (λ (l : List ℕ). length l ≤ 1) (ltb x 10) (λ _. omega arith) (λ t. absurd (let l = ltb-false x 10 t in omega arith))
few_digits (suc k) (suc j) x h =
    let l : x < 10 ^ suc j * 10 = rw (← pow-suc 10 (suc j)) h in
    let m = few_digits k j (x / 10) (omega arith) in
    cond_elim (λ (l : List ℕ). length l ≤ suc (suc j)) (ltb x 10) (λ _. omega arith)
    (λ _. rw (length-append (digits k (x / 10)) ((48 + x % 10) ∷ [])) (omega arith))

pub any_number : (x : ℕ) → length (decimal x) ≤ 20
unfolding decimal
any_number x = most_digits 20 x

pub two_digits : (x : ℕ) → x < 100 → length (decimal x) ≤ 2
unfolding decimal
two_digits x h = few_digits 20 1 x h

pub time_digits : (x : ℕ) → x < 2 ^ 28 → length (decimal x) ≤ 9
unfolding decimal
time_digits x h = few_digits 20 8 x (omega arith)

pub signed_digits : (a b : ℕ) → a < 2 ^ 28 → b < 2 ^ 28 → length (signed (sub_ℕ a b)) ≤ 10
unfolding signed
signed_digits a b ha hb =
    cond_elim (λ z. length (signed z) ≤ 10) (ltb a b)
    (λ t. let l = ltb-true a b t in let m = time_digits (suc (b - suc a)) (omega arith) in omega arith)
    (λ t. let l = ltb-false a b t in let m = time_digits (a - b) (omega arith) in omega arith)

-- LINES

-- the fields, and a byte behind each
abbrev pub fields_length : List (List ℕ) → ℕ
fields_length [] = 0
fields_length (x ∷ l) = length x + (1 + fields_length l)

pub length_line : (l : List (List ℕ)) → length (line l) ≡ fields_length l
unfolding line
length_line [] = refl
length_line (x ∷ []) = rw (length-append x (10 ∷ [])) refl
length_line (x ∷ y ∷ l) = rw (length-append x (32 ∷ line (y ∷ l))) (let e = length_line (y ∷ l) in omega arith)

pub refused_short : (c : Cause) (p : ℕ) → length (refused_line c p) ≤ 64
unfolding refused_line
refused_short c p =
    let a = any_number (cause_number c) in
    let b = any_number p in
    rw (length_line (refused_word ∷ decimal (cause_number c) ∷ decimal p ∷ [])) (omega arith)

pub premises_short : (i : ℕ) → length (premises_line i) ≤ 64
unfolding premises_line
premises_short i = let a = any_number i in rw (length_line (premises_word ∷ decimal i ∷ [])) (omega arith)

pub broken_short : (i k : ℕ) → length (broken_line i k) ≤ 64
unfolding broken_line
broken_short i k =
    let a = any_number i in
    let b = any_number k in
    cond_elim (λ (l : List ℕ). length l ≤ 64) (is_asked_at_end i) (λ _. rw (length_line (premises_word ∷ decimal i ∷ end_word ∷ [])) (omega arith))
    (λ _. rw (length_line (premises_word ∷ decimal i ∷ entry_word ∷ decimal k ∷ [])) (omega arith))

pub last_short : (x : LastLine) → length (last_text x) ≤ 64
unfolding premises_line refused_line
last_short (Premises i) = premises_short i
last_short (BrokenAtEnd i) = let a = any_number i in rw (length_line (premises_word ∷ decimal i ∷ end_word ∷ [])) (omega arith)
last_short (BrokenAt i k) = let a = any_number i in let b = any_number k in rw (length_line (premises_word ∷ decimal i ∷ entry_word ∷ decimal k ∷ [])) (omega arith)
last_short (Refused c p) = refused_short c p
