-- How long what is printed can be.
-- Main result: `printed_short`, for the bytes of any sheet.
use mathlib.Core.Path.{◌≡◌, refl}
use mathlib.Core.List.{List, [], ◌∷◌}
use Prim.Native.Nat.{ℕ, zero, suc, ◌*◌, ◌≤◌, ◌<◌}
use native.Mathlib.Omega.{arith}
use lib.IntN.{sub_ℕ}
use lib.ListN.{length, length-append}
use Rattle.protocol.specs.Types.{Verdict, Accepted, Refused}
use Rattle.protocol.specs.Words.{bits, time_of, setting_at}
use Rattle.protocol.specs.Run.{Run, stopped, ran, run_sheet}
use Rattle.protocol.specs.Results.{result_words}
use Rattle.protocol.specs.Premises.{premise_number, judge}
use Rattle.protocol.specs.Claim.{result_of, ending_in_words}
use Rattle.protocol.specs.Program.{decimal, signed, head_line, head_lines, premises_line, big_endian, print_run, print_sheet, bytes_verdict, print_bytes, printed}
use Rattle.protocol.proofs.Valid.{accepted_sheet}
use Rattle.print_lines.proofs.Lengths.{two_digits, time_digits, signed_digits, length_line, refused_short, premises_short}

-- LINES

head_short : (out : List ℕ) (q : ℕ) → q < 100 → length (head_line out q (ending_in_words out q)) ≤ 43
unfolding ending_in_words
head_short out q h =
    let w = result_of out q 0 in
    let a = time_of (result_of out q 1) in
    let s = time_of (result_of out q 2) in
    let d0 = two_digits q h in
    let d1 = two_digits (bits w 27 24) (omega arith) in
    let d2 = two_digits (bits w 19 16) (omega arith) in
    let d3 = two_digits (bits w 15 12) (omega arith) in
    let d4 = time_digits a (omega arith) in
    let d5 = time_digits s (omega arith) in
    let d6 = signed_digits a s (omega arith) (omega arith) in
    rw (length_line (decimal q ∷ decimal (bits w 27 24) ∷ decimal (bits w 19 16) ∷ decimal (bits w 15 12) ∷ decimal a ∷ decimal s ∷ signed (sub_ℕ a s) ∷ [])) (omega arith)

heads_short : (out : List ℕ) (n : ℕ) → n ≤ 100 → length (head_lines out n) ≤ 43 * n
unfolding head_lines
heads_short out zero h = omega arith
heads_short out (suc q) h =
    let m = heads_short out q (omega arith) in
    let l = head_short out q (omega arith) in
    rw (length-append (head_lines out q) (head_line out q (ending_in_words out q))) (omega arith)

-- SHEETS

sheet_short : (ws : List ℕ) → length (print_sheet ws) ≤ 1024
unfolding print_sheet
sheet_short ws = go (run_sheet ws) refl
  where
    go : (x : Run) → run_sheet ws ≡ x → length (print_run (setting_at ws) (judge ws) x) ≤ 1024
    go (stopped c p) e = let a = refused_short c p in omega arith
    go (ran h) e =
        let few = (accepted_sheet ws h e).at_most_16 in
        let lines = head_lines (result_words (setting_at ws) h) (setting_at ws).n in
        let last = premises_line (premise_number (judge ws)) in
        let a = heads_short (result_words (setting_at ws) h) (setting_at ws).n (omega arith) in
        let b = premises_short (premise_number (judge ws)) in
        rw (length-append lines last) (omega arith)

pub printed_short : (bytes : List ℕ) → length (printed bytes) ≤ 1024
unfolding printed
printed_short bytes = go (bytes_verdict bytes)
  where
    go : (v : Verdict) → length (print_bytes v bytes) ≤ 1024
    go (Refused c) = let a = refused_short c 0 in omega arith
    go Accepted = sheet_short (big_endian bytes)
