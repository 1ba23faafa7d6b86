-- Document 01, "The bench sheet, and its neighbours": the programs' lines, as they follow from the values that print them.
use Rattle.std.specs.Prelude.{List, [], ◌∷◌, ◌++◌, ℕ}
use Rattle.std.proofs.Math.IntN.{sub_ℕ}
use Rattle.protocol.specs.Claim.{ending_in_words}
use Rattle.protocol.specs.Program.{decimal, signed, line, premises_word, end_word, entry_word, head_line, head_lines, premises_line, refused_line}
use Rattle.print_lines.specs.declared.HeadLine.{HeadLine}
use Rattle.print_lines.specs.declared.LastLine.{LastLine}
use Rattle.print_lines.specs.declared.LastLine.TheVariants.{Premises, BrokenAtEnd, BrokenAt, Refused}

-- "per head: head, outcome, candidate, adjuster, adjustment, start reading, correction"
unfoldable pub head_text : HeadLine → List ℕ
head_text x =
    line (decimal x.head ∷ decimal x.outcome ∷ decimal x.candidate ∷ decimal x.adjuster ∷ decimal x.adjustment ∷ decimal x.start
    ∷ signed (sub_ℕ x.adjustment x.start) ∷ [])

-- the same as it follows from the result words
unfoldable pub head_line_of : List ℕ → ℕ → List ℕ
head_line_of results q = head_line results q (ending_in_words results q)

-- of the premises, and of a refusal; a broken premise may be told with where it was broken: at the end, or at an entry
abbrev pub last_text : LastLine → List ℕ
last_text (Premises i) = premises_line i
last_text (BrokenAtEnd i) = line (premises_word ∷ decimal i ∷ end_word ∷ [])
last_text (BrokenAt i k) = line (premises_word ∷ decimal i ∷ entry_word ∷ decimal k ∷ [])
last_text (Refused c p) = refused_line c p

-- the heads' lines, and the line of the premises
unfoldable pub result_lines : List ℕ → ℕ → ℕ → List ℕ
result_lines results n premise = head_lines results n ++ premises_line premise
