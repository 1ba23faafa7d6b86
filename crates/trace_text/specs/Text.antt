-- The line that the program trace prints after an entry.
use Rattle.std.specs.Prelude.{Bool, true, false, List, [], ◌∷◌, ℕ, Option, Some, None}
use Rattle.protocol.specs.Program.{decimal, line}
use Rattle.trace_entries.specs.declared.Line.{Line}
use Rattle.trace_text.specs.declared.EntryLine.{EntryLine}

-- the number, or `-` where k is none: k itself, or the adjustment beside an adjuster k
abbrev pub number_text : Option ℕ → ℕ → List ℕ
number_text None x = 45 ∷ []
number_text (Some k) x = decimal x

abbrev pub choice_text : Option ℕ → List ℕ
choice_text None = 45 ∷ []
choice_text (Some k) = decimal k

-- `vote`, `adjust` or `both` for the phases that the entry closed early, else `-`
abbrev pub early_text : Bool → Bool → List ℕ
early_text true true = 98 ∷ 111 ∷ 116 ∷ 104 ∷ []
early_text true false = 118 ∷ 111 ∷ 116 ∷ 101 ∷ []
early_text false true = 97 ∷ 100 ∷ 106 ∷ 117 ∷ 115 ∷ 116 ∷ []
early_text false false = 45 ∷ []

-- index, real time, head, action, candidate, adjuster, adjustment, outcome, and the phases closed early
unfoldable pub entry_text : ℕ → Line → List ℕ
entry_text i l =
    line (decimal i ∷ decimal l.time.0 ∷ decimal l.head ∷ decimal l.action ∷ choice_text l.candidate ∷ choice_text l.adjuster
    ∷ number_text l.adjuster l.adjustment.0 ∷ decimal l.outcome ∷ early_text l.early.votes l.early.adjusts ∷ [])

-- the same of the values that are printed
unfoldable pub line_text : EntryLine → List ℕ
line_text x =
    line (decimal x.index ∷ decimal x.time ∷ decimal x.head ∷ decimal x.action ∷ choice_text x.candidate ∷ choice_text x.adjuster
    ∷ choice_text x.adjustment ∷ decimal x.outcome ∷ early_text x.early.votes x.early.adjusts ∷ [])
