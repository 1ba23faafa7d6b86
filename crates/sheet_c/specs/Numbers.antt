-- What a program written in C gets for a sheet that it gives or has written, and for result words, in numbers.
use Rattle.std.specs.Prelude.{◌≡◌, List, ◌++◌, ℕ, ◌+◌, get_or, ℤ, Err}
use Rattle.protocol.specs.declared.Setting.{Setting}
use Rattle.protocol.specs.Types.{Replayed, Filled, Judged, Kept, Broken, Unjudged}
use Rattle.protocol.specs.Causes.{cause_number}
use Rattle.protocol.specs.Run.{record_of}
use Rattle.protocol.specs.Results.{result_words, replayed_numbers}
use Rattle.protocol.specs.Premises.{judged_numbers}
use Rattle.protocol.specs.Claim.{AgreesInWords}
use Rattle.protocol.specs.Recorder.{HoldsSheet}
use Rattle.protocol.specs.Draft.{HoldsRound}
use Rattle.protocol.specs.Readers.{keep, is_shown, shown_of, counts_of, OfSheets}

-- the replay's cause and place, the judge's, and the first broken premise; each 0 where there is none
abbrev pub answer_numbers : Replayed → Judged → List ℕ
answer_numbers r j = replayed_numbers r ++ judged_numbers j

-- a place stands behind its cause
abbrev pub place_in : List ℕ → ℕ
place_in l = get_or l 1 0

-- the judge's answer in one number: 0 for kept, the first broken premise, or 16 more than the cause
abbrev pub judged_number : Judged → ℕ
judged_number Kept = 0
judged_number (Broken i) = i
judged_number (Err x) = 16 + cause_number x.cause

-- the third point of the words in the buffer, where the judge's number and the replay's cause are 0
abbrev pub AgreesInNumbers : List ℕ → ℕ → List ℕ → List ℕ → Type 0
AgreesInNumbers ws k answer out =
    k ≡ 0 → ◌≡◌ {A = ℕ} (get_or answer 0 0) 0 → AgreesInWords ws (record { replayed = Filled; judged = Kept }) out

-- what the writer and the draft are for, where their number is 0
abbrev pub RecordedIfAccepted : Setting → List ℕ → ℕ → List ℕ → Type 0
RecordedIfAccepted g xs k out = k ≡ 0 → HoldsSheet g xs out

abbrev pub DraftedIfAccepted : ℕ → ℕ → List ℕ → Type 0
DraftedIfAccepted n k out = k ≡ 0 → HoldsRound n out

-- what the readers give, with 0 for a cause, where their words are those that an accepted sheet's replay leaves
abbrev pub ShownIfResult : ℕ → ℕ → List ℕ → ℕ → List ℤ → Type 0
ShownIfResult n q words k l = OfSheets n q (λ g h. keep is_shown words ≡ keep is_shown (result_words g h) → (k ≡ 0) × (l ≡ shown_of (record_of g h q)))

abbrev pub PlannedIfResult : ℕ → ℕ → List ℕ → ℕ → List ℤ → Type 0
PlannedIfResult n q words k l = OfSheets n q (λ g h. words ≡ result_words g h → (k ≡ 0) × (l ≡ shown_of (record_of g h q) ++ counts_of h q))
