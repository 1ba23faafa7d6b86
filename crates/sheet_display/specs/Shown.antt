-- The words that the display does not pass over, and what is noted of them.
use Rattle.std.specs.Prelude.{◌≡◌, Bool, List, ℕ, ◌<◌, length, get_or}
use Rattle.protocol.specs.Results.{word_of}
use Rattle.protocol.specs.Readers.{kinds_fit, keep, is_shown}
use Rattle.sheet_display.specs.declared.Kept.{Kept}

-- of the words that are shown: their number, whether the kinds are in their places, and head q's three
pub record Notes (q : ℕ) (l : List ℕ) (count : ℕ) (fits : Bool) (words_of_head : List ℕ) : Type 0 where
  pub count_is : count ≡ length l
  pub fits_is : fits ≡ kinds_fit 3 l
  pub has_three : length words_of_head ≡ 3
  pub word_is : (j : ℕ) → j < 3 → get_or words_of_head j 0 ≡ word_of 3 l q j

abbrev pub AreKept : ℕ → List ℕ → Kept → Type 0
AreKept q words k = Notes q (keep is_shown words) k.count k.kinds_fit k.of_head
