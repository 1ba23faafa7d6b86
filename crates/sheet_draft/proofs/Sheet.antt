-- The whole sheet of a draft in the buffer, and what the verdict says of it.
-- Main results: `setting_fits`, `wrote`, `turned_back`.
use mathlib.Core.Path.{◌≡◌, refl, ◌∙◌, ap}
use mathlib.Core.Bool.{true}
use mathlib.Core.List.{List}
use Prim.Native.Nat.{ℕ, ◌+◌, ◌-◌, ◌*◌, ◌^◌, ◌≤◌, ◌<◌}
use native.Mathlib.Omega.{arith}
use lib.ListN.{length}
use borrow.Author.Tests.{lt-ltb}
use Rattle.protocol.specs.declared.Cause.{Cause}
use Rattle.protocol.specs.Types.{Accepted, Refused}
use Rattle.protocol.specs.Spelling.{entry_words}
use Rattle.protocol.specs.Recorder.{setting_from, setting_in_width}
use Rattle.protocol.specs.Draft.{draft_setting, draft_entries, draft_sheet, draft_verdict, draft, Drafted}
use Rattle.protocol.proofs.Tests.{and_both}
use Rattle.protocol.proofs.Spelling.{told}
use Rattle.protocol.proofs.Drafts.{fits, drafted}
use Rattle.sheet_spelling.specs.Placed.{placed, setting_in_front}
use Rattle.sheet_spelling.proofs.Placed.{sheet_placed}

pub setting_fits : (n f correct : ℕ) → n ≤ 16 → 2 * f + 1 ≤ n → correct < 2 ^ 16 → setting_in_width (setting_from n f correct 0 0) ≡ true
unfolding setting_in_width
setting_fits n f correct most few small =
    and_both (lt-ltb n (2 ^ 8) (omega arith)) (and_both (lt-ltb f (2 ^ 4) (omega arith)) (and_both (lt-ltb correct (2 ^ 16) small) refl))

module _ (n f first spacing : ℕ) (out : List ℕ) where
  pub wrote : (correct : ℕ) (front after : List ℕ) → draft_verdict n f first spacing (length out) ≡ Accepted → correct ≡ 2 ^ n - 1
      → front ≡ setting_in_front out (setting_from n f correct 0 0) → after ≡ placed front 2 (entry_words (draft_entries n first spacing))
      → (Accepted ≡ (draft n f first spacing out).verdict) × (after ≡ (draft n f first spacing out).buffer) × Drafted n Accepted after
  unfolding draft draft_sheet
  wrote correct front after e all setting entries =
      let room = (fits n f first spacing (length out) e).enough in
      told (draft_verdict n f first spacing (length out)) (draft_sheet n f first spacing) out (Drafted n) (drafted n f first spacing out) Accepted after e
      (entries ∙ ap (λ (l : List ℕ). placed l 2 (entry_words (draft_entries n first spacing))) (setting ∙ ap (λ (k : ℕ). setting_in_front out (setting_from n f k 0 0)) all)
      ∙ sheet_placed out (draft_setting n f) (draft_entries n first spacing) (omega arith))

  pub turned_back : (c : Cause) → draft_verdict n f first spacing (length out) ≡ Refused c
      → (Refused c ≡ (draft n f first spacing out).verdict) × (out ≡ (draft n f first spacing out).buffer) × Drafted n (Refused c) out
  unfolding draft
  turned_back c e = told (draft_verdict n f first spacing (length out)) (draft_sheet n f first spacing) out (Drafted n) (drafted n f first spacing out) (Refused c) out e refl
