-- The frame whose numbers a step gives is found again from them, since its serial and its choice are bytes.
-- Main results: `is_start`, `is_vote`, `is_adjust`, `is_none`.
use Rattle.protocol.specs.declared.Reading.{Reading}
use Rattle.std.specs.Prelude.{Option, Some, None}
use mathlib.Core.Path.{◌≡◌, refl, ◌∙◌, ap}
use mathlib.Core.Bool.{cond}
use mathlib.Core.Logic.{◌≢◌}
use Prim.Native.Nat.{◌+◌, ◌-◌, ◌%◌, ◌^◌, ◌<◌}
use native.Mathlib.Omega.{arith}
use lib.Dec.{eqb}
use borrow.Author.Tests.{lt-ltb, ne_eqb}
use Rattle.head_row.specs.declared.Sent.{Sent}
use Rattle.protocol.specs.Types.{Frame, NoFrame, Start, Vote, Adjust}
use Rattle.protocol.specs.Record.{reading_or0, reading}
use Rattle.protocol.specs.Row.{reading_plus1, reading_in}
use Rattle.head_row.specs.Sent.{sent_of}
use Rattle.head_record.specs.Bytes.{FrameSized, StandsFor}
use Rattle.head_record.proofs.Cutting.{byte_same}

-- the frame by its kind
abbrev vote_in : Sent → Frame
vote_in s = Vote (s.serial % 256) (s.choice % 256) (reading_in s.carried)

abbrev adjust_in : Sent → Frame
adjust_in s = Adjust (s.serial % 256) (s.choice % 256) (reading s.carried)

abbrev frame_in : Sent → Frame
frame_in s = cond (eqb s.kind 2) Start (cond (eqb s.kind 5) (vote_in s) (cond (eqb s.kind 8) (adjust_in s) NoFrame))

reading_back : (x : Option Reading) → reading_or0 x < 2 ^ 28 → reading_in (reading_plus1 x) ≡ x
reading_back None lt = refl
reading_back (Some x) lt =
    let e : x.0 + 1 - 1 ≡ x.0 = omega arith in
    simp (lt-ltb x.0 (2 ^ 28) lt, ne_eqb (x.0 + 1) 0 (λ z. omega arith), e)

frame_back : (x : Frame) → FrameSized x → frame_in (sent_of x) ≡ x
frame_back NoFrame h = refl
frame_back Start h = refl
frame_back (Vote k c x) h = simp (byte_same k h.0, byte_same c h.1, reading_back x h.2)
frame_back (Adjust k c x) h = simp (byte_same k h.0, byte_same c h.1)

stands_for : (s : Sent) (y : Frame) → y ≡ frame_in s → StandsFor s y
stands_for s y e x h is = e ∙ ap frame_in is ∙ frame_back x h

module _ (s : Sent) where
  pub is_start : s.kind ≡ 2 → StandsFor s Start
  is_start e = stands_for s Start (rw e refl)

  pub is_vote : (y : Frame) → s.kind ≡ 5 → y ≡ vote_in s → StandsFor s y
  is_vote y e v = stands_for s y (rw e v)

  pub is_adjust : (y : Frame) → s.kind ≡ 8 → y ≡ adjust_in s → StandsFor s y
  is_adjust y e v = stands_for s y (rw e v)

  pub is_none : s.kind ≢ 2 → s.kind ≢ 5 → s.kind ≢ 8 → StandsFor s NoFrame
  is_none two five eight = stands_for s NoFrame (rw (ne_eqb s.kind 2 two, ne_eqb s.kind 5 five, ne_eqb s.kind 8 eight) refl)
