-- Of a record in its ranges nothing is cut, since each of its head numbers, counts and serials has room in a byte.
-- Main results: `first_read`, `all_read`, `nothing_cut`.
use Rattle.std.specs.Prelude.{Option, Some, None, unwrap_or}
use mathlib.Core.Path.{◌≡◌, sym, ◌∙◌, ap}
use mathlib.Core.Bool.{true}
use mathlib.Core.List.{List, map}
use Prim.Native.Nat.{ℕ, zero, suc, ◌%◌, ◌≤◌, ◌<◌}
use native.Mathlib.Omega.{arith}
use lib.Dec.{ltb}
use lib.ListN.{length, get_or, replicate, length-map, get_or-map}
use lib.Seq.{ext_get_or}
use borrow.Author.Tests.{ltb-true, ltb-false}
use Rattle.protocol.specs.declared.Sender.{Sender}
use Rattle.protocol.specs.declared.Phase.{Phase}
use Rattle.protocol.specs.declared.HeadRecord.{HeadRecord}
use Rattle.protocol.specs.declared.HeadRow.{HeadRow}
use Rattle.protocol.specs.Base.{table}
use Rattle.protocol.specs.Record.{votes, adjusts, no_sender, record_in_range}
use Rattle.protocol.specs.Row.{sender_in, record_in, row_fits, row_in_range}
use Rattle.protocol.proofs.Tests.{cases, and_right}
use Rattle.protocol.proofs.Tables.{length_table, table_at}
use Rattle.protocol.proofs.Ranges.{in_range, SenderInRange, KeptInRange, SentInRange}
use Rattle.data_values.proofs.Numbers.{number_same}
use Rattle.head_record.specs.Bytes.{cut_sender, cut_phase, cut, Holds}

-- senders, each read from its numbers: the first, and all sixteen
pub first_read : (w : HeadRow) (k : Sender) → k ≡ cut_sender (sender_in w 0) → (p : ℕ) → p < 1 → get_or (replicate 16 k) p no_sender ≡ cut_sender (sender_in w p)
first_read w k e zero lt = e
first_read w k e (suc p) lt = absurd (omega arith)

pub all_read : (w : HeadRow) (l : List Sender) → length l ≡ 16 → ((p : ℕ) → p < 16 → get_or l p no_sender ≡ cut_sender (sender_in w p))
    → l ≡ map cut_sender (table (sender_in w) 0 16)
all_read w l long each =
    let all = table (sender_in w) 0 16 in
    ext_get_or no_sender l (map cut_sender all) long
    (λ p lt. let below : p < 16 = omega (arith, lt, long) in
    each p below ∙ sym (get_or-map cut_sender all p no_sender ∙ ap cut_sender (table_at (sender_in w) 16 p no_sender below)))

pub byte_same : (k : ℕ) → k < 256 → k % 256 ≡ k
byte_same k lt = omega arith

sender_same : (n p : ℕ) (k : Sender) → n ≤ 16 → p < 16 → KeptInRange n p k → cut_sender k ≡ k
sender_same n p k small below kept = cases (ltb p n) (λ t. inside (kept.below (ltb-true p n t))) (λ t. let none = kept.above (ltb-false p n t) below in ap cut_sender none ∙ sym none)
  where
    inside : SenderInRange n k → cut_sender k ≡ k
    inside h =
        simp (
          number_same k.voted (omega (arith, h.serial votes)),
          number_same k.adjusted (omega (arith, h.serial adjusts)),
          number_same k.candidate (omega (arith, small, h.latest votes)),
          number_same k.adjuster (omega (arith, small, h.latest adjusts)),
        )

senders_same : (n : ℕ) (l : List Sender) → n ≤ 16 → length l ≡ 16 → ((p : ℕ) → KeptInRange n p (get_or l p no_sender)) → map cut_sender l ≡ l
senders_same n l small long kept =
    ext_get_or no_sender (map cut_sender l) l (length-map l cut_sender)
    (λ p lt. get_or-map cut_sender l p no_sender
    ∙ sender_same n p (get_or l p no_sender) small (omega (arith, lt, long, length-map l cut_sender)) (kept p))

choice_below : (n : ℕ) (x : Option ℕ) (sent : ℕ) → n ≤ 16 → SentInRange n x sent → (unwrap_or x 0 < 256) × (sent < 256)
choice_below n None sent small h = (omega arith, omega arith)
choice_below n (Some v) sent small h = (omega arith, omega arith)

phase_same : (n : ℕ) (p : Phase) → n ≤ 16 → SentInRange n p.choice p.sent → cut_phase p ≡ p
phase_same n p small h =
    let room = choice_below n p.choice p.sent small h in
    simp (number_same p.choice room.0, byte_same p.sent room.1)

uncut : (r : HeadRecord) → record_in_range r ≡ true → length r.senders ≡ 16 → cut r ≡ r
unfolding cut
uncut r e long =
    let h = in_range e in
    let small = h.heads.1 in
    simp (
      byte_same r.n (omega (arith, small)),
      byte_same r.f (omega (arith, small, h.heads.2)),
      byte_same r.own (omega (arith, small, h.own)),
      phase_same r.n r.vote small (h.phase votes),
      phase_same r.n r.adjust small (h.phase adjusts),
      senders_same r.n r.senders small long h.kept,
    )

pub nothing_cut : (w : HeadRow) (r : HeadRecord) → r ≡ cut (record_in w) → Holds w r
unfolding row_in_range record_in
nothing_cut w r e h = e ∙ uncut (record_in w) (and_right (row_fits w) _ h) (length_table (sender_in w) 0 16)
