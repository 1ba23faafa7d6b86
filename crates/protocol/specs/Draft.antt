-- Document 02, No. 3, "Drafting a plain round": "Given n, f, a first real time and a spacing, write the faultless round with drift and
-- tightness 0: all heads correct, clocks equal to real time, every frame delivered, all six timed actions by every head."
use Rattle.std.specs.Prelude.{◌≡◌, Bool, cond, not, ◌&&◌, List, [], ◌∷◌, ◌++◌, ℕ, zero, suc, ◌+◌, ◌-◌, ◌*◌, ◌^◌, ◌<◌, ltb, eqb, length, take}
use Rattle.protocol.specs.Base.{table}
use Rattle.protocol.specs.Types.{Setting, Entry, Verdict, Accepted, Refused, BadFirstWord, ShortBuffer, TimeTooFar, Kept}
use Rattle.protocol.specs.Words.{is_time, heads_fit, has_serial, has_sender, setting_at}
use Rattle.protocol.specs.Spelling.{sheet_of}
use Rattle.protocol.specs.Run.{History, record_of, ran, run_sheet}
use Rattle.protocol.specs.Premises.{judge}
use Rattle.protocol.specs.Claim.{Ending, ending_of}
use Rattle.protocol.specs.Recorder.{setting_from, entry_from, Written, write_if}

-- THE ORDER

-- what has a real time of its own: a timed action of a head, or, where the action is a delivery, all deliveries of that head's frame
pub record Slot : Type 0 where
  pub action : ℕ
  pub head : ℕ

-- an action of each head from one number on and below another: "senders .. rise by number"
abbrev pub slots : ℕ → ℕ → ℕ → List Slot
slots a from to = table (λ q. record { action = a; head = q }) from (to - from)

-- "head 0's 4, its vote's deliveries, 4 by the others, their votes' deliveries"; "7 and the adjusts in the manner of 4 and the votes"
unfoldable pub phase_order : ℕ → ℕ → ℕ → List Slot
phase_order n turn delivery = slots turn 0 1 ++ (slots delivery 0 1 ++ (slots turn 1 n ++ slots delivery 1 n))

-- "The order is: 1 by all; the starts' deliveries, own included; 3 by all; [the votes]; 6 by all; [the adjusts]; 9 by all"
unfoldable pub round_order : ℕ → List Slot
round_order n =
    slots 1 0 n ++ (slots 2 0 n ++ (slots 3 0 n ++ (phase_order n 4 5 ++ (slots 6 0 n ++ (phase_order n 7 8 ++ slots 9 0 n)))))

-- THE ENTRIES

-- "clocks equal to real time". No head sends a second vote or adjust, so the serial is 0
abbrev pub draft_entry : ℕ → ℕ → ℕ → ℕ → Entry
draft_entry t a q p = entry_from t t q a p 0

-- "own included": a start goes to all; document 01 lets a head take no vote or adjust of its own
abbrev pub is_receiver : ℕ → ℕ → ℕ → Bool
is_receiver a p q = not (has_serial a && eqb q p)

-- "receivers rise by number": the deliveries of p's frame to those of the k heads from q on that it goes to
unfoldable pub deliveries : ℕ → ℕ → ℕ → ℕ → ℕ → List Entry
deliveries t a p q zero = []
deliveries t a p q (suc k) =
    cond (is_receiver a p q) (draft_entry t a q p ∷ deliveries t a p (suc q) k) (deliveries t a p (suc q) k)

abbrev pub slot_entries : ℕ → ℕ → Slot → List Entry
slot_entries n t x = cond (has_sender x.action) (deliveries t x.action x.head 0 n) (draft_entry t x.action x.head 0 ∷ [])

-- "Real time moves on by the spacing at each entry, but deliveries of the same frame share theirs"
unfoldable pub entries_from : ℕ → ℕ → ℕ → List Slot → List Entry
entries_from n spacing t [] = []
entries_from n spacing t (x ∷ xs) = slot_entries n t x ++ entries_from n spacing (t + spacing) xs

unfoldable pub draft_entries : ℕ → ℕ → ℕ → List Entry
draft_entries n first spacing = entries_from n spacing first (round_order n)

-- "drift and tightness 0: all heads correct"
abbrev pub draft_setting : ℕ → ℕ → Setting
draft_setting n f = setting_from n f (2 ^ n - 1) 0 0

unfoldable pub draft_sheet : ℕ → ℕ → ℕ → ℕ → List ℕ
draft_sheet n f first spacing = sheet_of (draft_setting n f) (draft_entries n first spacing)

-- THE TESTS

-- "the last real time": of 9n slots, a spacing from each to the next
abbrev pub slot_time : ℕ → ℕ → ℕ → ℕ
slot_time first spacing i = first + spacing * i

abbrev pub last_slot_time : ℕ → ℕ → ℕ → ℕ
last_slot_time n first spacing = slot_time first spacing (9 * n - 1)

-- "The room is known beforehand: 2 + 3 × (3n² + 4n) words"
abbrev pub draft_room : ℕ → ℕ
draft_room n = 2 + 3 * (3 * (n * n) + 4 * n)

-- "Bad n or f is cause 3; then 13 when the last real time would reach 2²⁸; then cause 5"
unfoldable pub draft_verdict : ℕ → ℕ → ℕ → ℕ → ℕ → Verdict
draft_verdict n f first spacing room =
    cond (not (heads_fit n f)) (Refused BadFirstWord)
    (cond (not (is_time (last_slot_time n first spacing))) (Refused TimeTooFar)
    (cond (ltb room (draft_room n)) (Refused ShortBuffer) Accepted))

-- WHAT IS WRITTEN, AND WHAT IT IS FOR

-- "each leaves the buffer untouched"; words past the sheet are kept
unfoldable pub draft : ℕ → ℕ → ℕ → ℕ → List ℕ → Written
draft n f first spacing out = write_if (draft_verdict n f first spacing (length out)) (draft_sheet n f first spacing) out

-- a head ends the round with a clock, and with head 0 as its candidate and its adjuster
pub record EndsPlain (x : Ending) : Type 0 where
  pub outcome : x.outcome ≡ 2
  pub candidate : x.candidate ≡ 0
  pub adjuster : x.adjuster ≡ 0

-- "The judge finds every premise kept"
pub record PlainRound (n : ℕ) (ws : List ℕ) : Type 0 where
  pub history : History
  pub accepted : run_sheet ws ≡ ran history
  pub kept : judge ws ≡ Kept
  pub ends : {q : ℕ} → q < n → EndsPlain (ending_of (record_of (setting_at ws) history q))

-- the buffer begins with the sheet of a plain round; so it is after each accepted call
abbrev pub HoldsRound : ℕ → List ℕ → Type 0
HoldsRound n out = PlainRound n (take (draft_room n) out)

abbrev pub Drafted : ℕ → Verdict → List ℕ → Type 0
Drafted n v out = v ≡ Accepted → HoldsRound n out
