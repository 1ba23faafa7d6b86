use mathlib.Core.Path.{◌≡◌}
use Prim.Native.Nat.{ℕ, ◌<◌}
use lib.ListN.{length, get_or}
use Rattle.protocol.specs.Record.{no_sender}
use Rattle.protocol.specs.Row.{sender_in}
use Rattle.head_record.specs.Bytes.{cut_sender}
use Rattle.head_record.proofs.senders_in.Given as goal

abbrev pub invariant-loop-i : goal.invariant-loop-i
invariant-loop-i l = (length l.l ≡ 16) × ((p : ℕ) → p < l.i → get_or l.l p no_sender ≡ cut_sender (sender_in l.row p))
