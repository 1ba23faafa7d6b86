-- A record in its ranges fits a step, and so does what the step makes of it on its way.
-- Main results: `fits`, `fits_heads`; `last_fits`, `vote_phase_fits`, `adjust_phase_fits`, `sender_fits_lem`.
use Rattle.std.specs.Prelude.{Option, Some, None}
use mathlib.Core.Path.{◌≡◌, sym, ◌∙◌, subst}
use Prim.Native.Nat.{ℕ, ◌^◌, ◌≤◌, ◌<◌}
use native.Mathlib.Omega.{arith}
use lib.Dec.{ltb, lit<}
use lib.ListN.{length, length-set, get_or-eq_default}
use borrow.Author.Tests.{ltb-true, ltb-false}
use Rattle.protocol.specs.declared.Reading.{Reading}
use Rattle.protocol.specs.declared.Sender.{Sender}
use Rattle.protocol.specs.declared.Phase.{Phase}
use Rattle.protocol.specs.declared.HeadRecord.{HeadRecord}
use Rattle.protocol.specs.Record.{votes, adjusts, phase_of, reading_or0, no_sender, kept_of, vote_of}
use Rattle.protocol.specs.Step.{with_last, with_vote, with_adjust, with_sender}
use Rattle.protocol.proofs.Tests.{cases}
use Rattle.protocol.proofs.Effects.{set_holds}
use Rattle.protocol.proofs.Ranges.{for_both, SentInRange, InRange}
use Rattle.head_row.specs.Promises.{Fits, HasHeads}

-- IN RANGE, SO IT FITS

sent_below : (n : ℕ) (m : Option ℕ) (sent : ℕ) → n ≤ 16 → SentInRange n m sent → sent < 2 ^ 16
sent_below n None sent b h = omega arith
sent_below n (Some v) sent b h = omega arith

module _ {r : HeadRecord} (h : InRange r) (long : length r.senders ≡ 16) where
  nothing_kept : (p : ℕ) → r.n ≤ p → kept_of r p ≡ no_sender
  nothing_kept p above =
      cases (ltb p 16) (λ t. (h.kept p).above above (ltb-true _ _ t))
      (λ t. get_or-eq_default r.senders no_sender (rw long (ltb-false _ _ t)))

  vote_below : (p : ℕ) → reading_or0 (vote_of r p) < 2 ^ 28
  vote_below p =
      cases (ltb p r.n) (λ t. ((h.kept p).below (ltb-true _ _ t)).vote)
      (λ t. subst (λ (k : Sender). reading_or0 k.vote < 2 ^ 28) (sym (nothing_kept p (ltb-false _ _ t))) (lit< tt))

  pub fits : Fits r
  fits =
      record {
        some = let b = h.heads.0 in omega arith;
        heads = h.heads.1;
        own = let b = h.own in let n = h.heads.1 in omega arith;
        last = h.last;
        sent = λ k. sent_below r.n (phase_of k r).choice _ h.heads.1 (h.phase k);
        senders = long;
        readings = vote_below;
      }

pub fits_heads : {r : HeadRecord} → Fits r → HasHeads r
fits_heads fit = record { some = fit.some; heads = fit.heads; senders = fit.senders }

-- ON A STEP'S WAY

module _ {r : HeadRecord} (h : Fits r) where
  pub last_fits : (x : Reading) → x.0 < 2 ^ 28 → Fits (with_last r x)
  last_fits x b =
      record {
        some = h.some;
        heads = h.heads;
        own = h.own;
        last = b;
        sent = for_both _ (h.sent votes) (h.sent adjusts);
        senders = h.senders;
        readings = h.readings;
      }

  pub vote_phase_fits : (p : Phase) → p.sent < 2 ^ 16 → Fits (with_vote r p)
  vote_phase_fits p b =
      record { some = h.some; heads = h.heads; own = h.own; last = h.last; sent = for_both _ b (h.sent adjusts); senders = h.senders; readings = h.readings }

  pub adjust_phase_fits : (p : Phase) (x : Reading) → p.sent < 2 ^ 16 → Fits (with_adjust r p x)
  adjust_phase_fits p x b =
      record { some = h.some; heads = h.heads; own = h.own; last = h.last; sent = for_both _ (h.sent votes) b; senders = h.senders; readings = h.readings }

  pub sender_fits_lem : (p : ℕ) (k : Sender) → reading_or0 k.vote < 2 ^ 28 → Fits (with_sender r p k)
  sender_fits_lem p k b =
      record {
        some = h.some;
        heads = h.heads;
        own = h.own;
        last = h.last;
        sent = for_both _ (h.sent votes) (h.sent adjusts);
        senders = length-set r.senders p k ∙ h.senders;
        readings = set_holds (λ _ s. reading_or0 s.vote < 2 ^ 28) r.senders p k b h.readings;
      }
