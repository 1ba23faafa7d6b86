-- An action with the test at its end, by the numbers that the code computes.
-- Main results: `tested_gives`, `untested_gives`, `idle_gives`.
use Rattle.std.proofs.Common.{◌≡◌, ℕ, true, false, List, sym, ◌∙◌, ap, subst}
use Rattle.protocol.specs.declared.HeadRecord.{HeadRecord}
use Rattle.protocol.specs.declared.HeadRow.{HeadRow}
use Rattle.protocol.specs.declared.Action.{Action}
use Rattle.protocol.specs.declared.Stepped.{Stepped}
use Rattle.head_row.specs.declared.Sent.{Sent}
use Rattle.protocol.specs.Step.{effect, is_tested, act}
use Rattle.protocol.proofs.Effects.{send_same, prepared_same, sending_of, prepared, effect_split}
use Rattle.protocol.specs.Row.{row_of}
use Rattle.head_row.specs.Promises.{HasHeads, Gives, Becomes}
use Rattle.head_early.specs.Parts.{closes}

effect_heads : {r : HeadRecord} (a : Action) → HasHeads r → HasHeads (effect r a).after
effect_heads {r} a h =
    let said = send_same (sending_of r a) (prepared r a) in
    subst (λ (t : Stepped). HasHeads t.after) (sym (effect_split r a))
    (record {
      some = rw said.n h.some;
      heads = rw said.n h.heads;
      senders = said.size ∙ (prepared_same r a).size ∙ h.senders;
    })

module _ (r : HeadRecord) (a : Action) {row : HeadRow} {x : Sent} (done : Gives (effect r a) row x) where
  pub tested_gives : {row' : HeadRow} → HasHeads r → is_tested r a ≡ true → Becomes closes row row' → Gives (act r a) row' x
  unfolding act
  tested_gives h t closed = rw t (closed (effect r a).after done.0 (effect_heads a h), done.1)

  pub untested_gives : is_tested r a ≡ false → Gives (act r a) row x
  unfolding act
  untested_gives t = rw t done

  -- where the test would close nothing
  pub idle_gives : is_tested r a ≡ true → closes (effect r a).after ≡ (effect r a).after → Gives (act r a) row x
  unfolding act
  idle_gives t same = rw t (done.0 ∙ ap row_of (sym same), done.1)
