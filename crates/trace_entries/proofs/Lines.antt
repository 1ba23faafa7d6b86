-- An entry's line, read off its head's row.
-- Main result: `line_is`.
use Rattle.std.specs.Prelude.{Option}
use mathlib.Core.Path.{◌≡◌, ◌∙◌, ap}
use mathlib.Core.Bool.{Bool, not, ◌&&◌}
use mathlib.Core.List.{List}
use Prim.Native.Nat.{ℕ, ◌%◌}
use native.Mathlib.Omega.{arith}
use lib.Dec.{eqb, lit<}
use lib.ListN.{get_or}
use Rattle.protocol.specs.declared.HeadRecord.{HeadRecord}
use Rattle.protocol.specs.declared.HeadRow.{HeadRow}
use Rattle.protocol.specs.declared.Entry.{Entry}
use Rattle.protocol.specs.Record.{votes, adjusts, outcome}
use Rattle.protocol.specs.Row.{number_in}
use Rattle.protocol.proofs.Ranges.{in_range}
use Rattle.protocol.proofs.ResultWords.{outcome_below, number_below}
use Rattle.data_values.specs.Numbers.{cut_number}
use Rattle.data_values.proofs.Numbers.{number_back}
use Rattle.head_row.proofs.Rows.{early_read}
use Rattle.head_result.specs.Result.{IsResult}
use Rattle.trace_entries.specs.Trace.{line_of}
use Rattle.trace_entries.specs.Follows.{IsLine}

outcome_in_byte : (r : HeadRecord) → outcome r % 256 ≡ outcome r
outcome_in_byte r = let o = outcome_below r in omega arith

pub line_is : (e : Entry) (votes_before adjusts_before : Bool) (row : HeadRow) (x : List ℕ) (c a : Option ℕ) → c ≡ cut_number (number_in row.votes.choice) → a ≡ cut_number (number_in row.adjusts.choice) → IsResult row x
    → IsLine e votes_before adjusts_before row
    (record {
      time = e.time;
      head = e.head;
      action = e.action;
      candidate = c;
      adjuster = a;
      adjustment = record { 0 = row.adjustment };
      outcome = get_or x 0 0 % 256;
      early = record { votes = not votes_before && eqb row.votes.early 1; adjusts = not adjusts_before && eqb row.adjusts.early 1 };
    })
unfolding line_of
line_is e votes_before adjusts_before row x c a candidate adjuster result r is range long =
    let facts = in_range range in
    let small = number_below r.n r.vote.choice r.vote.sent facts.heads.1 (facts.phase votes) in
    let candidate_is = candidate ∙ number_back r.vote.choice _ (ap (λ (w : HeadRow). w.votes.choice) is) (omega arith) in
    let small-too = number_below r.n r.adjust.choice r.adjust.sent facts.heads.1 (facts.phase adjusts) in
    let adjuster_is = adjuster ∙ number_back r.adjust.choice _ (ap (λ (w : HeadRow). w.adjusts.choice) is) (omega arith) in
    let adjustment_is = ap (λ (w : HeadRow). w.adjustment) is in
    let outcome_is = ap (λ (l : List ℕ). get_or l 0 0 % 256) (result r is range long) ∙ outcome_in_byte r in
    let votes-are = ap (λ (b : Bool). not votes_before && b) (early_read votes r is) in
    let adjusts-are = ap (λ (b : Bool). not adjusts_before && b) (early_read adjusts r is) in
    λ i. record {
      time = e.time;
      head = e.head;
      action = e.action;
      candidate = candidate_is i;
      adjuster = adjuster_is i;
      adjustment = record { 0 = adjustment_is i };
      outcome = outcome_is i;
      early = record { votes = votes-are i; adjusts = adjusts-are i };
    }
