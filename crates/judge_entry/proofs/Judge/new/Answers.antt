use mathlib.Core.Path.{◌≡◌, refl, sym}
use mathlib.Core.List.{[]}
use lib.ListN.{replicate, get_or-replicate}
use Rattle.protocol.specs.Record.{votes, adjusts}
use Rattle.protocol.specs.Premises.{premise2, premise3, each}
use Rattle.protocol.proofs.Tables.{is_table}
use Rattle.judge_premise_3.specs.Starts.{start_times}
use Rattle.judge_premises_5_to_8.specs.Closes.{receiver_sets}
use Rattle.judge_entry.specs.State.{least_drift, drifts_of}
use Rattle.judge_entry.proofs.Changes.{judge_is}
use Rattle.judge_entry.proofs.Judge.new.Goals as goal

no_receivers : replicate 512 0 ≡ receiver_sets []
unfolding receiver_sets
no_receivers = is_table _ 512 0 (replicate 512 0) refl (λ j lt. get_or-replicate 512 j 0 0 lt)

no_times : replicate 256 0 ≡ start_times []
unfolding start_times
no_times = is_table _ 256 0 (replicate 256 0) refl (λ j lt. get_or-replicate 256 j 0 0 lt)

pub returns : goal.returns
unfolding drifts_of least_drift premise2 premise3 each
returns c = λ g. judge_is _ refl refl no_times refl no_receivers (c.new.ensures g votes) (c.new-2.ensures g adjusts)
