-- Parts of a step that the code has as functions of their own.
use Rattle.std.specs.Prelude.{ℕ, cond, Option}
use Rattle.protocol.specs.declared.Reading.{Reading}
use Rattle.protocol.specs.declared.HeadRecord.{HeadRecord}
use Rattle.protocol.specs.declared.Stepped.{Stepped}
use Rattle.protocol.specs.declared.Action.{Action}
use Rattle.protocol.specs.declared.Action.TheVariants.{VoteClose, AdjustClose}
use Rattle.protocol.specs.declared.Kind.{Kind}
use Rattle.protocol.specs.Record.{votes, adjusts, kept_of}
use Rattle.protocol.specs.Step.{with_sender, keep_vote, keep_adjust, kept_for, silent, vote, adjust, outranks, candidate_after}

-- the action that closes a phase, and the weight of its mark
abbrev pub close_of : Kind → Action
close_of votes = VoteClose
close_of adjusts = AdjustClose

abbrev pub close_weight : Kind → ℕ
close_weight votes = 8
close_weight adjusts = 32

-- a vote and an adjust that are not passed over: the last line of delivered
abbrev pub take_vote : ℕ → ℕ → ℕ → Option Reading → HeadRecord → Stepped
take_vote p serial c x r =
    let taken = with_sender r p (kept_for (candidate_after c r.vote.choice) (keep_vote (kept_of r p) serial c x)) in
    cond (outranks c r.vote.choice) (vote c taken) (silent taken)

abbrev pub take_adjust : ℕ → ℕ → ℕ → Reading → HeadRecord → Stepped
take_adjust p serial a x r =
    let taken = with_sender r p (keep_adjust (kept_of r p) serial a) in
    cond (outranks a r.adjust.choice) (adjust a x taken) (silent taken)
