use Rattle.protocol.specs.Record.{votes, adjusts}
use Rattle.judge_entry.proofs.Changes.{found_were, after_start_delivered, after_start_confirmed, after_frame, after_close, after_other}
use Rattle.judge_entry.proofs.Judge.ask.Goals as goal

pub returns-in-2-clause-others : goal.returns-in-2-clause-others
returns-in-2-clause-others c =
    λ ws i s S g-is is ok were.
    let a = c.in-2.is in
    after_start_delivered ws i s is c.args.g were a (c.delivered.ensures ws i s S g-is is ok a were.times_are)

pub returns-in-3-clause-others : goal.returns-in-3-clause-others
returns-in-3-clause-others c =
    λ ws i s S g-is is ok were.
    after_start_confirmed ws i s is c.args.g were c.in-3.is (c.confirmed.ensures ws i s _ S g-is is ok were.times_are)

pub returns-in-5-clause-others : goal.returns-in-5-clause-others
returns-in-5-clause-others c =
    λ ws i s S g-is is ok were.
    let a = c.in-5.is in
    after_frame ws i s is c.args.g were votes a (c.delivered-in-5.ensures ws i s votes is a were.receivers_are)
    (c.delivered-in-5-2.ensures ws i s votes is a (found_were ws i s is c.args.g were votes))

pub returns-in-6-clause-others : goal.returns-in-6-clause-others
returns-in-6-clause-others c =
    λ ws i s S g-is is ok were.
    let a = c.in-6.is in
    after_close ws i s is c.args.g were votes a
    (c.close.ensures ws i s S g-is is ok a were.receivers_are were.times_are (found_were ws i s is c.args.g were votes))

pub returns-in-8-clause-others : goal.returns-in-8-clause-others
returns-in-8-clause-others c =
    λ ws i s S g-is is ok were.
    let a = c.in-8.is in
    after_frame ws i s is c.args.g were adjusts a (c.delivered-in-8.ensures ws i s adjusts is a were.receivers_are)
    (c.delivered-in-8-2.ensures ws i s adjusts is a (found_were ws i s is c.args.g were adjusts))

pub returns-in-9-clause-others : goal.returns-in-9-clause-others
returns-in-9-clause-others c =
    λ ws i s S g-is is ok were.
    let a = c.in-9.is in
    after_close ws i s is c.args.g were adjusts a
    (c.close-in-9.ensures ws i s S g-is is ok a were.receivers_are were.times_are (found_were ws i s is c.args.g were adjusts))

pub returns-in_default-clause-others : goal.returns-in_default-clause-others
returns-in_default-clause-others c =
    λ ws i s S g-is is ok were.
    let n = c.in_default.in_default-own.rest in
    after_other ws i s is c.args.g were n.0.0.0.0.0.1 n.0.0.0.0.1 n.0.0.0.1 n.0.0.1 n.0.1 n.1
