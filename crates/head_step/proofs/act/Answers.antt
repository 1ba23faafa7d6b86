use Rattle.std.proofs.Common.{refl, ◌∙◌, rules}
use Rattle.protocol.specs.Step.{taken_as}
use Rattle.head_step.proofs.Inputs.{carried_by, carried_written, carried_below, action_is, only_look, input_acts, plain_acts, look_acts}
use Rattle.head_step.proofs.act.Goals as goal

pub returns-in-1 : goal.returns-in-1
unfolding taken_as
returns-in-1 c = λ sized. plain_acts _ sized _ _ _ _ (action_is _ 1 c.in-1.is) (λ r. refl) c.start_sent.ensures

pub returns-in-2 : goal.returns-in-2
unfolding taken_as
returns-in-2 c = λ sized. plain_acts _ sized _ _ _ _ (action_is _ 2 c.in-2.is) (λ r. refl) (c.start_delivered.ensures sized.sender)

pub returns-in-3 : goal.returns-in-3
unfolding taken_as
returns-in-3 c = λ sized. plain_acts _ sized _ _ _ _ (action_is _ 3 c.in-3.is) (λ r. refl) c.start_confirmed.ensures

pub returns-in-4 : goal.returns-in-4
unfolding taken_as
returns-in-4 c = λ sized. plain_acts _ sized _ _ _ _ (action_is _ 4 c.in-4.is) (λ r. refl) c.vote_turn.ensures

pub returns-in-5 : goal.returns-in-5
unfolding taken_as
returns-in-5 c =
    λ sized.
    let i = c.args.i in
    plain_acts _ sized _ _ _ _ (action_is _ 5 c.in-5.is) (λ r. refl)
    (c.vote_delivered.ensures sized.sender sized.serial sized.choice (carried_by i)
    (c.reading_plus_1.ensures ∙ carried_written i sized) (carried_below i sized))

pub returns-in-6 : goal.returns-in-6
returns-in-6 c = λ sized. input_acts _ sized _ _ _ _ (action_is _ 6 c.in-6.is) c.close.ensures

pub returns-in-7 : goal.returns-in-7
returns-in-7 c = λ sized. input_acts _ sized _ _ _ _ (action_is _ 7 c.in-7.is) c.adjust_turn.ensures

pub returns-in-8 : goal.returns-in-8
unfolding taken_as
returns-in-8 c =
    λ sized.
    plain_acts _ sized _ _ _ _ (action_is _ 8 c.in-8.is) (λ r. refl)
    (c.adjust_delivered.ensures sized.sender sized.serial sized.choice)

pub returns-in-9 : goal.returns-in-9
returns-in-9 c = λ sized. input_acts _ sized _ _ _ _ (action_is _ 9 c.in-9.is) c.close-in-9.ensures

pub returns-in_default : goal.returns-in_default
returns-in_default c =
    λ sized.
    let no = c.in_default.in_default-own.rest in
    look_acts _ sized _ _
    (only_look _ no.0.0.0.0.0.0.0.0.1 no.0.0.0.0.0.0.0.1 no.0.0.0.0.0.0.1 no.0.0.0.0.0.1 no.0.0.0.0.1
    no.0.0.0.1 no.0.0.1 no.0.1 no.1)
    c.no_frame.ensures
