-- The action that an input's numbers ask for, taken with its reading as the last reading.
-- Main results: `action_is`, `only_look`, `input_acts`, `plain_acts`, `look_acts`; `carried_written`, `carried_below`.
use Rattle.protocol.specs.declared.Reading.{Reading}
use Rattle.std.proofs.Common.{◌≡◌, ℕ, ◌+◌, ◌%◌, ◌^◌, ◌<◌, ◌≤◌, cond, eqb, ◌≢◌, List, get_or, set, sym, refl, ap, ◌∙◌, subst, arith, eqb-true, Option, Some, None}
use lib.ListN.{get_or-eq_default}
use borrow.Author.Tests.{eqb-false}
use Rattle.protocol.specs.declared.HeadRecord.{HeadRecord}
use Rattle.protocol.specs.declared.HeadRow.{HeadRow}
use Rattle.head_row.specs.declared.Sent.{Sent}
use Rattle.protocol.specs.Types.{NoFrame}
use Rattle.protocol.specs.declared.Input.{Input}
use Rattle.protocol.specs.declared.Action.{Action}
use Rattle.protocol.specs.declared.Action.TheVariants.{Look}
use Rattle.protocol.specs.Record.{reading_or0, reading, marks_number}
use Rattle.protocol.specs.Step.{with_last, effect, is_tested, act, taken_as, actions_of, action_of}
use Rattle.protocol.specs.Row.{reading_plus1}
use Rattle.head_row.specs.Sent.{sent_of}
use Rattle.protocol.proofs.Tests.{cases, cond_elim}
use Rattle.head_row.specs.Promises.{Gives, Acts}
use Rattle.head_row.proofs.Fitting.{last_fits}
use Rattle.head_step.specs.Sized.{InputSized}
use Rattle.head_step.proofs.Tested.{untested_gives}
use Rattle.head_step.proofs.Effects.{reading_written}

-- A VOTE'S READING, as the input has it and as the row has it

abbrev pub carried_by : Input → Option Reading
carried_by i = cond i.none None (Some (reading i.carried))

module _ (i : Input) (sized : InputSized i) where
  pub carried_written : cond i.none 0 ((i.carried + 1) % 2 ^ 32) ≡ reading_plus1 (carried_by i)
  carried_written = cases i.none (λ t. rw t refl) (λ t. rw t (reading_written (reading i.carried) sized.carried))

  pub carried_below : reading_or0 (carried_by i) < 2 ^ 28
  carried_below = cond_elim (λ (y : Option Reading). reading_or0 y < 2 ^ 28) i.none (λ _. omega arith) (λ _. sized.carried)

-- THE ACTION

module _ (i : Input) where
  pub action_is : (a : ℕ) → i.action ≡ a → action_of i ≡ get_or (actions_of i) a Look
  unfolding action_of
  action_is a e = ap (λ (k : ℕ). get_or (actions_of i) k Look) e

  five_further : (k a : ℕ) → k ≤ a → a ≢ k → a ≢ k + 1 → a ≢ k + 2 → a ≢ k + 3 → a ≢ k + 4 → k + 5 ≤ a
  five_further k a h n0 n1 n2 n3 n4 = omega arith

  pub only_look : i.action ≢ 1 → i.action ≢ 2 → i.action ≢ 3 → i.action ≢ 4 → i.action ≢ 5 → i.action ≢ 6 → i.action ≢ 7
      → i.action ≢ 8 → i.action ≢ 9 → action_of i ≡ Look
  unfolding action_of
  only_look n1 n2 n3 n4 n5 n6 n7 n8 n9 =
      cases (eqb i.action 0) (λ e. action_is 0 (eqb-true _ _ e))
      (λ n0. get_or-eq_default (actions_of i) Look
      (five_further 5 i.action (five_further 0 i.action (omega arith) (eqb-false _ _ n0) n1 n2 n3 n4) n5 n6 n7 n8 n9))

  -- what the action of these numbers does once its reading is the last one, which changes nothing in whether it is spent
  pub input_acts : (sized : InputSized i) (row row' : HeadRow) (x : Sent) (a : Action) → action_of i ≡ a
      → Acts (λ (r : HeadRecord). act r (taken_as r a)) (record row { last = i.reading }) row' x
      → Acts (λ (r : HeadRecord). act (with_last r (reading i.reading)) (taken_as r (action_of i))) row row' x
  unfolding taken_as marks_number
  input_acts sized row row' x a e acts r is fit =
      subst (λ (b : Action). Gives (act (with_last r (reading i.reading)) (taken_as r b)) row' x) (sym e)
      (acts (with_last r (reading i.reading)) (ap (λ (l : HeadRow). record l { last = i.reading }) is)
      (last_fits fit (reading i.reading) sized.reading))

  -- where the action is never spent
  pub plain_acts : (sized : InputSized i) (row row' : HeadRow) (x : Sent) (a : Action) → action_of i ≡ a → ((r : HeadRecord) → taken_as r a ≡ a)
      → Acts (λ (r : HeadRecord). act r a) (record row { last = i.reading }) row' x
      → Acts (λ (r : HeadRecord). act (with_last r (reading i.reading)) (taken_as r (action_of i))) row row' x
  plain_acts sized row row' x a e plain acts =
      input_acts sized row row' x a e (λ r is fit. subst (λ (b : Action). Gives (act r b) row' x) (sym (plain r)) (acts r is fit))

  pub look_acts : (sized : InputSized i) (row : HeadRow) (x : Sent) → action_of i ≡ Look → x ≡ sent_of NoFrame
      → Acts (λ (r : HeadRecord). act (with_last r (reading i.reading)) (taken_as r (action_of i))) row (record row { last = i.reading }) x
  unfolding effect is_tested taken_as
  look_acts sized row x e none = plain_acts sized row _ x Look e (λ r. refl) (λ r is fit. untested_gives r Look (is, none) refl)
