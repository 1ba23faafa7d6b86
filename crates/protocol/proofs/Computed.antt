-- What a computed sheet needs opened, said once: a line that unfolds `sheets_compute` unfolds every definition that spells a sheet,
-- runs it, judges it and reads off what its heads end with.
use Rattle.protocol.specs.Words.{setting_of, first_word_fits, entry_of, entry_fits}
use Rattle.protocol.specs.Spelling.{entry_words, sheet_of}
use Rattle.protocol.specs.Record.{fresh, chosen_start, outcome, correction, corrected_clock}
use Rattle.protocol.specs.Median.{ordered_at, median}
use Rattle.protocol.specs.Step.{vote, adjust, starts_held, may_lead, lead, vote_readings, may_adjust, propose, delivered, effect, is_closed, may_close, is_tested, act, taken_as, take_action, action_of}
use Rattle.protocol.specs.Causes.{sheet_verdict}
use Rattle.protocol.specs.Run.{record_of, frame_sent, input_of, step_entry, and_then, run_of, run_sheet}
use Rattle.protocol.specs.Premises.{each, before, last_start, premise1, premise2, start_within, premise3, premise4, frames_reached, votes_reached, premise5, none_between, premise6, adjusts_reached, premise7, premise8, first_broken, judge}
use Rattle.protocol.specs.Claim.{ending_of}

unfoldable pub sheets_compute : Unit {0}
unfolding setting_of first_word_fits entry_of entry_fits entry_words sheet_of fresh chosen_start outcome correction corrected_clock ordered_at median
    vote adjust starts_held may_lead lead vote_readings may_adjust propose delivered effect is_closed may_close is_tested act taken_as take_action action_of sheet_verdict
    record_of frame_sent input_of step_entry and_then run_of run_sheet
    each before last_start premise1 premise2 start_within premise3 premise4 frames_reached votes_reached premise5 none_between premise6 adjusts_reached premise7 premise8 first_broken judge
    ending_of
sheets_compute = tt
