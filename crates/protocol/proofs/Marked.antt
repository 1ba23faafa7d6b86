-- M1 to M12 and what document 02 adds: one computed test over the table, and one lemma.
use mathlib.Core.Path.{◌≡◌, refl}
use mathlib.Core.Bool.{Bool, true}
use mathlib.Core.List.{[]}
use Prim.Native.Nat.{ℕ, ◌<◌}
use lib.ListN.{get_or}
use Rattle.protocol.specs.Base.{all}
use Rattle.protocol.specs.Counter.{counter_reading}
use Rattle.protocol.specs.Results.{outcome_word, adjustment_word, start_word, frames_word, words_from, result_words, replay}
use Rattle.protocol.specs.Claim.{ending_in_words}
use Rattle.protocol.specs.Program.{decimal, signed, line, head_lines, refused_line, premises_line, print_sheet}
use Rattle.protocol.specs.Recorder.{setting_in_width, entry_in_width, entry_in_range, write_verdict, write_sheet}
use Rattle.protocol.specs.Draft.{phase_order, round_order, deliveries, entries_from, draft_entries, draft_sheet, draft_verdict, draft}
use Rattle.protocol.specs.Readers.{kinds_fit, read_verdict, display, plan}
use Rattle.protocol.specs.Marked.{Case, m1_numbers, m1, plain_numbers, look_at, marked}
use Rattle.protocol.proofs.Tests.{same_list, same_list_lem, all_at}
use Rattle.protocol.proofs.Computed.{sheets_compute}

abbrev passes : Case → Bool
passes c = same_list c.found c.expected

abbrev nothing : Case
nothing = record { found = []; expected = [] }

all_pass : all passes marked ≡ true
unfolding sheets_compute counter_reading outcome_word adjustment_word start_word frames_word words_from result_words replay
    ending_in_words decimal signed line head_lines refused_line premises_line print_sheet setting_in_width entry_in_width entry_in_range write_verdict write_sheet
    phase_order round_order deliveries entries_from draft_entries draft_sheet draft_verdict draft kinds_fit read_verdict display plan m1_numbers m1 plain_numbers look_at marked
all_pass = refl

-- each marked case gives what the documents say, M1 at index 0
pub marked_case : (i : ℕ) → i < 22 → (get_or marked i nothing).found ≡ (get_or marked i nothing).expected
unfolding marked
marked_case i h = same_list_lem (get_or marked i nothing).found (get_or marked i nothing).expected (all_at passes marked nothing all_pass i h)
