-- Document 01, "The bench sheet, and its neighbours": the cases marked M, as entries of one table, with what document 02 adds to it.
use Rattle.std.specs.Prelude.{List, [], ◌∷◌, ◌++◌, map, ℕ, length, take, drop, replicate}
use Rattle.protocol.specs.Types.{Setting, Entry}
use Rattle.protocol.specs.Words.{setting_at, entry_at}
use Rattle.protocol.specs.Spelling.{entry_words}
use Rattle.protocol.specs.Record.{corrected_clock}
use Rattle.protocol.specs.Median.{median}
use Rattle.protocol.specs.Counter.{counter_reading, counted_numbers}
use Rattle.protocol.specs.Causes.{verdict_number}
use Rattle.protocol.specs.Run.{Run, stopped, ran, record_of, run_sheet}
use Rattle.protocol.specs.Results.{Replay, replay, replayed_numbers}
use Rattle.protocol.specs.Premises.{judge, judged_numbers}
use Rattle.protocol.specs.Program.{decimal, signed, line, premises_line, print_sheet}
use Rattle.protocol.specs.Recorder.{setting_from, entries_in, Written, write_sheet}
use Rattle.protocol.specs.Draft.{draft_sheet, draft}
use Rattle.protocol.specs.Readers.{Told, is_shown, keep, display, plan}

-- M1's entries "as real time, reading, head, action, sender, serial"
unfoldable pub m1_numbers : List ℕ
m1_numbers =
    950 ∷ 1000 ∷ 1 ∷ 1 ∷ 0 ∷ 0 ∷ 1000 ∷ 1000 ∷ 0 ∷ 1 ∷ 0 ∷ 0 ∷ 1100 ∷ 1100 ∷ 0 ∷ 2 ∷ 1 ∷ 0
    ∷ 1104 ∷ 1154 ∷ 1 ∷ 2 ∷ 1 ∷ 0 ∷ 1110 ∷ 1160 ∷ 1 ∷ 3 ∷ 0 ∷ 0 ∷ 1260 ∷ 1260 ∷ 0 ∷ 2 ∷ 0 ∷ 0
    ∷ 1263 ∷ 1313 ∷ 1 ∷ 2 ∷ 0 ∷ 0 ∷ 1270 ∷ 1270 ∷ 0 ∷ 3 ∷ 0 ∷ 0 ∷ 1300 ∷ 1300 ∷ 0 ∷ 4 ∷ 0 ∷ 0
    ∷ 1460 ∷ 1510 ∷ 1 ∷ 5 ∷ 0 ∷ 0 ∷ 1620 ∷ 1620 ∷ 0 ∷ 5 ∷ 1 ∷ 0 ∷ 2000 ∷ 2000 ∷ 0 ∷ 6 ∷ 0 ∷ 0
    ∷ 2000 ∷ 2050 ∷ 1 ∷ 6 ∷ 0 ∷ 0 ∷ 2100 ∷ 2100 ∷ 0 ∷ 7 ∷ 0 ∷ 0 ∷ 2260 ∷ 2310 ∷ 1 ∷ 8 ∷ 0 ∷ 0
    ∷ 2300 ∷ 2350 ∷ 1 ∷ 7 ∷ 0 ∷ 0 ∷ 2420 ∷ 2420 ∷ 0 ∷ 8 ∷ 1 ∷ 0 ∷ 3000 ∷ 3000 ∷ 0 ∷ 9 ∷ 0 ∷ 0
    ∷ 3000 ∷ 3050 ∷ 1 ∷ 9 ∷ 0 ∷ 0 ∷ 4000 ∷ 4000 ∷ 0 ∷ 0 ∷ 0 ∷ 0 ∷ 4000 ∷ 4050 ∷ 1 ∷ 0 ∷ 0 ∷ 0
    ∷ []

-- M1, with the second word as a parameter
unfoldable pub m1 : ℕ → List ℕ
m1 second = 0x10200003 ∷ second ∷ entry_words (entries_in m1_numbers)

-- document 02, No. 3: the plain round of two heads, from real time 1000 on, 10 microseconds apart, in M1's order of numbers
unfoldable pub plain_numbers : List ℕ
plain_numbers =
    1000 ∷ 1000 ∷ 0 ∷ 1 ∷ 0 ∷ 0 ∷ 1010 ∷ 1010 ∷ 1 ∷ 1 ∷ 0 ∷ 0 ∷ 1020 ∷ 1020 ∷ 0 ∷ 2 ∷ 0 ∷ 0 ∷ 1020 ∷ 1020 ∷ 1 ∷ 2 ∷ 0 ∷ 0
    ∷ 1030 ∷ 1030 ∷ 0 ∷ 2 ∷ 1 ∷ 0 ∷ 1030 ∷ 1030 ∷ 1 ∷ 2 ∷ 1 ∷ 0 ∷ 1040 ∷ 1040 ∷ 0 ∷ 3 ∷ 0 ∷ 0 ∷ 1050 ∷ 1050 ∷ 1 ∷ 3 ∷ 0 ∷ 0
    ∷ 1060 ∷ 1060 ∷ 0 ∷ 4 ∷ 0 ∷ 0 ∷ 1070 ∷ 1070 ∷ 1 ∷ 5 ∷ 0 ∷ 0 ∷ 1080 ∷ 1080 ∷ 1 ∷ 4 ∷ 0 ∷ 0 ∷ 1090 ∷ 1090 ∷ 0 ∷ 5 ∷ 1 ∷ 0
    ∷ 1100 ∷ 1100 ∷ 0 ∷ 6 ∷ 0 ∷ 0 ∷ 1110 ∷ 1110 ∷ 1 ∷ 6 ∷ 0 ∷ 0 ∷ 1120 ∷ 1120 ∷ 0 ∷ 7 ∷ 0 ∷ 0 ∷ 1130 ∷ 1130 ∷ 1 ∷ 8 ∷ 0 ∷ 0
    ∷ 1140 ∷ 1140 ∷ 1 ∷ 7 ∷ 0 ∷ 0 ∷ 1150 ∷ 1150 ∷ 0 ∷ 8 ∷ 1 ∷ 0 ∷ 1160 ∷ 1160 ∷ 0 ∷ 9 ∷ 0 ∷ 0 ∷ 1170 ∷ 1170 ∷ 1 ∷ 9 ∷ 0 ∷ 0
    ∷ []

-- answer and buffer of a replay, as numbers
abbrev pub replayed : Replay → List ℕ
replayed x = replayed_numbers x.answer ++ x.buffer

-- answer and buffer of the writer, as numbers
abbrev pub written_numbers : Written → List ℕ
written_numbers x = verdict_number x.verdict ∷ x.buffer

-- what the look of entry i shows, in decimal
abbrev pub clock_after : Setting → Entry → Run → List ℕ
clock_after g e (stopped c p) = []
clock_after g e (ran h) = signed (corrected_clock (record_of g h e.head) e.reading)

unfoldable pub look_at : List ℕ → ℕ → List ℕ
look_at ws i = clock_after (setting_at ws) (entry_at ws i) (run_sheet ws)

-- in ASCII: "its looks 4026 and 4023" (document 02, No. 6); and the lines that the program prints for M1, with the adjustment and
-- the corrections of that request: `0 2 0 0 1286 1260 26`, `1 2 0 0 1286 1313 -27` and `premises 0`
abbrev pub m1_looks : List ℕ
m1_looks = 52 ∷ 48 ∷ 50 ∷ 54 ∷ 52 ∷ 48 ∷ 50 ∷ 51 ∷ []

abbrev pub m1_lines : List ℕ
m1_lines =
    48 ∷ 32 ∷ 50 ∷ 32 ∷ 48 ∷ 32 ∷ 48 ∷ 32 ∷ 49 ∷ 50 ∷ 56 ∷ 54 ∷ 32 ∷ 49 ∷ 50 ∷ 54 ∷ 48 ∷ 32 ∷ 50 ∷ 54 ∷ 10
    ∷ 49 ∷ 32 ∷ 50 ∷ 32 ∷ 48 ∷ 32 ∷ 48 ∷ 32 ∷ 49 ∷ 50 ∷ 56 ∷ 54 ∷ 32 ∷ 49 ∷ 51 ∷ 49 ∷ 51 ∷ 32 ∷ 45 ∷ 50 ∷ 55 ∷ 10
    ∷ 112 ∷ 114 ∷ 101 ∷ 109 ∷ 105 ∷ 115 ∷ 101 ∷ 115 ∷ 32 ∷ 48 ∷ 10 ∷ []

-- M1's result words, as documents 01 and 02 have them
abbrev pub m1_words : List ℕ
m1_words =
    0x62000000 ∷ 0x70000506 ∷ 0x800004EC ∷ 0x90101010 ∷ 0x62100000 ∷ 0x70000506 ∷ 0x80000521 ∷ 0x90101010 ∷ []

-- what a reader tells of head q, as a line of the replay program
abbrev pub told_line : ℕ → Told → List ℕ
told_line q x = line (decimal q ∷ map signed x.numbers)

-- what the definitions give, and what the documents say. An answer's numbers are its cause, its place and, of the judge,
-- the premise, of a counter the reading; 0 for none
pub record Case : Type 0 where
  pub found : List ℕ
  pub expected : List ℕ

abbrev pub gives : List ℕ → List ℕ → Case
gives found expected = record { found = found; expected = expected }

unfoldable pub marked : List Case
marked =
    -- M1: the result words, in which document 02 makes the kind 7 words 0x70000506 (No. 6) and the fourth words 0x90101010 (No. 7), and
    -- the buffer's ninth word, kept; the premises; the two looks; the printed lines
    gives (replayed (replay (m1 0x2064000A) (replicate 9 1)) ++ judged_numbers (judge (m1 0x2064000A))
    ++ look_at (m1 0x2064000A) 19 ++ look_at (m1 0x2064000A) 20 ++ print_sheet (m1 0x2064000A))
    (0 ∷ 0 ∷ m1_words ++ (1 ∷ 0 ∷ 0 ∷ 0 ∷ m1_looks ++ m1_lines))
    -- "M2: M1 with tightness 4 keeps all; M3: with 2, premise 3 is broken"
    ∷ gives (judged_numbers (judge (m1 0x20640004))) (0 ∷ 0 ∷ 0 ∷ [])
    ∷ gives (judged_numbers (judge (m1 0x20640002))) (0 ∷ 0 ∷ 3 ∷ [])
    -- "M4: median of 1313, 1260" "becomes 1286" (document 02, No. 6); "M5: of 5, 9, 7 is 7"
    ∷ gives (median (1313 ∷ 1260 ∷ []) ∷ []) (1286 ∷ [])
    ∷ gives (median (5 ∷ 9 ∷ 7 ∷ []) ∷ []) (7 ∷ [])
    -- four readings, those of samples/even-count.sheet: half of 1256 + 1277; and with the two middle ones equal
    ∷ gives (median (1277 ∷ 1220 ∷ 1322 ∷ 1256 ∷ []) ∷ median (20 ∷ 1 ∷ 20 ∷ 90 ∷ []) ∷ []) (1266 ∷ 20 ∷ [])
    -- "M6: first word 0x1042000F is cause 3; M7: 0x1052001F isn't": with no entries, premise 4 is broken
    ∷ gives (judged_numbers (judge (0x1042000F ∷ 0x2064000A ∷ []))) (3 ∷ 0 ∷ 0 ∷ [])
    ∷ gives (judged_numbers (judge (0x1052001F ∷ 0x2064000A ∷ []))) (0 ∷ 0 ∷ 4 ∷ [])
    -- "M8: counter 5, base 4,294,967,290 gives 11. M9: counter 268,435,455, base 0 is accepted, M10: 268,435,456 is cause 11"
    ∷ gives (counted_numbers (counter_reading 5 4294967290)) (0 ∷ 0 ∷ 11 ∷ [])
    ∷ gives (counted_numbers (counter_reading 268435455 0)) (0 ∷ 0 ∷ 268435455 ∷ [])
    ∷ gives (counted_numbers (counter_reading 268435456 0)) (11 ∷ 0 ∷ 0 ∷ [])
    -- "M11: M1's first two words alone: outcomes 0, premise 4 broken"
    ∷ gives (replayed (replay (0x10200003 ∷ 0x2064000A ∷ []) (replicate 8 1)) ++ judged_numbers (judge (0x10200003 ∷ 0x2064000A ∷ [])))
    (0 ∷ 0 ∷ 0x60000000 ∷ 0x70000000 ∷ 0x80000000 ∷ 0x90000000 ∷ 0x60100000 ∷ 0x70000000 ∷ 0x80000000 ∷ 0x90000000 ∷ 0 ∷ 0 ∷ 4 ∷ [])
    -- "M12: a buffer of 5 words for M1 is cause 5"; "Cause 5 tests 4n words" (document 02, No. 7)
    ∷ gives (replayed (replay (m1 0x2064000A) (replicate 5 1)) ++ replayed (replay (m1 0x2064000A) (replicate 7 1)))
    (5 ∷ 0 ∷ replicate 5 1 ++ (5 ∷ 0 ∷ replicate 7 1))
    -- document 02, No. 1: M1 written from its fields, n = 2, f = 0, heads 0 and 1 correct, 100 parts per million, 10 microseconds,
    -- into a buffer of one word more, which is kept; and M1's own words
    ∷ gives (written_numbers (write_sheet (setting_from 2 0 3 100 10) m1_numbers (replicate 66 1))) (0 ∷ m1 0x2064000A ++ (1 ∷ []))
    -- document 02, No. 3: the round of two heads into a buffer of one word more, which is kept, and that "the judge finds every premise kept"
    ∷ gives (written_numbers (draft 2 0 1000 10 (replicate 63 1)) ++ judged_numbers (judge (draft_sheet 2 0 1000 10)))
    (0 ∷ 0x10200003 ∷ 0x20000000 ∷ entry_words (entries_in plain_numbers) ++ (1 ∷ 0 ∷ 0 ∷ 0 ∷ []))
    -- the round of three heads: its room, what its replay gives, and the premises
    ∷ gives (length (draft_sheet 3 1 0 1) ∷ replayed (replay (draft_sheet 3 1 0 1) (replicate 12 1)) ++ judged_numbers (judge (draft_sheet 3 1 0 1)))
    (119 ∷ 0 ∷ 0 ∷ 0x62000000 ∷ 0x70000003 ∷ 0x80000003 ∷ 0x90101010 ∷ 0x62100000 ∷ 0x70000003 ∷ 0x80000003 ∷ 0x90101010
    ∷ 0x62200000 ∷ 0x70000003 ∷ 0x80000003 ∷ 0x90101010 ∷ 0 ∷ 0 ∷ 0 ∷ [])
    -- causes 3, 13 and 5, the last two just past their bounds, and the last real time and the room that are just enough
    ∷ gives (written_numbers (draft 2 1 268435456 0 (1 ∷ [])) ++ (written_numbers (draft 2 0 268435439 1 (1 ∷ []))
    ++ (written_numbers (draft 2 0 268435438 1 (replicate 61 1)) ++ (verdict_number (draft 2 0 268435438 1 (replicate 62 1)).verdict ∷ []))))
    (3 ∷ 1 ∷ 13 ∷ 1 ∷ 5 ∷ replicate 61 1 ++ (0 ∷ []))
    -- document 02, No. 7: the display tells of M1's words, with a word of kind 5 before them, and without those of kind 9, what the program prints
    ∷ gives (told_line 0 (display 2 0 (0x50000000 ∷ m1_words)) ++ (told_line 1 (display 2 1 (keep is_shown m1_words)) ++ premises_line 0)) m1_lines
    -- no correction without outcome 2, whatever the words: `0 1 0 0 5 3 0`
    ∷ gives (told_line 0 (display 2 0 (0x61000000 ∷ 0x70000005 ∷ 0x80000003 ∷ keep is_shown (drop 4 m1_words))))
    (48 ∷ 32 ∷ 49 ∷ 32 ∷ 48 ∷ 32 ∷ 48 ∷ 32 ∷ 53 ∷ 32 ∷ 51 ∷ 32 ∷ 48 ∷ 10 ∷ [])
    -- the planner's reader tells `2 0 0 1286 1313 -27` of head 1, and 1 start, 1 vote and 1 adjust; 3, 2 and 1 by another fourth word
    ∷ gives (told_line 1 (plan 2 1 m1_words) ++ told_line 1 (plan 2 1 (take 7 m1_words ++ (0x90302010 ∷ []))))
    (49 ∷ 32 ∷ 50 ∷ 32 ∷ 48 ∷ 32 ∷ 48 ∷ 32 ∷ 49 ∷ 50 ∷ 56 ∷ 54 ∷ 32 ∷ 49 ∷ 51 ∷ 49 ∷ 51 ∷ 32 ∷ 45 ∷ 50 ∷ 55 ∷ 32 ∷ 49 ∷ 32 ∷ 49 ∷ 32 ∷ 49 ∷ 10
    ∷ 49 ∷ 32 ∷ 50 ∷ 32 ∷ 48 ∷ 32 ∷ 48 ∷ 32 ∷ 49 ∷ 50 ∷ 56 ∷ 54 ∷ 32 ∷ 49 ∷ 51 ∷ 49 ∷ 51 ∷ 32 ∷ 45 ∷ 50 ∷ 55 ∷ 32 ∷ 51 ∷ 32 ∷ 50 ∷ 32 ∷ 49 ∷ 10 ∷ [])
    -- causes 3, 2 and 6 in this order, each with all that come after it; and the kinds of a head that is not asked for
    ∷ gives (map (λ x. verdict_number x.verdict) (display 2 2 (0x70000000 ∷ []) ∷ display 2 0 (0x70000000 ∷ []) ∷ display 2 0 (0x80000000 ∷ m1_words)
    ∷ display 2 0 (0x62000000 ∷ 0x70000506 ∷ 0x800004EC ∷ replicate 3 0x62100000) ∷ plan 17 0 m1_words ∷ plan 2 0 (keep is_shown m1_words)
    ∷ plan 2 0 (replicate 8 0x62000000) ∷ plan 2 0 m1_words ∷ []))
    (3 ∷ 2 ∷ 2 ∷ 6 ∷ 3 ∷ 2 ∷ 6 ∷ 0 ∷ [])
    -- "set whatever the outcome": of M1's first 13 entries, each head has outcome 0, and has sent a start, a vote and no adjust
    ∷ gives (replayed (replay (take 41 (m1 0x2064000A)) (replicate 8 1)))
    (0 ∷ 0 ∷ 0x60000000 ∷ 0x70000000 ∷ 0x80000000 ∷ 0x90101000 ∷ 0x60100000 ∷ 0x70000000 ∷ 0x80000000 ∷ 0x90101000 ∷ [])
    ∷ []
