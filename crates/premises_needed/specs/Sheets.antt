-- Eight short run sheets, one for each premise: it breaks that premise alone, and the third point's claim fails on it. Entries stand
-- in M1's order, "real time, reading, head, action, sender, serial". The second word is M1's: drift 100 ppm, tightness 10 µs.
use Rattle.std.specs.Prelude.{List, [], ◌∷◌, ◌++◌, ℕ, ◌-◌, get_or}
use Rattle.protocol.specs.Spelling.{sheet_of}
use Rattle.protocol.specs.Recorder.{setting_from, entries_in}
use Rattle.premises_needed.specs.Needed.{Failure, without_clock, candidates_differ, adjustments_differ, clocks_apart}

-- a sheet's words, and the clause that fails on it
pub record Sheet : Type 0 where
  pub words : List ℕ
  pub failure : Failure

abbrev of : ℕ → ℕ → ℕ → List ℕ → Failure → Sheet
of n f correct numbers failure = record { words = sheet_of (setting_from n f correct 100 10) (entries_in numbers); failure = failure }

-- HEADS 0 AND 1 ARE CORRECT. Head 1's clock is 50 µs ahead of head 0's

-- head 0 sends its start, which reaches itself; it reaches head 1
abbrev start_of_0 : List ℕ
start_of_0 = 1000 ∷ 1000 ∷ 0 ∷ 1 ∷ 0 ∷ 0 ∷ 1100 ∷ 1100 ∷ 0 ∷ 2 ∷ 0 ∷ 0 ∷ []

abbrev start_at_1 : List ℕ
start_at_1 = 1103 ∷ 1153 ∷ 1 ∷ 2 ∷ 0 ∷ 0 ∷ []

-- head 0 confirms its start, takes its turns and closes both phases, and nothing reaches it
abbrev alone : List ℕ
alone =
    1200 ∷ 1200 ∷ 0 ∷ 3 ∷ 0 ∷ 0 ∷ 1300 ∷ 1300 ∷ 0 ∷ 4 ∷ 0 ∷ 0 ∷ 2000 ∷ 2000 ∷ 0 ∷ 6 ∷ 0 ∷ 0 ∷ 2100 ∷ 2100 ∷ 0 ∷ 7 ∷ 0 ∷ 0
    ∷ 3000 ∷ 3000 ∷ 0 ∷ 9 ∷ 0 ∷ 0 ∷ []

-- head 0 leads, head 1 adopts it, and each one's vote reaches the other; the same with the adjusts
abbrev led_by_0 : List ℕ
led_by_0 =
    1200 ∷ 1200 ∷ 0 ∷ 3 ∷ 0 ∷ 0 ∷ 1300 ∷ 1300 ∷ 0 ∷ 4 ∷ 0 ∷ 0 ∷ 1400 ∷ 1450 ∷ 1 ∷ 5 ∷ 0 ∷ 0 ∷ 1500 ∷ 1500 ∷ 0 ∷ 5 ∷ 1 ∷ 0 ∷ []

abbrev adjusted_by_0 : List ℕ
adjusted_by_0 = 1600 ∷ 1600 ∷ 0 ∷ 7 ∷ 0 ∷ 0 ∷ 1700 ∷ 1750 ∷ 1 ∷ 8 ∷ 0 ∷ 0 ∷ 1800 ∷ 1800 ∷ 0 ∷ 8 ∷ 1 ∷ 0 ∷ []

-- each closes its votes by entry; both take their adjust turns and close, and neither adjust reaches the other
abbrev vote_close_of_0 : List ℕ
vote_close_of_0 = 2000 ∷ 2000 ∷ 0 ∷ 6 ∷ 0 ∷ 0 ∷ []

abbrev vote_close_of_1 : List ℕ
vote_close_of_1 = 2000 ∷ 2050 ∷ 1 ∷ 6 ∷ 0 ∷ 0 ∷ []

abbrev adjusts_unheard : List ℕ
adjusts_unheard =
    2100 ∷ 2100 ∷ 0 ∷ 7 ∷ 0 ∷ 0 ∷ 2100 ∷ 2150 ∷ 1 ∷ 7 ∷ 0 ∷ 0 ∷ 3000 ∷ 3000 ∷ 0 ∷ 9 ∷ 0 ∷ 0 ∷ 3000 ∷ 3050 ∷ 1 ∷ 9 ∷ 0 ∷ 0 ∷ []

-- both are looked at; head 1's clock has come to be 100 µs ahead
abbrev looks : List ℕ
looks = 4000 ∷ 4000 ∷ 0 ∷ 0 ∷ 0 ∷ 0 ∷ 4000 ∷ 4100 ∷ 1 ∷ 0 ∷ 0 ∷ 0 ∷ []

-- head 2, faulty, its clock 400 µs ahead, sends a start too, and a vote; both reach head 0 alone
abbrev start_of_2 : List ℕ
start_of_2 = 1105 ∷ 1505 ∷ 2 ∷ 2 ∷ 0 ∷ 0 ∷ 1110 ∷ 1510 ∷ 2 ∷ 1 ∷ 0 ∷ 0 ∷ 1150 ∷ 1150 ∷ 0 ∷ 2 ∷ 2 ∷ 0 ∷ []

abbrev vote_of_2 : List ℕ
vote_of_2 = 1520 ∷ 1920 ∷ 2 ∷ 5 ∷ 0 ∷ 0 ∷ 1620 ∷ 1620 ∷ 0 ∷ 5 ∷ 2 ∷ 0 ∷ []

-- HEADS 1 AND 2 ARE CORRECT, and head 0 is faulty. Their clocks are 50 and 90 µs ahead of head 0's

-- heads 1 and 0 send their starts; 1's reaches both correct heads, 0's reaches head 1. The other deliveries: 0's to heads 2 and 0, 1's to 0
abbrev starts_of_1_and_0 : List ℕ
starts_of_1_and_0 =
    1000 ∷ 1050 ∷ 1 ∷ 1 ∷ 0 ∷ 0 ∷ 1050 ∷ 1050 ∷ 0 ∷ 1 ∷ 0 ∷ 0 ∷ 1100 ∷ 1150 ∷ 1 ∷ 2 ∷ 1 ∷ 0 ∷ 1103 ∷ 1193 ∷ 2 ∷ 2 ∷ 1 ∷ 0
    ∷ 1200 ∷ 1250 ∷ 1 ∷ 2 ∷ 0 ∷ 0 ∷ []

abbrev other_deliveries : List ℕ
other_deliveries = 1202 ∷ 1292 ∷ 2 ∷ 2 ∷ 0 ∷ 0 ∷ 1204 ∷ 1204 ∷ 0 ∷ 2 ∷ 0 ∷ 0 ∷ 1206 ∷ 1206 ∷ 0 ∷ 2 ∷ 1 ∷ 0 ∷ []

-- head 1 leads, head 2 adopts it, and each one's vote reaches the other
abbrev led_by_1 : List ℕ
led_by_1 =
    1300 ∷ 1350 ∷ 1 ∷ 3 ∷ 0 ∷ 0 ∷ 1400 ∷ 1450 ∷ 1 ∷ 4 ∷ 0 ∷ 0 ∷ 1500 ∷ 1590 ∷ 2 ∷ 5 ∷ 1 ∷ 0 ∷ 1600 ∷ 1650 ∷ 1 ∷ 5 ∷ 2 ∷ 0 ∷ []

-- head 0 leads too, and its vote reaches head 2 when head 1 has closed
abbrev late_vote_of_0 : List ℕ
late_vote_of_0 =
    1900 ∷ 1900 ∷ 0 ∷ 3 ∷ 0 ∷ 0 ∷ 1950 ∷ 1950 ∷ 0 ∷ 4 ∷ 0 ∷ 0 ∷ 2000 ∷ 2050 ∷ 1 ∷ 6 ∷ 0 ∷ 0 ∷ 2010 ∷ 2100 ∷ 2 ∷ 5 ∷ 0 ∷ 0
    ∷ 2020 ∷ 2110 ∷ 2 ∷ 6 ∷ 0 ∷ 0 ∷ []

-- head 0 adopts head 1, all close their votes, and head 0 becomes adjuster
abbrev adjust_of_0 : List ℕ
adjust_of_0 =
    1700 ∷ 1700 ∷ 0 ∷ 5 ∷ 1 ∷ 0 ∷ 2000 ∷ 2000 ∷ 0 ∷ 6 ∷ 0 ∷ 0 ∷ 2000 ∷ 2050 ∷ 1 ∷ 6 ∷ 0 ∷ 0 ∷ 2000 ∷ 2090 ∷ 2 ∷ 6 ∷ 0 ∷ 0
    ∷ 2050 ∷ 2050 ∷ 0 ∷ 7 ∷ 0 ∷ 0 ∷ []

-- head 1 becomes adjuster, head 2 adopts it, each one's adjust reaches the other, and head 1 closes
abbrev adjusted_by_1 : List ℕ
adjusted_by_1 =
    2100 ∷ 2150 ∷ 1 ∷ 7 ∷ 0 ∷ 0 ∷ 2200 ∷ 2290 ∷ 2 ∷ 8 ∷ 1 ∷ 0 ∷ 2300 ∷ 2350 ∷ 1 ∷ 8 ∷ 2 ∷ 0 ∷ 2400 ∷ 2490 ∷ 2 ∷ 7 ∷ 0 ∷ 0
    ∷ 3000 ∷ 3050 ∷ 1 ∷ 9 ∷ 0 ∷ 0 ∷ []

-- head 0's adjust reaches head 2; head 2 closes
abbrev adjust_at_2 : List ℕ
adjust_at_2 = 3010 ∷ 3100 ∷ 2 ∷ 8 ∷ 0 ∷ 0 ∷ []

abbrev adjust_close_of_2 : List ℕ
adjust_close_of_2 = 3020 ∷ 3110 ∷ 2 ∷ 9 ∷ 0 ∷ 0 ∷ []

-- THE SHEETS, in the order of the premises

unfoldable pub sheets : List Sheet
sheets =
    -- 1: of three heads, f = 1, head 0 alone is correct; it never holds two start readings
    of 3 1 1 (start_of_0 ++ alone) (without_clock 0)
    -- 2: head 1's clock gains 50 µs from entry 8 to its look
    ∷ of 2 0 3 (start_of_0 ++ start_at_1 ++ led_by_0 ++ adjusted_by_0 ++ looks) (clocks_apart 10 11)
    -- 3: the start that is confirmed has not reached head 1
    ∷ of 2 0 3 (start_of_0 ++ led_by_0 ++ adjusted_by_0) (without_clock 1)
    -- 4: no entries (M11)
    ∷ of 2 0 3 [] (without_clock 0)
    -- 5: the votes close before any head has started
    ∷ of 2 0 3 (vote_close_of_0 ++ vote_close_of_1 ++ adjusts_unheard) (without_clock 0)
    -- 6: a vote of higher rank reaches head 2 when head 1 has closed
    ∷ of 3 1 6 (starts_of_1_and_0 ++ other_deliveries ++ led_by_1 ++ late_vote_of_0 ++ adjusted_by_1 ++ adjust_close_of_2) (candidates_differ 1 2)
    -- 7: each of heads 0 and 1 is adjuster, with a median of its own, and neither adjust reaches the other
    ∷ of 3 1 3 (start_of_0 ++ start_at_1 ++ start_of_2 ++ led_by_0 ++ vote_of_2 ++ vote_close_of_1 ++ adjusts_unheard) (adjustments_differ 0 1)
    -- 8: an adjust of higher rank reaches head 2 when head 1 has closed
    ∷ of 3 1 6 (starts_of_1_and_0 ++ led_by_1 ++ adjust_of_0 ++ adjusted_by_1 ++ adjust_at_2 ++ adjust_close_of_2) (adjustments_differ 1 2)
    ∷ []

-- the sheet of premise i, from 1 to 8
abbrev pub sheet_for : ℕ → Sheet
sheet_for i = get_or sheets (i - 1) (of 2 0 3 [] (without_clock 0))
