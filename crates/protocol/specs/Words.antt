-- Document 01, "Words of a run sheet".
use Rattle.std.specs.Prelude.{Bool, ◌&&◌, ◌||◌, List, ℕ, suc, ◌+◌, ◌-◌, ◌*◌, ◌/◌, ◌%◌, ◌^◌, ltb, leb, eqb, length, get_or}
use Rattle.protocol.specs.Types.{Setting, Entry}
use Rattle.protocol.specs.Base.{table}

-- "bits HIGH–LOW" of a word; "Bit 31 is the highest; the top four bits are the kind"
abbrev pub bits : ℕ → ℕ → ℕ → ℕ
bits w high low = w / 2 ^ low % 2 ^ (suc high - low)

abbrev pub kind_of : ℕ → ℕ
kind_of w = bits w 31 28

-- "Times are microseconds in 28 bits": what stands below a word's kind, and the test of a number that is given by itself
abbrev pub time_of : ℕ → ℕ
time_of w = bits w 27 0

abbrev pub is_time : ℕ → Bool
is_time t = ltb t (2 ^ 28)

-- "First word, kind 1: bits 27–20 n (heads, 2..16), 19–16 f, 15–0 one bit per correct head"
-- "Second word, kind 2: bits 27–16 drift in parts per million, 15–0 tightness in microseconds"
unfoldable pub setting_of : ℕ → ℕ → Setting
setting_of a b =
    record { n = bits a 27 20; f = bits a 19 16; correct = bits a 15 0; drift = bits b 27 16; tightness = bits b 15 0 }

-- "bit 0 for head 0". Correct, a term of document 01: "the head's bit in the first word is set"
abbrev pub is_correct : Setting → ℕ → Bool
is_correct g q = eqb (g.correct / 2 ^ q % 2) 1

-- "n (heads, 2..16)"; "2f + 1 is at most n"
abbrev pub heads_fit : ℕ → ℕ → Bool
heads_fit n f = leb 2 n && (leb n 16 && leb (2 * f + 1) n)

-- cause 3: "first word against its rules, or a correct bit at n or above"; beside the kind these rules concern n, f and the correct bits
abbrev pub first_fields_fit : ℕ → ℕ → ℕ → Bool
first_fields_fit n f correct = heads_fit n f && ltb correct (2 ^ n)

unfoldable pub first_word_fits : ℕ → Bool
first_word_fits a = eqb (kind_of a) 1 && first_fields_fit (bits a 27 20) (bits a 19 16) (bits a 15 0)

-- cause 4: "second word not kind 2"
abbrev pub second_word_fits : ℕ → Bool
second_word_fits b = eqb (kind_of b) 2

-- "Each entry, three words: kind 3 with the real time, kind 4 with the head's reading (of the clock in use),
-- kind 5 with bits 27–24 action, 23–20 head, 19–16 sender, 15–12 serial, 11–0 zero"
unfoldable pub entry_of : ℕ → ℕ → ℕ → Entry
entry_of t a w =
    record {
      time = record { 0 = time_of t };
      reading = record { 0 = time_of a };
      head = bits w 23 20;
      action = bits w 27 24;
      sender = bits w 19 16;
      serial = bits w 15 12;
    }

-- the actions with a serial, 5 and 8, and those with a sender, 2, 5 and 8: the deliveries
abbrev pub has_serial : ℕ → Bool
has_serial a = eqb a 5 || eqb a 8

abbrev pub has_sender : ℕ → Bool
has_sender a = eqb a 2 || has_serial a

-- "Sender is zero except in actions 2, 5, 8; serial is zero except in 5 and 8"
abbrev pub zero_where_unused : ℕ → ℕ → ℕ → Bool
zero_where_unused a sender serial = (has_sender a || eqb sender 0) && (has_serial a || eqb serial 0)

-- cause 6 on a sheet: "entry's kinds, action above 9, head or sender not below n, a must-be-zero field"
unfoldable pub entry_fits : ℕ → ℕ → ℕ → ℕ → Bool
entry_fits n t a w =
    eqb (kind_of t) 3 && (eqb (kind_of a) 4 && (eqb (kind_of w) 5 && (eqb (bits w 11 0) 0
    && (leb (bits w 27 24) 9 && (ltb (bits w 23 20) n && (ltb (bits w 19 16) n
    && zero_where_unused (bits w 27 24) (bits w 19 16) (bits w 15 12)))))))

-- "At most 4,096 entries: 12,290 words"
abbrev pub most_words : ℕ
most_words = 2 + 3 * 4096

-- the sheet's setting, and the number of its entries
abbrev pub setting_at : List ℕ → Setting
setting_at ws = setting_of (get_or ws 0 0) (get_or ws 1 0)

abbrev pub entry_count : List ℕ → ℕ
entry_count ws = (length ws - 2) / 3

-- Place, a term of document 01: "the index of the entry's first word"
abbrev pub place_of : ℕ → ℕ
place_of i = 2 + 3 * i

-- entry i, and its test of cause 6
abbrev pub entry_at : List ℕ → ℕ → Entry
entry_at ws i = entry_of (get_or ws (place_of i) 0) (get_or ws (place_of i + 1) 0) (get_or ws (place_of i + 2) 0)

abbrev pub entry_fits_at : List ℕ → ℕ → Bool
entry_fits_at ws i = entry_fits (setting_at ws).n (get_or ws (place_of i) 0) (get_or ws (place_of i + 1) 0) (get_or ws (place_of i + 2) 0)

-- the entries, in order
abbrev pub entries_at : List ℕ → List Entry
entries_at ws = table (entry_at ws) 0 (entry_count ws)
