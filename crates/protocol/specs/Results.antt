-- Document 01, "Result words", with the fourth of document 02, No. 7, and the replay that fills a lent buffer with them.
use Rattle.std.specs.Prelude.{cond, List, [], ◌∷◌, ◌++◌, ℕ, zero, suc, ◌+◌, ◌*◌, ◌^◌, ltb, eqb, length, get_or, drop, unwrap_or, Err}
use Rattle.protocol.specs.Types.{HeadRecord, Setting, ShortBuffer, Verdict, Accepted, Refused, Replayed, Filled, TurnedBack}
use Rattle.protocol.specs.Words.{setting_at, entry_count}
use Rattle.protocol.specs.Record.{outcome, chosen_start, reading_or0, mark_number}
use Rattle.protocol.specs.Causes.{cause_number, sheet_verdict}
use Rattle.protocol.specs.Run.{History, record_of, Run, stopped, ran, run_of}

-- "All fields but kind, outcome and head are zero unless the outcome is 2"
abbrev pub if_adopted : HeadRecord → ℕ → ℕ
if_adopted r x = cond (eqb (outcome r) 2) x 0

-- "kind 6 with bits 27–24 outcome, 23–20 head, 19–16 candidate, 15–12 adjuster, rest zero; kind 7 with the adjustment;
-- kind 8 with the candidate's start reading"
unfoldable pub outcome_word : ℕ → HeadRecord → ℕ
outcome_word q r =
    6 * 2 ^ 28 + outcome r * 2 ^ 24 + q * 2 ^ 20 + if_adopted r (unwrap_or r.vote.choice 0) * 2 ^ 16
    + if_adopted r (unwrap_or r.adjust.choice 0) * 2 ^ 12

unfoldable pub adjustment_word : HeadRecord → ℕ
adjustment_word r = 7 * 2 ^ 28 + if_adopted r r.adjustment.0

unfoldable pub start_word : HeadRecord → ℕ
start_word r = 8 * 2 ^ 28 + if_adopted r (reading_or0 (chosen_start r))

-- document 02, No. 7: "starts, votes and adjusts it broadcast", a start once at most; "kind 9: bits 27–20 starts, 19–12 votes, 11–4
-- adjusts, rest zero, set whatever the outcome"
unfoldable pub frames_word : HeadRecord → ℕ
frames_word r = 9 * 2 ^ 28 + mark_number r.started 1 * 2 ^ 20 + r.vote.sent * 2 ^ 12 + r.adjust.sent * 2 ^ 4

-- "Each head's result gains a fourth word"; "in head order from word 0": the words of k heads from head q on
abbrev pub words_per_head : ℕ
words_per_head = 4

abbrev pub head_words : ℕ → HeadRecord → List ℕ
head_words q r = outcome_word q r ∷ adjustment_word r ∷ start_word r ∷ frames_word r ∷ []

unfoldable pub words_from : (ℕ → HeadRecord) → ℕ → ℕ → List ℕ
words_from r q zero = []
words_from r q (suc k) = head_words q (r q) ++ words_from r (suc q) k

-- head q's word i, of k words a head
abbrev pub word_of : ℕ → List ℕ → ℕ → ℕ → ℕ
word_of k ws q i = get_or ws (k * q + i) 0

unfoldable pub result_words : Setting → History → List ℕ
result_words g h = words_from (record_of g h) 0 g.n

-- what a replay returns, and what it leaves in the buffer
pub record Replay : Type 0 where
  pub answer : Replayed
  pub buffer : List ℕ

-- "later words kept"; a refusal leaves the buffer unchanged
abbrev pub fill : Setting → List ℕ → Run → Replay
fill g out (stopped c p) = record { answer = TurnedBack c p; buffer = out }
fill g out (ran h) = record { answer = Filled; buffer = result_words g h ++ drop (words_per_head * g.n) out }

-- "Sheet order: 1 to 5, then entry by entry 6 to 9"
abbrev pub fill_after : Verdict → List ℕ → List ℕ → Replay
fill_after (Refused c) ws out = fill (setting_at ws) out (stopped c 0)
fill_after Accepted ws out =
    cond (ltb (length out) (words_per_head * (setting_at ws).n)) (fill (setting_at ws) out (stopped ShortBuffer 0))
    (fill (setting_at ws) out (run_of ws (entry_count ws)))

unfoldable pub replay : List ℕ → List ℕ → Replay
replay ws out = fill_after (sheet_verdict ws) ws out

-- the cause's number, 0 for none, and the place
abbrev pub replayed_numbers : Replayed → List ℕ
replayed_numbers Filled = 0 ∷ 0 ∷ []
replayed_numbers (Err x) = cause_number x.cause ∷ x.place ∷ []
