-- Which cause is named, and where: the order of document 01's causes, the place of a refusal, and the buffer that it leaves.
-- Main results: `whole_entries_pass`, `too_many_words`, the laws named `..-first` and `..-before-..`, `place_of_refusal`.
use mathlib.Core.Path.{◌≡◌, refl, sym, ◌∙◌, ap}
use mathlib.Core.Bool.{Bool, true, false, not, ◌||◌}
use mathlib.Core.List.{List}
use mathlib.Core.Logic.{◌≢◌}
use Prim.Native.Nat.{ℕ, suc, ◌+◌, ◌-◌, ◌*◌, ◌%◌, ◌≤◌, ◌<◌}
use native.Mathlib.Omega.{arith}
use lib.Dec.{ltb, eqb}
use lib.ListN.{length, get_or}
use borrow.Author.Tests.{lt-ltb, le-ltb, eq-eqb, ne_eqb}
use Rattle.protocol.specs.Types.{Reading, HeadRecord, Setting, Entry, Input, Action, Stepped, Verdict, Accepted, Refused, TurnedBack}
use Rattle.protocol.specs.Types.{Cause, TooManyWords, BadLength, BadFirstWord, ShortBuffer, BadEntry, TimeFell, ReadingFell, BadRecord}
use Rattle.protocol.specs.Words.{most_words, first_word_fits, second_word_fits, setting_at, entry_count, place_of, entry_at, entry_fits_at}
use Rattle.protocol.specs.Record.{record_in_range}
use Rattle.protocol.specs.Step.{refused, take_action, input_fits, step}
use Rattle.protocol.specs.Causes.{sheet_verdict}
use Rattle.protocol.specs.Run.{History, last_time, step_entry, Run, stopped, ran, extend, and_then, run_of}
use Rattle.protocol.specs.Results.{Replay, words_per_head, fill, fill_after, replay}
use Rattle.protocol.specs.Program.{refused_line, bytes_verdict, printed}
use Rattle.protocol.proofs.Tests.{absurd_bool, cond_elim}

whole_length : (ws : List ℕ) (k : ℕ) → length ws ≡ 2 + 3 * k → (ltb (length ws) 2 || not (eqb ((length ws - 2) % 3) 0)) ≡ false
whole_length ws k e = rw (le-ltb (length ws) 2 (omega arith), eq-eqb ((length ws - 2) % 3) 0 (omega arith)) refl

-- "At most 4,096 entries: 12,290 words": so many may pass
pub whole_entries_pass : (ws : List ℕ) (k : ℕ) → length ws ≡ 2 + 3 * k → k ≤ 4096
    → first_word_fits (get_or ws 0 0) ≡ true → second_word_fits (get_or ws 1 0) ≡ true → sheet_verdict ws ≡ Accepted
unfolding sheet_verdict
whole_entries_pass ws k e h a b =
    cond_elim (λ v. v ≡ Accepted) (ltb most_words (length ws)) (λ t. absurd_bool t (le-ltb most_words (length ws) (omega arith)))
    (λ _. rw (whole_length ws k e, a, b) refl)

-- "more than 12,290 words" are cause 1, whatever else holds of them
pub too_many_words : (ws : List ℕ) → 12290 < length ws → sheet_verdict ws ≡ Refused TooManyWords
unfolding sheet_verdict
too_many_words ws h =
    cond_elim (λ v. v ≡ Refused TooManyWords) (ltb most_words (length ws)) (λ _. refl)
    (λ t. absurd_bool (lt-ltb most_words (length ws) h) t)

-- "Sheet order: 1 to 5": cause 3 whatever the second word, cause 5 whatever the entries
pub first_word_first : (ws : List ℕ) (k : ℕ) → length ws ≡ 2 + 3 * k → k ≤ 4096
    → first_word_fits (get_or ws 0 0) ≡ false → sheet_verdict ws ≡ Refused BadFirstWord
unfolding sheet_verdict
first_word_first ws k e h a =
    cond_elim (λ v. v ≡ Refused BadFirstWord) (ltb most_words (length ws)) (λ t. absurd_bool t (le-ltb most_words (length ws) (omega arith)))
    (λ _. rw (whole_length ws k e, a) refl)

pub buffer_before_entries : (ws out : List ℕ) → sheet_verdict ws ≡ Accepted → length out < words_per_head * (setting_at ws).n
    → (replay ws out).answer ≡ TurnedBack ShortBuffer 0
unfolding replay
buffer_before_entries ws out e h = rw (e, lt-ltb (length out) (words_per_head * (setting_at ws).n) h) refl

-- "Unchanged: result buffer"
pub refusal_keeps_buffer : (ws out : List ℕ) (c : Cause) (p : ℕ) → (replay ws out).answer ≡ TurnedBack c p → (replay ws out).buffer ≡ out
unfolding replay
refusal_keeps_buffer ws out c p = after_verdict_lem (sheet_verdict ws)
  where
    Kept : Replay → Type 0
    Kept x = x.answer ≡ TurnedBack c p → x.buffer ≡ out

    after_run : (x : Run) → Kept (fill (setting_at ws) out x)
    after_run (stopped d q) = λ _. refl
    after_run (ran h) = λ e. absurd (let z : ◌≡◌ {A = ℕ} 0 1 = cc in omega arith)

    after_verdict_lem : (v : Verdict) → Kept (fill_after v ws out)
    after_verdict_lem Accepted = cond_elim Kept (ltb (length out) (words_per_head * (setting_at ws).n)) (λ _ _. refl) (λ _. after_run (run_of ws (entry_count ws)))
    after_verdict_lem (Refused d) = λ _. refl

-- "Place is the index of the entry's first word"
pub place_of_refusal : (ws : List ℕ) (i : ℕ) (s : History) (c : Cause) (p : ℕ) → run_of ws i ≡ ran s → run_of ws (suc i) ≡ stopped c p → p ≡ 2 + 3 * i
unfolding run_of and_then
place_of_refusal ws i s c p before after = at_verdict answer.verdict (sym (ap next before) ∙ after)
  where
    next : Run → Run
    next x = and_then (setting_at ws) x (place_of i) (entry_fits_at ws i) (entry_at ws i)

    answer : Stepped
    answer = step_entry (setting_at ws) s (entry_fits_at ws i) (entry_at ws i)

    at_verdict : (v : Verdict) → extend (place_of i) s (entry_at ws i) answer v ≡ stopped c p → p ≡ 2 + 3 * i
    at_verdict Accepted e = absurd (let z : ◌≡◌ {A = ℕ} 0 1 = cc in omega arith)
    at_verdict (Refused d) e = cc

-- "entry by entry 6 to 9": an entry is refused for its words first, then for its time, then for its reading
pub words_before_time : (g : Setting) (s : History) (e : Entry) → (step_entry g s false e).verdict ≡ Refused BadEntry
unfolding step_entry
words_before_time g s e = refl

pub time_before_reading : (g : Setting) (s : History) (e : Entry) → e.time.0 < last_time s → (step_entry g s true e).verdict ≡ Refused TimeFell
unfolding step_entry
time_before_reading g s e h = rw (lt-ltb e.time.0 (last_time s) h) refl

pub reading_before_closed : (r : HeadRecord) (x : Reading) (sent : Bool) (a : Action) → x.0 < r.last.0 → take_action r x sent a ≡ refused r ReadingFell
unfolding take_action
reading_before_closed r x sent a h =
    cond_elim (λ t. t ≡ refused r ReadingFell) (ltb x.0 r.last.0) (λ _. refl) (λ t. absurd_bool (lt-ltb x.0 r.last.0 h) t)

-- "One head: 10, 6, 8, 9"
pub record_before_entry : (r : HeadRecord) (i : Input) → record_in_range r ≡ false → step r i ≡ refused r BadRecord
unfolding step
record_before_entry r i e = rw e refl

pub entry_before_reading : (r : HeadRecord) (i : Input) → record_in_range r ≡ true → input_fits r.n i ≡ false → step r i ≡ refused r BadEntry
unfolding step
entry_before_reading r i e h = rw (e, h) refl

-- the program: "above 49,160 bytes is cause 1, tested first; a length not a multiple of 4 is cause 2"
pub too_many_bytes : (bytes : List ℕ) → 49160 < length bytes → printed bytes ≡ refused_line TooManyWords 0
unfolding printed bytes_verdict
too_many_bytes bytes h = rw (lt-ltb 49160 (length bytes) h) refl

pub part_of_a_word : (bytes : List ℕ) → length bytes ≤ 49160 → length bytes % 4 ≢ 0 → printed bytes ≡ refused_line BadLength 0
unfolding printed bytes_verdict
part_of_a_word bytes h n = rw (le-ltb 49160 (length bytes) h, ne_eqb (length bytes % 4) 0 n) refl
