-- Fields within their widths are read back from the words that spell them; words that pass causes 1 to 4 and 6 are those that spell what
-- they are read as. So what the recorder writes is the sole spelling of what it is given.
-- Main results: `setting_read`, `entry_read`, `spelled_again`, `sole_spelling`, `recorded`, `refusal_writes_nothing`, `later_words_kept`.
use mathlib.Core.Path.{◌≡◌, refl, sym, ◌∙◌, ap, ap₂, subst}
use mathlib.Core.Bool.{true, not, ◌&&◌}
use mathlib.Core.List.{List, [], ◌∷◌}
use Prim.Native.Nat.{ℕ, zero, suc, ◌+◌, ◌*◌, ◌/◌, ◌%◌, ◌^◌, ◌≤◌, ◌<◌}
use native.Mathlib.Nat.{not-suc-le-zero}
use native.Mathlib.Omega.{arith}
use lib.Dec.{ltb, leb, eqb}
use lib.ListN.{length, get_or, drop, drop_of_length-le}
use lib.Seq.{drop-cons, drop_at, take_at}
use borrow.Author.Tests.{ltb-true, ltb-false, eqb-true, eq-eqb}
use Rattle.protocol.specs.Base.{all, table}
use Rattle.protocol.specs.Types.{Setting, Entry, Cause, Verdict, Accepted, Refused}
use Rattle.protocol.specs.Words.{bits, kind_of, time_of, setting_of, first_fields_fit, first_word_fits, second_word_fits, entry_of, zero_where_unused, entry_fits}
use Rattle.protocol.specs.Words.{setting_at, entry_count, place_of, entry_at, entry_fits_at, entries_at}
use Rattle.protocol.specs.Causes.{sheet_verdict}
use Rattle.protocol.specs.Spelling.{first_word, second_word, time_word, reading_word, action_word, entry_words, sheet_of}
use Rattle.protocol.specs.Recorder.{numbers_per_entry, entry_in, count_in, entries_in, most_numbers, setting_in_width, entry_in_width, entry_in_range, write_verdict, write_if, write_sheet, Spells, SoleSpelling, Recorded}
use Rattle.protocol.proofs.Tests.{cond_elim, not_false, and_left, and_right, parts, and_both, all_at}
use Rattle.protocol.proofs.Tables.{length_table, is_table, drop_three}
use Rattle.protocol.proofs.Fits.{FittingSheet, FittingWords, not_accepted, sheet_fits, entry_fits_lem}
use Rattle.protocol.proofs.Causes.{whole_entries_pass}

-- WIDTHS

pub record SettingWidths (g : Setting) : Type 0 where
  pub n : g.n < 2 ^ 8
  pub f : g.f < 2 ^ 4
  pub correct : g.correct < 2 ^ 16
  pub drift : g.drift < 2 ^ 12
  pub tightness : g.tightness < 2 ^ 16

pub setting_widths : (g : Setting) → setting_in_width g ≡ true → SettingWidths g
unfolding setting_in_width
setting_widths g e =
    record {
      n = ltb-true _ _ (search parts);
      f = ltb-true _ _ (search parts);
      correct = ltb-true _ _ (search parts);
      drift = ltb-true _ _ (search parts);
      tightness = ltb-true _ _ (search parts);
    }

pub record EntryWidths (e : Entry) : Type 0 where
  pub time : e.time.0 < 2 ^ 28
  pub reading : e.reading.0 < 2 ^ 28
  pub head : e.head < 2 ^ 4
  pub action : e.action < 2 ^ 4
  pub sender : e.sender < 2 ^ 4
  pub serial : e.serial < 2 ^ 4
  pub unused : zero_where_unused e.action e.sender e.serial ≡ true

pub entry_widths : (e : Entry) → entry_in_width e ≡ true → EntryWidths e
unfolding entry_in_width
entry_widths e h =
    record {
      time = ltb-true _ _ (search parts);
      reading = ltb-true _ _ (search parts);
      head = ltb-true _ _ (search parts);
      action = ltb-true _ _ (search parts);
      sender = ltb-true _ _ (search parts depth 7);
      serial = ltb-true _ _ (search parts depth 8);
      unused = search parts depth 8;
    }

-- FROM FIELDS TO WORDS AND BACK

pub setting_read : (g : Setting) → SettingWidths g → setting_of (first_word g) (second_word g) ≡ g
unfolding setting_of
setting_read g w =
    let n : bits (first_word g) 27 20 ≡ g.n = omega arith in
    let f : bits (first_word g) 19 16 ≡ g.f = omega arith in
    let correct : bits (first_word g) 15 0 ≡ g.correct = omega arith in
    let drift : bits (second_word g) 27 16 ≡ g.drift = omega arith in
    let tightness : bits (second_word g) 15 0 ≡ g.tightness = omega arith in
    λ i. record { n = n i; f = f i; correct = correct i; drift = drift i; tightness = tightness i }

pub entry_read : (e : Entry) → EntryWidths e → entry_of (time_word e) (reading_word e) (action_word e) ≡ e
unfolding entry_of
entry_read e w =
    let time : time_of (time_word e) ≡ e.time.0 = omega arith in
    let reading : time_of (reading_word e) ≡ e.reading.0 = omega arith in
    let action : bits (action_word e) 27 24 ≡ e.action = omega arith in
    let head : bits (action_word e) 23 20 ≡ e.head = omega arith in
    let sender : bits (action_word e) 19 16 ≡ e.sender = omega arith in
    let serial : bits (action_word e) 15 12 ≡ e.serial = omega arith in
    λ i. record { time = record { 0 = time i }; reading = record { 0 = reading i }; head = head i; action = action i; sender = sender i; serial = serial i }

first_word_fits_lem : (g : Setting) → SettingWidths g → first_fields_fit g.n g.f g.correct ≡ true → first_word_fits (first_word g) ≡ true
unfolding first_word_fits setting_of
first_word_fits_lem g w fits =
    and_both (eq-eqb (kind_of (first_word g)) 1 (omega arith))
    (subst (λ (x : Setting). first_fields_fit x.n x.f x.correct ≡ true) (sym (setting_read g w)) fits)

second_word_fits_lem : (g : Setting) → SettingWidths g → second_word_fits (second_word g) ≡ true
second_word_fits_lem g w = eq-eqb (kind_of (second_word g)) 2 (omega arith)

entry_words_fit : (n : ℕ) (e : Entry) → EntryWidths e → entry_in_range n e ≡ true → entry_fits n (time_word e) (reading_word e) (action_word e) ≡ true
unfolding entry_fits entry_of entry_in_range
entry_words_fit n e w range =
    and_both (eq-eqb (kind_of (time_word e)) 3 (omega arith))
    (and_both (eq-eqb (kind_of (reading_word e)) 4 (omega arith))
    (and_both (eq-eqb (kind_of (action_word e)) 5 (omega arith))
    (and_both (eq-eqb (bits (action_word e) 11 0) 0 (omega arith))
    (subst (λ (x : Entry). (leb x.action 9 && (ltb x.head n && (ltb x.sender n && zero_where_unused x.action x.sender x.serial))) ≡ true)
    (sym (entry_read e w))
    (and_both (and_left (leb e.action 9) _ range)
    (and_both (and_left (ltb e.head n) _ (and_right (leb e.action 9) _ range))
    (and_both (and_right (ltb e.head n) _ (and_right (leb e.action 9) _ range)) w.unused)))))))

-- A WHOLE SHEET

pub length_entry_words : (es : List Entry) → length (entry_words es) ≡ 3 * length es
unfolding entry_words
length_entry_words [] = refl
length_entry_words (e ∷ es) = let ih = length_entry_words es in omega arith

pub length_sheet : (g : Setting) (es : List Entry) → length (sheet_of g es) ≡ place_of (length es)
unfolding sheet_of
length_sheet g es = let long = length_entry_words es in omega arith

-- the words of entry i
words_at_lem : (es : List Entry) (i : ℕ) (d : Entry) → i < length es
    → (get_or (entry_words es) (3 * i) 0 ≡ time_word (get_or es i d)) × (get_or (entry_words es) (3 * i + 1) 0 ≡ reading_word (get_or es i d))
    × (get_or (entry_words es) (3 * i + 2) 0 ≡ action_word (get_or es i d))
unfolding entry_words
words_at_lem [] i d h = absurd (not-suc-le-zero h)
words_at_lem (e ∷ es) zero d h = (refl, refl, refl)
words_at_lem (e ∷ es) (suc i) d h =
    let ih = words_at_lem es i d (omega arith) in
    let at : 3 * suc i ≡ suc (suc (suc (3 * i))) = omega arith in
    let at1 : 3 * suc i + 1 ≡ suc (suc (suc (3 * i + 1))) = omega arith in
    let at2 : 3 * suc i + 2 ≡ suc (suc (suc (3 * i + 2))) = omega arith in
    (rw at ih.0, rw at1 ih.1, rw at2 ih.2)

module _ (g : Setting) (es : List Entry) (i : ℕ) (d : Entry) (h : i < length es) where
  word_at : (j : ℕ) → get_or (sheet_of g es) (place_of i + j) 0 ≡ get_or (entry_words es) (3 * i + j) 0
  unfolding sheet_of
  word_at j = let at : place_of i + j ≡ suc (suc (3 * i + j)) = omega arith in rw at refl

  -- whatever is made of the words at entry i's place is made of its words
  at_entry : {A : Type 0} (f : ℕ → ℕ → ℕ → A) → f (get_or (sheet_of g es) (place_of i) 0) (get_or (sheet_of g es) (place_of i + 1) 0) (get_or (sheet_of g es) (place_of i + 2) 0)
      ≡ f (time_word (get_or es i d)) (reading_word (get_or es i d)) (action_word (get_or es i d))
  at_entry f =
      let w = words_at_lem es i d h in
      let p : place_of i + 0 ≡ place_of i = omega arith in
      let q : 3 * i + 0 ≡ 3 * i = omega arith in
      let zeroth : get_or (sheet_of g es) (place_of i) 0 ≡ get_or (entry_words es) (3 * i) 0 = rw (p, q) at (word_at 0) in
      rw (zeroth, word_at 1, word_at 2, w.0, w.1, w.2) refl

-- what stands where a list has no entry
abbrev no_entry : Entry
no_entry = entry_in [] 0

module _ (g : Setting) (es : List Entry) (widths : SettingWidths g) (fits : first_fields_fit g.n g.f g.correct ≡ true)
    (within : all entry_in_width es ≡ true) (ranged : all (entry_in_range g.n) es ≡ true) (few : length es ≤ 4096) where
  setting_back : setting_at (sheet_of g es) ≡ g
  unfolding sheet_of
  setting_back = setting_read g widths

  count_back : entry_count (sheet_of g es) ≡ length es
  count_back = let long = length_sheet g es in omega arith

  entry_widths_at : (i : ℕ) → i < length es → EntryWidths (get_or es i no_entry)
  entry_widths_at i h = entry_widths (get_or es i no_entry) (all_at entry_in_width es no_entry within i h)

  entries_back : entries_at (sheet_of g es) ≡ es
  entries_back =
      ap (table (entry_at (sheet_of g es)) 0) count_back
      ∙ sym (is_table (entry_at (sheet_of g es)) (length es) no_entry es refl
      (λ i h. sym (at_entry g es i no_entry h entry_of ∙ entry_read (get_or es i no_entry) (entry_widths_at i h))))

  entry_fits_back : (i : ℕ) → i < length es → entry_fits_at (sheet_of g es) i ≡ true
  entry_fits_back i h =
      ap (λ (x : Setting). entry_fits x.n (get_or (sheet_of g es) (place_of i) 0) (get_or (sheet_of g es) (place_of i + 1) 0) (get_or (sheet_of g es) (place_of i + 2) 0)) setting_back
      ∙ at_entry g es i no_entry h (entry_fits g.n)
      ∙ entry_words_fit g.n (get_or es i no_entry) (entry_widths_at i h) (all_at (entry_in_range g.n) es no_entry ranged i h)

  accepted_back : sheet_verdict (sheet_of g es) ≡ Accepted
  unfolding sheet_of
  accepted_back = whole_entries_pass (sheet_of g es) (length es) (length_sheet g es) few (first_word_fits_lem g widths fits) (second_word_fits_lem g widths)

  pub spells_them : Spells g es (sheet_of g es)
  spells_them =
      record {
        accepted = accepted_back;
        entries_fit = λ i h. entry_fits_back i (rw count_back at h);
        setting = setting_back;
        entries = entries_back;
      }

-- FROM WORDS TO FIELDS AND BACK

-- a word of kind 1, and one of kind 5 whose lowest bits are zero, is its fields side by side: field by field, from the lowest bits on
first_joined : (w : ℕ) → w < 2 ^ 32 → kind_of w ≡ 1 → w ≡ 1 * 2 ^ 28 + bits w 27 20 * 2 ^ 20 + bits w 19 16 * 2 ^ 16 + bits w 15 0
first_joined w below kind = join w (w / 2 ^ 16) (w / 2 ^ 20) (w / 2 ^ 28) _ _ _ (omega arith) (omega arith) (omega arith) (omega arith)
  where
    join : (w a b c n f correct : ℕ) → w ≡ a * 2 ^ 16 + correct → a ≡ b * 2 ^ 4 + f → b ≡ c * 2 ^ 8 + n → c ≡ 1
        → w ≡ 1 * 2 ^ 28 + n * 2 ^ 20 + f * 2 ^ 16 + correct
    join w a b c n f correct e1 e2 e3 e4 = omega arith

action_joined : (w : ℕ) → w < 2 ^ 32 → kind_of w ≡ 5 → bits w 11 0 ≡ 0
    → w ≡ 5 * 2 ^ 28 + bits w 27 24 * 2 ^ 24 + bits w 23 20 * 2 ^ 20 + bits w 19 16 * 2 ^ 16 + bits w 15 12 * 2 ^ 12
action_joined w below kind low =
    join w (w / 2 ^ 12) (w / 2 ^ 16) (w / 2 ^ 20) (w / 2 ^ 24) (w / 2 ^ 28) _ _ _ _ (omega arith) (omega arith) (omega arith) (omega arith) (omega arith) (omega arith)
  where
    join : (w a b c d e action head sender serial : ℕ) → w ≡ a * 2 ^ 12 → a ≡ b * 2 ^ 4 + serial → b ≡ c * 2 ^ 4 + sender → c ≡ d * 2 ^ 4 + head → d ≡ e * 2 ^ 4 + action → e ≡ 5
        → w ≡ 5 * 2 ^ 28 + action * 2 ^ 24 + head * 2 ^ 20 + sender * 2 ^ 16 + serial * 2 ^ 12
    join w a b c d e action head sender serial e1 e2 e3 e4 e5 e6 = omega arith

module _ (ws : List ℕ) (small : (i : ℕ) → get_or ws i 0 < 2 ^ 32) (sheet : FittingSheet ws) (fit : (i : ℕ) → i < entry_count ws → entry_fits_at ws i ≡ true) where
  first_again : get_or ws 0 0 ≡ first_word (setting_at ws)
  unfolding setting_of first_word_fits
  first_again = first_joined (get_or ws 0 0) (small 0) (eqb-true (kind_of (get_or ws 0 0)) 1 (and_left _ _ sheet.first_fits))

  second_again : get_or ws 1 0 ≡ second_word (setting_at ws)
  unfolding setting_of
  second_again =
      let kind = eqb-true (kind_of (get_or ws 1 0)) 2 sheet.second_fits in
      let below = small 1 in omega arith

  facts_at : (i : ℕ) → i < entry_count ws → FittingWords (setting_at ws).n (get_or ws (place_of i) 0) (get_or ws (place_of i + 1) 0) (get_or ws (place_of i + 2) 0)
  facts_at i h = entry_fits_lem _ _ _ _ (fit i h)

  time_again : (i : ℕ) → i < entry_count ws → get_or ws (place_of i) 0 ≡ time_word (entry_at ws i)
  unfolding entry_of
  time_again i h =
      let kind = (facts_at i h).kind_of_time in
      let below = small (place_of i) in omega arith

  reading_again : (i : ℕ) → i < entry_count ws → get_or ws (place_of i + 1) 0 ≡ reading_word (entry_at ws i)
  unfolding entry_of
  reading_again i h =
      let kind = (facts_at i h).kind_of_reading in
      let below = small (place_of i + 1) in omega arith

  action_again : (i : ℕ) → i < entry_count ws → get_or ws (place_of i + 2) 0 ≡ action_word (entry_at ws i)
  unfolding entry_of
  action_again i h = action_joined (get_or ws (place_of i + 2) 0) (small (place_of i + 2)) (facts_at i h).kind_of_action (facts_at i h).low_bits

  -- the words of the k entries from entry i on, the last ones
  entries_again : (i k : ℕ) → i + k ≡ entry_count ws → drop (place_of i) ws ≡ entry_words (table (entry_at ws) i k)
  unfolding entry_words
  entries_again i zero e = drop_of_length-le ws {i = place_of i} (let whole = sheet.whole_entries in omega arith)
  entries_again i (suc k) e =
      let whole = sheet.whole_entries in
      let h : i < entry_count ws = omega arith in
      drop_three ws (place_of i) (place_of (suc i)) 0 (omega arith) (omega arith)
      ∙ ap₂ ◌∷◌ (time_again i h) (ap₂ ◌∷◌ (reading_again i h) (ap₂ ◌∷◌ (action_again i h) (entries_again (suc i) k (omega arith))))

  pub spelled_again : ws ≡ sheet_of (setting_at ws) (entries_at ws)
  unfolding sheet_of
  spelled_again =
      let two = sheet.at_least_two in
      drop-cons ws 0 0 (omega arith) ∙ ap₂ ◌∷◌ first_again (drop-cons ws 1 0 (omega arith) ∙ ap₂ ◌∷◌ second_again (entries_again 0 (entry_count ws) (omega arith)))

-- WHAT THE RECORDER WRITES

pub sole_spelling : (g : Setting) (es : List Entry) → Spells g es (sheet_of g es) → SoleSpelling g es (sheet_of g es)
sole_spelling g es spells =
    record {
      spells = spells;
      sole = λ vs small s. spelled_again vs small (sheet_fits vs s.accepted) s.entries_fit ∙ ap₂ sheet_of s.setting s.entries;
    }

-- causes 1, 2, 12, 3, 6 and 5 do not apply
pub record Writable (g : Setting) (xs : List ℕ) (room : ℕ) : Type 0 where
  pub few : count_in xs ≤ 4096
  pub whole : length xs ≡ numbers_per_entry * count_in xs
  pub setting : setting_in_width g ≡ true
  pub within : all entry_in_width (entries_in xs) ≡ true
  pub fits : first_fields_fit g.n g.f g.correct ≡ true
  pub ranged : all (entry_in_range g.n) (entries_in xs) ≡ true
  pub enough : place_of (count_in xs) ≤ room

pub writable : (g : Setting) (xs : List ℕ) (room : ℕ) → write_verdict g xs room ≡ Accepted → Writable g xs room
unfolding write_verdict
writable g xs room =
    cond_elim Fits (ltb most_numbers (length xs)) (λ _. not_accepted _)
    (λ most. cond_elim Fits (not (eqb (length xs % numbers_per_entry) 0)) (λ _. not_accepted _)
    (λ sixes. cond_elim Fits (not (setting_in_width g && all entry_in_width (entries_in xs))) (λ _. not_accepted _)
    (λ wide. cond_elim Fits (not (first_fields_fit g.n g.f g.correct)) (λ _. not_accepted _)
    (λ first. cond_elim Fits (not (all (entry_in_range g.n) (entries_in xs))) (λ _. not_accepted _)
    (λ range. cond_elim Fits (ltb room (place_of (count_in xs))) (λ _. not_accepted _)
    (λ short _.
    let most' = ltb-false most_numbers (length xs) most in
    let sixes' = eqb-true (length xs % numbers_per_entry) 0 (not_false sixes) in
    record {
      few = omega arith;
      whole = omega arith;
      setting = and_left _ _ (not_false wide);
      within = and_right (setting_in_width g) _ (not_false wide);
      fits = not_false first;
      ranged = not_false range;
      enough = ltb-false room (place_of (count_in xs)) short;
    }))))))
  where
    Fits : Verdict → Type 0
    Fits v = v ≡ Accepted → Writable g xs room

pub length_written : (g : Setting) (xs : List ℕ) → length (sheet_of g (entries_in xs)) ≡ place_of (count_in xs)
length_written g xs = length_sheet g (entries_in xs) ∙ ap place_of (length_table (entry_in xs) 0 (count_in xs))

pub recorded : (g : Setting) (xs out : List ℕ) → Recorded g xs (write_sheet g xs out).verdict (write_sheet g xs out).buffer
unfolding write_sheet
recorded g xs out = go (write_verdict g xs (length out)) refl
  where
    go : (v : Verdict) → write_verdict g xs (length out) ≡ v → Recorded g xs (write_if v (sheet_of g (entries_in xs)) out).verdict (write_if v (sheet_of g (entries_in xs)) out).buffer
    go Accepted e =
        λ _.
        let w = writable g xs (length out) e in
        let few : length (entries_in xs) ≤ 4096 = rw (length_table (entry_in xs) 0 (count_in xs)) w.few in
        subst (SoleSpelling g (entries_in xs)) (sym (take_at (sheet_of g (entries_in xs)) _ (place_of (count_in xs)) (length_written g xs)))
        (sole_spelling g (entries_in xs) (spells_them g (entries_in xs) (setting_widths g w.setting) w.fits w.within w.ranged few))
    go (Refused c) e = not_accepted c

-- what a writer answers and leaves: the verdict, the sheet before the words kept or the buffer as it was, and what is claimed of these
module _ (v : Verdict) (ws out : List ℕ) (Claim : Verdict → List ℕ → Type 0) (claimed : Claim (write_if v ws out).verdict (write_if v ws out).buffer) where
  pub told : (x : Verdict) (after : List ℕ) → v ≡ x → after ≡ (write_if x ws out).buffer
      → (x ≡ (write_if v ws out).verdict) × (after ≡ (write_if v ws out).buffer) × Claim x after
  told x after e left =
      let verdict : x ≡ (write_if v ws out).verdict = sym (verdict_is x) ∙ ap (λ (y : Verdict). (write_if y ws out).verdict) (sym e) in
      let buffer : after ≡ (write_if v ws out).buffer = left ∙ ap (λ (y : Verdict). (write_if y ws out).buffer) (sym e) in
      (verdict, buffer, subst (λ (y : Verdict). Claim y after) (sym verdict) (subst (Claim (write_if v ws out).verdict) (sym buffer) claimed))
    where
      verdict_is : (x : Verdict) → (write_if x ws out).verdict ≡ x
      verdict_is Accepted = refl
      verdict_is (Refused c) = refl

-- "Every refusal comes before anything is written"
pub refusal_writes_nothing : (v : Verdict) (ws out : List ℕ) (c : Cause) → (write_if v ws out).verdict ≡ Refused c → (write_if v ws out).buffer ≡ out
refusal_writes_nothing Accepted ws out c e = not_accepted c (sym e)
refusal_writes_nothing (Refused d) ws out c e = refl

-- "words past the last one written are kept"
pub later_words_kept : (v : Verdict) (ws out : List ℕ) → drop (length ws) (write_if v ws out).buffer ≡ drop (length ws) out
later_words_kept Accepted ws out = drop_at ws (drop (length ws) out) (length ws) refl
later_words_kept (Refused c) ws out = refl
