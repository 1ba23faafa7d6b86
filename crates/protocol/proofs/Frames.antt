-- How many frames a round has: with n heads at most n² + 2n, the count that source 000 keeps, and so at most document
-- 01's 2n² + n. Source 000 takes a head's first vote to be for itself; the count holds without that.
-- Why: a head sends one start, and in each phase it names falling numbers, never the same twice. A head that is named has
-- named itself; a head that names itself does so before it names any other, so it names none above it.
-- Hence no two heads name each other, and of the n² pairs of sender and number a phase has at most n(n + 1)/2.
-- Main results, over the phase: `sent_itself`, `own_first`, `phase_frames`; of a head: `starts_counted`, `frames_counted` (what its record
-- keeps of the frames that its steps sent is how many there were); over a round: `frames_sum`, `frames_published`, `frames_bound`; of a
-- sheet's words: `sheet_published`, `sheet_frames`.
use Rattle.std.specs.Prelude.{Option, Some, None}
use mathlib.Core.Path.{◌≡◌, refl, sym, ◌∙◌, ap, subst}
use mathlib.Core.Bool.{Bool, true, false, cond, ◌&&◌, ◌||◌}
use mathlib.Core.List.{List, [], ◌∷◌}
use Prim.Native.Nat.{ℕ, zero, suc, ◌+◌, ◌*◌, ◌≤◌, ◌<◌}
use native.Mathlib.Nat.{not-suc-le-zero, mul-suc, suc-mul}
use native.Mathlib.Omega.{arith}
use lib.Dec.{ltb, eqb}
use lib.ListN.{get_or}
use borrow.Author.Tests.{eqb-true, eqb-false, ne_eqb, ltb-true, lt-ltb}
use Rattle.protocol.specs.Base.{count_below}
use Rattle.protocol.specs.Types.{Reading, Phase, HeadRecord, Setting, Action, Frame, NoFrame, Start, Vote, Adjust}
use Rattle.protocol.specs.Words.{setting_at}
use Rattle.protocol.specs.Record.{fresh}
use Rattle.protocol.specs.Step.{with_last, vote, adjust, is_closed}
use Rattle.protocol.specs.Run.{Event, History, record_of, frame_sent, is_delivered_by, is_frame, delivered_by, frames_sent, ran, run_sheet}
use Rattle.protocol.proofs.Tests.{absurd_bool, cases, eqb_same, count_some, some_count}
use Rattle.protocol.proofs.Effects.{Kind, votes, adjusts, phase_of, delivery, number, prepared, Sending, nothing, voting, adjusting, send, sending_of, answer, send_marks, none_is_some, same_number_lem, phase_last, closed_last, start_once}
use Rattle.protocol.proofs.Effects as Effects
use Rattle.protocol.proofs.Valid.{base_of, Taken, Valid, start, more, accepted_sheet, record_at, record_other, by_head, of_effect}
use Rattle.protocol.proofs.Runs.{start_frame}
use Rattle.protocol.proofs.Phases.{names, held, sent, Origin, own, reached, SendsOne, Turn, sends_none, sends_one, turn, names_other, sent_other, outranks_below, frame_new, frame_stays, serial_below, unsent, AtMost, falls}

-- the number of events at which a frame was sent
unfoldable pub frames_in : History → ℕ
frames_in [] = 0
frames_in (e ∷ s) = cond (is_frame e.frame) 1 0 + frames_in s

-- SUMS

abbrev bit : Bool → ℕ
bit b = cond b 1 0

abbrev pub sum_below : ℕ → (ℕ → ℕ) → ℕ
sum_below zero f = 0
sum_below (suc n) f = f n + sum_below n f

bit_mono : (a b : Bool) → (a ≡ true → b ≡ true) → bit a ≤ bit b
bit_mono true b h = rw (h refl) (omega arith)
bit_mono false b h = omega arith

bits_apart : (a b : Bool) → (a ≡ true → b ≡ true → ⊥) → bit a + bit b ≤ 1
bits_apart true true h = absurd (h refl refl)
bits_apart true false h = omega arith
bits_apart false b h = let z = bit_mono b true (λ _. refl) in omega arith

sum_mono : (n : ℕ) (f h : ℕ → ℕ) → ((q : ℕ) → f q ≤ h q) → sum_below n f ≤ sum_below n h
sum_mono zero f h le = omega arith
sum_mono (suc n) f h le = let a = le n in let b = sum_mono n f h le in omega arith

sum_add : (n : ℕ) (f h : ℕ → ℕ) → sum_below n (λ q. f q + h q) ≡ sum_below n f + sum_below n h
sum_add zero f h = refl
sum_add (suc n) f h = let a = sum_add n f h in omega arith

sum_none : (n : ℕ) → sum_below n (λ q. 0 + (0 + 0)) ≡ 0
sum_none zero = refl
sum_none (suc n) = let a = sum_none n in omega arith

-- a term that is not 0 at one number alone
sum_past : (n p : ℕ) (b : Bool) → n ≤ p → sum_below n (λ q. bit (eqb p q && b)) ≡ 0
sum_past zero p b le = refl
sum_past (suc n) p b le = rw (ne_eqb p n (λ z. omega arith), sum_past n p b (omega arith)) refl

sum_at : (n p : ℕ) (b : Bool) → p < n → sum_below n (λ q. bit (eqb p q && b)) ≡ bit b
sum_at zero p b lt = absurd (not-suc-le-zero lt)
sum_at (suc n) p b lt =
    cases (eqb p n)
    (λ t. rw (t, sum_past n p b (let z = eqb-true p n t in omega arith)) (omega arith))
    (λ t. rw (t, sum_at n p b (let z = eqb-false p n t in omega arith)) (omega arith))

sum_ones : (n : ℕ) (f : ℕ → ℕ) → ((q : ℕ) → q < n → f q ≤ 1) → sum_below n f ≤ n
sum_ones zero f le = omega arith
sum_ones (suc n) f le = let a = le n (omega arith) in let b = sum_ones n f (λ q l. le q (omega arith)) in omega arith

-- no term falls, and one of them grows by d
sum_grows : (n : ℕ) (f h : ℕ → ℕ) (p d : ℕ) → p < n → ((q : ℕ) → f q ≤ h q) → f p + d ≤ h p → sum_below n f + d ≤ sum_below n h
sum_grows zero f h p d lt le g = absurd (not-suc-le-zero lt)
sum_grows (suc n) f h p d lt le g =
    cases (eqb p n)
    (λ t. let a : f n + d ≤ h n = subst (λ (q : ℕ). f q + d ≤ h q) (eqb-true p n t) g in let b = sum_mono n f h le in omega arith)
    (λ t. let a = sum_grows n f h p d (let z = eqb-false p n t in omega arith) le g in let b = le n in omega arith)

-- a relation that holds both ways only of a number and itself has at most n(n + 1)/2 pairs below n: the number n adds at
-- most n pairs with the numbers below it, and one with itself
pairs_below : (n : ℕ) (r : ℕ → ℕ → Bool) → ((p c : ℕ) → r p c ≡ true → r c p ≡ true → p ≡ c) → 2 * sum_below n (λ p. sum_below n (λ c. bit (r p c))) ≤ n * n + n
pairs_below zero r anti = omega arith
pairs_below (suc n) r anti =
    let column = sum_add n (λ p. bit (r p n)) (λ p. sum_below n (λ c. bit (r p c))) in
    let both = sum_add n (λ c. bit (r n c)) (λ c. bit (r c n)) in
    let few = sum_ones n (λ c. bit (r n c) + bit (r c n)) (λ c l. bits_apart (r n c) (r c n) (λ x y. let eq = anti n c x y in omega arith)) in
    let itself = bit_mono (r n n) true (λ _. refl) in
    let before = pairs_below n r anti in
    let square : suc n * suc n ≡ n * n + n + suc n = mul-suc (suc n) n ∙ rw (suc-mul n n) refl in
    omega arith

-- WHO NAMES WHOM

abbrev is_for : ℕ → Option ℕ → Bool
is_for c None = false
is_for c (Some v) = eqb v c

for_it : (c : ℕ) (m : Option ℕ) → is_for c m ≡ true → m ≡ Some c
for_it c None e = absurd_bool e refl
for_it c (Some v) e = ap (λ (w : ℕ). Some w) (eqb-true v c e)

none_sent : (k : Kind) (n f q : ℕ) → (phase_of k (fresh n f q)).sent ≡ 0
unfolding fresh
none_sent votes n f q = refl
none_sent adjusts n f q = refl

module _ (g : Setting) (k : Kind) where
  -- a frame of p names c
  abbrev pub SentFor : History → ℕ → ℕ → Type 0
  SentFor s p c = (j : ℕ) × (names g k s p j ≡ Some c)

  pub sent_stays : {s : History} {e : Event} → Taken g s e → Valid g s → (p c : ℕ) → SentFor s p c → SentFor (e ∷ s) p c
  sent_stays t v p c x = (x.0, frame_stays g k t v p x.0 c x.1)

  sent_new : {s : History} {e : Event} → Valid g s → (z : SendsOne g k s e) → SentFor (e ∷ s) e.entry.head z.choice
  sent_new {s} {e} v z = (sent g k s e.entry.head, z.names_new _ ∙ rw (unsent g k v e.entry.head, eqb_same (sent g k s e.entry.head)) refl)

  -- a property of every sending: an event keeps it, and it holds of a sending when it is made
  every_sending : (P : History → ℕ → ℕ → Type 0)
      → ((s : History) (e : Event) → Taken g s e → Valid g s → (p c : ℕ) → SentFor s p c → P s p c → P (e ∷ s) p c)
      → ((s : History) (e : Event) → Taken g s e → Valid g s → ((p c : ℕ) → SentFor s p c → P s p c) → (z : SendsOne g k s e) → P (e ∷ s) e.entry.head z.choice)
      → {s : History} → Valid g s → (p c : ℕ) → SentFor s p c → P s p c
  unfolding frame_sent
  every_sending P keep new start p c = λ x. none_is_some x.1
  every_sending P keep new (more {e = e} {s = s} t v) p c =
      let old : (p c : ℕ) → SentFor s p c → P s p c = every_sending P keep new v in
      by_head (λ p. SentFor (e ∷ s) p c → P (e ∷ s) p c) e p
      (λ x. frame_new g k (λ j c. P (e ∷ s) e.entry.head c) (turn g k t v) (λ j c h. keep s e t v _ c (j, h) (old _ c (j, h))) (new s e t v old) x.0 c x.1)
      (λ d x. let y : SentFor s p c = (x.0, sym (names_other g k e s p x.0 d) ∙ x.1) in keep s e t v p c y (old p c y))

  -- a head that has named c has a choice, at most c
  pub sent_at_most : {s : History} → Valid g s → (p c : ℕ) → SentFor s p c → AtMost g k s p c
  sent_at_most = every_sending (AtMost g k) (λ s e t v p c x a. falls g k t v p c a) (λ s e t v old z. record { choice = z.choice; holds = z.held_new; low = omega arith })

  -- a new sending names a number not named before
  sending_new : {s : History} {e : Event} → Valid g s → (z : SendsOne g k s e) → SentFor s e.entry.head z.choice → ⊥
  sending_new v z x = let a = sent_at_most v _ _ x in let lt = outranks_below _ _ _ z.higher a.holds in let le = a.low in omega arith

  -- every speaker is a head
  pub sender_below : {s : History} → Valid g s → (p c : ℕ) → SentFor s p c → p < g.n
  sender_below = every_sending (λ s p c. p < g.n) (λ s e t v p c x lt. lt) (λ s e t v old z. t.head_below)

  -- a head that is named has named itself
  pub sent_itself : {s : History} → Valid g s → (p c : ℕ) → SentFor s p c → SentFor s c c
  sent_itself = every_sending (λ s p c. SentFor s c c) (λ s e t v p c x y. sent_stays t v c c y) (λ s e t v old z. go t v old z z.origin)
    where
      go : {s : History} {e : Event} → Taken g s e → Valid g s → ((p c : ℕ) → SentFor s p c → SentFor s c c) → (z : SendsOne g k s e) → Origin g k s e z.choice
          → SentFor (e ∷ s) z.choice z.choice
      go {s} {e} t v old z (own o none tu) = subst (λ (q : ℕ). SentFor (e ∷ s) q z.choice) (sym o) (sent_new v z)
      go {s} {e} t v old z (reached a na) = sent_stays t v _ _ (old e.entry.sender z.choice (e.entry.serial, na))

  -- a head that has a choice does not begin to name itself
  itself_before : {s : History} {e : Event} → Taken g s e → Valid g s → (p w : ℕ) → held g k s p ≡ Some w → SentFor (e ∷ s) p p → SentFor s p p
  itself_before {s} {e} t v p w =
      by_head (λ p. held g k s p ≡ Some w → SentFor (e ∷ s) p p → SentFor s p p) e p
      (λ h x. frame_new g k (λ j c. c ≡ e.entry.head → SentFor s e.entry.head e.entry.head) (turn g k t v)
      (λ j c na eq. (j, na ∙ ap (λ (q : ℕ). Some q) eq)) (λ z eq. go h z.origin eq) x.0 e.entry.head x.1 refl)
      (λ d h x. (x.0, sym (names_other g k e s p x.0 d) ∙ x.1))
    where
      go : {c : ℕ} → held g k s e.entry.head ≡ Some w → Origin g k s e c → c ≡ e.entry.head → SentFor s e.entry.head e.entry.head
      go h (own o none tu) eq = none_is_some (sym none ∙ h)
      go h (reached a na) eq = sent_itself v e.entry.sender e.entry.head (e.entry.serial, na ∙ ap (λ (q : ℕ). Some q) eq)

  -- a head that has named itself has named none above it
  pub own_first : {s : History} → Valid g s → (p c : ℕ) → SentFor s p c → SentFor s p p → c ≤ p
  own_first =
      every_sending (λ s p c. SentFor s p p → c ≤ p) (λ s e t v p c x le y. let a = sent_at_most v p c x in le (itself_before t v p a.choice a.holds y))
      (λ s e t v old z y. let a = sent_at_most (more t v) _ _ y in let eq = same_number_lem (sym a.holds ∙ z.held_new) in let le = a.low in omega arith)

  -- no two heads name each other
  pub not_both : {s : History} → Valid g s → (p c : ℕ) → SentFor s p c → SentFor s c p → p ≡ c
  not_both v p c x y = let a = own_first v p c x (sent_itself v c p y) in let b = own_first v c p y (sent_itself v p c x) in omega arith

  -- FRAMES OF A PHASE

  -- SentFor as a test, and how many numbers p has named
  abbrev is_sent_for : History → ℕ → ℕ → Bool
  is_sent_for s p c = ltb 0 (count_below (sent g k s p) (λ j. is_for c (names g k s p j)))

  abbrev sent_for_count : History → ℕ → ℕ
  sent_for_count s p = sum_below g.n (λ c. bit (is_sent_for s p c))

  test_sent : (s : History) (p c : ℕ) → is_sent_for s p c ≡ true → SentFor s p c
  test_sent s p c e = let x = count_some (sent g k s p) (λ j. is_for c (names g k s p j)) (ltb-true 0 _ e) in (x.0, for_it c _ x.2)

  sent_test : {s : History} → Valid g s → (p c : ℕ) → SentFor s p c → is_sent_for s p c ≡ true
  sent_test {s} v p c x =
      lt-ltb 0 _ (some_count (sent g k s p) (λ j. is_for c (names g k s p j)) x.0 (serial_below g k v p x.0 c x.1) (rw x.1 (eqb_same c)))

  -- each frame of p is for another number
  sent_low : {s : History} → Valid g s → (p : ℕ) → sent g k s p ≤ sent_for_count s p
  unfolding record_of
  sent_low start p = let z = none_sent k g.n g.f p in omega arith
  sent_low (more {e = e} {s = s} t v) p =
      by_head (λ p. sent g k (e ∷ s) p ≤ sent_for_count (e ∷ s) p) e p (go (turn g k t v) (sent_low v e.entry.head))
      (λ d. let eq = sent_other g k e s p d in let a = sent_low v p in let b = sum_mono g.n _ _ (grows p) in omega arith)
    where
      grows : (p c : ℕ) → bit (is_sent_for s p c) ≤ bit (is_sent_for (e ∷ s) p c)
      grows p c = bit_mono (is_sent_for s p c) (is_sent_for (e ∷ s) p c) (λ x. sent_test (more t v) p c (sent_stays t v p c (test_sent s p c x)))

      go : Turn g k s e → sent g k s e.entry.head ≤ sent_for_count s e.entry.head → sent g k (e ∷ s) e.entry.head ≤ sent_for_count (e ∷ s) e.entry.head
      go (sends_none z) le = let eq = z.sent_same in let b = sum_mono g.n _ _ (grows e.entry.head) in omega arith
      go (sends_one z) le =
          let c = z.choice in let x = sent_new v z in let eq = z.sent_new in
          let new : bit (is_sent_for s e.entry.head c) + 1 ≤ bit (is_sent_for (e ∷ s) e.entry.head c) =
          rw (sent_test (more t v) _ c x) (bits_apart (is_sent_for s e.entry.head c) true (λ y _. sending_new v z (test_sent s _ c y))) in
          let b = sum_grows g.n _ _ c 1 (sender_below (more t v) c c (sent_itself (more t v) _ c x)) (grows e.entry.head) new in
          omega arith

  -- at most n(n + 1)/2 frames in a phase
  pub phase_frames : {s : History} → Valid g s → 2 * sum_below g.n (sent g k s) ≤ g.n * g.n + g.n
  phase_frames {s} v =
      let a = sum_mono g.n (sent g k s) (sent_for_count s) (sent_low v) in
      let b = pairs_below g.n (is_sent_for s) (λ p c x y. not_both v p c (test_sent s p c x) (test_sent s c p y)) in
      omega arith

-- FRAMES OF A HEAD

-- a step's frame is counted: that of a phase by the frames sent in it, a start by its mark, since it is sent once
phase_counted : (k : Kind) (r : HeadRecord) (a : Action) (x : Sending)
    → (phase_of k (send x (prepared r a)).after).sent ≡ bit (eqb (delivered_by (send x (prepared r a)).frame) (delivery k)) + (phase_of k r).sent
unfolding vote adjust
phase_counted votes r a nothing = omega arith
phase_counted votes r a Effects.start = omega arith
phase_counted votes r a (voting c) = omega arith
phase_counted votes r a (adjusting c x) = omega arith
phase_counted adjusts r a nothing = omega arith
phase_counted adjusts r a Effects.start = omega arith
phase_counted adjusts r a (voting c) = omega arith
phase_counted adjusts r a (adjusting c x) = omega arith

is_start : (x : Frame) → eqb (delivered_by x) 2 ≡ is_delivered_by 2 0 x
is_start NoFrame = refl
is_start Start = refl
is_start (Vote j c x) = refl
is_start (Adjust j c x) = refl

start_counted : (r : HeadRecord) (a : Action) → is_closed r a ≡ false
    → bit (answer r a).after.started ≡ bit (eqb (delivered_by (answer r a).frame) 2) + bit r.started
start_counted r a e =
    let marked : (answer r a).after.started ≡ (eqb (number a) 1 || r.started) = ap (λ (l : List Bool). get_or l 0 false) (send_marks (sending_of r a) (prepared r a)) in
    let sends : eqb (delivered_by (answer r a).frame) 2 ≡ eqb (number a) 1 = is_start (answer r a).frame ∙ start_frame r (prepared r a) a 0 in
    rw (marked, sends) (cases (eqb (number a) 1) (λ t. rw (t, start_once r a (eqb-true (number a) 1 t) e) refl) (λ t. rw t (omega arith)))

module _ (g : Setting) where
  -- a number in a head's record that counts its frames of one kind
  counts : (a : ℕ) (f : HeadRecord → ℕ) → ((q : ℕ) → f (fresh g.n g.f q) ≡ 0) → ((r : HeadRecord) (x : Reading) → f (with_last r x) ≡ f r)
      → ((r : HeadRecord) (b : Action) → is_closed r b ≡ false → f (answer r b).after ≡ bit (eqb (delivered_by (answer r b).frame) a) + f r)
      → {h : History} → Valid g h → (q : ℕ) → frames_sent a h q ≡ f (record_of g h q)
  unfolding frames_sent record_of
  counts a f none last step start q = sym (none q)
  counts a f none last step (more {e = e} {s = s} t v) q =
      by_head (λ q. frames_sent a (e ∷ s) q ≡ f (record_of g (e ∷ s) q)) e q
      (rw (record_at g e s, eqb_same e.entry.head, counts a f none last step v e.entry.head) here)
      (λ d. rw (record_other g e s q d, d, counts a f none last step v q) (omega arith))
    where
      here : bit (eqb (delivered_by e.frame) a) + f (record_of g s e.entry.head) ≡ f e.after
      here =
          let taken : is_closed (base_of g s e) t.action ≡ false = closed_last _ _ t.action ∙ t.is_open in
          of_effect g (λ y. bit (eqb (delivered_by y.frame) a) + f (record_of g s e.entry.head) ≡ f y.after) t
          (sym (step (base_of g s e) t.action taken ∙ ap (λ (x : ℕ). bit (eqb (delivered_by (answer (base_of g s e) t.action).frame) a) + x) (last _ _)))

  -- document 02, No. 7: the starts, votes and adjusts that a head's steps sent are those that its record keeps
  pub starts_counted : {h : History} → Valid g h → (q : ℕ) → frames_sent 2 h q ≡ bit (record_of g h q).started
  unfolding fresh
  starts_counted = counts 2 (λ r. bit r.started) (λ q. refl) (λ r x. refl) start_counted

  pub frames_counted : (k : Kind) {h : History} → Valid g h → (q : ℕ) → frames_sent (delivery k) h q ≡ sent g k h q
  frames_counted k = counts (delivery k) (λ r. (phase_of k r).sent) (none_sent k g.n g.f) (λ r x. ap (λ (p : Phase). p.sent) (phase_last k r x)) (step k)
    where
      step : (k : Kind) (r : HeadRecord) (b : Action) → is_closed r b ≡ false → (phase_of k (answer r b).after).sent ≡ bit (eqb (delivered_by (answer r b).frame) (delivery k)) + (phase_of k r).sent
      step votes r b e = phase_counted votes r b (sending_of r b)
      step adjusts r b e = phase_counted adjusts r b (sending_of r b)

  -- FRAMES OF A ROUND

  abbrev pub frames_of : History → ℕ → ℕ
  frames_of h q = frames_sent 2 h q + (frames_sent 5 h q + frames_sent 8 h q)

  -- the heads' frames are all frames
  pub frames_sum : {h : History} → Valid g h → frames_in h ≡ sum_below g.n (frames_of h)
  unfolding frames_in frames_sent
  frames_sum start = sym (sum_none g.n)
  frames_sum (more {e = e} {s = s} t v) =
      let one = sum_at g.n e.entry.head (is_frame e.frame) t.head_below in
      let both = sum_add g.n (λ q. bit (eqb e.entry.head q && is_frame e.frame)) (frames_of s) in
      let each : frames_of (e ∷ s) ≡ (λ q. bit (eqb e.entry.head q && is_frame e.frame) + frames_of s q) = λ i q. by_kind (eqb e.entry.head q) e.frame (frames_sent 2 s q) (frames_sent 5 s q) (frames_sent 8 s q) i in
      let all = ap (sum_below g.n) each in
      let before = frames_sum v in
      omega arith
    where
      by_kind : (b : Bool) (x : Frame) (k m n : ℕ)
          → bit (b && eqb (delivered_by x) 2) + k + (bit (b && eqb (delivered_by x) 5) + m + (bit (b && eqb (delivered_by x) 8) + n)) ≡ bit (b && is_frame x) + (k + (m + n))
      by_kind false x k m n = omega arith
      by_kind true NoFrame k m n = omega arith
      by_kind true Start k m n = omega arith
      by_kind true (Vote j c y) k m n = omega arith
      by_kind true (Adjust j c y) k m n = omega arith

  -- source 000's count: n starts and the frames of two phases
  pub frames_published : {h : History} → Valid g h → frames_in h ≤ g.n * g.n + 2 * g.n
  frames_published {h} v =
      let a = frames_sum v in
      let b = sum_add g.n (frames_sent 2 h) (λ q. frames_sent 5 h q + frames_sent 8 h q) in
      let c = sum_add g.n (frames_sent 5 h) (frames_sent 8 h) in
      let d = sum_ones g.n (frames_sent 2 h) (λ q l. rw (starts_counted v q) (bit_mono (record_of g h q).started true (λ _. refl))) in
      let voted : sum_below g.n (frames_sent 5 h) ≡ sum_below g.n (sent g votes h) = ap (sum_below g.n) (λ i q. frames_counted votes v q i) in
      let adjusted : sum_below g.n (frames_sent 8 h) ≡ sum_below g.n (sent g adjusts h) = ap (sum_below g.n) (λ i q. frames_counted adjusts v q i) in
      let x = phase_frames g votes v in
      let y = phase_frames g adjusts v in
      omega arith

  -- document 01's bound
  pub frames_bound : {h : History} → Valid g h → frames_in h ≤ 2 * (g.n * g.n) + g.n
  frames_bound v = let a = frames_published v in let b = square g.n in omega arith
    where
      square : (n : ℕ) → n ≤ n * n
      square zero = omega arith
      square (suc n) = rw (mul-suc (suc n) n) (omega arith)

pub sheet_published : (ws : List ℕ) (h : History) → run_sheet ws ≡ ran h → frames_in h ≤ (setting_at ws).n * (setting_at ws).n + 2 * (setting_at ws).n
sheet_published ws h e = frames_published (setting_at ws) (accepted_sheet ws h e).valid

pub sheet_frames : (ws : List ℕ) (h : History) → run_sheet ws ≡ ran h → frames_in h ≤ 2 * ((setting_at ws).n * (setting_at ws).n) + (setting_at ws).n
sheet_frames ws h e = frames_bound (setting_at ws) (accepted_sheet ws h e).valid
