-- Document 01, "The eight premises", as tests on a history, with the reading that document 02, No. 4, gives to premises 4 to 8.
-- "Before and after, earlier and later go by the order of entries". What document 01 asks of a later entry is asked at the later of
-- the two, so each test looks back only.
use Rattle.std.specs.Prelude.{Bool, true, cond, not, ◌&&◌, ◌||◌, List, [], ◌∷◌, ℕ, suc, ◌+◌, ◌-◌, ◌*◌, leb, eqb, length, get_or, Err}
use Rattle.protocol.specs.Base.{◌⇒◌, any, all, all_below, count_below, distance}
use Rattle.protocol.specs.Types.{Setting, Entry, Judged, Kept, Broken, Unjudged}
use Rattle.protocol.specs.Words.{is_correct, setting_at}
use Rattle.protocol.specs.declared.Kind.{Kind}
use Rattle.protocol.specs.Record.{votes, adjusts, phase_of}
use Rattle.protocol.specs.Causes.{cause_number}
use Rattle.protocol.specs.Run.{Event, History, record_of, Run, stopped, ran, run_sheet}

-- the action that is a phase's turn, the one that delivers a frame of the phase, and the one that closes it
abbrev pub turning : Kind → ℕ
turning votes = 4
turning adjusts = 7

abbrev pub delivery : Kind → ℕ
delivery votes = 5
delivery adjusts = 8

abbrev pub closing : Kind → ℕ
closing votes = 6
closing adjusts = 9

-- head q took the action; head q was delivered by it the frame of sender p and serial k
abbrev pub takes : ℕ → ℕ → Event → Bool
takes a q e = eqb e.entry.head q && eqb e.entry.action a

abbrev pub receives : ℕ → ℕ → ℕ → ℕ → Event → Bool
receives a p k q e = takes a q e && (eqb e.entry.sender p && eqb e.entry.serial k)

abbrev pub took : ℕ → ℕ → History → Bool
took a q h = any (takes a q) h

abbrev pub received : ℕ → ℕ → ℕ → ℕ → History → Bool
received a p k q h = any (receives a p k q) h

-- the test holds at each event, with the history before it
unfoldable pub each : (Event → History → Bool) → History → Bool
each t [] = true
each t (e ∷ s) = t e s && each t s

-- the history before its first, oldest, event that passes the test; all of it where none does
unfoldable pub before : (Event → Bool) → History → History
before p [] = []
before p (e ∷ s) = cond (any p s) (before p s) (cond (p e) s (e ∷ s))

-- the real time of the last start of v delivered to q
unfoldable pub last_start : History → ℕ → ℕ → ℕ
last_start [] v q = 0
last_start (e ∷ s) v q = cond (receives 2 v 0 q e) e.entry.time.0 (last_start s v q)

-- premise 2 of two entries, d the earlier: |(b − a) − (t − s)| is the distance of b + s and a + t
abbrev pub is_steady : ℕ → Entry → Entry → Bool
is_steady drift d e =
    leb (1000000 * distance (e.reading.0 + d.time.0) (d.reading.0 + e.time.0))
    (drift * (e.time.0 - d.time.0) + 1000000)

module _ (g : Setting) where
  -- the test holds of every correct head; a correct head took the action
  abbrev pub correct_all : (ℕ → Bool) → Bool
  correct_all p = all_below g.n (λ q. is_correct g q ⇒ p q)

  abbrev pub correct_takes : ℕ → Event → Bool
  correct_takes a e = is_correct g e.entry.head && eqb e.entry.action a

  -- a correct close of a phase. Document 02, No. 4: "Premises 5 to 8 look at closes by entry only at heads still open": an action 6
  -- or 9 leaves such a head's phase closed and not early, and is taken elsewhere only after an early close
  abbrev pub correct_closes : Kind → Event → Bool
  correct_closes k e = correct_takes (closing k) e && not (phase_of k e.after).early

  -- "1. At least n − f heads are correct"
  unfoldable pub premise1 : Bool
  premise1 = leb (g.n - g.f) (count_below g.n (is_correct g))

  -- "2. For two entries of a correct head, real times s ≤ t, readings a, b:
  -- 1,000,000 × |(b − a) − (t − s)| ≤ drift × (t − s) + 1,000,000"
  unfoldable pub premise2 : History → Bool
  premise2 h =
      each (λ e s. is_correct g e.entry.head ⇒
      all (λ d. eqb d.entry.head e.entry.head ⇒ is_steady g.drift d.entry e.entry) s) h

  -- "3. A start confirmed by any head was delivered earlier to every correct head, their last deliveries lie within the
  -- tightness, and none reaches a correct head later"
  unfoldable pub start_within : ℕ → History → Bool
  start_within v s =
      correct_all (λ q. received 2 v 0 q s)
      && correct_all (λ p. correct_all (λ q. leb (distance (last_start s v p) (last_start s v q)) g.tightness))

  unfoldable pub premise3 : History → Bool
  premise3 h =
      each (λ e s. (eqb e.entry.action 3 ⇒ start_within e.entry.head s)
      && (correct_takes 2 e ⇒ not (took 3 e.entry.sender s))) h

  -- head q has closed the phase early by the moment s
  abbrev pub is_early : Kind → History → ℕ → Bool
  is_early k s q = (phase_of k (record_of g s q)).early

  -- "4. Every correct head takes actions 6, 7 and 9"; document 02, No. 4: it "counts an early vote close as 6 taken; an early adjust
  -- close counts as 7 and 9 taken"
  unfoldable pub premise4 : History → Bool
  premise4 h = correct_all (λ q. (took 6 q h || is_early votes h q) && ((took 7 q h && took 9 q h) || is_early adjusts h q))

  -- each frame that p sent by the moment s, under the serials below the count, reached by then all other correct heads
  unfoldable pub frames_reached : ℕ → ℕ → History → ℕ → Bool
  frames_reached a count s p = all_below count (λ k. correct_all (λ q. not (eqb q p) ⇒ received a p k q s))

  -- "5. Before the first correct vote close, every correct head either took all of 1, 3 and 4 or was delivered a vote;
  -- each start a correct head sent by then reached, by then, all correct heads, and each vote all other correct heads"
  unfoldable pub votes_reached : History → Bool
  votes_reached s =
      correct_all (λ p. (took 5 p s || (took 1 p s && (took 3 p s && took 4 p s)))
      && ((took 1 p s ⇒ correct_all (λ q. received 2 p 0 q s)) && frames_reached 5 (record_of g s p).vote.sent s p))

  unfoldable pub premise5 : History → Bool
  premise5 h = any (correct_closes votes) h ⇒ votes_reached (before (correct_closes votes) h)

  -- "6. From the first to the last correct vote close no vote reaches a correct head": when one closes, none has been
  -- delivered since the first close
  unfoldable pub none_between : Kind → History → Bool
  none_between k h =
      each (λ e s. correct_closes k e ⇒ each (λ d past. correct_takes (delivery k) d ⇒ not (any (correct_closes k) past)) s) h

  unfoldable pub premise6 : History → Bool
  premise6 = none_between votes

  -- "7. Before the first correct adjust close, every correct head took 7, and each adjust sent by a correct head by then
  -- reached, by then, all other correct heads"; document 02, No. 4: "an early adjust close counts as 7 .. taken"
  unfoldable pub adjusts_reached : History → Bool
  adjusts_reached s = correct_all (λ p. (took 7 p s || is_early adjusts s p) && frames_reached 8 (record_of g s p).adjust.sent s p)

  unfoldable pub premise7 : History → Bool
  premise7 h = any (correct_closes adjusts) h ⇒ adjusts_reached (before (correct_closes adjusts) h)

  -- "8. As 6, for adjusts and adjust closes"
  unfoldable pub premise8 : History → Bool
  premise8 = none_between adjusts

  abbrev pub premises : History → List Bool
  premises h = premise1 ∷ premise2 h ∷ premise3 h ∷ premise4 h ∷ premise5 h ∷ premise6 h ∷ premise7 h ∷ premise8 h ∷ []

-- the first broken one of the premises numbered from i on
unfoldable pub first_broken : ℕ → List Bool → Judged
first_broken i [] = Kept
first_broken i (b ∷ l) = cond b (first_broken (suc i) l) (Broken i)

-- "The judge, which has no result buffer, tests the same without 5"
abbrev pub judge_run : Setting → Run → Judged
judge_run g (stopped c p) = Unjudged c p
judge_run g (ran h) = first_broken 1 (premises g h)

unfoldable pub judge : List ℕ → Judged
judge ws = judge_run (setting_at ws) (run_sheet ws)

-- the number of the first broken premise, 0 where there is none; and cause, place and that number together
abbrev pub premise_number : Judged → ℕ
premise_number Kept = 0
premise_number (Broken i) = i
premise_number (Err x) = 0

abbrev pub judged_numbers : Judged → List ℕ
judged_numbers Kept = 0 ∷ 0 ∷ 0 ∷ []
judged_numbers (Broken i) = 0 ∷ 0 ∷ i ∷ []
judged_numbers (Err x) = cause_number x.cause ∷ x.place ∷ 0 ∷ []

-- how many entries, from the first on, keep a test: the index of the entry at which it first fails, the count of the entries
-- where it never does
unfoldable pub kept_up_to : (History → Bool) → History → ℕ
kept_up_to t [] = 0
kept_up_to t (e ∷ s) = cond (eqb (kept_up_to t s) (length s) && t (e ∷ s)) (suc (length s)) (kept_up_to t s)

-- the index of the entry at which the premise's test first fails; premises 1 and 4 are asked of a whole sheet, at its end
abbrev pub is_asked_at_end : ℕ → Bool
is_asked_at_end i = eqb i 1 || eqb i 4

unfoldable pub broken_at : Setting → ℕ → History → ℕ
broken_at g i h = kept_up_to (λ s. get_or (premises g s) (i - 1) true) h
