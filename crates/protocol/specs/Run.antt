-- Document 01, "Causes to turn a sheet back" and "The third point's words": a run, entry by entry.
use Rattle.std.specs.Prelude.{Bool, true, false, cond, not, ◌&&◌, ◌||◌, List, [], ◌∷◌, ℕ, zero, suc, ◌+◌, min, ltb, eqb, Option, Some, None, is_some}
use Rattle.protocol.specs.Types.{HeadRecord, Setting, Entry, Input, Cause, BadEntry, TimeFell, Verdict, Accepted, Refused, Stepped, Frame, NoFrame, Start, Vote, Adjust, Reading}
use Rattle.protocol.specs.Words.{has_sender, setting_at, entry_count, place_of, entry_at, entry_fits_at}
use Rattle.protocol.specs.Record.{fresh, reading_or0, mark_number}
use Rattle.protocol.specs.Step.{action_of, take_action, refused}
use Rattle.protocol.specs.Causes.{sheet_verdict}

-- an accepted entry, with the record after it and the frame that its head sent
pub record Event : Type 0 where
  pub entry : Entry
  pub after : HeadRecord
  pub frame : Frame

-- the newest event first: what stands behind an event came before it
abbrev pub History : Type 0
History = List Event

-- "Each entry takes the record that its head's last entry left; nothing else writes it"
unfoldable pub record_of : Setting → History → ℕ → HeadRecord
record_of g [] q = fresh g.n g.f q
record_of g (e ∷ s) q = cond (eqb e.entry.head q) e.after (record_of g s q)

-- the frame is one that the action delivers under the serial
abbrev pub is_delivered_by : ℕ → ℕ → Frame → Bool
is_delivered_by a k NoFrame = false
is_delivered_by a k Start = eqb a 2
is_delivered_by a k (Vote j c x) = eqb a 5 && eqb j k
is_delivered_by a k (Adjust j c x) = eqb a 8 && eqb j k

abbrev pub or_else : Frame → Frame → Frame
or_else NoFrame y = y
or_else Start y = Start
or_else (Vote j c x) y = Vote j c x
or_else (Adjust j c x) y = Adjust j c x

-- "what its sender's step sent under that serial": the frame of head p that the action delivers under serial k, if p has sent it
unfoldable pub frame_sent : History → ℕ → ℕ → ℕ → Frame
frame_sent [] a p k = NoFrame
frame_sent (e ∷ s) a p k = or_else (frame_sent s a p k) (cond (eqb e.entry.head p && is_delivered_by a k e.frame) e.frame NoFrame)

abbrev pub frame_of : History → Entry → Frame
frame_of s e = frame_sent s e.action e.sender e.serial

abbrev pub is_frame : Frame → Bool
is_frame NoFrame = false
is_frame Start = true
is_frame (Vote j c x) = true
is_frame (Adjust j c x) = true

-- the action that delivers a frame, 0 for none; and document 02, No. 7, "frames .. it broadcast, as the steps broadcast them": how many
-- frames that action a delivers head q's events in a history sent
abbrev pub delivered_by : Frame → ℕ
delivered_by NoFrame = 0
delivered_by Start = 2
delivered_by (Vote j c x) = 5
delivered_by (Adjust j c x) = 8

unfoldable pub frames_sent : ℕ → History → ℕ → ℕ
frames_sent a [] q = 0
frames_sent a (e ∷ s) q = mark_number (eqb e.entry.head q && eqb (delivered_by e.frame) a) 1 + frames_sent a s q

-- "A delivered vote or adjust carries what its sender's step sent under that serial"
abbrev pub carried_choice : Frame → ℕ
carried_choice NoFrame = 0
carried_choice Start = 0
carried_choice (Vote j c x) = c
carried_choice (Adjust j c x) = c

abbrev pub carried_reading : Frame → Option Reading
carried_reading NoFrame = None
carried_reading Start = None
carried_reading (Vote j c x) = x
carried_reading (Adjust j c x) = Some x

unfoldable pub input_of : Entry → Frame → Input
input_of e x =
    record {
      action = e.action;
      reading = e.reading.0;
      sender = e.sender;
      serial = e.serial;
      choice = carried_choice x;
      carried = reading_or0 (carried_reading x);
      none = eqb e.action 5 && not (is_some (carried_reading x));
    }

abbrev pub last_time : History → ℕ
last_time [] = 0
last_time (e ∷ s) = e.entry.time.0

-- "entry by entry 6 to 9": an entry after the history s; fits is the test of cause 6
unfoldable pub step_entry : Setting → History → Bool → Entry → Stepped
step_entry g s fits e =
    cond (not fits) (refused (record_of g s e.head) BadEntry)
    (cond (ltb e.time.0 (last_time s)) (refused (record_of g s e.head) TimeFell)
    (take_action (record_of g s e.head) e.reading (not (has_sender e.action) || is_frame (frame_of s e))
    (action_of (input_of e (frame_of s e)))))

-- a run so far: the history of its entries, or the cause and place of the refusal
pub data Run : Type 0 where
  stopped : Cause → ℕ → Run
  ran : History → Run

abbrev pub extend : ℕ → History → Entry → Stepped → Verdict → Run
extend place s e t Accepted = ran (record { entry = e; after = t.after; frame = t.frame } ∷ s)
extend place s e t (Refused c) = stopped c place

-- "One refused entry refuses the sheet"
unfoldable pub and_then : Setting → Run → ℕ → Bool → Entry → Run
and_then g (stopped c p) place fits e = stopped c p
and_then g (ran s) place fits e = extend place s e (step_entry g s fits e) (step_entry g s fits e).verdict

-- the run of a sheet's first k entries
unfoldable pub run_of : List ℕ → ℕ → Run
run_of ws zero = ran []
run_of ws (suc i) = and_then (setting_at ws) (run_of ws i) (place_of i) (entry_fits_at ws i) (entry_at ws i)

-- "Sheet order: 1 to 5, then entry by entry 6 to 9"; cause 5 concerns the replay alone
abbrev pub after_verdict : Verdict → Run → Run
after_verdict Accepted r = r
after_verdict (Refused c) r = stopped c 0

unfoldable pub run_sheet : List ℕ → Run
run_sheet ws = after_verdict (sheet_verdict ws) (run_of ws (entry_count ws))

-- the run of a sheet's first k entries, or of all of them where it has fewer
unfoldable pub run_first : List ℕ → ℕ → Run
run_first ws k = after_verdict (sheet_verdict ws) (run_of ws (min k (entry_count ws)))
