-- Document 01, "The third point's words": the claim, as a type. Its proof is in proofs/.
use Rattle.std.specs.Prelude.{◌≡◌, true, List, ◌∷◌, ◌++◌, ℕ, ◌+◌, ◌-◌, ◌*◌, ◌≤◌, ◌<◌, length, ℤ, pos, nat_abs, ◌+ℤ◌, ◌-ℤ◌, unwrap_or}
use Rattle.std.proofs.Math.IntN.{sub_ℕ}
use Rattle.protocol.specs.Types.{HeadRecord, Setting, Filled, Judged, Kept, Report}
use Rattle.protocol.specs.Words.{bits, time_of, is_correct, setting_at}
use Rattle.protocol.specs.Record.{outcome, correction}
use Rattle.protocol.specs.Run.{Event, History, record_of, ran, run_sheet}
use Rattle.protocol.specs.Results.{words_per_head, word_of, replay}
use Rattle.protocol.specs.Premises.{last_start, judge}

-- one of the n heads, and correct
pub record CorrectHead (g : Setting) (q : ℕ) : Type 0 where
  pub is_head : q < g.n
  pub marked_correct : is_correct g q ≡ true

-- what a head ends with: "its record after the last entry, with a clock if its outcome is then 2"
pub record Ending : Type 0 where
  pub outcome : ℕ
  pub candidate : ℕ
  pub adjuster : ℕ
  pub adjustment : ℕ
  pub correction : ℤ

unfoldable pub ending_of : HeadRecord → Ending
ending_of r =
    record {
      outcome = outcome r;
      candidate = unwrap_or r.vote.choice 0;
      adjuster = unwrap_or r.adjust.choice 0;
      adjustment = r.adjustment.0;
      correction = correction r;
    }

-- the same read off the result words, "with kind 7's number less kind 8's as each head's correction"
abbrev pub result_of : List ℕ → ℕ → ℕ → ℕ
result_of out q i = word_of words_per_head out q i

unfoldable pub ending_in_words : List ℕ → ℕ → Ending
ending_in_words out q =
    record {
      outcome = bits (result_of out q 0) 27 24;
      candidate = bits (result_of out q 0) 19 16;
      adjuster = bits (result_of out q 0) 15 12;
      adjustment = time_of (result_of out q 1);
      correction = sub_ℕ (time_of (result_of out q 1)) (time_of (result_of out q 2));
    }

-- Looked at, a term of document 01: "any entry of the head, whatever the action, after the one at which its adjust phase closed"
pub record LookedAt (g : Setting) (h : History) (q : ℕ) (e : Event) : Type 0 where
  pub later : History
  pub earlier : History
  pub in_history : h ≡ later ++ (e ∷ earlier)
  pub at_head : e.entry.head ≡ q
  pub closed : (record_of g earlier q).adjust.closed ≡ true

-- "It shows that reading plus the correction, signed, never wrapped. D is the larger less the smaller"
abbrev pub shown : Event → Ending → ℤ
shown e x = pos e.entry.reading.0 +ℤ x.correction

abbrev pub apart : ℤ → ℤ → ℕ
apart x y = nat_abs (x -ℤ y)

-- Chosen start, a term of document 01: "its candidate's, last received at its last action 2 with that sender"; the real
-- microseconds since then
abbrev pub since_start : History → ℕ → Ending → Event → ℕ
since_start h q x e = e.entry.time.0 - last_start h x.candidate q

-- the bound on D, in millionths of a microsecond, for two heads that received their chosen starts x and y microseconds ago
abbrev pub bound_on_d : Setting → ℕ → ℕ → ℕ
bound_on_d g x y = 1000000 * (g.tightness + 2) + g.drift * (x + y)

-- every correct head ends with a clock, all with the same candidate, adjuster and adjustment, and any two corrected
-- clocks in the same real microsecond are within the bound on D
pub record Agreement (g : Setting) (h : History) (ending : ℕ → Ending) : Type 0 where
  pub has_clock : {q : ℕ} → CorrectHead g q → (ending q).outcome ≡ 2
  pub same_candidate : {p q : ℕ} → CorrectHead g p → CorrectHead g q → (ending p).candidate ≡ (ending q).candidate
  pub same_adjuster : {p q : ℕ} → CorrectHead g p → CorrectHead g q → (ending p).adjuster ≡ (ending q).adjuster
  pub same_adjustment : {p q : ℕ} → CorrectHead g p → CorrectHead g q → (ending p).adjustment ≡ (ending q).adjustment
  pub clocks_together : {p q : ℕ} {d e : Event} → CorrectHead g p → CorrectHead g q → LookedAt g h p d → LookedAt g h q e
      → d.entry.time.0 ≡ e.entry.time.0
      → 1000000 * apart (shown d (ending p)) (shown e (ending q))
      ≤ bound_on_d g (since_start h p (ending p) d) (since_start h q (ending q) e)

-- of the records at the end of an accepted sheet's entries
abbrev pub AgreementOf : List ℕ → Type 0
AgreementOf ws = (h : History) → run_sheet ws ≡ ran h → Agreement (setting_at ws) h (λ q. ending_of (record_of (setting_at ws) h q))

-- the third point, of a sheet's words: "a single claim about a sheet's whole list of entries"
abbrev pub ThirdPoint : List ℕ → Type 0
ThirdPoint ws = judge ws ≡ Kept → AgreementOf ws

-- "Result words: unless cause 5 turns the sheet back", the same of what the replay leaves in the buffer
abbrev pub ThirdPointInWords : List ℕ → List ℕ → Type 0
ThirdPointInWords ws out =
    (h : History) → run_sheet ws ≡ ran h → judge ws ≡ Kept → words_per_head * (setting_at ws).n ≤ length out
    → Agreement (setting_at ws) h (ending_in_words (replay ws out).buffer)

-- the third point of what the judge answers: of a sheet whose premises it says are kept
abbrev pub Agrees : List ℕ → Judged → Type 0
Agrees ws j = j ≡ Kept → AgreementOf ws

-- and of the words that a replay left in the buffer, unless it was turned back
abbrev pub AgreesInWords : List ℕ → Report → List ℕ → Type 0
AgreesInWords ws r out =
    r.judged ≡ Kept → r.replayed ≡ Filled → (h : History) → run_sheet ws ≡ ran h → Agreement (setting_at ws) h (ending_in_words out)
