-- What a head sends of itself, and what that leaves in its row, by the numbers that the code computes.
-- Main results: `vote_gives`, `adjust_gives`; `may_lead_with`, `may_not_lead`, `lead_votes`, `lead_waits`; `may_adjust_with`,
-- `may_not_adjust`, `may_not_adjust_again`, `propose_adjusts`, `propose_waits`.
use Rattle.std.proofs.Common.{◌≡◌, ℕ, ◌+◌, ◌%◌, ◌^◌, ◌<◌, Bool, true, false, not, ◌&&◌, eqb, ltb, leb, ◌≢◌, List, length, get_or, set, sym, refl, ap, ◌∙◌, subst, ap₂, add-one, arith, lit<, ne_eqb, is_some}
use lib.ListN.{length-map}
use Rattle.protocol.specs.declared.Sender.{Sender}
use Rattle.protocol.specs.declared.HeadRecord.{HeadRecord}
use Rattle.protocol.specs.declared.HeadRow.{HeadRow}
use Rattle.protocol.specs.declared.Marks.{Marks}
use Rattle.protocol.specs.declared.PhaseRow.{PhaseRow}
use Rattle.protocol.specs.declared.Stepped.{Stepped}
use Rattle.head_row.specs.declared.Sent.{Sent}
use Rattle.protocol.specs.Types.{NoFrame}
use Rattle.protocol.specs.Record.{votes, adjusts, reading, kept_of, start_of, marks_number}
use Rattle.protocol.specs.Median.{median}
use Rattle.protocol.specs.Step.{choose, with_vote_reading, with_candidate, with_adjuster, with_vote, with_sender, kept_for, drop_others, vote, adjust, starts_held, may_lead, lead, vote_readings, may_adjust, propose, has_mark}
use Rattle.protocol.specs.Row.{reading_plus1, row_of}
use Rattle.head_row.specs.Sent.{sent_of}
use Rattle.protocol.proofs.Tests.{and_false}
use Rattle.protocol.proofs.Effects.{kept_for_at, kept_for_keeps}
use Rattle.head_row.specs.Promises.{Fits, Reads, Gives, Acts}
use Rattle.head_row.proofs.Rows.{start_read, own_vote_written, own_adjust_written, absent_at_0, there_unless_0}
use Rattle.head_open.proofs.Marks.{marks_are, with_mark, has_vote_turn, has_vote_closed, has_candidate, with_candidate_lem}
use Rattle.head_frames.specs.Drops.{dropped_below}
use Rattle.head_frames.proofs.Drops.{dropped_row}

-- A VOTE

module _ (c : ℕ) (w : HeadRow) (m : Marks) (name sent own i : ℕ) (m-is : m.0 ≡ with_mark w.marks.0 64) (name-is : name ≡ (c + 1) % 2 ^ 32)
    (sent-is : sent ≡ (w.votes.sent + 1) % 2 ^ 32) (own-is : own ≡ w.own % 16) (i-is : i ≡ c % 16) (small : c < 16)
    (r : HeadRecord) (is : w ≡ row_of r) (fit : Fits r) where
  abbrev left : HeadRecord
  left = drop_others c r

  marks : m.0 ≡ marks_number (with_vote r (choose c r.vote))
  marks = m-is ∙ rw is (with_candidate_lem r c)

  carried : get_or w.start_readings i 0 ≡ reading_plus1 (start_of r c)
  carried = let e : i ≡ c = omega arith in rw (is, e) (start_read r c)

  own_here : own ≡ r.own
  own_here = let e = ap (λ (v : HeadRow). v.own) is in let b = fit.own in omega arith

  name_here : name ≡ c + 1
  name_here = omega arith

  sent_here : sent ≡ r.vote.sent + 1
  sent_here = let e = ap (λ (v : HeadRow). v.votes.sent) is in let b = fit.sent votes in omega arith

  abbrev with_choice : HeadRow → HeadRow
  with_choice v = record v { marks = record { 0 = marks_number (with_vote r (choose c r.vote)) }; votes = record v.votes { choice = c + 1; sent = r.vote.sent + 1 } }

  -- the own vote reading is another now, so it is the same whether the old one was dropped
  spoken : with_sender left r.own (with_candidate (with_vote_reading (kept_of left r.own) (start_of r c)) c)
      ≡ with_sender left r.own (with_candidate (with_vote_reading (kept_of r r.own) (start_of r c)) c)
  spoken = ap (λ (k : Sender). with_sender left r.own (with_candidate (with_vote_reading k (start_of r c)) c)) (kept_for_at c r r.own)

  left_row : record (row_of r) { vote_readings = dropped_below (c + 1) (row_of r).votes.latest (row_of r).vote_readings 16 } ≡ row_of left
  left_row = sym (dropped_row c r fit.senders)

  pub vote_gives : Gives (vote c r)
      (record w { marks = m; vote_readings = set (dropped_below name w.votes.latest w.vote_readings 16) own (get_or w.start_readings i 0); votes = record w.votes { choice = name; sent = sent; latest = set w.votes.latest own name } })
      (record { kind = 5; serial = w.votes.sent; choice = c; carried = get_or w.start_readings i 0 })
  unfolding vote marks_number
  vote_gives =
      rw (marks_are m marks, carried, own_here, name_here, sent_here, is) (
        ap (λ (v : HeadRow). with_choice (record v { vote_readings = set v.vote_readings r.own (reading_plus1 (start_of r c)); votes = record v.votes { latest = set v.votes.latest r.own (c + 1) } })) left_row
            ∙ ap with_choice (own_vote_written left r.own (start_of r c) c ∙ ap row_of spoken),
        refl,
      )

-- AN ADJUST

pub adjust_gives : (a x name own : ℕ) (w : HeadRow) (after : PhaseRow) → name ≡ (a + 1) % 2 ^ 32 → own ≡ w.own % 16
    → after ≡ record w.adjusts { choice = name; sent = (w.adjusts.sent + 1) % 2 ^ 32; latest = set w.adjusts.latest own name }
    → a < 16 → (r : HeadRecord) → w ≡ row_of r → Fits r
    → Gives (adjust a (reading x) r) (record w { adjustment = x; adjusts = after }) (record { kind = 8; serial = w.adjusts.sent; choice = a; carried = x })
unfolding adjust marks_number
adjust_gives a x name own w after name-is own-is after-is small r is fit =
    let own_here : own ≡ r.own = let e = ap (λ (v : HeadRow). v.own) is in let b = fit.own in omega arith in
    let name_here : name ≡ a + 1 = omega arith in
    let sent_here : (r.adjust.sent + 1) % 2 ^ 32 ≡ r.adjust.sent + 1 = let b = fit.sent adjusts in omega arith in
    rw (after-is, own_here, name_here, is, sent_here) (
      ap (λ (v : HeadRow). record v { adjustment = x; adjusts = record v.adjusts { choice = a + 1; sent = r.adjust.sent + 1 } }) (own_adjust_written r r.own a),
      refl,
    )

-- A HEAD LEADS

-- the marks of a head that has taken its turn, with the vote open and no candidate
abbrev waiting : ℕ → Bool
waiting m = has_mark m 4 && (not (has_mark m 8) && not (has_mark m 64))

and_assoc : (a b c d : Bool) → a && (b && (c && d)) ≡ (a && (b && c)) && d
and_assoc true true c d = refl
and_assoc true false c d = refl
and_assoc false b c d = refl

may_lead_is : (r : HeadRecord) → may_lead r ≡ waiting (marks_number r) && ltb r.f (starts_held r)
unfolding may_lead
may_lead_is r =
    rw (has_vote_turn r, has_vote_closed r, has_candidate r, add-one r.f)
    (and_assoc r.vote.turn (not r.vote.closed) (not (is_some r.vote.choice)) _)

module _ (row : HeadRow) (w : Bool) (w-is : w ≡ waiting (row.marks.0)) where
  waits_is : (r : HeadRecord) → row ≡ row_of r → may_lead r ≡ w && ltb r.f (starts_held r)
  waits_is r is = may_lead_is r ∙ ap (λ (b : Bool). b && ltb r.f (starts_held r)) (sym (w-is ∙ ap (λ (v : HeadRow). waiting v.marks.0) is))

  pub may_lead_with : (k : ℕ) → w ≡ true → Reads starts_held row k → Reads may_lead row (ltb (row.faulty) k)
  may_lead_with k t held r is fit = ap₂ ltb (ap (λ (v : HeadRow). v.faulty) is) (held r is fit) ∙ sym (waits_is r is ∙ rw t refl)

  pub may_not_lead : w ≡ false → Reads may_lead row w
  may_not_lead t r is fit = t ∙ sym (waits_is r is ∙ rw t refl)

module _ (row : HeadRow) (b : Bool) (may : Reads may_lead row b) where
  pub lead_votes : (row' : HeadRow) (x : Sent) → b ≡ true → (row.own < 16 → Acts (vote (row.own)) row row' x)
      → Acts lead row row' x
  unfolding lead
  lead_votes row' x t voted r is fit =
      let own = ap (λ (v : HeadRow). v.own) is in
      rw (sym (may r is fit) ∙ t)
      (subst (λ (u : Stepped). Gives u row' x) (ap (λ (c : ℕ). vote c r) own) (voted (rw own fit.own) r is fit))

  pub lead_waits : (x : Sent) → b ≡ false → x ≡ sent_of NoFrame → Acts lead row row x
  unfolding lead
  lead_waits x t none r is fit = rw (sym (may r is fit) ∙ t) (is, none)

-- A HEAD ADJUSTS

module _ (row : HeadRow) where
  pub may_adjust_with : (k : ℕ) → row.votes.choice ≢ 0 → row.adjusts.choice ≡ 0 → Reads (λ (r : HeadRecord). length (vote_readings r r.n)) row k
      → Reads may_adjust row (leb 1 k)
  unfolding may_adjust
  may_adjust_with k some none held r is fit =
      let candidate = there_unless_0 r.vote.choice (ap (λ (v : HeadRow). v.votes.choice) is) some in
      let adjuster = absent_at_0 r.adjust.choice (ap (λ (v : HeadRow). v.adjusts.choice) is) none in
      rw (candidate, adjuster, held r is fit) refl

  pub may_not_adjust : row.votes.choice ≡ 0 → Reads may_adjust row (not (eqb (row.votes.choice) 0))
  unfolding may_adjust
  may_not_adjust none r is fit = rw (none, absent_at_0 r.vote.choice (ap (λ (v : HeadRow). v.votes.choice) is) none) refl

  pub may_not_adjust_again : row.adjusts.choice ≢ 0 → Reads may_adjust row (eqb (row.adjusts.choice) 0)
  unfolding may_adjust
  may_not_adjust_again some r is fit =
      rw (ne_eqb _ _ some, there_unless_0 r.adjust.choice (ap (λ (v : HeadRow). v.adjusts.choice) is) some) (sym (and_false (is_some r.vote.choice) false refl))

module _ (row : HeadRow) (b : Bool) (may : Reads may_adjust row b) where
  pub propose_adjusts : (row' : HeadRow) (x : Sent) (y : ℕ) → b ≡ true → Reads (λ (r : HeadRecord). median (vote_readings r r.n)) row y
      → (row.own < 16 → Acts (adjust (row.own) (reading y)) row row' x) → Acts propose row row' x
  unfolding propose
  propose_adjusts row' x y t found adjusted r is fit =
      let own = ap (λ (v : HeadRow). v.own) is in
      rw (sym (may r is fit) ∙ t)
      (subst (λ (u : Stepped). Gives u row' x) (ap₂ (λ a z. adjust a (reading z) r) own (found r is fit)) (adjusted (rw own fit.own) r is fit))

  pub propose_waits : (x : Sent) → b ≡ false → x ≡ sent_of NoFrame → Acts propose row row x
  unfolding propose
  propose_waits x t none r is fit = rw (sym (may r is fit) ∙ t) (is, none)
