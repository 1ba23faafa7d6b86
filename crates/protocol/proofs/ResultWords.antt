-- What a replay's result words say of a head is what its record says, so the third point holds of the words.
-- Main results: `says` (a head's words read back), `result_at` (where they stand), `words_say` (the ending of a head that has a clock),
-- `filled` (what a replay leaves), `third_point_in_words`.
use Rattle.std.specs.Prelude.{Option, Some, None, is_some, unwrap_or}
use mathlib.Core.Path.{◌≡◌, refl, sym, ◌∙◌, ap, subst}
use mathlib.Core.Bool.{Bool, true, false, ◌&&◌}
use mathlib.Core.List.{List, ◌++◌}
use Prim.Native.Nat.{ℕ, zero, suc, ◌+◌, ◌*◌, ◌^◌, ◌≤◌, ◌<◌}
use native.Mathlib.Omega.{arith}
use lib.ListN.{length, get_or, drop}
use lib.Dec.{eqb, lit<}
use borrow.Author.Tests.{le-ltb}
use lib.IntN.{sub_ℕ}
use Rattle.protocol.specs.Types.{HeadRecord, Setting, Verdict, Accepted, Refused, Filled}
use Rattle.protocol.specs.Words.{bits, kind_of, time_of, setting_at, entry_count}
use Rattle.protocol.specs.Record.{reading_or0, start_of_choice, chosen_start, outcome, correction, mark_number}
use Rattle.protocol.specs.Causes.{sheet_verdict}
use Rattle.protocol.specs.Run.{History, record_of, ran, run_of, after_verdict, run_sheet}
use Rattle.protocol.specs.Results.{if_adopted, outcome_word, adjustment_word, start_word, frames_word, words_per_head, head_words, words_from, result_words, Replay, fill_after, replay}
use Rattle.protocol.specs.Claim.{CorrectHead, Ending, ending_of, result_of, ending_in_words, shown, apart, since_start, bound_on_d, Agreement, ThirdPointInWords}
use Rattle.protocol.proofs.Tests.{cond_elim}
use Rattle.protocol.proofs.Tables.{blocks, length_blocks, block_at}
use Rattle.protocol.proofs.Effects.{votes, adjusts}
use Rattle.protocol.proofs.Valid.{Sheet, accepted_sheet}
use Rattle.protocol.proofs.Ranges.{InRange, SentInRange, run_in_range}
use Rattle.protocol.proofs.ThirdPoint.{third_point}

-- THE FIELDS OF A WORD

-- what a head's words are made of is within its field
pub number_below : (n : ℕ) (m : Option ℕ) (sent : ℕ) → n ≤ 16 → SentInRange n m sent → unwrap_or m 0 < 16
number_below n None sent l h = omega arith
number_below n (Some v) sent l h = omega arith

pub sent_below : (n : ℕ) (m : Option ℕ) (sent : ℕ) → n ≤ 16 → SentInRange n m sent → sent < 256
sent_below n None sent l h = omega arith
sent_below n (Some v) sent l h = omega arith

pub mark_below : (b : Bool) → mark_number b 1 < 256
mark_below true = omega arith
mark_below false = omega arith

pub start_below : (r : HeadRecord) (m : Option ℕ) → InRange r → SentInRange r.n m r.vote.sent → reading_or0 (start_of_choice r m) < 2 ^ 28
start_below r None i h = omega arith
start_below r (Some v) i h = ((i.kept v).below (omega arith)).start

pub outcome_below : (r : HeadRecord) → outcome r < 3
unfolding outcome
outcome_below r =
    cond_elim (λ (o : ℕ). o < 3) r.adjust.closed
    (λ _. cond_elim (λ (o : ℕ). o < 3) (is_some (chosen_start r) && is_some r.adjust.choice) (λ _. omega arith) (λ _. omega arith)) (λ _. omega arith)

pub adopted_below : (r : HeadRecord) (x b : ℕ) → 0 < b → x < b → if_adopted r x < b
adopted_below r x b z h = cond_elim (λ (y : ℕ). y < b) (eqb (outcome r) 2) (λ _. h) (λ _. z)

-- a head's words, read back
pub record Says (q : ℕ) (r : HeadRecord) : Type 0 where
  pub outcome_is : bits (outcome_word q r) 27 24 ≡ outcome r
  pub candidate_is : bits (outcome_word q r) 19 16 ≡ if_adopted r (unwrap_or r.vote.choice 0)
  pub adjuster_is : bits (outcome_word q r) 15 12 ≡ if_adopted r (unwrap_or r.adjust.choice 0)
  pub adjustment_is : time_of (adjustment_word r) ≡ if_adopted r r.adjustment.0
  pub start_is : time_of (start_word r) ≡ if_adopted r (reading_or0 (chosen_start r))
  pub starts_is : bits (frames_word r) 27 20 ≡ mark_number r.started 1
  pub votes_is : bits (frames_word r) 19 12 ≡ r.vote.sent
  pub adjusts_is : bits (frames_word r) 11 4 ≡ r.adjust.sent
  pub kinds : (j : ℕ) → j < 4 → kind_of (get_or (head_words q r) j 0) ≡ 6 + j

pub says : (q : ℕ) (r : HeadRecord) → q < 16 → InRange r → Says q r
unfolding outcome_word adjustment_word start_word frames_word chosen_start
says q r l i =
    let started = mark_below r.started in
    record {
      outcome_is = omega (arith, outcomes, candidate, adjuster);
      candidate_is = omega (arith, outcomes, candidate, adjuster);
      adjuster_is = omega (arith, outcomes, candidate, adjuster);
      adjustment_is = omega (arith, adjustment);
      start_is = omega (arith, start);
      starts_is = omega (arith, voted, adjusted);
      votes_is = omega (arith, voted, adjusted);
      adjusts_is = omega (arith, voted, adjusted);
      kinds = kinds;
    }
  where
    outcomes : outcome r < 16
    outcomes = let o = outcome_below r in omega arith

    candidate : if_adopted r (unwrap_or r.vote.choice 0) < 16
    candidate = adopted_below r _ 16 (lit< tt) (number_below r.n r.vote.choice r.vote.sent i.heads.1 (i.phase votes))

    adjuster : if_adopted r (unwrap_or r.adjust.choice 0) < 16
    adjuster = adopted_below r _ 16 (lit< tt) (number_below r.n r.adjust.choice r.adjust.sent i.heads.1 (i.phase adjusts))

    adjustment : if_adopted r r.adjustment.0 < 2 ^ 28
    adjustment = adopted_below r _ (2 ^ 28) (lit< tt) i.adjustment

    start : if_adopted r (reading_or0 (start_of_choice r r.vote.choice)) < 2 ^ 28
    start = adopted_below r _ (2 ^ 28) (lit< tt) (start_below r r.vote.choice i (i.phase votes))

    voted : r.vote.sent < 256
    voted = sent_below r.n r.vote.choice r.vote.sent i.heads.1 (i.phase votes)

    adjusted : r.adjust.sent < 256
    adjusted = sent_below r.n r.adjust.choice r.adjust.sent i.heads.1 (i.phase adjusts)

    kinds : (j : ℕ) → j < 4 → kind_of (get_or (head_words q r) j 0) ≡ 6 + j
    kinds zero h = omega (arith, outcomes, candidate, adjuster)
    kinds (suc zero) h = omega (arith, adjustment)
    kinds (suc (suc zero)) h = omega (arith, start)
    kinds (suc (suc (suc zero))) h = let started = mark_below r.started in omega (arith, voted, adjusted)
    kinds (suc (suc (suc (suc j)))) h = absurd (omega arith)

-- WHERE A HEAD'S WORDS STAND

pub words_blocks : (r : ℕ → HeadRecord) (q k : ℕ) → words_from r q k ≡ blocks (λ p. head_words p (r p)) q k
unfolding words_from
words_blocks r q zero = refl
words_blocks r q (suc k) = ap (λ (l : List ℕ). head_words q (r q) ++ l) (words_blocks r (suc q) k)

pub length_words : (r : ℕ → HeadRecord) (q k : ℕ) → length (words_from r q k) ≡ words_per_head * k
length_words r q k = ap length (words_blocks r q k) ∙ length_blocks (λ p. head_words p (r p)) 4 (λ p. refl) q k

pub result_at : (g : Setting) (h : History) (rest : List ℕ) (q j : ℕ) → q < g.n → j < 4 → result_of (result_words g h ++ rest) q j ≡ get_or (head_words q (record_of g h q)) j 0
unfolding result_words
result_at g h rest q j l k =
    let head : 0 + q ≡ q = omega arith in
    ap (λ (out : List ℕ). result_of (out ++ rest) q j) (words_blocks (record_of g h) 0 g.n)
    ∙ block_at (λ p. head_words p (record_of g h p)) 4 (λ p. refl) 0 g.n q j rest 0 l k ∙ ap (λ (p : ℕ). get_or (head_words p (record_of g h p)) j 0) head

pub result_says : (g : Setting) (h : History) → Sheet g h → (q : ℕ) → q < g.n → Says q (record_of g h q)
result_says g h a q l = says q (record_of g h q) (let m = a.at_most_16 in omega arith) (run_in_range a.heads_fit_test a.valid q l)

-- a head that has a clock: its words say what its record says
pub words_say : (g : Setting) (h : History) (rest : List ℕ) → Sheet g h → (q : ℕ) → q < g.n → outcome (record_of g h q) ≡ 2 → ending_in_words (result_words g h ++ rest) q ≡ ending_of (record_of g h q)
unfolding ending_in_words ending_of correction
words_say g h rest a q l two =
    let r = record_of g h q in
    let s = result_says g h a q l in
    let w0 = result_at g h rest q 0 l (omega arith) in
    let w1 = result_at g h rest q 1 l (omega arith) in
    let w2 = result_at g h rest q 2 l (omega arith) in
    let adopted : (x : ℕ) → if_adopted r x ≡ x = λ x. rw two refl in
    let adjustment = ap time_of w1 ∙ s.adjustment_is ∙ adopted _ in
    let start = ap time_of w2 ∙ s.start_is ∙ adopted _ in
    λ i. record {
      outcome = (ap (λ (w : ℕ). bits w 27 24) w0 ∙ s.outcome_is) i;
      candidate = (ap (λ (w : ℕ). bits w 19 16) w0 ∙ s.candidate_is ∙ adopted _) i;
      adjuster = (ap (λ (w : ℕ). bits w 15 12) w0 ∙ s.adjuster_is ∙ adopted _) i;
      adjustment = adjustment i;
      correction = sub_ℕ (adjustment i) (start i);
    }

-- WHAT A REPLAY LEAVES

pub filled : (ws out : List ℕ) (h : History) → run_sheet ws ≡ ran h → words_per_head * (setting_at ws).n ≤ length out
    → replay ws out ≡ record { answer = Filled; buffer = result_words (setting_at ws) h ++ drop (words_per_head * (setting_at ws).n) out }
unfolding replay run_sheet
filled ws out h e f = go (sheet_verdict ws) e
  where
    go : (x : Verdict) → after_verdict x (run_of ws (entry_count ws)) ≡ ran h
        → fill_after x ws out ≡ record { answer = Filled; buffer = result_words (setting_at ws) h ++ drop (words_per_head * (setting_at ws).n) out }
    go (Refused c) e = absurd (let z : ◌≡◌ {A = ℕ} 0 1 = cc in omega arith)
    go Accepted e = rw (le-ltb (length out) (words_per_head * (setting_at ws).n) f, e) refl

-- an agreement of the heads' records is one of the words that the replay leaves
pub agreement_in_words : (ws out : List ℕ) (h : History) → run_sheet ws ≡ ran h → words_per_head * (setting_at ws).n ≤ length out
    → Agreement (setting_at ws) h (λ q. ending_of (record_of (setting_at ws) h q)) → Agreement (setting_at ws) h (ending_in_words (replay ws out).buffer)
unfolding ending_of
agreement_in_words ws out h e f a = record {
  has_clock = λ c. ap (λ (x : Ending). x.outcome) (says_so c) ∙ a.has_clock c;
  same_candidate = λ cp cq. ap (λ (x : Ending). x.candidate) (says_so cp) ∙ a.same_candidate cp cq ∙ ap (λ (x : Ending). x.candidate) (sym (says_so cq));
  same_adjuster = λ cp cq. ap (λ (x : Ending). x.adjuster) (says_so cp) ∙ a.same_adjuster cp cq ∙ ap (λ (x : Ending). x.adjuster) (sym (says_so cq));
  same_adjustment = λ cp cq. ap (λ (x : Ending). x.adjustment) (says_so cp) ∙ a.same_adjustment cp cq ∙ ap (λ (x : Ending). x.adjustment) (sym (says_so cq));
  clocks_together = λ {p} {q} {d} {e} cp cq kp kq same.
      subst (λ (x : Ending). 1000000 * apart (shown d x) (shown e (ending_in_words (replay ws out).buffer q))
      ≤ bound_on_d g (since_start h p x d) (since_start h q (ending_in_words (replay ws out).buffer q) e)) (sym (says_so cp))
      (subst (λ (y : Ending). 1000000 * apart (shown d (ending_of (record_of g h p))) (shown e y)
      ≤ bound_on_d g (since_start h p (ending_of (record_of g h p)) d) (since_start h q y e)) (sym (says_so cq))
      (a.clocks_together cp cq kp kq same));
}
  where
    g : Setting
    g = setting_at ws

    says_so : {q : ℕ} → CorrectHead (setting_at ws) q → ending_in_words (replay ws out).buffer q ≡ ending_of (record_of (setting_at ws) h q)
    says_so {q} c =
        subst (λ (b : List ℕ). ending_in_words b q ≡ ending_of (record_of (setting_at ws) h q)) (sym (ap (λ (x : Replay). x.buffer) (filled ws out h e f)))
        (words_say (setting_at ws) h (drop (words_per_head * (setting_at ws).n) out) (accepted_sheet ws h e) q c.is_head (a.has_clock c))

pub third_point_in_words : (ws out : List ℕ) → ThirdPointInWords ws out
third_point_in_words ws out h e k f = agreement_in_words ws out h e f (third_point ws k h e)
