-- What has come before each entry of a drafted round, whatever the run makes of it.
-- Main results: `by_entry` (an induction over the round's entries), `took_it` (what has its place earlier has come), `absent`, `not_yet`
-- (what has its place later has not).
use mathlib.Core.Path.{◌≡◌, refl, sym, ◌∙◌, ap, subst}
use mathlib.Core.Bool.{Bool, true, false, cond, ◌||◌}
use mathlib.Core.List.{List, [], ◌∷◌, ◌++◌}
use Prim.Native.Nat.{ℕ, zero, suc, ◌+◌, ◌*◌, ◌≤◌, ◌<◌}
use native.Mathlib.Omega.{arith}
use lib.Dec.{eqb}
use lib.ListN.{length, get_or}
use borrow.Author.Tests.{eqb-true, eqb-false, eq-eqb}
use Rattle.protocol.specs.Base.{any}
use Rattle.protocol.specs.Types.{Setting, Entry}
use Rattle.protocol.specs.Words.{has_sender}
use Rattle.protocol.specs.Run.{Event, History, step_entry}
use Rattle.protocol.specs.Premises.{takes, receives, took, received}
use Rattle.protocol.specs.Draft.{Slot, round_order, draft_entry, is_receiver, deliveries, slot_entries, entries_from, draft_entries, slot_time}
use Rattle.protocol.proofs.Tests.{absurd_bool, cases, and_left, and_right, and_both, or_first, or_second, or_cases, eqb_same, In, in_nothing, in_cons}
use Rattle.protocol.proofs.Moments.{Earlier, now, later, find, earlier_trans, earlier_in, any_grows, any_map}
use Rattle.protocol.proofs.DraftRoom.{slot, order_length}
use Rattle.protocol.proofs.DraftOrder.{At, Fit, acts, delivers, slot_at, slot_of, fits, in_slot, earliest, facts}

-- THE HISTORY OF A LIST OF ENTRIES

module _ (g : Setting) where
  -- the event of an entry that is taken after s
  abbrev pub event_of : History → Entry → Event
  event_of s e = record { entry = e; after = (step_entry g s true e).after; frame = (step_entry g s true e).frame }

  -- the history after the entries, if all are taken
  unfoldable pub history_after : History → List Entry → History
  history_after s [] = s
  history_after s (e ∷ es) = history_after (event_of s e ∷ s) es

  after_both : (s : History) (es fs : List Entry) → history_after s (es ++ fs) ≡ history_after (history_after s es) fs
  unfolding history_after
  after_both s [] fs = refl
  after_both s (e ∷ es) fs = after_both (event_of s e ∷ s) es fs

  pub after_later : (s : History) (es : List Entry) → Earlier s (history_after s es)
  unfolding history_after
  after_later s [] = now
  after_later s (e ∷ es) = earlier_trans (later now) (after_later (event_of s e ∷ s) es)

-- WHAT HAS COME

-- where an entry stands: behind all of the earlier slots and, in its own, only behind other deliveries of the same frame
abbrev pub limit_at : ℕ → ℕ → ℕ
limit_at a i = cond (has_sender a) (suc i) i

pub limit_low : (a i : ℕ) → limit_at a i ≤ suc i
limit_low a i = go (has_sender a)
  where
    go : (b : Bool) → cond b (suc i) i ≤ suc i
    go true = omega arith
    go false = omega arith

module _ (n begin spacing : ℕ) where
  -- the entry is one of a slot before the limit
  pub record Came (limit : ℕ) (e : Entry) : Type 0 where
    pub action : ℕ
    pub head : ℕ
    pub sender : ℕ
    pub index : ℕ
    pub at : At n action head sender index
    pub early : index < limit
    pub is : e ≡ draft_entry (slot_time begin spacing index) action head sender

  -- all entries of the slots before i have come, and none of a slot at the limit or after it
  pub record Until (i limit : ℕ) (s : History) : Type 0 where
    pub came : (d : Event) → In d s → Came limit d.entry
    pub done : {a q p j : ℕ} → At n a q p j → j < i → received a p 0 q s ≡ true

  came_before : {l : ℕ} (m : ℕ) {e : Entry} → l ≤ m → Came l e → Came m e
  came_before m h c = record { action = c.action; head = c.head; sender = c.sender; index = c.index; at = c.at; early = (let z = c.early in omega arith); is = c.is }

  -- one entry of slot i more
  pub until_more : {a q p i limit : ℕ} {s : History} {e : Event} → At n a q p i → limit ≤ suc i → e.entry ≡ draft_entry (slot_time begin spacing i) a q p → Until i limit s → Until i (suc i) (e ∷ s)
  until_more {a} {q} {p} {i} {e = e} at h is u =
      record {
        came = λ d m. in_cons m (λ same. record { action = a; head = q; sender = p; index = i; at = at; early = omega arith; is = ap (λ (x : Event). x.entry) same ∙ is }) (λ m. came_before (suc i) h (u.came d m));
        done = λ x l. or_second (receives _ _ 0 _ e) _ (u.done x l);
      }

  -- an entry with its place in slot i is the slot's one, or among its deliveries
  module _ {a q p i : ℕ} {x : Slot} (at : At n a q p i) (is : slot_at n i ≡ x) where
    of_slot : x ≡ slot_of a q p
    of_slot = sym is ∙ in_slot n at

    action_is : x.action ≡ a
    action_is = ap (λ (y : Slot). y.action) of_slot

    its_action : (e : Event) → e.entry ≡ draft_entry (slot_time begin spacing i) x.action x.head 0 → has_sender x.action ≡ false → receives a p 0 q e ≡ true
    its_action e same plain =
        let plain-too : has_sender a ≡ false = ap has_sender (sym action_is) ∙ plain in
        let head-is : x.head ≡ q = ap (λ (y : Slot). y.head) of_slot ∙ rw plain-too refl in
        let no_sender_lem : eqb p 0 ≡ true = or_cases (has_sender a) (eqb p 0) (and_left (has_sender a || eqb p 0) _ (facts at).unused) (λ f. absurd_bool f plain-too) (λ z. z) in
        rw same (and_both (and_both (eq-eqb x.head q head-is) (eq-eqb x.action a action_is)) (and_both (eq-eqb 0 p (sym (eqb-true p 0 no_sender_lem))) refl))

    its_delivery : (s : History) → has_sender x.action ≡ true → ((r : ℕ) → r < n → is_receiver x.action x.head r ≡ true → received x.action x.head 0 r s ≡ true) → received a p 0 q s ≡ true
    its_delivery s f got =
        let f-too : has_sender a ≡ true = ap has_sender (sym action_is) ∙ f in
        let sender-is : x.head ≡ p = ap (λ (y : Slot). y.head) of_slot ∙ rw f-too refl in
        subst (λ (p : ℕ). received a p 0 q s ≡ true) sender-is (subst (λ (a : ℕ). received a x.head 0 q s ≡ true) action_is
        (got q (facts at).head_below (subst (λ (a : ℕ). is_receiver a x.head q ≡ true) (sym action_is) (subst (λ (p : ℕ). is_receiver a p q ≡ true) (sym sender-is) ((facts at).receiver f-too)))))

  -- behind the last entry of a slot
  until_next : {i : ℕ} {s : History} → Until i (suc i) s → ((a q p : ℕ) → At n a q p i → received a p 0 q s ≡ true) → Until (suc i) (suc i) s
  until_next {i} {s} u all =
      record {
        came = u.came;
        done = λ {a} {q} {p} {j} at l. cases (eqb j i) (λ same. all a q p (subst (At n a q p) (eqb-true j i same) at)) (λ other. u.done at (let d = eqb-false j i other in omega arith));
      }

  -- what has come before an entry of slot i
  abbrev pub Before : ℕ → ℕ → History → Type 0
  Before a i s = Until i (limit_at a i) s

  -- AN INDUCTION OVER THE ROUND'S ENTRIES
  module _ (g : Setting) (P : History → Type 0)
      (one : (a q p i : ℕ) (s : History) → At n a q p i → Before a i s → P s → P (event_of g s (draft_entry (slot_time begin spacing i) a q p) ∷ s)) where
    record Delivered (i a p q k : ℕ) (s : History) : Type 0 where
      until : Until i (suc i) s
      holds : P s
      got : (r : ℕ) → q ≤ r → r < q + k → is_receiver a p r ≡ true → received a p 0 r s ≡ true

    -- the deliveries of a frame to the k heads from q on
    deliver : (i a p : ℕ) → has_sender a ≡ true → ((q : ℕ) → q < n → is_receiver a p q ≡ true → At n a q p i)
        → (k q : ℕ) → q + k ≤ n → (s : History) → Until i (suc i) s → P s → Delivered i a p q k (history_after g s (deliveries (slot_time begin spacing i) a p q k))
    unfolding history_after deliveries
    deliver i a p f at zero q h s u x = record { until = u; holds = x; got = λ r lo hi. absurd (omega arith) }
    deliver i a p f at (suc k) q h s u x = go (is_receiver a p q) refl (deliver i a p f at k (suc q) (omega arith))
      where
        rest : List Entry
        rest = deliveries (slot_time begin spacing i) a p (suc q) k

        above : (r : ℕ) → q ≤ r → eqb r q ≡ false → suc q ≤ r
        above r lo e = let d = eqb-false r q e in omega arith

        go : (b : Bool) → is_receiver a p q ≡ b → ((s : History) → Until i (suc i) s → P s → Delivered i a p (suc q) k (history_after g s rest))
            → Delivered i a p q (suc k) (history_after g s (cond b (draft_entry (slot_time begin spacing i) a q p ∷ rest) rest))
        go true r ih =
            let e = event_of g s (draft_entry (slot_time begin spacing i) a q p) in
            let now-until : Until i (suc i) (e ∷ s) = until_more (at q (omega arith) r) (omega arith) refl u in
            let now-holds = one a q p i s (at q (omega arith) r) (subst (λ (b : Bool). Until i (cond b (suc i) i) s) (sym f) u) x in
            let w = ih (e ∷ s) now-until now-holds in
            let here : received a p 0 q (e ∷ s) ≡ true = or_first (receives a p 0 q e) _ (and_both (and_both (eqb_same q) (eqb_same a)) (and_both (eqb_same p) refl)) in
            record {
              until = w.until;
              holds = w.holds;
              got = λ r lo hi m. cases (eqb r q)
                  (λ same. subst (λ (r : ℕ). received a p 0 r (history_after g (e ∷ s) rest) ≡ true) (sym (eqb-true r q same)) (any_grows (receives a p 0 q) (after_later g (e ∷ s) rest) here))
                  (λ other. w.got r (above r lo other) (omega arith) m);
            }
        go false r ih =
            let w = ih s u x in
            record {
              until = w.until;
              holds = w.holds;
              got = λ v lo hi m. cases (eqb v q) (λ same. absurd_bool (subst (λ (v : ℕ). is_receiver a p v ≡ true) (eqb-true v q same) m) r) (λ other. w.got v (above v lo other) (omega arith) m);
            }

    record Reached (i : ℕ) (s : History) : Type 0 where
      until : Until i i s
      holds : P s

    -- the entries of slot i
    one_slot : (i : ℕ) → i < 9 * n → (s : History) → Reached i s → Reached (suc i) (history_after g s (slot_entries n (slot_time begin spacing i) (slot_at n i)))
    unfolding history_after
    one_slot i h s w = go (slot_at n i) refl (fits n i h)
      where
        go : (x : Slot) → slot_at n i ≡ x → Fit n i x → Reached (suc i) (history_after g s (slot_entries n (slot_time begin spacing i) x))
        go x is (acts plain at) =
            let e = draft_entry (slot_time begin spacing i) x.action x.head 0 in
            subst (λ (b : Bool). Reached (suc i) (history_after g s (cond b (deliveries (slot_time begin spacing i) x.action x.head 0 n) (e ∷ [])))) (sym plain)
            (record {
              until = until_next (until_more at (omega arith) refl w.until) (λ a q p z. or_first (receives a p 0 q (event_of g s e)) _ (its_action z is (event_of g s e) refl plain));
              holds = one x.action x.head 0 i s at (subst (λ (b : Bool). Until i (cond b (suc i) i) s) (sym plain) w.until) w.holds;
            })
        go x is (delivers f at) =
            let d = deliver i x.action x.head f at n 0 (omega arith) s (record { came = λ e m. came_before (suc i) (omega arith) (w.until.came e m); done = w.until.done }) w.holds in
            subst (λ (b : Bool). Reached (suc i) (history_after g s (cond b (deliveries (slot_time begin spacing i) x.action x.head 0 n) (draft_entry (slot_time begin spacing i) x.action x.head 0 ∷ [])))) (sym f)
            (record { until = until_next d.until (λ a q p z. its_delivery z is (history_after g s (deliveries (slot_time begin spacing i) x.action x.head 0 n)) f (λ r l m. d.got r (omega arith) (omega arith) m)); holds = d.holds })

    -- the entries of all slots from slot i on
    all_slots : (i : ℕ) (xs : List Slot) → i + length xs ≡ 9 * n → ((j : ℕ) → j < length xs → slot_at n (i + j) ≡ get_or xs j (slot 0 0)) → (s : History) → Reached i s
        → Reached (9 * n) (history_after g s (entries_from n spacing (slot_time begin spacing i) xs))
    unfolding history_after entries_from
    all_slots i [] e is s w = subst (λ (i : ℕ). Reached i s) (let z : i ≡ 9 * n = omega arith in z) w
    all_slots i (x ∷ xs) e is s w =
        let here : slot_at n i ≡ x = ap (slot_at n) (let z : i ≡ i + 0 = omega arith in z) ∙ is 0 (omega arith) in
        let this = slot_entries n (slot_time begin spacing i) x in
        let w' : Reached (suc i) (history_after g s this) = subst (λ (x : Slot). Reached (suc i) (history_after g s (slot_entries n (slot_time begin spacing i) x))) here (one_slot i (omega arith) s w) in
        let later-time : slot_time begin spacing (suc i) ≡ slot_time begin spacing i + spacing = omega arith in
        subst (Reached (9 * n)) (sym (after_both g s this _))
        (subst (λ (t : ℕ). Reached (9 * n) (history_after g (history_after g s this) (entries_from n spacing t xs))) later-time
        (all_slots (suc i) xs (omega arith) (λ j l. ap (slot_at n) (let z : suc i + j ≡ i + suc j = omega arith in z) ∙ is (suc j) (omega arith)) (history_after g s this) w'))

    whole_round : P [] → 0 < n → Reached (9 * n) (history_after g [] (draft_entries n begin spacing))
    unfolding draft_entries
    whole_round none pos =
        let start : slot_time begin spacing 0 ≡ begin = omega arith in
        subst (λ (t : ℕ). Reached (9 * n) (history_after g [] (entries_from n spacing t (round_order n)))) start
        (all_slots 0 (round_order n) (let size = order_length n pos in omega arith) (λ j l. ap (slot_at n) (omega arith)) []
        (record { until = record { came = λ d m. in_nothing m; done = λ at l. absurd (omega arith) }; holds = none }))

  module _ (g : Setting) where
    pub by_entry : (P : History → Type 0) → P []
        → ((a q p i : ℕ) (s : History) → At n a q p i → Before a i s → P s → P (event_of g s (draft_entry (slot_time begin spacing i) a q p) ∷ s))
        → 0 < n → P (history_after g [] (draft_entries n begin spacing))
    by_entry P none one pos = (whole_round g P one none pos).holds

    -- at the end all has come
    pub until_end : 0 < n → Until (9 * n) (9 * n) (history_after g [] (draft_entries n begin spacing))
    until_end pos = (whole_round g (λ s. 0 ≤ 0) (λ a q p i s at u x. x) (omega arith) pos).until

module _ {n begin spacing i limit : ℕ} {s : History} (u : Until n begin spacing i limit s) where
  pub took_it : {a q p j : ℕ} → At n a q p j → j < i → took a q s ≡ true
  took_it {a} {q} {p} at h = any_map (receives a p 0 q) (takes a q) (λ e t. and_left (takes a q e) _ t) s (u.done at h)

  pub absent : (t : Event → Bool) → ((e : Event) → t e ≡ true → limit ≤ earliest n e.entry.action e.entry.head) → any t s ≡ false
  absent t late = cases (any t s) (λ h. absurd (impossible h)) (λ h. h)
    where
      impossible : any t s ≡ true → ⊥
      impossible h =
          let f = find t s h in
          let c = u.came f.event (earlier_in f.there) in
          let le : limit ≤ earliest n c.action c.head = subst (λ (e : Entry). limit ≤ earliest n e.action e.head) c.is (late f.event f.holds) in
          let least = (facts c.at).no_earlier in
          let lt = c.early in
          omega arith

  pub not_yet : (a q : ℕ) → limit ≤ earliest n a q → took a q s ≡ false
  not_yet a q h =
      absent (takes a q) (λ e t. subst (λ (b : ℕ). limit ≤ earliest n b e.entry.head) (sym (eqb-true e.entry.action a (and_right (eqb e.entry.head q) _ t)))
      (subst (λ (p : ℕ). limit ≤ earliest n a p) (sym (eqb-true e.entry.head q (and_left (eqb e.entry.head q) _ t))) h))
