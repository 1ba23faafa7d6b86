-- Document 02 No. 4, the lemma: a head closes a phase early only if all n heads have named its choice v, and then nobody
-- ever names a lower number, so all n heads have the choice v, for good.
-- Why: whoever is named has named itself, before any other. A head below v that is named would have named itself, and v
-- before or after; not after, since a choice only falls, and not before, since a head with a choice does not begin to name
-- itself. What a head keeps as the latest frame of another is one that the other has sent.
-- Main results, over the phase: `nobody_below`, `all_hold`, `early_unanimous`, `early_holds`, `delivered_holds`.
use Rattle.std.specs.Prelude.{Option, Some, None}
use mathlib.Core.Path.{◌≡◌, refl, sym, ◌∙◌, ap, subst}
use mathlib.Core.Bool.{Bool, true, false, cond, not, ◌&&◌}
use mathlib.Core.List.{◌∷◌}
use Prim.Native.Nat.{ℕ, ◌≤◌, ◌<◌}
use native.Mathlib.Omega.{arith}
use lib.Dec.{eqb}
use lib.ListN.{length, get_or, replicate}
use borrow.Author.Tests.{eqb-true}
use Rattle.protocol.specs.Types.{Sender, HeadRecord, Setting, Frame}
use Rattle.protocol.specs.Record.{no_sender, kept_of, same_number, fresh}
use Rattle.protocol.specs.Step.{all_spoken, is_tested}
use Rattle.protocol.specs.Run.{Event, History, record_of, frame_sent, frame_of}
use Rattle.protocol.specs.Premises.{took, is_early}
use Rattle.protocol.proofs.Tests.{absurd_bool, cases, or_cases, eqb_same, all_below_lem}
use Rattle.protocol.proofs.Effects.{Kind, votes, adjusts, phase_of, latest_of, delivery, closing, named, delivered_by, ignored, kept_after, kept_after_lem, send, named_in, early_spoken, both_name, latest_after, latest_said, none_is_some, same_number_lem}
use Rattle.protocol.proofs.Valid.{base_of, Taken, Valid, start, more, record_at, record_other, by_head, delivery_at, of_effect, fixed, closed_took}
use Rattle.protocol.proofs.Phases.{held, sent, names, no_senders, names_at, unsent, phase_of_frame, held_sent, last_frame, sending_at, prepared_at, closes_early_at, early_at_lem, delivered_choice}
use Rattle.protocol.proofs.Frames.{SentFor, sent_stays, sent_at_most, sender_below, sent_itself, own_first}

module _ (g : Setting) (k : Kind) where
  -- all n heads have named v
  abbrev pub Unanimous : History → ℕ → Type 0
  Unanimous s v = (q : ℕ) → q < g.n → SentFor g k s q v

  unanimous_stays : {s : History} {e : Event} {v : ℕ} → Taken g s e → Valid g s → Unanimous s v → Unanimous (e ∷ s) v
  unanimous_stays {v = v} t w u q l = sent_stays g k t w q v (u q l)

  -- then nobody has named a lower number
  pub nobody_below : {s : History} {v : ℕ} → Valid g s → Unanimous s v → (p c : ℕ) → SentFor g k s p c → v ≤ c
  nobody_below {v = v} w u p c x = let y = sent_itself g k w p c x in own_first g k w c v (u c (sender_below g k w c c y)) y

  -- and all n heads have the choice v
  pub all_hold : {s : History} {v : ℕ} → Valid g s → Unanimous s v → (q : ℕ) → q < g.n → held g k s q ≡ Some v
  all_hold {v = v} w u q l =
      let a = sent_at_most g k w q v (u q l) in
      let j = held_sent g k w q a.choice a.holds in
      let f = last_frame g k w q j.0 j.1 in
      let low = nobody_below w u q f.choice (j.0, f.names_it) in
      let is = same_number_lem (sym a.holds ∙ f.holds) in
      let high = a.low in
      a.holds ∙ ap (λ (c : ℕ). Some c) (omega arith)

  module _ (small : g.n ≤ 16) where
    -- whom a latest frame of p names, p has named
    pub latest_sent : {s : History} → Valid g s → (q p c : ℕ) → latest_of k (kept_of (record_of g s q) p) ≡ Some c → SentFor g k s p c
    unfolding record_of fresh
    latest_sent start q p c = λ h. absurd (nothing_kept k h)
      where
        nothing_kept : (k : Kind) → latest_of k (get_or (replicate 16 no_sender) p no_sender) ≡ Some c → ⊥
        nothing_kept votes h = none_is_some (subst (λ (y : Sender). y.candidate ≡ Some c) (no_senders 16 p) h)
        nothing_kept adjusts h = none_is_some (subst (λ (y : Sender). y.adjuster ≡ Some c) (no_senders 16 p) h)
    latest_sent (more {e = e} {s = s} t v) q p c =
        by_head (λ q. latest_of k (kept_of (record_of g (e ∷ s) q) p) ≡ Some c → SentFor g k (e ∷ s) p c) e q
        (at_head (λ i. latest_sent v e.entry.head p c i))
        (λ d h. sent_stays g k t v p c (latest_sent v q p c (ap (λ (r : HeadRecord). latest_of k (kept_of r p)) (sym (record_other g e s q d)) ∙ h)))
      where
        r : HeadRecord
        r = base_of g s e

        x : Frame
        x = frame_of s e.entry

        Sent : Option ℕ → Type 0
        Sent m = m ≡ Some c → SentFor g k (e ∷ s) p c

        -- of a frame that is taken
        taken : (latest_of k (kept_of r p) ≡ Some c → SentFor g k s p c) → eqb e.entry.sender p ≡ true → (b : Bool) → eqb (delivered_by x) (delivery k) ≡ b
            → cond b (named x) (latest_of k (kept_of r e.entry.sender)) ≡ Some c → SentFor g k s p c
        taken ih d true u h = (
          e.entry.serial,
          subst (λ (z : ℕ). names g k s z e.entry.serial ≡ Some c) (eqb-true _ p d)
              (subst (λ (a : ℕ). named (frame_sent s a e.entry.sender e.entry.serial) ≡ Some c) (phase_of_frame g k t u) h),
        )
        taken ih d false u h = ih (subst (λ (z : ℕ). latest_of k (kept_of r z) ≡ Some c) (eqb-true _ p d) h)

        kept : (latest_of k (kept_of r p) ≡ Some c → SentFor g k s p c) → (i d : Bool) → eqb e.entry.sender p ≡ d
            → latest_of k (cond (not i && d) (kept_after r e.entry.sender x) (kept_of r p)) ≡ Some c → SentFor g k s p c
        kept ih true d u h = ih h
        kept ih false false u h = ih h
        kept ih false true u h = taken ih u _ refl (sym (latest_after k r e.entry.sender x) ∙ h)

        -- of the head's own frame
        said : (w : ℕ) → named_in k (sending_at g k t) ≡ Some w → p ≡ (prepared_at g k t).own → Sent (Some w)
        said w u o h =
            subst (λ (z : ℕ). SentFor g k (e ∷ s) z c) (sym (o ∙ (fixed g v e.entry.head).own_is))
            (sent g k s e.entry.head, names_at g k t (sent g k s e.entry.head) ∙ rw (unsent g k v e.entry.head, u, eqb_same (sent g k s e.entry.head)) h)

        fits : e.entry.sender < length r.senders
        fits = rw (fixed g v e.entry.head).size_is (let z = t.sender_below in omega arith)

        at_head : (latest_of k (kept_of r p) ≡ Some c → SentFor g k s p c) → Sent (latest_of k (kept_of (record_of g (e ∷ s) e.entry.head) p))
        at_head ih =
            subst (λ (z : HeadRecord). Sent (latest_of k (kept_of z p))) (sym (record_at g e s)) (of_effect g (λ y. Sent (latest_of k (kept_of y.after p))) t
            (latest_said k Sent (sending_at g k t) (prepared_at g k t) p
            (λ h. sent_stays g k t v p c (kept ih (ignored r e.entry.sender x) (eqb e.entry.sender p) refl
            (ap (latest_of k) (sym (kept_after_lem r e.entry.sender x p fits)) ∙ (rw (delivery_at g t) at h)))) said))

    -- THE LEMMA: if a head has closed the phase early, all n heads have named its choice
    pub early_unanimous : {s : History} → Valid g s → (q : ℕ) → is_early g k s q ≡ true → (v : ℕ) × Unanimous s v
    unfolding record_of fresh
    early_unanimous start q = λ h. absurd (nobody_early k h)
      where
        nobody_early : (k : Kind) → (phase_of k (fresh g.n g.f q)).early ≡ true → ⊥
        nobody_early votes h = absurd_bool h refl
        nobody_early adjusts h = absurd_bool h refl
    early_unanimous (more {e = e} {s = s} t w) q =
        by_head (λ q. is_early g k (e ∷ s) q ≡ true → (v : ℕ) × Unanimous (e ∷ s) v) e q
        (λ h. or_cases (closes_early_at g k t) (is_early g k s e.entry.head) (sym (early_at_lem g k t) ∙ h) (λ u. spoken (names_all u)) (λ u. still (early_unanimous w e.entry.head u)))
        (λ d h. still (early_unanimous w q (ap (λ (r : HeadRecord). (phase_of k r).early) (sym (record_other g e s q d)) ∙ h)))
      where
        r : HeadRecord
        r = base_of g s e

        still : (v : ℕ) × Unanimous s v → (v : ℕ) × Unanimous (e ∷ s) v
        still u = (u.0, unanimous_stays t w u.1)

        latest : ℕ → Option ℕ
        latest p = latest_of k (kept_of (record_of g (e ∷ s) e.entry.head) p)

        choice : Option ℕ
        choice = held g k (e ∷ s) e.entry.head

        -- the test that closes the phase
        Spoken : Type 0
        Spoken = (p : ℕ) → p < g.n → same_number (latest p) choice ≡ true

        names_all : closes_early_at g k t ≡ true → Spoken
        names_all u p l =
            let all-spoken = subst (λ (z : HeadRecord). all_spoken k z ≡ true) (sym (record_at g e s))
            (of_effect g (λ y. all_spoken k y.after ≡ true) t (early_spoken k (is_tested r t.action) (send (sending_at g k t) (prepared_at g k t)) u)) in
            all_below_lem (record_of g (e ∷ s) e.entry.head).n (λ q. same_number (latest q) choice) all-spoken p (rw (fixed g (more t w) e.entry.head).n_is l)

        spoken : Spoken → (v : ℕ) × Unanimous (e ∷ s) v
        spoken all =
            let own = both_name (latest e.entry.head) choice (all e.entry.head t.head_below) in (
              own.0,
              λ q l. let b = both_name (latest q) choice (all q l) in latest_sent (more t w) e.entry.head q own.0 (b.1 ∙ sym b.2 ∙ own.2),
            )

    -- so a head that has closed the phase early has a choice
    pub early_holds : {s : History} → Valid g s → (q : ℕ) → q < g.n → is_early g k s q ≡ true → (v : ℕ) × (held g k s q ≡ Some v)
    early_holds w q l u = let x = early_unanimous w q u in (x.0, all_hold w x.1 q l)

    -- and one without a choice has not
    pub none_early : {s : History} → Valid g s → (q : ℕ) → q < g.n → held g k s q ≡ None → is_early g k s q ≡ false
    none_early {s} w q l u = cases (is_early g k s q) (λ t. none_is_some (sym u ∙ (early_holds w q l t).1)) (λ t. t)

    -- a head that was delivered a frame of the phase has a choice, unless it closed the phase by entry before
    pub delivered_holds : {s : History} → Valid g s → (q : ℕ) → q < g.n → took (delivery k) q s ≡ true → took (closing k) q s ≡ false → (c : ℕ) × (held g k s q ≡ Some c)
    delivered_holds {s} w q l h o =
        cases (is_early g k s q) (early_holds w q l)
        (λ t. delivered_choice g k small w q h (closed_took g k w q ∙ rw o t))
