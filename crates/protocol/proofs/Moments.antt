-- Moments of a history: what came before an event, the first event that passes a test, and tests at every event.
use mathlib.Core.Path.{◌≡◌, refl, sym, subst}
use mathlib.Core.Bool.{Bool, true, false}
use mathlib.Core.List.{[], ◌∷◌, ◌++◌}
use Rattle.protocol.specs.Base.{any}
use Rattle.protocol.specs.Run.{Event, History}
use Rattle.protocol.specs.Premises.{before, each}
use Rattle.protocol.proofs.Tests.{absurd_bool, and_left, and_right, or_cases, or_first, or_second, In, first, next}

-- s is the history at some moment of h; Earlier (e ∷ s) h: e is an event of h, and s came before it
pub data Earlier (s : History) : History → Type 0 where
  now : Earlier s s
  later : {e : Event} {h : History} → Earlier s h → Earlier s (e ∷ h)

pub earlier_trans : {a b c : History} → Earlier a b → Earlier b c → Earlier a c
earlier_trans x now = x
earlier_trans x (later y) = later (earlier_trans x y)

pub earlier_past : {e : Event} {s h : History} → Earlier (e ∷ s) h → Earlier s h
earlier_past now = later now
earlier_past (later x) = later (earlier_past x)

pub earlier_in : {e : Event} {s h : History} → Earlier (e ∷ s) h → In e h
earlier_in now = first
earlier_in (later x) = next (earlier_in x)

pub earlier_append : (l : History) {s h : History} → h ≡ l ++ s → Earlier s h
earlier_append l {s} {h} e = subst (Earlier s) (sym e) (go l)
  where
    go : (l : History) → Earlier s (l ++ s)
    go [] = now
    go (x ∷ l) = later (go l)

pub any_grows : (p : Event → Bool) {s h : History} → Earlier s h → any p s ≡ true → any p h ≡ true
any_grows p now e = e
any_grows p (later {e = d} x) e = or_second (p d) _ (any_grows p x e)

pub any_map : (p r : Event → Bool) → ((e : Event) → p e ≡ true → r e ≡ true) → (h : History) → any p h ≡ true → any r h ≡ true
any_map p r i [] t = t
any_map p r i (e ∷ h) t = or_cases (p e) _ t (λ u. or_first (r e) _ (i e u)) (λ u. or_second (r e) _ (any_map p r i h u))

-- an event that passes the test, with what came before it
pub record FoundIn (p : Event → Bool) (h : History) : Type 0 where
  pub event : Event
  pub past : History
  pub there : Earlier (event ∷ past) h
  pub holds : p event ≡ true

pub find : (p : Event → Bool) (h : History) → any p h ≡ true → FoundIn p h
find p [] e = absurd_bool e refl
find p (d ∷ h) e =
    or_cases (p d) (any p h) e (λ t. record { event = d; past = h; there = now; holds = t })
    (λ t. let r = find p h t in record { event = r.event; past = r.past; there = later r.there; holds = r.holds })

-- an event that passes the test, after the moment m
pub record FoundAfter (p : Event → Bool) (m h : History) : Type 0 where
  pub event : Event
  pub past : History
  pub there : Earlier (event ∷ past) h
  pub since : Earlier m past
  pub holds : p event ≡ true

pub find_after : (p : Event → Bool) {m h : History} → Earlier m h → any p h ≡ true → any p m ≡ false → FoundAfter p m h
find_after p now t u = absurd_bool t u
find_after p (later {e = d} {h = h} x) t u =
    or_cases (p d) (any p h) t (λ z. record { event = d; past = h; there = now; since = x; holds = z })
    (λ z. let r = find_after p x z u in record { event = r.event; past = r.past; there = later r.there; since = r.since; holds = r.holds })

-- the first event that passes the test; `before` is what came before it
pub record First (p : Event → Bool) (h : History) : Type 0 where
  pub event : Event
  pub there : Earlier (event ∷ before p h) h
  pub holds : p event ≡ true
  pub none_before : any p (before p h) ≡ false

pub first_of : (p : Event → Bool) (h : History) → any p h ≡ true → First p h
unfolding before
first_of p [] e = absurd_bool e refl
first_of p (d ∷ h) e = go (any p h) refl (first_of p h) (p d) refl
  where
    go : (b : Bool) → any p h ≡ b → (any p h ≡ true → First p h) → (c : Bool) → p d ≡ c → First p (d ∷ h)
    go true t ih c u = let r = ih t in record { event = r.event; there = rw t (later r.there); holds = r.holds; none_before = rw t r.none_before }
    go false t ih true u = record { event = d; there = rw (t, u) now; holds = u; none_before = rw (t, u) t }
    go false t ih false u = absurd_bool e (rw (u, t) refl)

pub each_at : (t : Event → History → Bool) {e : Event} {s h : History} → each t h ≡ true → Earlier (e ∷ s) h → t e s ≡ true
unfolding each
each_at t {e} {s} g now = and_left (t e s) _ g
each_at t g (later {e = d} {h = h} x) = each_at t (and_right (t d h) _ g) x

-- a moment that is not before an event is after it
pub later_event : {e : Event} {a b h : History} → Earlier (e ∷ a) h → Earlier b h → (Earlier b a → ⊥) → Earlier (e ∷ a) b
later_event x now n = x
later_event now (later y) n = absurd (n y)
later_event (later x) (later y) n = later_event x y n
