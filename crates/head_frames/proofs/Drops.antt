-- Vote readings of another candidate dropped, one sender after another, are those dropped from the record.
-- Main results: `dropped_next`, `dropped_row`.
use Rattle.std.proofs.Common.{◌≡◌, ℕ, zero, suc, ◌+◌, Bool, cond, eqb, List, [], ◌∷◌, map, length, get_or, set, sym, refl, ap, ◌∙◌, ap₂, add-one, Some}
use Rattle.protocol.specs.declared.Sender.{Sender}
use Rattle.protocol.specs.declared.HeadRecord.{HeadRecord}
use Rattle.protocol.specs.Record.{votes, adjusts, marks_number, same_number}
use Rattle.protocol.specs.Step.{kept_for, drop_others}
use Rattle.protocol.specs.Row.{start_number, vote_number, serial_number, latest_number, row_of}
use Rattle.head_row.proofs.Rows.{same_name, reading_left}
use Rattle.head_frames.specs.Drops.{dropped_below}

abbrev left : ℕ → ℕ → ℕ → ℕ
left name latest reading = cond (eqb latest name) reading 0

pub dropped_next : (name : ℕ) (latest l r : List ℕ) (p x : ℕ) → r ≡ dropped_below name latest l p → x ≡ left name (get_or latest p 0) (get_or r p 0)
    → set r p x ≡ dropped_below name latest l (p + 1)
unfolding dropped_below
dropped_next name latest l r p x is x-is = rw (add-one, x-is, is) refl

module _ (name : ℕ) where
  dropped_first : (x y : ℕ) (latest l : List ℕ) (k : ℕ) → dropped_below name (x ∷ latest) (y ∷ l) (suc k) ≡ left name x y ∷ dropped_below name latest l k
  unfolding dropped_below
  dropped_first x y latest l zero = refl
  dropped_first x y latest l (suc k) =
      ap (λ (m : List ℕ). set m (suc k) (left name (get_or latest k 0) (get_or m (suc k) 0))) (dropped_first x y latest l k)

module _ (c : ℕ) where
  abbrev kept : Sender → Sender
  kept = kept_for (Some c)

  left_of : (k : Sender) → left (c + 1) (latest_number votes k) (vote_number k) ≡ vote_number (kept k)
  left_of k = ap (λ (b : Bool). cond b (vote_number k) 0) (same_name k.candidate c) ∙ reading_left (same_number k.candidate (Some c)) k.vote

  all_dropped : (l : List Sender) → dropped_below (c + 1) (map (latest_number votes) l) (map vote_number l) (length l) ≡ map vote_number (map kept l)
  unfolding dropped_below
  all_dropped [] = refl
  all_dropped (k ∷ l) = dropped_first (c + 1) _ _ _ _ (length l) ∙ ap₂ ◌∷◌ (left_of k) (all_dropped l)

  -- the other numbers stay
  others : (f : Sender → ℕ) → ((k : Sender) → f (kept k) ≡ f k) → (l : List Sender) → map f (map kept l) ≡ map f l
  others f e [] = refl
  others f e (k ∷ l) = ap₂ ◌∷◌ (e k) (others f e l)

  pub dropped_row : (r : HeadRecord) → length r.senders ≡ 16
      → row_of (drop_others c r) ≡ record (row_of r) { vote_readings = dropped_below (c + 1) (row_of r).votes.latest (row_of r).vote_readings 16 }
  unfolding marks_number
  dropped_row r long =
      let l = r.senders in
      rw (
        sym (ap (dropped_below (c + 1) (map (latest_number votes) l) (map vote_number l)) (sym long) ∙ all_dropped l),
        others start_number (λ k. refl) l,
        others (serial_number votes) (λ k. refl) l,
        others (serial_number adjusts) (λ k. refl) l,
        others (latest_number votes) (λ k. refl) l,
        others (latest_number adjusts) (λ k. refl) l,
      ) refl
