-- An entry's line, of the values that are printed.
-- Main results: `same_choice`, `same_number`, `entry_line`.
use Rattle.std.proofs.Common.{◌≡◌, refl, ap, ℕ}
use Rattle.std.specs.Prelude.{Option, Some, None, MatchOption, IsSomeAnd}
use Rattle.std.specs.Option.{option_and}
use Rattle.protocol.specs.Program.{decimal}
use Rattle.trace_entries.specs.declared.Line.{Line}
use Rattle.trace_text.specs.Text.{number_text, choice_text, entry_text, line_text}

-- a number that was made wider
pub same_choice : (k m : Option ℕ) → MatchOption k (m ≡ None) (λ x. IsSomeAnd m (λ y. y ≡ x)) → choice_text m ≡ choice_text k
same_choice None m e = ap choice_text e
same_choice (Some x) None e = absurd e
same_choice (Some x) (Some y) e = ap decimal e

pub same_number : (k : Option ℕ) (x : ℕ) → choice_text (option_and k (Some x)) ≡ number_text k x
same_number None x = refl
same_number (Some k) x = refl

pub entry_line : (i : ℕ) (l : Line) (k a x : Option ℕ) → choice_text k ≡ choice_text l.candidate → choice_text a ≡ choice_text l.adjuster
    → choice_text x ≡ number_text l.adjuster l.adjustment.0
    → line_text (record { index = i; time = l.time.0; head = l.head; action = l.action; candidate = k; adjuster = a; adjustment = x; outcome = l.outcome; early = l.early })
    ≡ entry_text i l
unfolding line_text entry_text
entry_line i l k a x ek ea ex = rw (ek, ea, ex) refl
