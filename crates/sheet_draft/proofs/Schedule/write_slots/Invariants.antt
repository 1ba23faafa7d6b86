-- One slot more at each turn: the slots that are left make the same page.
use mathlib.Core.Path.{◌≡◌}
use lib.ListN.{length}
use Rattle.protocol.specs.Draft.{slots}
use Rattle.sheet_draft.specs.Page.{with_slots}
use Rattle.sheet_draft.proofs.Page.{Left}
use Rattle.sheet_draft.proofs.Schedule.write_slots.Given as goal

abbrev pub invariant-loop-q : goal.invariant-loop-q
invariant-loop-q l =
    (length l.out ≡ length l.initial.out) × Left l.self.n l.self.spacing (record { words = l.out; place = l.at.place; time = l.at.time }) (slots l.action l.q l.to)
    (with_slots l.self.n l.self.spacing (record { words = l.initial.out; place = l.initial.at.place; time = l.initial.at.time }) (slots l.action l.from l.to))
