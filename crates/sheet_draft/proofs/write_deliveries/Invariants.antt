-- One head more at each turn: what is left to deliver makes the same buffer.
use Rattle.sheet_draft.proofs.Page.{Delivered}
use Rattle.sheet_draft.proofs.write_deliveries.Given as goal

abbrev pub invariant-loop-q : goal.invariant-loop-q
invariant-loop-q l = Delivered l.time l.action l.sender l.n l.place l.initial.out l.out l.at l.q
