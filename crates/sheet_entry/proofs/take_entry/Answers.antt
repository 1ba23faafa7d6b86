use mathlib.Core.Path.{ap}
use Rattle.protocol.specs.declared.Entry.{Entry}
use Rattle.sheet_entry.proofs.Steps.{heads_after, frame_after}
use borrow.Author.Rules.{rules}
use Rattle.sheet_entry.proofs.take_entry.Goals as goal

pub returns : goal.returns
returns c =
    λ ws i s now kept is accepted.
    let made = c.input_of-i.ensures ws i s _ now kept is in
    let index_is = c.head_index-h.ensures in
    let acts = c.act-x.ensures in (
      heads_after now accepted is made index_is acts,
      c.keep_frame.ensures ws i s _ now kept accepted (ap (λ (e : Entry). e.head) is) (frame_after now accepted is made index_is acts),
    )
