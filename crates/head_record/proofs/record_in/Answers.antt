use Rattle.protocol.specs.Row.{record_in}
use Rattle.head_record.specs.Bytes.{cut}
use Rattle.head_record.proofs.Cutting.{nothing_cut}
use borrow.Author.Rules.{rules}
use Rattle.head_record.proofs.record_in.Goals as goal

pub returns : goal.returns
unfolding cut record_in
returns c = nothing_cut _ _ (simp (c.has-2.ensures, c.has.ensures, c.byte-3.ensures, c.byte-2.ensures, c.byte.ensures, c.senders_in.ensures, c.phase_in-2.ensures, c.phase_in.ensures))
