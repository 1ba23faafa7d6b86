-- `print_bytes`: the words of accepted bytes are all in the array that they are read into.
use Rattle.data_bytes.proofs.Words.{accepted_words}
use native.Mathlib.Omega.{arith}
use Rattle.trace.proofs.print_bytes.Goals as goal

pub slice_bounds-words-end : goal.slice_bounds-words-end
slice_bounds-words-end g c = let few = (accepted_words _ c.big_endian-words.result _ c.bytes_verdict.ensures c.in-Ok.is c.big_endian-words.ensures.room).0 in omega arith

pub slice_bounds-sheet-end : goal.slice_bounds-sheet-end
slice_bounds-sheet-end g c = (accepted_words _ c.big_endian-words.result _ c.bytes_verdict.ensures c.in-Ok.is c.big_endian-words.ensures.room).1
