use Rattle.data_bytes.proofs.Words.{word_inside, word_past}
use Rattle.data_bytes.proofs.word_at.Goals as goal

pub returns-then-bytes-i : goal.returns-then-bytes-i
returns-then-bytes-i c = word_past _ _ c.if-bytes-i.true

pub returns : goal.returns
returns c = word_inside _ _ _ c.if-bytes-i.false c.from_be_bytes.ensures
