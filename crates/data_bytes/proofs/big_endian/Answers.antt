use mathlib.Core.Path.{◌∙◌}
use lib.ListN.{length-set}
use lib.Seq.{get_or-set_same, get_or-set_other}
use borrow.Author.Count.{below_more}
use native.Mathlib.Omega.{arith}
use Rattle.data_bytes.proofs.Words.{whole_words}
use Rattle.data_bytes.proofs.big_endian.Goals as goal

pub loop-i-preserved : goal.loop-i-preserved
loop-i-preserved c =
    let l = c.loop-i.words in
    let i = c.loop-i.i in
    let w = c.word_at.result in
    let inv = c.loop-i.invariant in
    (length-set l i w ∙ inv.0, below_more _ i (λ k lt. get_or-set_other l i k w 0 (λ q. omega arith) ∙ inv.1 k lt) (get_or-set_same l i w 0 (omega (arith, inv.0)) ∙ c.word_at.ensures))

pub returns-clause-words : goal.returns-clause-words
returns-clause-words c = λ few. whole_words _ c.loop-i.words c.loop-i.invariant.0 (λ k lt. c.loop-i.invariant.1 k (omega arith)) few
