use mathlib.Core.Path.{sym, ◌∙◌, ap}
use Prim.Native.Nat.{ℕ, min}
use native.Mathlib.Omega.{arith}
use lib.ListN.{get_or}
use Rattle.protocol.proofs.Tests.{not_true, not_false}
use Rattle.data_sets.specs.Sets.{with_head, has_all}
use Rattle.data_sets.proofs.Loops.{all_more, all_fails, all_until}
use Rattle.judge_premises_5_to_8.specs.Closes.{frame_reached}
use Rattle.judge_premises_5_to_8.proofs.Receivers.has_reached.Goals as goal

pub loop-k-preserved : goal.loop-k-preserved
loop-k-preserved c =
    let A = c.args in
    let reached = rw (c.with_head.ensures, c.frame_index.ensures.0) at c.has_all.ensures in
    record {
      end_is = c.loop-k.invariant.end_is;
      all_reached = all_more c.loop-k.k (frame_reached A.g A.self.now.0 A.a A.p) c.loop-k.invariant.all_reached (sym reached ∙ not_false {b = c.has_all.result} c.if-not-has_all.false-raw);
    }

pub returns-then-not-has_all : goal.returns-then-not-has_all
returns-then-not-has_all c =
    let A = c.args in
    let reached = rw (c.with_head.ensures, c.frame_index.ensures.0) at c.has_all.ensures in
    sym (all_fails (min A.count 16) c.loop-k.k (frame_reached A.g A.self.now.0 A.a A.p) (omega (arith, c.loop-k.invariant.end_is, c.loop-k-test.true))
    (sym reached ∙ not_true {b = c.has_all.result} c.if-not-has_all.true-raw))

pub returns : goal.returns
returns c =
    let A = c.args in
    sym (all_until (min A.count 16) c.loop-k.k (frame_reached A.g A.self.now.0 A.a A.p) (omega (arith, c.loop-k.invariant.end_is)) (omega (arith, c.loop-k.invariant.end_is, c.loop-k-test.false))
    c.loop-k.invariant.all_reached)
