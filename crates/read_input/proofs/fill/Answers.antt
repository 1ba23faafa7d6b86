-- `fill`: what was read stands behind what was there.
use Rattle.std.proofs.Common.{◌≡◌, ◌+◌, ◌-◌, ◌++◌, length, take, drop, rules, sym, ap, ◌∙◌, subst, le_refl, drop_at, length-take-le}
use Rattle.std.proofs.lemmas.Slice.{take-put_mid_below}
use Rattle.std.specs.Io.KnownBytes.{Consumes}
use Rattle.std.proofs.KnownBytes.{Consumes-trans}
use borrow.Rule.Slice.PartMut.{put_mid, post_of}
use lib.Seq.{take-add, take-append-le}
use Rattle.read_input.proofs.fill.Goals as goal

pub loop-filled-preserved : goal.loop-filled-preserved
loop-filled-preserved g c =
    let at = c.loop-filled.filled in
    let n = c.in_ok-n.n in
    let old = c.loop-filled.buffer in
    let part = c.read.new.buf in
    let within = c.loop-filled.invariant.0 in
    let room = length old - at in
    let behind = post_of at room old in
    let new = put_mid at room old part in
    let long = length-take-le at old within in
    let read : take n (drop at new) ≡ take n part =
    ap (take n) (drop_at (take at old) (part ++ behind) at long) ∙ take-append-le n part behind c.in_ok-n.ensures.bound.0 in
    let joined : take (at + n) new ≡ take at old ++ take n part =
    take-add at n new ∙ ap (λ l. l ++ take n (drop at new)) (take-put_mid_below at room old part at (le_refl at) within) ∙ ap (λ l. take at old ++ l) read in
    (search rules, subst (Consumes _ _) (sym joined) (Consumes-trans _ _ _ _ _ c.loop-filled.invariant.1 c.in_ok-n.ensures.bytes.0))
