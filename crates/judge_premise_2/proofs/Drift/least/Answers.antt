use mathlib.Core.Path.{◌∙◌, ap₂}
use lib.IntN.{ℤ}
use mir.Syntax.{w64}
use mir.Val.{SFits}
use mir.Facts.{to_z-of_z}
use borrow.Author.Rules.{rules}
use Rattle.std.specs.Int.{int_min}
use Rattle.judge_premise_2.proofs.Drift.least.Goals as goal

pub returns : goal.returns
returns c =
    let a : SFits w64 c.args.self.gain = search rules in
    let b : SFits w64 c.args.other.gain = search rules in
    let x : SFits w64 c.args.self.loss = search rules in
    let y : SFits w64 c.args.other.loss = search rules in
    ap₂ (λ (x y : ℤ). record { gain = x; loss = y })
    (to_z-of_z {w = w64} (record { sfits = c.min.type_inv }) ∙ c.min.ensures.value ∙ ap₂ int_min (to_z-of_z {w = w64} a) (to_z-of_z {w = w64} b))
    (to_z-of_z {w = w64} (record { sfits = c.min-2.type_inv }) ∙ c.min-2.ensures.value ∙ ap₂ int_min (to_z-of_z {w = w64} x) (to_z-of_z {w = w64} y))
