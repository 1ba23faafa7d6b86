use mathlib.Core.Path.{◌∙◌, ap, ap₂}
use mathlib.Core.Bool.{Bool, not, ◌&&◌, ◌||◌}
use lib.Signed.{le_z}
use mir.Syntax.{w64}
use mir.Val.{SFits}
use mir.Facts.{to_z-of_z}
use borrow.Author.Rules.{rules}
use Rattle.data_sets.proofs.Loops.{or_if}
use Rattle.judge_premise_2.specs.declared.Drift.{Drift}
use Rattle.judge_premise_2.proofs.Drift.stays_steady.Goals as goal

pub returns : goal.returns
returns c =
    let a : SFits w64 c.of-now.result.gain = search rules in
    let b : SFits w64 c.args.self.gain = search rules in
    let x : SFits w64 c.of-now.result.loss = search rules in
    let y : SFits w64 c.args.self.loss = search rules in
    ap₂ (λ (b d : Bool). not c.args.correct || (b && d))
    (ap₂ le_z (to_z-of_z {w = w64} a ∙ ap (λ (d : Drift). d.gain) c.of-now.ensures) (to_z-of_z {w = w64} b))
    (ap₂ le_z (to_z-of_z {w = w64} x ∙ ap (λ (d : Drift). d.loss) c.of-now.ensures) (to_z-of_z {w = w64} y))
    ∙ or_if c.args.correct _
