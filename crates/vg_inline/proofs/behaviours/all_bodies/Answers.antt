use Rattle.std.proofs.Common.{◌≡◌, sym, subst}
use Rattle.vg_whole.specs.Worths.{constants_by}
use Rattle.vg_inline.specs.declared.keep.Keep.{Keep}
use Rattle.vg_inline.specs.Bodies.{AreBodies}
use Rattle.vg_inline.specs.Context.{aliases_by, bodies_as}
use Rattle.vg_inline.specs.Inline.{bodies_of}
use Rattle.vg_inline.specs.Kept.{keeping_as}
use Rattle.vg_inline.proofs.Making.{bodies_made}
use Rattle.vg_inline.proofs.behaviours.all_bodies.Goals as goal

pub returns : goal.returns
returns c =
    let x = c.args.context.now in
    let all = c.args.description.now.items in
    let made = subst (λ (k : Keep). bodies_as k all c.in_ok-trees.trees ≡ bodies_of (keeping_as k) all (constants_by all x.worths.now) (aliases_by all x.aliases.now)) c.trees_up_to-keep.ensures c.in_ok-trees.ensures in
    subst (λ (k : Keep). AreBodies all (record { trees = c.in_ok-trees.trees; keep = k })) (sym c.trees_up_to-keep.ensures)
    (bodies_made all x c.requires.table c.requires.constants c.requires.aliases c.requires.keep c.requires.bodies c.requires.few c.args.most c.in_ok-trees.trees made c.requires.most)
