use Rattle.std.proofs.Common.{◌≡◌, List, Option, sym, subst, ◌∙◌}
use Rattle.std.proofs.lemmas.Result.{IfOk-weaker}
use Rattle.std.specs.Result.{IfOk}
use Rattle.vg_ast.specs.declared.item.Item.{Item}
use Rattle.vg_names.specs.First.{first_of}
use Rattle.vg_names.specs.Unknown.{in_each}
use Rattle.vg_whole.specs.Worths.{constants_by}
use Rattle.vg_inline.specs.declared.keep.Keep.{Keep}
use Rattle.vg_inline.specs.declared.kept.Kept.{Kept}
use Rattle.vg_inline.specs.Inline.{Known}
use Rattle.vg_inline.specs.Context.{aliases_by, bodies_by, known_as}
use Rattle.vg_inline.specs.InPlace.{excesses}
use Rattle.vg_inline.specs.Kept.{counts}
use Rattle.vg_inline.specs.KeptBehaviour.{item_kept_excess}
use Rattle.vg_const.proofs.Made.{first_excess}
use Rattle.vg_const.proofs.folding.excess.Goals as goal

pub returns : goal.returns
returns c =
    let of : Keep → List Item → Known (Option Kept) = λ keep all. known_as keep all (constants_by all c.args.worths.now) (aliases_by all c.args.aliases.now) c.args.bodies.now in
    let made = first_excess c.args.d.now.items c.args.worths.now c.args.aliases.now c.args.bodies.now c.requires.constants c.requires.aliases c.requires.bodies in
    IfOk-weaker c.first_excess.result _ _ (λ found g. g ∙ made)
    (subst (λ (all : List Item). IfOk c.first_excess.result (λ found. found ≡ first_of (in_each (item_kept_excess counts all (of counts all)) all))) c.requires.table
    (subst (λ (keep : Keep). IfOk c.first_excess.result (λ found. found ≡ first_of (in_each (item_kept_excess keep c.args.table.now.items.now (of keep c.args.table.now.items.now)) c.args.table.now.items.now))) c.counts.ensures c.first_excess.ensures))
