use Rattle.std.proofs.Common.{◌≡◌, List, Option, Some, get_or, ap, subst, ◌∙◌, rules}
use Rattle.std.proofs.lemmas.Option.{slice_get-get_or}
use Rattle.std.proofs.lemmas.Result.{IfOk-weaker}
use Rattle.std.specs.Result.{IfOk}
use Rattle.vg_ast.specs.declared.item.Item.{Item}
use Rattle.vg_whole.specs.Worths.{constants_by}
use Rattle.vg_inline.specs.declared.effect.Effect.{Effect}
use Rattle.vg_inline.specs.declared.kept.Kept.{Kept}
use Rattle.vg_inline.specs.Inline.{Known}
use Rattle.vg_inline.specs.InPlace.{behaviour_of, known_of}
use Rattle.vg_inline.specs.Context.{aliases_by, known_as}
use Rattle.vg_inline.specs.KeptBehaviour.{behaviour_kept}
use Rattle.vg_inline.proofs.Making.{all_made, one_of}
use Rattle.vg_inline.proofs.behaviours.behaviour.Goals as goal

pub returns : goal.returns
returns c =
    let p = c.args.plain.now in
    let b = c.args.bodies.now in
    let all = p.description.items in
    let of : List Item → Known (Option Kept) = λ all. known_as b.keep all (constants_by all p.worths) (aliases_by all p.aliases) b.trees in
    let item : List Item → Item = λ all. get_or all c.args.number c.index-table-number.result in
    let read : IfOk c.behaviour_in.result (λ effect. effect ≡ behaviour_kept b.keep c.args.table.now.items.now (of c.args.table.now.items.now) (item c.args.table.now.items.now)) = search rules in
    let made : IfOk c.behaviour_in.result (λ effect. effect ≡ behaviour_kept b.keep all (of all) (item all)) =
    subst (λ (all : List Item). IfOk c.behaviour_in.result (λ effect. effect ≡ behaviour_kept b.keep all (of all) (item all))) c.requires.table read in
    let same = all_made all p.worths p.aliases b c.requires.folded.constants c.requires.folded.aliases c.requires.bodies in
    IfOk-weaker c.behaviour_in.result _ _
    (λ effect g. ap (λ (e : Option Effect). Some e) g ∙ one_of (behaviour_kept b.keep all (of all)) (behaviour_of all (known_of all)) all c.args.number (item all) same (slice_get-get_or all c.args.number c.index-table-number.result c.requires.within))
    made
