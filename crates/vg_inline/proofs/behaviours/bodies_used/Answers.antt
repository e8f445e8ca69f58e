use Rattle.std.proofs.Common.{◌≡◌, ℕ, List, Option, None, sym, subst, ◌∙◌, rules}
use Rattle.vg_names.specs.First.{first_of}
use Rattle.vg_names.specs.Unknown.{in_each}
use Rattle.vg_inline.specs.declared.keep.Keep.{Keep}
use Rattle.vg_inline.specs.declared.kept.Kept.{Kept}
use Rattle.vg_inline.specs.Bodies.{AreBodies}
use Rattle.vg_inline.specs.Context.{aliases_in, constants_in, items_of, known_as}
use Rattle.vg_inline.specs.KeptBehaviour.{item_kept_excess}
use Rattle.vg_inline.specs.Scheduled.{SomeBodies}
use Rattle.vg_inline.proofs.Making.{all_worked, some_made}
use Rattle.vg_inline.proofs.behaviours.bodies_used.Goals as goal

pub bodies_by_schedule-requires : goal.bodies_by_schedule-requires
bodies_by_schedule-requires c =
    let x = c.args.context.now in
    record { worked = all_worked c.trees_up_to-keep.result c.args.description.now x.table.now.items.now c.args.order.now x.worths.now x.aliases.now c.requires.table c.requires.distinct c.requires.order }

pub returns-in-None : goal.returns-in-None
returns-in-None c =
    let x = c.args.context.now in
    let all = c.args.description.now.items in
    let trees = c.in_ok-trees.trees in
    let first : Keep → List (Option Kept) → Option ℕ = λ k l. first_of (in_each (item_kept_excess k (items_of x) (known_as k (items_of x) (constants_in x) (aliases_in x) l)) (items_of x)) in
    let lent : c.as_slice-2.result.now ≡ trees = search rules in
    let told : c.in_ok-first_excess.field-0 ≡ first c.trees_up_to-keep.result c.as_slice-2.result.now = c.in_ok-first_excess.ensures in
    let whole : first c.trees_up_to-keep.result trees ≡ None = subst (λ (l : List (Option Kept)). first c.trees_up_to-keep.result l ≡ None) lent (sym told ∙ c.in-None.is) in
    subst (λ (k : Keep). SomeBodies k (items_of x) (constants_in x) (aliases_in x) trees → first k trees ≡ None → AreBodies all (record { trees = trees; keep = k })) (sym c.trees_up_to-keep.ensures)
    (λ some none. some_made all x c.requires.table c.requires.constants c.requires.aliases c.requires.keep c.requires.bodies c.requires.few c.args.most trees some none c.requires.most)
    c.in_ok-trees.ensures whole
