use Rattle.std.proofs.Common.{ap, ◌∙◌, ◌≡◌}
use Rattle.vg_inline.specs.Context.{items_of}
use Rattle.vg_type.proofs.PlaceLemmas.{joined}
use Rattle.vg_type.specs.Faults.{of_any, of_each}
use Rattle.vg_type.specs.FirstPlaces.{first_places}
use Rattle.vg_type.specs.Item.{Setting, abi_faults, description_faults, item_faults}
use Rattle.vg_type.specs.Setting.{scope_in, setting_in}
use Rattle.vg_type.specs.declared.first_places.FirstPlaces.{FirstPlaces}
use Rattle.vg_type.proofs.describing.first_faults.Goals as goal

pub returns-clause-widths : goal.returns-clause-widths
returns-clause-widths c =
    let x = c.args.setting.now.context.now in
    let d = c.args.description.now in
    let e : c.earlier.result ≡ first_places (description_faults (setting_in x) d) =
    joined (of_each (item_faults (setting_in x)) (items_of x)) (of_any (abi_faults (scope_in x)) d.abi) c.earlier.result c.items.result c.abi.result
    c.earlier.ensures c.items.ensures c.abi.ensures in
    ap (λ (p : FirstPlaces). p.width) e ∙ ap (λ (s : Setting). (first_places (description_faults s d)).width) c.requires

pub returns-clause-ranges : goal.returns-clause-ranges
returns-clause-ranges c =
    let x = c.args.setting.now.context.now in
    let d = c.args.description.now in
    let e : c.earlier.result ≡ first_places (description_faults (setting_in x) d) =
    joined (of_each (item_faults (setting_in x)) (items_of x)) (of_any (abi_faults (scope_in x)) d.abi) c.earlier.result c.items.result c.abi.result
    c.earlier.ensures c.items.ensures c.abi.ensures in
    ap (λ (p : FirstPlaces). p.range) e ∙ ap (λ (s : Setting). (first_places (description_faults s d)).range) c.requires
