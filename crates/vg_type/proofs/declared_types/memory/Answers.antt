use Rattle.std.proofs.Common.{Some, ◌≡◌}
use Rattle.vg_inline.specs.Context.{items_of}
use Rattle.vg_type.proofs.PlaceLemmas.{joined}
use Rattle.vg_type.specs.FirstPlaces.{first_places}
use Rattle.vg_type.specs.Item.{cell_faults}
use Rattle.vg_type.specs.Scope.{address_width}
use Rattle.vg_type.specs.Setting.{globals_in, setting_in}
use Rattle.vg_type.proofs.declared_types.memory.Goals as goal

pub returns : goal.returns
returns c =
    let x = c.args.setting.now.context.now in
    let s = setting_in x in
    let e : c.cell.result ≡ first_places (cell_faults s (address_width (items_of x) (globals_in x)) c.args.address.now) = cc in
    joined (cell_faults s (address_width (items_of x) (globals_in x)) c.args.address.now) (cell_faults s (Some 8) c.args.byte.now) c.earlier.result c.cell.result c.cell-2.result
    c.earlier.ensures e c.cell-2.ensures
