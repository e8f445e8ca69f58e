use Rattle.std.proofs.Common.{◌≡◌, map, take, Some}
use Rattle.vg_ast.specs.declared.item.Item.{Item}
use Rattle.vg_stage.specs.StageOrder.{is_resource}
use Rattle.vg_stage.proofs.stage_lack.resources.Given as goal

abbrev pub invariant-loop-item : goal.invariant-loop-item
invariant-loop-item l = l.flags ≡ map (λ (item : Item). is_resource (Some item)) (take l.item-index l.items)
