-- The resources that lack an act, by the numbers of their items.
use Rattle.std.specs.Prelude.{ℕ, Bool, false, ◌&&◌, ◌||◌, not, nat_eq, List, Option, Some, None, slice_get}
use Rattle.std.specs.List.{list_any}
use Rattle.vg_ast.specs.declared.act.Act.{Act}
use Rattle.vg_ast.specs.declared.act.Act.TheVariants as acts
use Rattle.vg_ast.specs.declared.item.Item.{Item}
use Rattle.vg_ast.specs.declared.micro_item.MicroItem.{MicroItem}
use Rattle.vg_inline.specs.declared.effect.Effect.{Effect}
use Rattle.vg_inline.specs.Inline.{number_or}
use Rattle.vg_names.specs.Numbers.{number_named}
use Rattle.vg_type.specs.Item.{Setting}
use Rattle.vg_stage.specs.declared.act_kind.ActKind.{ActKind}
use Rattle.vg_stage.specs.declared.act_kind.ActKind.TheVariants as kinds
use Rattle.vg_stage.specs.StageMet.{lines_have}
use Rattle.vg_stage.specs.StageOrder.{effect_reads, effect_writes, is_resource}

-- the number of the item on which an act of this kind is done
abbrev pub act_item : List Item → ActKind → Act → Option ℕ
act_item all kinds.Read (acts.Read at resource) = Some (number_or (number_named all resource.text))
act_item all kinds.Write (acts.Write at resource) = Some (number_or (number_named all resource.text))
act_item all _ _ = None

abbrev pub is_item : ℕ → Option ℕ → Bool
is_item k None = false
is_item k (Some n) = nat_eq k n

abbrev pub is_done_on : List Item → ActKind → ℕ → Act → Bool
is_done_on all kind k act = is_item k (act_item all kind act)

abbrev pub flag_of : Option Bool → Bool
flag_of None = false
flag_of (Some flag) = flag

abbrev pub flag_at : List Bool → ℕ → Bool
flag_at flags k = flag_of (slice_get flags k)

-- the item of a number is a resource of which no act of this kind stands in the stages
abbrev pub lacks_act : Setting → ActKind → List MicroItem → ℕ → Bool
lacks_act setting kind all k = is_resource (slice_get setting.all k) && not (lines_have (is_done_on setting.all kind k) all)

-- a resource of these lacks an act
abbrev pub some_lack : List Bool → List ℕ → Bool
some_lack flags used = list_any (flag_at flags) used

-- what a behaviour reads lacks a `read`, or what it writes a `write`
abbrev pub effect_lacks : Setting → List Bool → List Bool → Effect → Bool
effect_lacks setting reads writes x = some_lack reads (effect_reads setting x) || some_lack writes (effect_writes setting x)

abbrev pub behaviour_lacks : Setting → List Bool → List Bool → Option Effect → Bool
behaviour_lacks setting reads writes None = false
behaviour_lacks setting reads writes (Some x) = effect_lacks setting reads writes x
