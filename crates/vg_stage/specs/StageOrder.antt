-- The rules of the stages of a micro architecture.
use Rattle.std.specs.Prelude.{ℕ, ◌+◌, Bool, true, false, ◌&&◌, ◌||◌, not, nat_eq, nat_le, nat_lt, List, [], ◌∷◌, ◌++◌, map, flat_map, Option, Some, None, slice_get}
use Rattle.std.specs.List.{list_any}
use Rattle.std.specs.Str.{bytes_eq}
use Rattle.vg_ast.specs.declared.name.Name.{Name}
use Rattle.vg_ast.specs.declared.item.Item.{Item}
use Rattle.vg_ast.specs.declared.act.Act.{Act}
use Rattle.vg_ast.specs.declared.act.Act.TheVariants as acts
use Rattle.vg_ast.specs.declared.micro_item.MicroItem.{MicroItem}
use Rattle.vg_ast.specs.declared.micro_item.MicroItem.TheVariants as lines
use Rattle.vg_ast.specs.declared.micro.Micro.{Micro}
use Rattle.vg_names.specs.Definition.{Text, item_named, is_among}
use Rattle.vg_names.specs.Numbers.{number_named}
use Rattle.vg_inline.specs.declared.head.Head.{Head}
use Rattle.vg_inline.specs.declared.head.Head.TheVariants as heads
use Rattle.vg_inline.specs.declared.tree.Tree.{Tree, fold-Tree}
use Rattle.vg_inline.specs.declared.tree.Tree.TheOpen.{Tree-F}
use Rattle.vg_inline.specs.declared.effect.Effect.{Effect, fold-Effect}
use Rattle.vg_inline.specs.declared.effect.Effect.TheOpen.{Effect-F}
use Rattle.vg_inline.specs.Inline.{number_or}
use Rattle.vg_inline.specs.InPlace.{Known, behaviour_of}
use Rattle.vg_type.specs.Judged.{told}
use Rattle.vg_type.specs.Item.{Setting}
use Rattle.vg_tree.specs.Resource.{is_memory, is_register, memory_number}
use Rattle.vg_tree.specs.Written.{target_number}

-- ---- what instructions read and write, by the numbers of items

abbrev pub head_reads : Setting → Head → List ℕ
head_reads setting (heads.Resource k) = k ∷ []
head_reads setting (heads.Indexed k at index_at) = k ∷ []
head_reads setting (heads.Access at size address_at) = memory_number setting.all ∷ []
head_reads setting _ = []

abbrev pub all_of : List (List ℕ) → List ℕ
all_of parts = flat_map (λ (part : List ℕ). part) parts

abbrev pub reads_step : Setting → Tree-F (List ℕ) → List ℕ
reads_step setting layer = head_reads setting layer.head ++ all_of layer.parts

abbrev pub tree_reads : Setting → Tree → List ℕ
tree_reads setting t = fold-Tree (List ℕ) (reads_step setting) t

abbrev pub else_numbers : Option (List ℕ) → List ℕ
else_numbers None = []
else_numbers (Some other) = other

abbrev pub effect_reads_step : Setting → Effect-F (List ℕ) → List ℕ
effect_reads_step setting (Effect-F.Block parts) = all_of parts
effect_reads_step setting (Effect-F.If at condition one other) = tree_reads setting condition ++ one ++ else_numbers other
effect_reads_step setting (Effect-F.Assign target parts value_at value) = flat_map (tree_reads setting) parts ++ tree_reads setting value

abbrev pub effect_reads : Setting → Effect → List ℕ
effect_reads setting x = fold-Effect (List ℕ) (effect_reads_step setting) x

abbrev pub effect_writes_step : Setting → Effect-F (List ℕ) → List ℕ
effect_writes_step setting (Effect-F.Block parts) = all_of parts
effect_writes_step setting (Effect-F.If at condition one other) = one ++ else_numbers other
effect_writes_step setting (Effect-F.Assign target parts value_at value) = target_number setting target ∷ []

abbrev pub effect_writes : Setting → Effect → List ℕ
effect_writes setting x = fold-Effect (List ℕ) (effect_writes_step setting) x

abbrev pub in_effect : (Effect → List ℕ) → Option Effect → List ℕ
in_effect numbers None = []
in_effect numbers (Some x) = numbers x

abbrev pub in_all : Setting → Known → (Effect → List ℕ) → List ℕ
in_all setting known numbers = flat_map (λ (item : Item). in_effect numbers (behaviour_of setting.all known item)) setting.all

-- what some instruction reads, and what some instruction writes
abbrev pub all_reads : Setting → Known → List ℕ
all_reads setting known = in_all setting known (effect_reads setting)

abbrev pub all_writes : Setting → Known → List ℕ
all_writes setting known = in_all setting known (effect_writes setting)

-- ---- acts

-- an act in the stage of a number
abbrev pub Placed : Type 0
Placed = ℕ × Act

-- the acts of all stages, the first of these stages having this number
abbrev pub acts_from : ℕ → List MicroItem → List Placed
acts_from s [] = []
acts_from s (lines.Stage at name given ∷ more) = map (λ (act : Act). (s, act)) given ++ acts_from (s + 1) more
acts_from s (lines.Forward at resource ∷ more) = acts_from s more

abbrev pub stage_count : List MicroItem → ℕ
stage_count [] = 0
stage_count (lines.Stage at name given ∷ more) = 1 + stage_count more
stage_count (lines.Forward at resource ∷ more) = stage_count more

abbrev pub act_start : Act → ℕ
act_start (acts.Read at resource) = at
act_start (acts.Write at resource) = at
act_start (acts.Compute at) = at
act_start (acts.Resolve at) = at

-- two acts of which one may stand alone: of the same kind, on the same resource
abbrev pub same_act : Act → Act → Bool
same_act (acts.Read at resource) (acts.Read other_at other) = bytes_eq resource.text other.text
same_act (acts.Write at resource) (acts.Write other_at other) = bytes_eq resource.text other.text
same_act (acts.Compute at) (acts.Compute other_at) = true
same_act (acts.Resolve at) (acts.Resolve other_at) = true
same_act _ _ = false

-- the first act may not stand in a later stage than the second: `resolve` and any write, a read and the write of its resource
abbrev pub is_before : Act → Act → Bool
is_before (acts.Resolve at) (acts.Write other_at other) = true
is_before (acts.Read at resource) (acts.Write other_at other) = bytes_eq resource.text other.text
is_before _ _ = false

abbrev pub is_too_late : Placed → Placed → Bool
is_too_late act other = is_before act.1 other.1 && nat_lt other.0 act.0

-- an act that stands a second time, or too late for one of all acts
abbrev pub is_wrong_act : List Placed → List Placed → Placed → Bool
is_wrong_act all front act = list_any (λ (other : Placed). same_act other.1 act.1) front || list_any (is_too_late act) all

abbrev pub wrong_acts : List Placed → List Placed → List Placed → List ℕ
wrong_acts all front [] = []
wrong_acts all front (act ∷ more) = told (is_wrong_act all front act) (act_start act.1) ++ wrong_acts all (front ++ act ∷ []) more

-- ---- `forward`

-- of the memory, or a second time
abbrev pub is_wrong_forward : Setting → List Text → Name → Bool
is_wrong_forward setting front resource = is_memory (item_named setting.all resource.text) || is_among resource.text front

-- ---- the lines

-- the acts and `forward`s at fault, where the acts of the stages in front and the names that are forwarded there are these,
-- and so many stages stand in front
abbrev pub wrong_lines : Setting → List Placed → List Placed → List Text → ℕ → List MicroItem → List ℕ
wrong_lines setting all front forwarded s [] = []
wrong_lines setting all front forwarded s (lines.Stage at name given ∷ more) =
    wrong_acts all front (map (λ (act : Act). (s, act)) given)
    ++ wrong_lines setting all (front ++ map (λ (act : Act). (s, act)) given) forwarded (s + 1) more
wrong_lines setting all front forwarded s (lines.Forward at resource ∷ more) =
    told (is_wrong_forward setting forwarded resource) at ++ wrong_lines setting all front (resource.text ∷ forwarded) s more

-- ---- what lacks

abbrev pub is_read_of : Setting → ℕ → Act → Bool
is_read_of setting k (acts.Read at resource) = nat_eq k (number_or (number_named setting.all resource.text))
is_read_of setting k _ = false

abbrev pub is_write_of : Setting → ℕ → Act → Bool
is_write_of setting k (acts.Write at resource) = nat_eq k (number_or (number_named setting.all resource.text))
is_write_of setting k _ = false

abbrev pub is_compute : Act → Bool
is_compute (acts.Compute at) = true
is_compute _ = false

abbrev pub is_resolve : Act → Bool
is_resolve (acts.Resolve at) = true
is_resolve _ = false

abbrev pub has_act : List Placed → (Act → Bool) → Bool
has_act all is = list_any (λ (act : Placed). is act.1) all

-- the program counter is no resource
abbrev pub is_resource : Option Item → Bool
is_resource None = false
is_resource (Some item) = is_register item || is_memory (Some item)

-- a resource of these that has no such act
abbrev pub lacks : Setting → List Placed → (ℕ → Act → Bool) → List ℕ → Bool
lacks setting all is used = list_any (λ k. is_resource (slice_get setting.all k) && not (has_act all (is k))) used

abbrev pub is_wrong_count : ℕ → Bool
is_wrong_count stages = not (nat_le 1 stages && nat_le stages 16)

abbrev pub is_lacking : Setting → Known → List Placed → ℕ → Bool
is_lacking setting known all stages =
    is_wrong_count stages || not (has_act all is_compute) || not (has_act all is_resolve)
    || lacks setting all (is_read_of setting) (all_reads setting known) || lacks setting all (is_write_of setting) (all_writes setting known)

-- the acts and `forward`s at fault; a lacking act and a wrong number of stages are told at the `}` of the part
abbrev pub stage_breaks : Setting → Known → Option Micro → List ℕ
stage_breaks setting known None = []
stage_breaks setting known (Some micro) =
    wrong_lines setting (acts_from 0 micro.items) [] [] 0 micro.items
    ++ told (is_lacking setting known (acts_from 0 micro.items) (stage_count micro.items)) micro.close
