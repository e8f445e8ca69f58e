-- The rules of what a behaviour with everything in place reads and writes: no path writes a resource twice, all writes of
-- one register file have one index, all writes of memory one address and size, and so have all its reads; and an index is
-- made of fields, constants and casts alone. A resource is compared by its item, and trees as those of a processor.
use Rattle.std.specs.Prelude.{ℕ, Bool, true, false, ◌&&◌, ◌||◌, not, nat_eq, nat_le, List, [], ◌∷◌, ◌++◌, map, flat_map, Option, Some, None, if◌then◌else◌}
use Rattle.std.specs.List.{list_any}
use Rattle.vg_ast.specs.declared.item.Item.{Item}
use Rattle.vg_ast.specs.declared.item.Item.TheVariants as items
use Rattle.vg_names.specs.Definition.{Text, item_named}
use Rattle.vg_names.specs.Unknown.{in_each}
use Rattle.vg_names.specs.Numbers.{number_named}
use Rattle.vg_inline.specs.declared.head.Head.{Head}
use Rattle.vg_inline.specs.declared.head.Head.TheVariants as heads
use Rattle.vg_inline.specs.declared.tree.Tree.{Tree, fold-Tree}
use Rattle.vg_inline.specs.declared.tree.Tree.TheOpen.{Tree-F}
use Rattle.vg_inline.specs.declared.effect.Target.{Target}
use Rattle.vg_inline.specs.declared.effect.Target.TheVariants as targets
use Rattle.vg_inline.specs.declared.effect.Effect.{Effect, fold-Effect}
use Rattle.vg_inline.specs.declared.effect.Effect.TheOpen.{Effect-F}
use Rattle.vg_inline.specs.Inline.{number_or}
use Rattle.vg_inline.specs.InPlace.{Known, behaviour_of}
use Rattle.vg_type.specs.Judged.{told}
use Rattle.vg_type.specs.Scope.{field_sorts}
use Rattle.vg_type.specs.Item.{Setting}
use Rattle.vg_isa.specs.declared.expr.Expr.{Expr}
use Rattle.vg_isa.specs.Same.{same_tree}
use Rattle.vg_tree.specs.Number.{value_or}
use Rattle.vg_tree.specs.Resource.{format_id}
use Rattle.vg_tree.specs.declared.made.Made.{Made}
use Rattle.vg_tree.specs.declared.reading.Reading.{Reading}
use Rattle.vg_tree.specs.Made.{Frame, made, at_place}
use Rattle.vg_tree.specs.Written.{target_number, target_place, part_type, first_part}

-- ---- writes

-- a write: the item that it writes, its index or address, the size of memory, and the place of its name
pub record Write : Type 0 where
  pub item : ℕ
  pub at : Option Expr
  pub bytes : ℕ
  pub place : ℕ

abbrev pub target_size : Target → ℕ
target_size (targets.Resource k at) = 0
target_size (targets.Indexed k at index_at) = 0
target_size (targets.Access at size address_at) = value_or size

abbrev pub part_tree : Frame → Target → Option Made → Option Expr
part_tree frame target None = None
part_tree frame target (Some part) = Some (at_place (part_type frame.setting target) part)

abbrev pub write_of : Frame → Target → List Tree → Write
write_of frame target parts =
    record { item = target_number frame.setting target; at = part_tree frame target (first_part frame parts); bytes = target_size target; place = target_place target }

abbrev pub same_part : Option Expr → Option Expr → Bool
same_part (Some a) (Some b) = same_tree a b
same_part None None = true
same_part _ _ = false

abbrev pub same_item : Write → Write → Bool
same_item a b = nat_eq a.item b.item

-- two writes of one resource with different indices, addresses or sizes
abbrev pub differ : Write → Write → Bool
differ a b = same_item a b && not (same_part a.at b.at && nat_eq a.bytes b.bytes)

-- Of a statement: its writes, and the places of those that may not stand behind others, given the writes in front on its
-- own path and those in front on other paths.
pub record Writing : Type 0 where
  pub writes : List Write
  pub places : List Write → List Write → List ℕ

-- a write may follow none of its resource on its path, and none that differs on any path
abbrev pub may_not_follow : List Write → List Write → Write → Bool
may_not_follow path others w = list_any (same_item w) path || list_any (differ w) others

abbrev pub all_writes : List Writing → List Write
all_writes parts = flat_map (λ (part : Writing). part.writes) parts

-- the statements of a block are on one path
abbrev pub in_turn : List Writing → List Write → List Write → List ℕ
in_turn [] path others = []
in_turn (part ∷ more) path others = part.places path others ++ in_turn more (path ++ part.writes) others

abbrev pub else_writes : Option Writing → List Write
else_writes None = []
else_writes (Some other) = other.writes

abbrev pub else_places : Option Writing → List Write → List Write → List ℕ
else_places None path others = []
else_places (Some other) path others = other.places path others

abbrev pub writing_step : Frame → Effect-F Writing → Writing
writing_step frame (Effect-F.Block parts) = record { writes = all_writes parts; places = in_turn parts }
writing_step frame (Effect-F.If at condition one other) =
    record { writes = one.writes ++ else_writes other; places = λ path others. one.places path others ++ else_places other path (others ++ one.writes) }
writing_step frame (Effect-F.Assign target parts value_at value) =
    record { writes = write_of frame target parts ∷ []; places = λ path others. told (may_not_follow path others (write_of frame target parts)) (target_place target) }

abbrev pub writing : Frame → Effect → Writing
writing frame x = fold-Effect Writing (writing_step frame) x

-- the names of the second writes
abbrev pub second_writes : Frame → Effect → List ℕ
second_writes frame x = (writing frame x).places [] []

-- ---- reads

abbrev pub else_readings : Option (List Reading) → List Reading
else_readings None = []
else_readings (Some other) = other

abbrev pub tree_readings : Frame → Tree → List Reading
tree_readings frame t = (made frame t).readings

abbrev pub readings_step : Frame → Effect-F (List Reading) → List Reading
readings_step frame (Effect-F.Block parts) = flat_map (λ (part : List Reading). part) parts
readings_step frame (Effect-F.If at condition one other) = tree_readings frame condition ++ one ++ else_readings other
readings_step frame (Effect-F.Assign target parts value_at value) = flat_map (tree_readings frame) parts ++ tree_readings frame value

-- all memory reads of a behaviour; one in a condition counts also where nothing is written under it
abbrev pub readings_of : Frame → Effect → List Reading
readings_of frame x = fold-Effect (List Reading) (readings_step frame) x

abbrev pub same_reading : Reading → Reading → Bool
same_reading a b = same_tree a.address b.address && nat_eq a.bytes b.bytes

-- another read with another address or size stands no later in the text
abbrev pub is_second : List Reading → Reading → Bool
is_second all r = list_any (λ (q : Reading). nat_le q.at r.at && not (same_reading q r)) all

abbrev pub second_places : List Reading → List Reading → List ℕ
second_places all [] = []
second_places all (r ∷ more) = told (is_second all r) r.at ++ second_places all more

-- the second reads of a behaviour
abbrev pub second_readings : Frame → Effect → List ℕ
second_readings frame x = second_places (readings_of frame x) (readings_of frame x)

-- ---- indices

abbrev pub is_plain_head : Head → Bool
is_plain_head (heads.Whole value) = true
is_plain_head (heads.Constant value given) = true
is_plain_head (heads.Field k) = true
is_plain_head (heads.Cast target) = true
is_plain_head _ = false

-- of a tree: whether it is so made, and the first tokens of the indices in it that aren't
pub record Indexing : Type 0 where
  pub is_plain : Bool
  pub places : List ℕ

abbrev pub all_plain : List Indexing → Bool
all_plain [] = true
all_plain (part ∷ more) = part.is_plain && all_plain more

abbrev pub all_places : List Indexing → List ℕ
all_places parts = flat_map (λ (part : Indexing). part.places) parts

abbrev pub own_places : Head → List Indexing → List ℕ
own_places (heads.Indexed k at index_at) parts = told (not (all_plain parts)) index_at
own_places _ parts = []

abbrev pub indexing_step : Tree-F Indexing → Indexing
indexing_step layer = record { is_plain = is_plain_head layer.head && all_plain layer.parts; places = own_places layer.head layer.parts ++ all_places layer.parts }

abbrev pub indexing : Tree → Indexing
indexing t = fold-Tree Indexing indexing_step t

abbrev pub tree_indices : Tree → List ℕ
tree_indices t = (indexing t).places

-- the index of what is written
abbrev pub target_indices : Target → List Tree → List ℕ
target_indices (targets.Indexed k at index_at) parts = own_places (heads.Indexed k at index_at) (map indexing parts)
target_indices _ parts = []

abbrev pub else_indices : Option (List ℕ) → List ℕ
else_indices None = []
else_indices (Some other) = other

abbrev pub indices_step : Effect-F (List ℕ) → List ℕ
indices_step (Effect-F.Block parts) = flat_map (λ (part : List ℕ). part) parts
indices_step (Effect-F.If at condition one other) = tree_indices condition ++ one ++ else_indices other
indices_step (Effect-F.Assign target parts value_at value) = target_indices target parts ++ flat_map tree_indices parts ++ tree_indices value

-- the first tokens of the indices of a behaviour that aren't made of fields, constants and casts alone
abbrev pub wrong_indices : Effect → List ℕ
wrong_indices x = fold-Effect (List ℕ) indices_step x

-- ---- all behaviours

-- the format of an instruction, with what its fields are
abbrev pub frame_of : Setting → Text → Frame
frame_of setting format =
    record {
      setting = setting;
      format = format_id setting.all (number_or (number_named setting.all format));
      fields = field_sorts setting.globals.constants (item_named setting.all format);
    }

abbrev pub in_behaviour : (Effect → List ℕ) → Option Effect → List ℕ
in_behaviour places None = []
in_behaviour places (Some x) = places x

abbrev pub in_instruction : Setting → Known → (Frame → Effect → List ℕ) → Item → List ℕ
in_instruction setting known places (items.Instruction at name format behaviour) =
    in_behaviour (places (frame_of setting format.text)) (behaviour_of setting.all known (items.Instruction at name format behaviour))
in_instruction setting known places _ = []

abbrev pub in_instructions : Setting → Known → (Frame → Effect → List ℕ) → List ℕ
in_instructions setting known places = in_each (in_instruction setting known places) setting.all

-- places in the order of the text; what stands in the body of a function may stand before or behind its calls

abbrev pub inserted : ℕ → List ℕ → List ℕ
inserted at [] = at ∷ []
inserted at (other ∷ more) = if nat_le at other then at ∷ other ∷ more else other ∷ inserted at more

abbrev pub in_order : List ℕ → List ℕ
in_order [] = []
in_order (at ∷ more) = inserted at (in_order more)

abbrev pub two_writes : Setting → Known → List ℕ
two_writes setting known = in_instructions setting known second_writes

abbrev pub two_accesses : Setting → Known → List ℕ
two_accesses setting known = in_order (in_instructions setting known second_readings)

abbrev pub indices_not_fields : Setting → Known → List ℕ
indices_not_fields setting known = in_order (in_instructions setting known (λ frame x. wrong_indices x))
