-- The resources of a description, by the numbers of their items.
use Rattle.std.specs.Prelude.{ℕ, ◌+◌, zero, suc, Bool, true, false, List, [], ◌∷◌, length, map, Option, Some, None, slice_get, if◌then◌else◌}
use Rattle.std.specs.List.{range_with_len}
use Rattle.vg_ast.specs.declared.item.Item.{Item}
use Rattle.vg_ast.specs.declared.item.Item.TheVariants as items
use Rattle.vg_type.specs.declared.value_type.ValueType.{ValueType}
use Rattle.vg_type.specs.declared.sort.Sort.{Sort}
use Rattle.vg_type.specs.declared.sort.Sort.TheVariants as sorts
use Rattle.vg_type.specs.Expression.{Signature}
use Rattle.vg_type.specs.Scope.{item_sort, signature_of}
use Rattle.vg_type.specs.Item.{Setting, index_type}
use Rattle.vg_isa.specs.declared.ids.FormatId.{FormatId}
use Rattle.vg_isa.specs.declared.ids.ResourceId.{ResourceId}
use Rattle.vg_isa.specs.declared.ids.ResourceId.TheVariants.{Memory, Reg}
use Rattle.vg_tree.specs.declared.resource.Resource.{Resource}

abbrev pub is_register : Item → Bool
is_register (items.Register at name given) = true
is_register (items.RegisterFile at name index given constant) = true
is_register _ = false

abbrev pub is_format : Item → Bool
is_format (items.Format at name given fields) = true
is_format _ = false

abbrev pub is_memory : Option Item → Bool
is_memory (Some (items.Memory at name address cell)) = true
is_memory _ = false

abbrev pub is_counter : Option Item → Bool
is_counter (Some (items.ProgramCounter at name given)) = true
is_counter _ = false

-- how many such items there are among the first ones
abbrev pub count_before : (Item → Bool) → ℕ → List Item → ℕ
count_before is zero all = 0
count_before is (suc k) [] = 0
count_before is (suc k) (item ∷ more) = if is item then 1 + count_before is k more else count_before is k more

-- the number of the first such item, and 0 where there is none
abbrev pub first_from : (Option Item → Bool) → ℕ → List Item → ℕ
first_from is k [] = 0
first_from is k (item ∷ more) = if is (Some item) then k else first_from is (k + 1) more

abbrev pub memory_number : List Item → ℕ
memory_number all = first_from is_memory 0 all

-- a register among registers, and a format among formats
abbrev pub register_id : List Item → ℕ → ℕ
register_id all k = count_before is_register k all

abbrev pub format_id : List Item → ℕ → ℕ
format_id all k = count_before is_format k all

abbrev pub with_format : ℕ → Item → ℕ
with_format formats item = if is_format item then formats + 1 else formats

abbrev pub format_numbered : List Item → ℕ → FormatId
format_numbered all k = record { 0 = format_id all k }

-- how many formats stand in front of each item
abbrev pub formats_of : List Item → List FormatId
formats_of all = map (format_numbered all) (range_with_len 0 (length all))

-- the memory, or the register that an item declares
abbrev pub resource_id : List Item → ℕ → ResourceId
resource_id all k = if is_memory (slice_get all k) then Memory else Reg (record { 0 = register_id all k })

-- ---- what behaviours name

abbrev pub typed_sort : Sort → Option ValueType
typed_sort (sorts.Typed t) = Some t
typed_sort _ = None

abbrev pub result_type : Option Signature → Option ValueType
result_type None = None
result_type (Some signature) = signature.result

abbrev pub no_resource : Resource
no_resource = record { id = record { 0 = 0 }; is_counter = false; single = None; index = None; gives = None }

-- an item, where so many registers stand in front
abbrev pub resource_of : Setting → ℕ → Item → Resource
resource_of setting registers item =
    record {
      id = record { 0 = registers };
      is_counter = is_counter (Some item);
      single = typed_sort (item_sort setting.globals (Some item));
      index = index_type (signature_of setting.globals (Some item));
      gives = result_type (signature_of setting.globals (Some item));
    }

abbrev pub resource_or : Setting → ℕ → Option Item → Resource
resource_or setting registers None = no_resource
resource_or setting registers (Some item) = resource_of setting registers item

-- the registers with an item behind so many
abbrev pub with_register : ℕ → Item → ℕ
with_register registers item = if is_register item then registers + 1 else registers

-- the item of a number
abbrev pub resource_at : Setting → ℕ → Resource
resource_at setting k = resource_or setting (register_id setting.all k) (slice_get setting.all k)

-- all items
abbrev pub resources_of : Setting → List Resource
resources_of setting = map (resource_at setting) (range_with_len 0 (length setting.all))
