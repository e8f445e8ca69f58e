-- What is known of the names of a description's items where expressions are typed.
use Rattle.std.specs.Prelude.{ℕ, Bool, false, ◌&&◌, ◌||◌, nat_eq, nat_le, ◌+◌, ◌-◌, List, [], ◌∷◌, map, Option, Some, None, if◌then◌else◌}
use Rattle.vg_ast.specs.declared.expr.Expr.{Expr}
use Rattle.vg_ast.specs.declared.type_expr.TypeExpr.{TypeExpr}
use Rattle.vg_ast.specs.declared.type_expr.BitsKind.TheVariants as kinds
use Rattle.vg_ast.specs.declared.item.Item.{Item}
use Rattle.vg_ast.specs.declared.item.Item.TheVariants as items
use Rattle.vg_ast.specs.declared.parameter.Parameter.{Parameter}
use Rattle.vg_ast.specs.declared.range.Range.{Range}
use Rattle.vg_ast.specs.declared.field.Field.{Field}
use Rattle.vg_names.specs.Definition.{item_named}
use Rattle.vg_whole.specs.declared.worth.Worth.{Worth}
use Rattle.vg_whole.specs.declared.worth.Worth.TheVariants as worths
use Rattle.vg_whole.specs.Whole.{Inner, Constants, whole_of}
use Rattle.vg_inline.specs.declared.declared.Declared.{Declared}
use Rattle.vg_inline.specs.declared.declared.Declared.TheVariants as declared
use Rattle.vg_inline.specs.Types.{Aliases, declared_type}
use Rattle.vg_type.specs.declared.value_type.ValueType.{ValueType}
use Rattle.vg_type.specs.declared.sort.Sort.{Sort}
use Rattle.vg_type.specs.declared.sort.Sort.TheVariants as sorts
use Rattle.vg_type.specs.ValueType.{type_of, bits_type, sort_of_type, whole_or}
use Rattle.vg_type.specs.Expression.{Scope, Signature}

-- what constants are worth, and what aliases stand for
pub record Globals : Type 0 where
  pub constants : Constants
  pub aliases : Aliases

abbrev pub declared_in : Globals → TypeExpr Expr → Declared
declared_in globals t = declared_type globals.constants globals.aliases t

-- the type that a declaration gives, where it has a width of 1 to 128
abbrev pub type_in : Globals → TypeExpr Expr → Option ValueType
type_in globals t = type_of (declared_in globals t)

-- ---- the program counter and the memory

-- a declared width; a Bool is as wide as one bit
abbrev pub width_in : Declared → Option ℕ
width_in (declared.Sized kind (worths.Whole n)) = Some n
width_in (declared.Sized kind worths.NoValue) = None
width_in (declared.Sized kind worths.Typed) = None
width_in declared.Bool = Some 1

-- a program counter and a format are 16, 32 or 64 bits wide
abbrev pub is_machine_width : ℕ → Bool
is_machine_width n = nat_eq n 16 || nat_eq n 32 || nat_eq n 64

abbrev pub has_machine_width : Option ℕ → Bool
has_machine_width None = false
has_machine_width (Some n) = is_machine_width n

-- the type of the first program counter
abbrev pub counter_type : List Item → Option (TypeExpr Expr)
counter_type [] = None
counter_type (items.ProgramCounter at name given ∷ more) = Some given
counter_type (item ∷ more) = counter_type more

abbrev pub width_given : Globals → Option (TypeExpr Expr) → Option ℕ
width_given globals None = None
width_given globals (Some t) = width_in (declared_in globals t)

-- W: the width of the program counter, and so of an address
abbrev pub address_width : List Item → Globals → Option ℕ
address_width all globals = width_given globals (counter_type all)

-- `Bits<W>`
abbrev pub address_type : Option ℕ → Option ValueType
address_type None = None
address_type (Some width) = bits_type width

-- a declared type is `Bits` of this width
abbrev pub is_bits : Option ℕ → Declared → Bool
is_bits (Some width) (declared.Sized kinds.Bits (worths.Whole n)) = nat_eq width n
is_bits _ _ = false

-- ---- names

-- a program counter has its type where it is as wide as one must be
abbrev pub counter_sort : Globals → TypeExpr Expr → Sort
counter_sort globals t = if has_machine_width (width_in (declared_in globals t)) then sort_of_type (type_in globals t) else sorts.Untyped

-- what the name of an item is as a value
abbrev pub item_sort : Globals → Option Item → Sort
item_sort globals (Some (items.Constant at name value)) = whole_or (globals.constants name.text) sorts.Untyped
item_sort globals (Some (items.ProgramCounter at name given)) = counter_sort globals given
item_sort globals (Some (items.Register at name given)) = sort_of_type (type_in globals given)
item_sort globals _ = sorts.Untyped

-- a function takes and gives what it declares, and a register file takes an index and gives a register
abbrev pub signature_of : Globals → Option Item → Option Signature
signature_of globals (Some (items.Function at name parameters given body)) =
    Some (record { parameters = map (λ (parameter : Parameter). type_in globals parameter.declared) parameters; result = type_in globals given })
signature_of globals (Some (items.RegisterFile at name index given constant)) =
    Some (record { parameters = type_in globals index ∷ []; result = type_in globals given })
signature_of globals _ = None

-- a memory of bytes at addresses of this width
abbrev pub is_memory_of : Globals → Option ℕ → Option Item → Bool
is_memory_of globals width (Some (items.Memory at name address cell)) = is_bits width (declared_in globals address) && is_bits (Some 8) (declared_in globals cell)
is_memory_of globals width _ = false

abbrev pub scope_of : List Item → Globals → Scope
scope_of all globals =
    record {
      value = λ text. item_sort globals (item_named all text);
      callee = λ text. signature_of globals (item_named all text);
      is_memory = λ text. is_memory_of globals (address_width all globals) (item_named all text);
      address = address_type (address_width all globals);
      aliases = globals.aliases;
    }

-- ---- inner names

-- parameters have the types that they declare
abbrev pub parameter_sorts : Globals → List Parameter → Inner Sort
parameter_sorts globals parameters = map (λ (parameter : Parameter). (parameter.name.text, sort_of_type (type_in globals parameter.declared))) parameters

-- how many bits there are from one to another
abbrev pub bits_between : Worth → Worth → Option ℕ
bits_between (worths.Whole high) (worths.Whole low) = Some (if nat_le low high then high + 1 - low else low + 1 - high)
bits_between _ _ = None

-- a single bit is its own low one
abbrev pub low_or : Constants → Worth → Option Expr → Worth
low_or constants high None = high
low_or constants high (Some low) = whole_of constants low []

abbrev pub high_of : Constants → Range → Worth
high_of constants range = whole_of constants range.high []

abbrev pub low_of : Constants → Range → Worth
low_of constants range = low_or constants (high_of constants range) range.low

abbrev pub sum_with : Option ℕ → Option ℕ → Option ℕ
sum_with (Some a) (Some b) = Some (a + b)
sum_with _ _ = None

-- how many bits the ranges of a field name
abbrev pub bits_named : Constants → List Range → Option ℕ
bits_named constants [] = Some 0
bits_named constants (range ∷ more) = sum_with (bits_between (high_of constants range) (low_of constants range)) (bits_named constants more)

abbrev pub bits_of : Option ℕ → Option ValueType
bits_of None = None
bits_of (Some n) = bits_type n

-- a field has the type `Bits<k>` for its k bits
abbrev pub field_type : Constants → Field → Option ValueType
field_type constants field = bits_of (bits_named constants field.ranges)

-- the fields of a format
abbrev pub field_sorts : Constants → Option Item → Inner Sort
field_sorts constants (Some (items.Format at name given fields)) = map (λ (field : Field). (field.name.text, sort_of_type (field_type constants field))) fields
field_sorts constants _ = []
