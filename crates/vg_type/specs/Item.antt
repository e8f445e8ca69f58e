-- The places in a description at which types and ranges are broken.
use Rattle.std.specs.Prelude.{ℕ, Bool, true, false, ◌||◌, not, nat_eq, nat_lt, List, [], ◌∷◌, Option, Some, None}
use Rattle.vg_ast.specs.declared.expr.Expr.{Expr}
use Rattle.vg_ast.specs.declared.type_expr.TypeExpr.{TypeExpr}
use Rattle.vg_ast.specs.declared.type_expr.TypeExpr.TheVariants as types
use Rattle.vg_ast.specs.declared.type_expr.BitsKind.TheVariants as kinds
use Rattle.vg_ast.specs.declared.item.Item.{Item}
use Rattle.vg_ast.specs.declared.item.Item.TheVariants as items
use Rattle.vg_ast.specs.declared.parameter.Parameter.{Parameter}
use Rattle.vg_ast.specs.declared.range.Range.{Range}
use Rattle.vg_ast.specs.declared.field.Field.{Field}
use Rattle.vg_ast.specs.declared.fix.Fix.{Fix}
use Rattle.vg_ast.specs.declared.part.Part.{Part}
use Rattle.vg_ast.specs.declared.part.Part.TheVariants as parts
use Rattle.vg_ast.specs.declared.register.Register.{Register}
use Rattle.vg_ast.specs.declared.role.Role.{Role}
use Rattle.vg_ast.specs.declared.role.Role.TheVariants as roles
use Rattle.vg_ast.specs.declared.abi.Abi.{Abi}
use Rattle.vg_ast.specs.declared.desc.Desc.{Desc}
use Rattle.vg_names.specs.Definition.{item_named}
use Rattle.vg_whole.specs.Worths.{constants_of}
use Rattle.vg_inline.specs.declared.declared.Declared.{Declared}
use Rattle.vg_inline.specs.declared.declared.Declared.TheVariants as declared
use Rattle.vg_inline.specs.Types.{aliases_of}
use Rattle.vg_type.specs.declared.value_type.ValueType.{ValueType}
use Rattle.vg_type.specs.declared.sort.Sort.{Sort}
use Rattle.vg_type.specs.declared.sort.Sort.TheVariants as sorts
use Rattle.vg_type.specs.Judged.{Judged, told}
use Rattle.vg_type.specs.Expression.{Scope, Signature, judged, type_over, type_widths, type_ranges}
use Rattle.vg_type.specs.Scope.{Globals, declared_in, type_in, width_in, has_machine_width, address_width, is_bits, scope_of, parameter_sorts, field_sorts}
use Rattle.vg_type.specs.Faults.{Faults, no_faults, both, of_each, of_any, at_type, at_number}
use Rattle.vg_type.specs.Statement.{statement_faults}

-- the items of a description, and what is known of their names
pub record Setting : Type 0 where
  pub all : List Item
  pub globals : Globals
  pub scope : Scope

-- ---- declared types, outside of all inner names

abbrev pub type_start : TypeExpr Expr → ℕ
type_start (types.Sized kind at width) = at
type_start (types.Bool at) = at
type_start (types.Alias name) = name.at

-- the places in a type as it is written
abbrev pub in_type : Scope → TypeExpr Expr → Faults
in_type scope t =
    record { widths = type_widths (type_over (λ e. judged scope e []) t); ranges = type_ranges (type_over (λ e. judged scope e []) t) }

-- the first token of a type, where its place forbids it
abbrev pub forbidden : Bool → TypeExpr Expr → Faults
forbidden test t = record { widths = told test (type_start t); ranges = [] }

-- the first token of a type that isn't as wide as its place asks for
abbrev pub misfit : Bool → TypeExpr Expr → Faults
misfit test t = record { widths = []; ranges = told test (type_start t) }

abbrev pub is_bool_type : Declared → Bool
is_bool_type declared.Bool = true
is_bool_type (declared.Sized kind width) = false

abbrev pub is_bits_type : Declared → Bool
is_bits_type (declared.Sized kinds.Bits width) = true
is_bits_type _ = false

-- a register and the program counter aren't Bool
abbrev pub no_bool : Setting → TypeExpr Expr → Faults
no_bool setting t = both (forbidden (is_bool_type (declared_in setting.globals t)) t) (in_type setting.scope t)

-- the index of a register file is Bits
abbrev pub index_faults : Setting → TypeExpr Expr → Faults
index_faults setting t = both (forbidden (not (is_bits_type (declared_in setting.globals t))) t) (in_type setting.scope t)

abbrev pub is_no_machine_width : Option ℕ → Bool
is_no_machine_width None = false
is_no_machine_width (Some n) = not (has_machine_width (Some n))

abbrev pub counter_faults : Setting → TypeExpr Expr → Faults
counter_faults setting t = both (misfit (is_no_machine_width (width_in (declared_in setting.globals t))) t) (no_bool setting t)

-- a type of memory is `Bits` of the width that its place asks for, where that is known
abbrev pub is_other : Option ℕ → Declared → Bool
is_other None t = false
is_other (Some width) t = not (is_bits (Some width) t)

abbrev pub cell_faults : Setting → Option ℕ → TypeExpr Expr → Faults
cell_faults setting width t = both (misfit (is_other width (declared_in setting.globals t)) t) (in_type setting.scope t)

-- a memory goes from addresses to bytes; of its two types the first that is wrong is told
abbrev pub memory_faults : Setting → TypeExpr Expr → TypeExpr Expr → Faults
memory_faults setting address cell = both (cell_faults setting (address_width setting.all setting.globals) address) (cell_faults setting (Some 8) cell)

-- ---- formats

-- the type of the first format
abbrev pub first_format : List Item → Option (TypeExpr Expr)
first_format [] = None
first_format (items.Format at name given fields ∷ more) = Some given
first_format (item ∷ more) = first_format more

abbrev pub width_given : Globals → Option (TypeExpr Expr) → Option ℕ
width_given globals None = None
width_given globals (Some t) = width_in (declared_in globals t)

abbrev pub differ : Option ℕ → Option ℕ → Bool
differ (Some a) (Some b) = not (nat_eq a b)
differ _ _ = false

-- a format is 16, 32 or 64 bits wide, and as wide as the first one
abbrev pub is_wrong_format : Option ℕ → Option ℕ → Bool
is_wrong_format first width = is_no_machine_width width || differ first width

abbrev pub format_type_faults : Setting → TypeExpr Expr → Faults
format_type_faults setting t =
    both (misfit (is_wrong_format (width_given setting.globals (first_format setting.all)) (width_in (declared_in setting.globals t))) t) (in_type setting.scope t)

abbrev pub number_faults : Scope → Expr → Faults
number_faults scope e = at_number (judged scope e [])

abbrev pub range_faults : Scope → Range → Faults
range_faults scope range = both (number_faults scope range.high) (of_any (number_faults scope) range.low)

abbrev pub field_faults : Scope → Field → Faults
field_faults scope field = of_each (range_faults scope) field.ranges

-- ---- items

abbrev pub function_faults : Setting → List Parameter → TypeExpr Expr → Expr → Faults
function_faults setting parameters given body =
    both (of_each (λ (parameter : Parameter). in_type setting.scope parameter.declared) parameters)
    (both (in_type setting.scope given)
    (at_type (type_in setting.globals given) (judged setting.scope body (parameter_sorts setting.globals parameters))))

-- a whole number at a place of this type, or an expression that has a type where none may have one
abbrev pub number_at : Scope → Option ValueType → Expr → Faults
number_at scope t e = record { widths = (number_faults scope e).widths; ranges = (at_type t (judged scope e [])).ranges }

abbrev pub file_faults : Setting → TypeExpr Expr → TypeExpr Expr → Option Expr → Faults
file_faults setting index given constant =
    both (index_faults setting index) (both (no_bool setting given) (of_any (number_at setting.scope (type_in setting.globals index)) constant))

-- the number in a `target` is at most 63
abbrev pub power_ranges : ℕ → Sort → List ℕ
power_ranges at (sorts.Whole n) = told (nat_lt 63 n) at
power_ranges at _ = []

abbrev pub power_faults : Judged → Faults
power_faults j = both (at_number j) (record { widths = []; ranges = power_ranges j.start j.sort })

abbrev pub part_faults : Scope → Part → Faults
part_faults scope (parts.Target at field shift) = power_faults (judged scope shift [])
part_faults scope _ = no_faults

abbrev pub item_faults : Setting → Item → Faults
item_faults setting (items.Constant at name value) = number_faults setting.scope value
item_faults setting (items.Using at name meaning) = in_type setting.scope meaning
item_faults setting (items.Function at name parameters given body) = function_faults setting parameters given body
item_faults setting (items.ProgramCounter at name given) = counter_faults setting given
item_faults setting (items.Memory at name address cell) = memory_faults setting address cell
item_faults setting (items.Register at name given) = no_bool setting given
item_faults setting (items.RegisterFile at name index given constant) = file_faults setting index given constant
item_faults setting (items.Format at name given fields) = both (format_type_faults setting given) (of_each (field_faults setting.scope) fields)
item_faults setting (items.Instruction at name format behaviour) =
    statement_faults setting.scope behaviour (field_sorts setting.globals.constants (item_named setting.all format.text))
item_faults setting (items.Encoding at name fixes) = of_each (λ (fix : Fix). number_faults setting.scope fix.value) fixes
item_faults setting (items.Assembly at name row) = of_each (part_faults setting.scope) row

-- ---- the binary interface

-- the type of a file's indices
abbrev pub first_type : List (Option ValueType) → Option ValueType
first_type [] = None
first_type (t ∷ more) = t

abbrev pub index_type : Option Signature → Option ValueType
index_type None = None
index_type (Some signature) = first_type signature.parameters

-- a register's index is a whole number that fits the index type of its file
abbrev pub register_faults : Scope → Register → Faults
register_faults scope register = number_at scope (index_type (scope.callee register.file.text)) register.index

abbrev pub role_faults : Scope → Role → Faults
role_faults scope (roles.StackPointer at register) = register_faults scope register
role_faults scope (roles.ReturnAddress at register) = register_faults scope register
role_faults scope (roles.ReturnValue at register) = register_faults scope register
role_faults scope (roles.Arguments at registers) = of_each (register_faults scope) registers
role_faults scope (roles.Temporaries at registers) = of_each (register_faults scope) registers
role_faults scope (roles.Saved at registers) = of_each (register_faults scope) registers
role_faults scope (roles.Code at base) = number_faults scope base
role_faults scope (roles.Data at base) = number_faults scope base
role_faults scope (roles.Stack at low high) = both (number_faults scope low) (number_faults scope high)

abbrev pub abi_faults : Scope → Abi → Faults
abi_faults scope abi = of_each (role_faults scope) abi.roles

-- ---- the whole

abbrev pub globals_of : List Item → Globals
globals_of all = record { constants = constants_of all; aliases = aliases_of all (constants_of all) }

abbrev pub setting_by : List Item → Globals → Setting
setting_by all globals = record { all = all; globals = globals; scope = scope_of all globals }

abbrev pub setting_of : List Item → Setting
setting_of all = setting_by all (globals_of all)

abbrev pub description_faults : Setting → Desc → Faults
description_faults setting d = both (of_each (item_faults setting) setting.all) (of_any (abi_faults setting.scope) d.abi)

-- the places at which a description breaks the rules of types
abbrev pub wrong_widths : Desc → List ℕ
wrong_widths d = (description_faults (setting_of d.items) d).widths

-- the places at which it leaves a range
abbrev pub wrong_ranges : Desc → List ℕ
wrong_ranges d = (description_faults (setting_of d.items) d).ranges
