-- What a concrete tree stands for: the module without the words that are skipped.
use Rattle.std.specs.Prelude.{ℕ, ◌+◌, Bool, true, false, ◌&&◌, ◌==◌, if◌then◌else◌, List, [], ◌∷◌, ◌++◌, codes, map, flat_map, Option, Some, None, unwrap_or}
use Rattle.std.specs.Option.{option_map, option_map_or}
use Rattle.vg_irlex.specs.Lexing.{are_digits, is_c_quoted}
use Rattle.vg_ir.specs.declared.spot.Spot.{Spot}
use Rattle.vg_ir.specs.declared.name.Name.{Name}
use Rattle.vg_ir.specs.declared.name.NameAt.{NameAt}
use Rattle.vg_ir.specs.declared.ty.Ty.{Ty}
use Rattle.vg_ir.specs.declared.ty.Ty.TheVariants as ty
use Rattle.vg_ir.specs.declared.ty.TypeAt.{TypeAt}
use Rattle.vg_ir.specs.declared.ty.IntegerAt.{IntegerAt}
use Rattle.vg_ir.specs.declared.operand.Value.{Value}
use Rattle.vg_ir.specs.declared.operand.Value.TheVariants as values
use Rattle.vg_ir.specs.declared.operand.Operand.{Operand}
use Rattle.vg_ir.specs.declared.operand.TypedOperand.{TypedOperand}
use Rattle.vg_ir.specs.declared.initializer.Initializer.{Initializer}
use Rattle.vg_ir.specs.declared.initializer.Initializer.TheVariants as initial
use Rattle.vg_ir.specs.declared.global.Alignment.{Alignment}
use Rattle.vg_irparse.specs.Placed.{Placed, Mark}
use Rattle.vg_irparse.specs.Text.{is_local, is_global, digits_value, kept, number_of, name_bytes, c_bytes, name_of, spot}
use Rattle.vg_irparse.specs.Words.{same_text, entry_of}
use Rattle.vg_irparse.specs.Concrete.{TypeTree, integer, pointer, array, structure, named, MoreTypes, no_more_type, one_more_type, InitialTree, simple, elements, fields, MoreInitials, no_more_initial, one_more_initial, ResultTree, void, giving, IntegerTree, Row, AlignTree, TypedTree, PointerTree, LabelTree, ResultName}

-- what a row has
abbrev pub items_of : {X : Type 0} → Row X → List X
items_of row = row.first ∷ map (λ x. x.1) row.more

abbrev pub optional_items : {X : Type 0} → Option (Row X) → List X
optional_items row = option_map_or items_of row []

-- a name behind its `%` or `@`, and its place
abbrev pub name_at : Placed → NameAt
name_at l = record { name = name_of (name_bytes l.text); at = spot l.at }

-- ---- types

abbrev mutual
  pub type_of : TypeTree → Ty
  type_of (integer width at) = ty.Int width
  type_of (pointer at) = ty.Ptr
  type_of (array opening n by element closing) = ty.Array (digits_value n.text) (type_of element)
  type_of (structure opening first more closing) = ty.Struct (type_of first ∷ types_of more)
  type_of (named name) = ty.Named (name_of (name_bytes name.text))

  pub types_of : MoreTypes → List Ty
  types_of no_more_type = []
  types_of (one_more_type comma t more) = type_of t ∷ types_of more

-- where the integers, `ptr`s and names of a type stand
abbrev mutual
  pub all_leaves : TypeTree → List Spot
  all_leaves (integer width at) = spot at.at ∷ []
  all_leaves (pointer at) = spot at.at ∷ []
  all_leaves (array opening n by element closing) = all_leaves element
  all_leaves (structure opening first more closing) = all_leaves first ++ more_leaves more
  all_leaves (named name) = spot name.at ∷ []

  pub more_leaves : MoreTypes → List Spot
  more_leaves no_more_type = []
  more_leaves (one_more_type comma t more) = all_leaves t ++ more_leaves more

-- those of a type with parts
abbrev pub leaves_of : TypeTree → List Spot
leaves_of (integer width at) = []
leaves_of (pointer at) = []
leaves_of (array opening n by element closing) = all_leaves element
leaves_of (structure opening first more closing) = all_leaves first ++ more_leaves more
leaves_of (named name) = []

-- where a type begins
abbrev pub start_of : TypeTree → ℕ
start_of (integer width at) = at.at
start_of (pointer at) = at.at
start_of (array opening n by element closing) = opening.at
start_of (structure opening first more closing) = opening.at
start_of (named name) = name.at

abbrev pub type_at : TypeTree → TypeAt
type_at t = record { ty = type_of t; at = spot (start_of t); leaves = leaves_of t }

abbrev pub result_type : ResultTree → Option TypeAt
result_type (void at) = None
result_type (giving t) = Some (type_at t)

abbrev pub integer_at : IntegerTree → IntegerAt
integer_at t = record { width = t.width; at = spot t.at.at }

-- ---- operands

-- the words that are operands
abbrev pub constant_values : List (List ℕ × Value)
constant_values =
    (codes "true", values.True) ∷ (codes "false", values.False) ∷ (codes "null", values.Null) ∷ (codes "undef", values.Undef)
    ∷ (codes "poison", values.Poison) ∷ []

-- what an operand names: what isn't a name or one of the words is a number
abbrev pub value_of : List ℕ → Value
value_of text =
    if is_local text then values.Local (name_of (name_bytes text))
    else (if is_global text then values.Global (name_of (name_bytes text))
    else unwrap_or (entry_of constant_values text) (values.Number (number_of text)))

abbrev pub operand_of : Placed → Operand
operand_of l = record { value = value_of l.text; at = spot l.at }

abbrev pub typed_of : TypedTree → TypedOperand
typed_of t = record { ty = type_at t.ty; operand = operand_of t.value }

abbrev pub target_of : LabelTree → NameAt
target_of l = name_at l.name

abbrev pub alignment_of : AlignTree → Alignment
alignment_of a = record { bytes = kept (digits_value a.number.text); at = spot a.number.at }

-- ---- initialisers

-- one of one lexeme
abbrev pub simple_of : List ℕ → ℕ → Initializer
simple_of text at =
    if is_global text then initial.Global (name_of (name_bytes text)) (spot at)
    else (if is_c_quoted text then initial.Text (c_bytes text) (spot at)
    else (if same_text (codes "true") text then initial.True (spot at)
    else (if same_text (codes "false") text then initial.False (spot at)
    else (if same_text (codes "null") text then initial.Null (spot at)
    else (if same_text (codes "zeroinitializer") text then initial.Zero (spot at)
    else (if same_text (codes "undef") text then initial.Undef (spot at)
    else (if same_text (codes "poison") text then initial.Poison (spot at)
    else initial.Number (number_of text) (spot at))))))))

abbrev mutual
  pub initial_of : InitialTree → Initializer
  initial_of (simple value) = simple_of value.text value.at
  initial_of (elements opening t i more closing) = initial.Array ((type_at t, initial_of i) ∷ initials_of more) (spot opening.at)
  initial_of (fields opening t i more closing) = initial.Struct ((type_at t, initial_of i) ∷ initials_of more) (spot opening.at)

  pub initials_of : MoreInitials → List (TypeAt × Initializer)
  initials_of no_more_initial = []
  initials_of (one_more_initial comma t i more) = (type_at t, initial_of i) ∷ initials_of more
