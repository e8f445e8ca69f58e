-- The grammar: which concrete trees of types, initialisers, attributes and instructions are of it. A number's range belongs to it
-- at integer types; values are never of a type with parts, nor of a named one.
use Rattle.std.specs.Prelude.{ℕ, ◌^◌, Bool, true, false, not, ◌&&◌, ◌||◌, nat_eq, nat_lt, if◌then◌else◌, List, [], ◌∷◌, codes, Option, Some, None, is_some}
use Rattle.std.specs.Option.{option_map_or}
use Rattle.std.specs.List.{list_all}
use Rattle.vg_irlex.specs.Lexing.{are_digits, is_quoted, is_c_quoted, is_word_name}
use Rattle.vg_ir.specs.Shape.{is_integer_width, number_fits}
use Rattle.vg_irparse.specs.Placed.{Placed, Mark}
use Rattle.vg_irparse.specs.Text.{is_local, is_global, is_group, is_number, is_any, digits_value, written, name_bytes}
use Rattle.vg_irparse.specs.Words.{same_text, entry_of, is_one_of, linkage_words, convention_words, address_words, attribute_words, bracketed_words, function_words, constant_words, operator_words, cast_words, predicate_words, operator_flags, cast_flags, element_flags}
use Rattle.vg_irparse.specs.Concrete.{TypeTree, integer, pointer, array, structure, named, MoreTypes, no_more_type, one_more_type, InitialTree, simple, elements, fields, MoreInitials, no_more_initial, one_more_initial, ResultTree, void, giving, IntegerTree, AttributeTree, one_word, aligned, dereferenceable, bracketed, FunctionAttributeTree, group, function_word, function_aligned, Row, AlignTree, TypedTree, PointerTree, LabelTree, ResultName}

-- a lexeme whose bytes pass a test
abbrev pub is_text : (List ℕ → Bool) → Placed → Bool
is_text passes l = passes l.text

-- one that may lack
abbrev pub is_optional : {X : Type 0} → (X → Bool) → Option X → Bool
is_optional passes x = option_map_or passes x true

-- each of a row
abbrev pub is_row : {X : Type 0} → (X → Bool) → Row X → Bool
is_row passes row = passes row.first && list_all (λ x. passes x.1) row.more

-- ---- types

-- a number of elements, below 2 ^ 64
abbrev pub is_length : List ℕ → Bool
is_length text = are_digits text && nat_lt (digits_value text) (2 ^ 64)

abbrev mutual
  pub is_type : TypeTree → Bool
  is_type (integer width at) = is_integer_width width
  is_type (pointer at) = true
  is_type (array opening n by element closing) = is_length n.text && is_type element
  is_type (structure opening first more closing) = is_type first && are_more_types more
  is_type (named name) = is_local name.text

  pub are_more_types : MoreTypes → Bool
  are_more_types no_more_type = true
  are_more_types (one_more_type comma t more) = is_type t && are_more_types more

-- an integer or `ptr`
abbrev pub is_value_type : TypeTree → Bool
is_value_type (integer width at) = is_integer_width width
is_value_type (pointer at) = true
is_value_type (array opening n by element closing) = false
is_value_type (structure opening first more closing) = false
is_value_type (named name) = false

abbrev pub is_integer : IntegerTree → Bool
is_integer t = is_integer_width t.width

abbrev pub is_result : ResultTree → Bool
is_result (void at) = true
is_result (giving t) = is_value_type t

-- ---- operands and initialisers

-- a number of an integer of so many bits
abbrev pub is_number_of : ℕ → List ℕ → Bool
is_number_of width text = is_number text && number_fits width (written text)

-- a number at a type: at an integer it fits it
abbrev pub is_number_at : TypeTree → List ℕ → Bool
is_number_at (integer width at) text = is_number_of width text
is_number_at (pointer at) text = is_number text
is_number_at (array opening n by element closing) text = is_number text
is_number_at (structure opening first more closing) text = is_number text
is_number_at (named name) text = is_number text

-- a name, or a word for a value
abbrev pub is_name_or_word : List ℕ → Bool
is_name_or_word text = (is_local text || is_global text) || is_one_of constant_words text

-- an operand at a type
abbrev pub is_operand_at : TypeTree → List ℕ → Bool
is_operand_at t text = is_name_or_word text || is_number_at t text

-- an operand of an integer of so many bits
abbrev pub is_operand_of : ℕ → List ℕ → Bool
is_operand_of width text = is_name_or_word text || is_number_of width text

-- an operand of `ptr`
abbrev pub is_pointer_operand : List ℕ → Bool
is_pointer_operand text = is_name_or_word text || is_number text

-- an initialiser of one lexeme, at a type
abbrev pub is_simple_at : TypeTree → List ℕ → Bool
is_simple_at t text =
    ((is_global text || is_one_of constant_words text) || (same_text (codes "zeroinitializer") text || is_c_quoted text)) || is_number_at t text

abbrev mutual
  pub is_initial_at : TypeTree → InitialTree → Bool
  is_initial_at t (simple value) = is_simple_at t value.text
  is_initial_at t (elements opening u i more closing) = (is_type u && is_initial_at u i) && are_more_initials more
  is_initial_at t (fields opening u i more closing) = (is_type u && is_initial_at u i) && are_more_initials more

  pub are_more_initials : MoreInitials → Bool
  are_more_initials no_more_initial = true
  are_more_initials (one_more_initial comma u i more) = (is_type u && is_initial_at u i) && are_more_initials more

-- ---- attributes

-- lexemes of any kind, none of which is this sign
abbrev pub are_within : List ℕ → List Placed → Bool
are_within closing inner = list_all (λ (l : Placed). is_any l.text && not (same_text closing l.text)) inner

abbrev pub is_attribute : AttributeTree → Bool
is_attribute (one_word w) = is_one_of attribute_words w.text
is_attribute (aligned at number) = are_digits number.text
is_attribute (dereferenceable at opening number closing) = are_digits number.text
is_attribute (bracketed w opening inner closing) = is_one_of bracketed_words w.text && are_within (codes ")") inner

abbrev pub is_function_attribute : FunctionAttributeTree → Bool
is_function_attribute (group name) = is_group name.text
is_function_attribute (function_word w) = is_one_of function_words w.text
is_function_attribute (function_aligned at number) = are_digits number.text

-- ---- parts of instructions

abbrev pub is_align : AlignTree → Bool
is_align a = are_digits a.number.text

-- an operand behind a type of any kind
abbrev pub is_typed : TypedTree → Bool
is_typed t = is_type t.ty && is_operand_at t.ty t.value.text

-- a value: an operand behind the type of a value
abbrev pub is_value : TypedTree → Bool
is_value t = is_value_type t.ty && is_operand_at t.ty t.value.text

abbrev pub is_pointer : PointerTree → Bool
is_pointer p = is_pointer_operand p.value.text

abbrev pub is_target : LabelTree → Bool
is_target l = is_local l.name.text

abbrev pub is_result_name : ResultName → Bool
is_result_name r = is_local r.name.text

-- flags that stand in this order, each at most once
abbrev pub are_flags : List (List ℕ) → List Placed → Bool
are_flags [] [] = true
are_flags [] (f ∷ fs) = false
are_flags (w ∷ ws) [] = true
are_flags (w ∷ ws) (f ∷ fs) = if same_text w f.text then are_flags ws fs else are_flags ws (f ∷ fs)

-- the word of an instruction with two operands, and its flags
abbrev pub is_operator : Placed → List Placed → Bool
is_operator op flags = option_map_or (λ o. are_flags (operator_flags o) flags) (entry_of operator_words op.text) false

-- the word of a cast, and its flags
abbrev pub is_cast : Placed → List Placed → Bool
is_cast op flags = option_map_or (λ o. are_flags (cast_flags o) flags) (entry_of cast_words op.text) false
