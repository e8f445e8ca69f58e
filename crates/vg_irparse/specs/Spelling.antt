-- The lexemes that a concrete tree spells, with others behind them: a line for each alternative of the grammar.
use Rattle.std.specs.Prelude.{ℕ, List, [], ◌∷◌, ◌++◌, codes, map, Option, Some, None, nat_eq, if◌then◌else◌}
use Rattle.vg_irparse.specs.Placed.{Placed, Mark, plain, fixed_type, any_type, value_type, operand, initial, callee, operation, count, Slot, free, marked, fixed, word, last_of_type}
use Rattle.vg_irparse.specs.declared.role.Role.{Role}
use Rattle.vg_irparse.specs.Concrete.{TypeTree, integer, pointer, array, structure, named, MoreTypes, no_more_type, one_more_type, InitialTree, simple, elements, fields, MoreInitials, no_more_initial, one_more_initial, ResultTree, void, giving, IntegerTree, AttributeTree, one_word, aligned, dereferenceable, bracketed, FunctionAttributeTree, group, function_word, function_aligned, Row, AlignTree, TypedTree, PointerTree, LabelTree, ResultName}

-- `i` and the digits of a width
abbrev pub integer_text : ℕ → List ℕ
integer_text n = if nat_eq n 1 then codes "i1"
    else (if nat_eq n 8 then codes "i8" else (if nat_eq n 16 then codes "i16" else (if nat_eq n 32 then codes "i32" else codes "i64")))

-- ---- types: the first lexeme stands where the grammar wants a type of this role

abbrev mutual
  pub spelled_type : Role → TypeTree → List Slot → List Slot
  spelled_type r (integer width at) ts = last_of_type r (marked (integer_text width) at) ∷ ts
  spelled_type r (pointer at) ts = last_of_type r (marked (codes "ptr") at) ∷ ts
  spelled_type r (array opening n by element closing) ts =
      fixed r (codes "[") opening ∷ free plain n ∷ word (codes "x") by ∷ spelled_type any_type element (last_of_type plain (marked (codes "]") closing) ∷ ts)
  spelled_type r (structure opening first more closing) ts =
      fixed r (codes "{") opening ∷ spelled_type any_type first (spelled_more_types more (last_of_type plain (marked (codes "}") closing) ∷ ts))
  spelled_type r (named name) ts = last_of_type r name ∷ ts

  pub spelled_more_types : MoreTypes → List Slot → List Slot
  spelled_more_types no_more_type ts = ts
  spelled_more_types (one_more_type comma t more) ts = word (codes ",") comma ∷ spelled_type any_type t (spelled_more_types more ts)

abbrev pub spelled_integer : IntegerTree → List Slot → List Slot
spelled_integer t ts = last_of_type fixed_type (marked (integer_text t.width) t.at) ∷ ts

abbrev pub spelled_result : ResultTree → List Slot → List Slot
spelled_result (void at) ts = last_of_type value_type (marked (codes "void") at) ∷ ts
spelled_result (giving t) ts = spelled_type value_type t ts

-- ---- initialisers

abbrev mutual
  pub spelled_initial : InitialTree → List Slot → List Slot
  spelled_initial (simple value) ts = free initial value ∷ ts
  spelled_initial (elements opening t i more closing) ts =
      fixed initial (codes "[") opening ∷ spelled_type any_type t (spelled_initial i (spelled_more_initials more (word (codes "]") closing ∷ ts)))
  spelled_initial (fields opening t i more closing) ts =
      fixed initial (codes "{") opening ∷ spelled_type any_type t (spelled_initial i (spelled_more_initials more (word (codes "}") closing ∷ ts)))

  pub spelled_more_initials : MoreInitials → List Slot → List Slot
  spelled_more_initials no_more_initial ts = ts
  spelled_more_initials (one_more_initial comma t i more) ts =
      word (codes ",") comma ∷ spelled_type any_type t (spelled_initial i (spelled_more_initials more ts))

-- ---- lists and what may lack

-- what one tree of a kind spells, with lexemes behind it
abbrev pub Spells : Type 0 → Type 0
Spells X = X → List Slot → List Slot

abbrev pub spelled_list : {X : Type 0} → Spells X → List X → List Slot → List Slot
spelled_list spells [] ts = ts
spelled_list spells (x ∷ xs) ts = spells x (spelled_list spells xs ts)

abbrev pub spelled_more : {X : Type 0} → Spells X → List (Mark × X) → List Slot → List Slot
spelled_more spells [] ts = ts
spelled_more spells (x ∷ more) ts = word (codes ",") x.0 ∷ spells x.1 (spelled_more spells more ts)

abbrev pub spelled_row : {X : Type 0} → Spells X → Row X → List Slot → List Slot
spelled_row spells row ts = spells row.first (spelled_more spells row.more ts)

abbrev pub spelled_optional : {X : Type 0} → Spells X → Option X → List Slot → List Slot
spelled_optional spells None ts = ts
spelled_optional spells (Some x) ts = spells x ts

-- a lexeme that isn't one of the rule's own
abbrev pub spelled_free : Placed → List Slot → List Slot
spelled_free l ts = free plain l ∷ ts

-- a word that may lack
abbrev pub spelled_word : List ℕ → Option Mark → List Slot → List Slot
spelled_word text m ts = spelled_optional (λ (at : Mark) rest. word text at ∷ rest) m ts

-- ---- attributes

abbrev pub spelled_attribute : AttributeTree → List Slot → List Slot
spelled_attribute (one_word w) ts = free plain w ∷ ts
spelled_attribute (aligned at number) ts = word (codes "align") at ∷ free plain number ∷ ts
spelled_attribute (dereferenceable at opening number closing) ts =
    word (codes "dereferenceable") at ∷ word (codes "(") opening ∷ free plain number ∷ word (codes ")") closing ∷ ts
spelled_attribute (bracketed w opening inner closing) ts =
    free plain w ∷ word (codes "(") opening ∷ spelled_list spelled_free inner (word (codes ")") closing ∷ ts)

abbrev pub spelled_attributes : List AttributeTree → List Slot → List Slot
spelled_attributes given ts = spelled_list spelled_attribute given ts

abbrev pub spelled_function_attribute : FunctionAttributeTree → List Slot → List Slot
spelled_function_attribute (group name) ts = free plain name ∷ ts
spelled_function_attribute (function_word w) ts = free plain w ∷ ts
spelled_function_attribute (function_aligned at number) ts = word (codes "align") at ∷ free plain number ∷ ts

abbrev pub spelled_function_attributes : List FunctionAttributeTree → List Slot → List Slot
spelled_function_attributes given ts = spelled_list spelled_function_attribute given ts

-- ---- parts of instructions

abbrev pub spelled_align : AlignTree → List Slot → List Slot
spelled_align a ts = word (codes ",") a.comma ∷ word (codes "align") a.at ∷ free plain a.number ∷ ts

-- an operand is one lexeme
abbrev pub spelled_operand : Placed → List Slot → List Slot
spelled_operand value ts = free operand value ∷ ts

-- an operand behind its type, which has this role
abbrev pub spelled_typed : Role → TypedTree → List Slot → List Slot
spelled_typed r t ts = spelled_type r t.ty (spelled_operand t.value ts)

abbrev pub spelled_pointer : PointerTree → List Slot → List Slot
spelled_pointer p ts = last_of_type fixed_type (marked (codes "ptr") p.ptr) ∷ spelled_operand p.value ts

-- i1 and a condition
abbrev pub spelled_condition : Mark → Placed → List Slot → List Slot
spelled_condition bit value ts = last_of_type fixed_type (marked (codes "i1") bit) ∷ spelled_operand value ts

abbrev pub spelled_label : LabelTree → List Slot → List Slot
spelled_label l ts = word (codes "label") l.at ∷ free plain l.name ∷ ts

abbrev pub spelled_result_name : ResultName → List Slot → List Slot
spelled_result_name r ts = free plain r.name ∷ word (codes "=") r.equal ∷ ts
