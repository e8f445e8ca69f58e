-- Reading names, signs, operands and the types of values.
use Rattle.std.specs.Prelude.{ℕ, ◌<◌, ◌≤◌, Bool, true, ◌||◌, if◌then◌else◌, List, [], ◌∷◌, codes, Option, Some, None, IfSome}
use Rattle.std.specs.Str.{bytes_eq}
use Rattle.vg_ir.specs.declared.name.NameAt.{NameAt}
use Rattle.vg_ir.specs.declared.ty.Ty.{Ty}
use Rattle.vg_ir.specs.declared.ty.Ty.TheVariants as ty
use Rattle.vg_ir.specs.declared.ty.TypeAt.{TypeAt}
use Rattle.vg_ir.specs.declared.operand.Operand.{Operand}
use Rattle.vg_ir.specs.declared.operand.TypedOperand.{TypedOperand}
use Rattle.vg_ir.specs.Shape.{integer_width}
use Rattle.vg_irparse.specs.declared.role.Role.{Role}
use Rattle.vg_irparse.specs.declared.role.Role.TheVariants as roles
use Rattle.vg_irparse.specs.declared.role.Wanted.{Wanted}
use Rattle.vg_irparse.specs.Placed.{Placed, operand, value_type}
use Rattle.vg_irparse.specs.Text.{is_local, is_global, is_number, spot}
use Rattle.vg_irparse.specs.Taking.{fixed_at}
use Rattle.vg_irparse.specs.ReadingType.{wanted}
use Rattle.vg_irparse.specs.Words.{entry_of, integer_words, constant_words}
use Rattle.vg_irparse.specs.Grammar.{is_value_type, is_number_of, is_name_or_word, is_typed, is_value, is_result_name}
use Rattle.vg_irparse.specs.Concrete.{TypeTree, TypedTree, ResultName}
use Rattle.vg_irparse.specs.Spelling.{spelled_type, spelled_typed, spelled_result_name}
use Rattle.vg_irparse.specs.Tree as tree
use Rattle.vg_irparse.specs.TreeInstruction.{result_of}
use Rattle.vg_irparse.specs.ExactType.{nesting}
use Rattle.vg_irread.specs.Kinds.{Kind, words, local, global, number}
use Rattle.vg_irread.specs.Reading.{Reader, done, token_at, ◌>>=◌}
use Rattle.vg_irread.specs.Exact.{Spelling, one}
use Rattle.vg_irread.specs.ReadingType.{type_at}

-- a place behind a type where this is wanted
abbrev pub behind : Role → Wanted
behind r = record { role = r; behind_type = true }

-- ---- signs and names

-- these very bytes, and where they stand
abbrev pub sign_at : List ℕ → Wanted → Reader ℕ
sign_at text w d ts = fixed_at text w ts

-- what a lexeme of a kind stands for
abbrev pub taken : {X : Type 0} → (List ℕ → Bool) → (Placed → X) → Placed → Option X
taken is value l = if is l.text then Some (value l) else None

abbrev pub local_at : Wanted → Reader NameAt
local_at w = token_at (taken is_local tree.name_at) w

abbrev pub global_at : Wanted → Reader NameAt
global_at w = token_at (taken is_global tree.name_at) w

-- %r =
abbrev pub result_name_at : Reader NameAt
result_name_at = do
  name ← local_at (wanted roles.Plain)
  _ ← sign_at (codes "=") (wanted roles.Plain)
  done name

abbrev pub a_result_name : Spelling ResultName NameAt
a_result_name = record { grammar = is_result_name; spelled = spelled_result_name; means = result_of; nests = λ r. 0 }

-- ---- operands

-- how many bits an integer may have
pub record IsWidth (width : ℕ) : Type 0 where
  pub wide : 0 < width
  pub narrow : width ≤ 64

-- where a type is an integer, it has so many
abbrev pub HasWidth : Ty → Type 0
HasWidth t = IfSome (integer_width t) (λ w. IsWidth w)

-- a number of an integer of so many bits, or at a type that is none
abbrev pub is_number_for : Option ℕ → List ℕ → Bool
is_number_for (Some width) text = is_number_of width text
is_number_for None text = is_number text

abbrev pub is_operand_for : Option ℕ → List ℕ → Bool
is_operand_for width text = is_name_or_word text || is_number_for width text

abbrev pub operand_at : Option ℕ → Wanted → Reader Operand
operand_at width w = token_at (taken (is_operand_for width) tree.operand_of) w

abbrev pub an_operand : Option ℕ → Spelling Placed Operand
an_operand width = one operand (λ l. is_operand_for width l.text) tree.operand_of

abbrev pub operand_kinds : List Kind
operand_kinds = local ∷ global ∷ words constant_words ∷ number ∷ []

-- ---- types of values

-- an integer or `ptr`
abbrev pub scalar_by : Option ℕ → List ℕ → Option Ty
scalar_by (Some width) text = Some (ty.Int width)
scalar_by None text = if bytes_eq text (codes "ptr") then Some ty.Ptr else None

abbrev pub scalar_in : Option Ty → Placed → Option TypeAt
scalar_in (Some t) l = Some (record { ty = t; at = spot l.at; leaves = [] })
scalar_in None l = None

abbrev pub scalar_of : Placed → Option TypeAt
scalar_of l = scalar_in (scalar_by (entry_of integer_words l.text) l.text) l

abbrev pub value_type_at : Wanted → Reader TypeAt
value_type_at w = token_at scalar_of w

abbrev pub a_value_type : Spelling TypeTree TypeAt
a_value_type = record { grammar = is_value_type; spelled = spelled_type value_type; means = tree.type_at; nests = λ t. 0 }

abbrev pub value_type_kinds : List Kind
value_type_kinds = words (codes "i1" ∷ codes "i8" ∷ codes "i16" ∷ codes "i32" ∷ codes "i64" ∷ codes "ptr" ∷ []) ∷ []

-- ---- an operand behind its type

abbrev pub typed_at : Reader TypeAt → Reader TypedOperand
typed_at type_reader = do
  t ← type_reader
  o ← operand_at (integer_width t.ty) (behind roles.Operand)
  done (record { ty = t; operand = o })

-- of a type of any kind
abbrev pub any_typed_at : Wanted → Reader TypedOperand
any_typed_at w = typed_at (type_at w)

-- of a value's type
abbrev pub value_at : Wanted → Reader TypedOperand
value_at w = typed_at (value_type_at w)

abbrev pub a_typed : Role → Spelling TypedTree TypedOperand
a_typed role = record { grammar = is_typed; spelled = spelled_typed role; means = tree.typed_of; nests = λ t. nesting t.ty }

abbrev pub a_value : Spelling TypedTree TypedOperand
a_value = record { grammar = is_value; spelled = spelled_typed value_type; means = tree.typed_of; nests = λ t. 0 }
