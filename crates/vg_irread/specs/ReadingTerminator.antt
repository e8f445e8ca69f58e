-- Reading terminators.
use Rattle.std.specs.Prelude.{ℕ, List, [], ◌∷◌, codes, Option, Some, None}
use Rattle.vg_ir.specs.declared.name.NameAt.{NameAt}
use Rattle.vg_ir.specs.declared.number.Number.{Number}
use Rattle.vg_ir.specs.declared.terminator.Terminator.{Terminator}
use Rattle.vg_ir.specs.declared.terminator.Terminator.TheVariants as terminators
use Rattle.vg_ir.specs.declared.terminator.Case.{Case}
use Rattle.vg_ir.specs.Shape.{integer_width}
use Rattle.vg_irparse.specs.declared.role.Role.TheVariants as roles
use Rattle.vg_irparse.specs.declared.role.Wanted.{Wanted}
use Rattle.vg_irparse.specs.Placed.{Placed}
use Rattle.vg_irparse.specs.Text.{number_of, spot}
use Rattle.vg_irparse.specs.ReadingType.{wanted}
use Rattle.vg_irread.specs.Kinds.{Kind, words}
use Rattle.vg_irread.specs.Reading.{Reader, done, token_at, many_at, either_at, ◌>>=◌}
use Rattle.vg_irread.specs.ReadingType.{type_at, type_kinds}
use Rattle.vg_irread.specs.ReadingOperand.{behind, sign_at, taken, local_at, is_number_for, any_typed_at}
use Rattle.vg_irread.specs.ReadingInstruction.{condition_at}

-- ---- br

-- label %b
abbrev pub label_at : Reader NameAt
label_at = do
  _ ← sign_at (codes "label") (wanted roles.Plain)
  local_at (wanted roles.Plain)

-- behind `br`: label %b
unfoldable pub jump_at : ℕ → Reader Terminator
jump_at at = do
  target ← label_at
  done (terminators.Jump (record { at = spot at; target = target }))

-- behind `br`: i1 c , label %a , label %b
unfoldable pub branch_at : ℕ → Reader Terminator
branch_at at = do
  condition ← condition_at
  _ ← sign_at (codes ",") (wanted roles.Plain)
  then ← label_at
  _ ← sign_at (codes ",") (wanted roles.Plain)
  otherwise ← label_at
  done (terminators.Branch (record { at = spot at; condition = condition; then = then; otherwise = otherwise }))

abbrev pub label_kinds : List Kind
label_kinds = words (codes "label" ∷ []) ∷ []

-- br
abbrev pub br_at : Reader Terminator
br_at = do
  at ← sign_at (codes "br") (wanted roles.Plain)
  either_at label_kinds (jump_at at) (branch_at at)

-- ---- switch

-- a number and its place
abbrev pub placed_number : Placed → Number × ℕ
placed_number l = (number_of l.text, l.at)

-- a number of an integer of so many bits, or at another type
abbrev pub number_at : Option ℕ → Wanted → Reader (Number × ℕ)
number_at width w = token_at (taken (is_number_for width) placed_number) w

-- T n , label %b
unfoldable pub case_at : Reader Case
case_at = do
  t ← type_at (wanted roles.AnyType)
  number ← number_at (integer_width t.ty) (behind roles.Plain)
  _ ← sign_at (codes ",") (wanted roles.Plain)
  target ← label_at
  done (record { ty = t; number = number.0; at = spot number.1; target = target })

-- what a type that is no name begins with
abbrev pub type_words : List (List ℕ)
type_words = codes "i1" ∷ codes "i8" ∷ codes "i16" ∷ codes "i32" ∷ codes "i64" ∷ codes "ptr" ∷ codes "[" ∷ codes "{" ∷ []

abbrev pub cases_at : Reader (List Case)
cases_at = many_at type_kinds case_at

-- switch T v , label %d [ cases ]
unfoldable pub switch_at : Reader Terminator
switch_at = do
  at ← sign_at (codes "switch") (wanted roles.Plain)
  value ← any_typed_at (wanted roles.AnyType)
  _ ← sign_at (codes ",") (wanted roles.Plain)
  otherwise ← label_at
  _ ← sign_at (codes "[") (wanted roles.Plain)
  cases ← cases_at
  _ ← sign_at (codes "]") (wanted roles.AnyType)
  done (terminators.Switch (record { at = spot at; value = value; otherwise = otherwise; cases = cases }))

-- ---- ret and unreachable

-- behind `ret`: void
unfoldable pub return_void_at : ℕ → Reader Terminator
return_void_at at = do
  _ ← sign_at (codes "void") (wanted roles.AnyType)
  done (terminators.Return (record { at = spot at; value = None }))

-- behind `ret`: T v
unfoldable pub return_value_at : ℕ → Reader Terminator
return_value_at at = do
  value ← any_typed_at (wanted roles.AnyType)
  done (terminators.Return (record { at = spot at; value = Some value }))

abbrev pub void_kinds : List Kind
void_kinds = words (codes "void" ∷ []) ∷ []

-- ret
abbrev pub return_at : Reader Terminator
return_at = do
  at ← sign_at (codes "ret") (wanted roles.Plain)
  either_at void_kinds (return_void_at at) (return_value_at at)

-- unreachable
unfoldable pub unreachable_at : Reader Terminator
unreachable_at = do
  at ← sign_at (codes "unreachable") (wanted roles.Plain)
  done (terminators.Unreachable (spot at))

-- ---- by the word

-- a terminator
abbrev pub terminator_at : Reader Terminator
terminator_at =
    either_at (words (codes "br" ∷ []) ∷ []) br_at
    (either_at (words (codes "switch" ∷ []) ∷ []) switch_at
    (either_at (words (codes "ret" ∷ []) ∷ []) return_at unreachable_at))
