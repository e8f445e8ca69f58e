-- Reading initialisers of globals.
use Rattle.std.specs.Prelude.{ℕ, zero, suc, ◌||◌, Bool, false, List, [], ◌∷◌, codes, Option}
use Rattle.vg_irlex.specs.Lexing.{is_c_quoted}
use Rattle.vg_ir.specs.declared.ty.TypeAt.{TypeAt}
use Rattle.vg_ir.specs.declared.initializer.Initializer.{Initializer}
use Rattle.vg_ir.specs.declared.initializer.Initializer.TheVariants as initial
use Rattle.vg_ir.specs.Shape.{integer_width}
use Rattle.vg_irparse.specs.declared.role.Role.TheVariants as roles
use Rattle.vg_irparse.specs.Placed.{Placed}
use Rattle.vg_irparse.specs.Text.{is_global, spot}
use Rattle.vg_irparse.specs.Answer.{too_deep}
use Rattle.vg_irparse.specs.ReadingType.{wanted}
use Rattle.vg_irparse.specs.Words.{same_text, is_one_of, constant_words}
use Rattle.vg_irparse.specs.Tree as tree
use Rattle.vg_irread.specs.Kinds.{Kind, words, c_quoted, global, number, is_in}
use Rattle.vg_irread.specs.Reading.{Reader, done, token_at, many_at, either_at, ◌>>=◌}
use Rattle.vg_irread.specs.ReadingType.{type_at}
use Rattle.vg_irread.specs.ReadingOperand.{behind, sign_at, taken, is_number_for}

-- the next lexeme is of these kinds
abbrev pub next_in : List Kind → List Placed → Bool
next_in kinds [] = false
next_in kinds (t ∷ ts) = is_in kinds t.text

-- one word or sign
abbrev pub only : List ℕ → List Kind
only text = words (text ∷ []) ∷ []

-- ---- one lexeme

-- an initialiser of one lexeme, at an integer of so many bits or at another type
abbrev pub is_simple_for : Option ℕ → List ℕ → Bool
is_simple_for width text =
    ((is_global text || is_one_of constant_words text) || (same_text (codes "zeroinitializer") text || is_c_quoted text)) || is_number_for width text

abbrev pub simple_of : Placed → Initializer
simple_of l = tree.simple_of l.text l.at

abbrev pub simple_at : Option ℕ → Reader Initializer
simple_at width = token_at (taken (is_simple_for width) simple_of) (behind roles.Initial)

-- what it begins with
abbrev pub simple_kinds : List Kind
simple_kinds = global ∷ words constant_words ∷ words (codes "zeroinitializer" ∷ []) ∷ c_quoted ∷ number ∷ []

-- ---- in brackets; what reads an initialiser in another one is a parameter

-- T INIT
unfoldable pub part_at : (Option ℕ → Reader Initializer) → Reader (TypeAt × Initializer)
part_at read = do
  t ← type_at (wanted roles.AnyType)
  i ← read (integer_width t.ty)
  done (t, i)

-- , T INIT
unfoldable pub next_part_at : (Option ℕ → Reader Initializer) → Reader (TypeAt × Initializer)
next_part_at read = do
  _ ← sign_at (codes ",") (wanted roles.Plain)
  part_at read

abbrev pub comma : List Kind
comma = only (codes ",")

-- T INIT , ..
unfoldable pub parts_at : (Option ℕ → Reader Initializer) → Reader (List (TypeAt × Initializer))
parts_at read = do
  first ← part_at read
  more ← many_at comma (next_part_at read)
  done (first ∷ more)

-- [ T INIT , .. ]
unfoldable pub elements_at : (Option ℕ → Reader Initializer) → Reader Initializer
elements_at read = do
  at ← sign_at (codes "[") (behind roles.Initial)
  parts ← parts_at read
  _ ← sign_at (codes "]") (wanted roles.Plain)
  done (initial.Array parts (spot at))

-- { T INIT , .. }
unfoldable pub fields_at : (Option ℕ → Reader Initializer) → Reader Initializer
fields_at read = do
  at ← sign_at (codes "{") (behind roles.Initial)
  parts ← parts_at read
  _ ← sign_at (codes "}") (wanted roles.Plain)
  done (initial.Struct parts (spot at))

-- ---- any

-- by the first lexeme
abbrev pub initial_by : Reader Initializer → Reader Initializer → Option ℕ → Reader Initializer
initial_by elements fields width =
    either_at (words (codes "[" ∷ []) ∷ []) elements (either_at (words (codes "{" ∷ []) ∷ []) fields (simple_at width))

-- no room for a bracket more
abbrev pub no_room : {X : Type 0} → Reader X
no_room d ts = too_deep

-- with at most so many brackets of initialisers in one another
unfoldable pub initial_within : ℕ → Option ℕ → Reader Initializer
initial_within zero = initial_by no_room no_room
initial_within (suc n) = initial_by (elements_at (initial_within n)) (fields_at (initial_within n))

-- an initialiser at an integer of so many bits, or at another type
abbrev pub initial_at : Option ℕ → Reader Initializer
initial_at width d ts = initial_within d width d ts

abbrev pub initial_kinds : List Kind
initial_kinds = words (codes "[" ∷ []) ∷ words (codes "{" ∷ []) ∷ simple_kinds
