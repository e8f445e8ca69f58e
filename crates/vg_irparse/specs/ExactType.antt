-- That types are read exactly: what is read is a type of the grammar that the lexemes in front spell, and each type of the
-- grammar is read, where it ends.
use Rattle.std.specs.Prelude.{◌≡◌, ℕ, ◌+◌, ◌≤◌, max, IsTrue, List, ◌++◌}
use Rattle.vg_ir.specs.declared.ty.TypeAt.{TypeAt}
use Rattle.vg_irparse.specs.declared.role.Role.{Role}
use Rattle.vg_irparse.specs.declared.role.Wanted.{Wanted}
use Rattle.vg_irparse.specs.Placed.{Placed, Slot, lexemes_of}
use Rattle.vg_irparse.specs.Concrete.{TypeTree, integer, pointer, array, structure, named, MoreTypes, no_more_type, one_more_type}
use Rattle.vg_irparse.specs.Spelling.{spelled_type}
use Rattle.vg_irparse.specs.Grammar.{is_type}
use Rattle.vg_irparse.specs.Tree as tree
use Rattle.vg_irparse.specs.Answer.{reads}
use Rattle.vg_irparse.specs.ReadingType.{type_at, most_brackets}

-- how many brackets stand in one another
abbrev mutual
  pub nesting : TypeTree → ℕ
  nesting (integer width at) = 0
  nesting (pointer at) = 0
  nesting (array opening n by element closing) = nesting element + 1
  nesting (structure opening first more closing) = max (nesting first) (nesting_more more) + 1
  nesting (named name) = 0

  pub nesting_more : MoreTypes → ℕ
  nesting_more no_more_type = 0
  nesting_more (one_more_type comma t more) = max (nesting t) (nesting_more more)

-- the lexemes begin with a type of the grammar that is this, and go on with the rest
pub record IsTypeOf (ts : List Placed) (found : TypeAt) (rest : List Placed) : Type 0 where
  pub written : TypeTree
  pub grammar : IsTrue (is_type written)
  pub spelled : (r : Role) (behind : List Slot) → lexemes_of behind ≡ rest → ts ≡ lexemes_of (spelled_type r written behind)
  pub same : found ≡ tree.type_at written

-- what is read is a type of the grammar
abbrev pub TypeIsSound : Type 0
TypeIsSound = (w : Wanted) (ts : List Placed) (found : TypeAt × List Placed) → type_at w ts ≡ reads found → IsTypeOf ts found.0 found.1

-- each type of the grammar in which no more brackets stand in one another is read
abbrev pub TypeIsComplete : Type 0
TypeIsComplete = (written : TypeTree) → IsTrue (is_type written) → nesting written ≤ most_brackets → (w : Wanted) (r : Role) (behind : List Slot)
    → type_at w (lexemes_of (spelled_type r written behind)) ≡ reads (tree.type_at written, lexemes_of behind)
