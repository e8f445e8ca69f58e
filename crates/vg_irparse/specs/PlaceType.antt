-- Where lexemes that begin with no type leave the grammar of types.
use Rattle.std.specs.Prelude.{◌≡◌, ℕ, IsTrue, List, [], ◌∷◌, ◌++◌, length}
use Rattle.vg_irparse.specs.declared.role.Role.{Role}
use Rattle.vg_irparse.specs.declared.role.Wanted.{Wanted}
use Rattle.vg_irparse.specs.Placed.{Placed, lexemes_of}
use Rattle.vg_irparse.specs.Concrete.{TypeTree}
use Rattle.vg_irparse.specs.Spelling.{spelled_type}
use Rattle.vg_irparse.specs.Grammar.{is_type}
use Rattle.vg_irparse.specs.Answer.{leaves}
use Rattle.vg_irparse.specs.ReadingType.{type_at}

-- some type of the grammar begins with these lexemes
abbrev pub BeginsType : List Placed → Type 0
BeginsType front = (written : TypeTree) × IsTrue (is_type written) × (r : Role) × (more : List Placed) × (lexemes_of (spelled_type r written []) ≡ front ++ more)

-- the lexemes leave the grammar of types where so many of them are left: those before begin a type, and with the next one they don't
pub record LeavesTypes (ts : List Placed) (left : ℕ) : Type 0 where
  pub front : List Placed
  pub rest : List Placed
  pub whole : ts ≡ front ++ rest
  pub count : length rest ≡ left
  pub begins : BeginsType front
  pub stops : (t : Placed) (others : List Placed) → rest ≡ t ∷ others → ¬ BeginsType (front ++ t ∷ [])

-- where a type is refused, the lexemes leave the grammar
abbrev pub TypeIsPlaced : Type 0
TypeIsPlaced = (w : Wanted) (ts : List Placed) (n : ℕ) (v : Wanted) → type_at w ts ≡ leaves n v → LeavesTypes ts n
