-- Lexemes as the grammar sees them.
use Rattle.std.specs.Prelude.{ℕ, Bool, true, false, List, map}
use Rattle.vg_irlex.specs.declared.lexeme.Lexeme.{Lexeme}
use Rattle.vg_irlex.specs.Piece.{piece}
use Rattle.vg_irparse.specs.declared.role.Role.{Role}
use Rattle.vg_irparse.specs.declared.role.Role.TheVariants as roles

-- a lexeme: its bytes, where the first of them stands, and whether it is the first lexeme on its line
pub record Placed : Type 0 where
  pub text : List ℕ
  pub at : ℕ
  pub fresh : Bool

-- a lexeme of a text with its bytes
abbrev pub placed_one : List ℕ → Lexeme → Placed
placed_one text l = record { text = piece text l; at = l.start; fresh = l.fresh }

-- the lexemes of a text with their bytes
abbrev pub placed : List ℕ → List Lexeme → List Placed
placed text lexemes = map (placed_one text) lexemes

-- where a lexeme stands whose bytes the grammar says
pub record Mark : Type 0 where
  pub at : ℕ
  pub fresh : Bool

-- what the grammar wants at a place, as far as a refusal asks for it

abbrev pub plain : Role
plain = roles.Plain

abbrev pub fixed_type : Role
fixed_type = roles.FixedType

abbrev pub any_type : Role
any_type = roles.AnyType

abbrev pub value_type : Role
value_type = roles.ValueType

abbrev pub operand : Role
operand = roles.Operand

abbrev pub initial : Role
initial = roles.Initial

abbrev pub callee : Role
callee = roles.Callee

abbrev pub operation : Role
operation = roles.Operation

abbrev pub count : Role
count = roles.Count

-- a lexeme of a module, with what the grammar wants at its place, and whether it is the last one of a type
pub record Slot : Type 0 where
  pub lexeme : Placed
  pub role : Role
  pub ends_type : Bool

-- a lexeme where the grammar wants this
abbrev pub free : Role → Placed → Slot
free r l = record { lexeme = l; role = r; ends_type = false }

-- bytes at a place
abbrev pub marked : List ℕ → Mark → Placed
marked text m = record { text = text; at = m.at; fresh = m.fresh }

-- these very bytes, where the grammar wants this
abbrev pub fixed : Role → List ℕ → Mark → Slot
fixed r text m = free r (marked text m)

-- a word or sign that the rule has
abbrev pub word : List ℕ → Mark → Slot
word text m = fixed plain text m

-- the last lexeme of a type
abbrev pub last_of_type : Role → Placed → Slot
last_of_type r l = record { lexeme = l; role = r; ends_type = true }

-- the lexemes of slots
abbrev pub lexemes_of : List Slot → List Placed
lexemes_of slots = map (λ (s : Slot). s.lexeme) slots
