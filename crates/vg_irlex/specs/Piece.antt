-- The bytes of a lexeme.
use Rattle.std.specs.Prelude.{ℕ, ◌-◌, List, take, drop}
use Rattle.vg_irlex.specs.declared.lexeme.Lexeme.{Lexeme}

-- what stands in a text at the place of a lexeme
abbrev pub piece : List ℕ → Lexeme → List ℕ
piece text l = take (l.end - l.start) (drop l.start text)
