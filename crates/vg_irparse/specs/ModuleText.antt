-- Which texts are modules, and where a text that is none leaves the grammar.
use Rattle.std.specs.Prelude.{◌≡◌, ◌⊎◌, ℕ, ◌<◌, ◌≤◌, IsTrue, List, [], ◌∷◌, ◌++◌, length, take, Option, Some, None}
use Rattle.vg_irlex.specs.declared.lexeme.Lexeme.{Lexeme}
use Rattle.vg_irlex.specs.Lexing.{Lexes}
use Rattle.vg_ir.specs.declared.module.Parts.{Parts}
use Rattle.vg_irparse.specs.Placed.{Placed, placed, Slot, lexemes_of}
use Rattle.vg_irparse.specs.ConcreteModule.{ModuleTree}
use Rattle.vg_irparse.specs.SpellingModule.{spelled_module}
use Rattle.vg_irparse.specs.GrammarModule.{is_module}
use Rattle.vg_irparse.specs.TreeModule.{module_of}
use Rattle.vg_irparse.specs.Later.{least, repeats, function_addresses, external_functions}

-- the lexemes are those of this concrete tree, which is of the grammar
pub record Spells (ls : List Placed) (m : ModuleTree) : Type 0 where
  pub lexemes : ls ≡ lexemes_of (spelled_module m)
  pub grammar : IsTrue (is_module m)

-- the text has these lexemes and is spelled by this concrete tree
pub record IsSpelled (text : List ℕ) (ls : List Lexeme) (m : ModuleTree) : Type 0 where
  pub lexes : Lexes text ls
  pub spells : Spells (placed text ls) m

-- the text is in the grammar, and has these parts, but for what is asked of such texts alone
abbrev pub HasParts : List ℕ → Parts → Type 0
HasParts text m = (ls : List Lexeme) × (tree : ModuleTree) × IsSpelled text ls tree × (m ≡ module_of tree)

-- The text is a module with these parts: it is in the grammar, no number of a `switch` repeats one, no operand or initialiser is
-- the name of a function, and each function that is called is defined.
pub record IsModuleText (text : List ℕ) (m : Parts) : Type 0 where
  pub parts : HasParts text m
  pub numbers : repeats m ≡ []
  pub addresses : function_addresses m ≡ []
  pub callees : external_functions m ≡ []

-- one of the lexemes ends at this byte
abbrev pub EndsAt : List Lexeme → ℕ → Type 0
EndsAt ls n = (before : List Lexeme) × (l : Lexeme) × (behind : List Lexeme) × (ls ≡ before ++ l ∷ behind) × (l.end ≡ n)

-- some text of the grammar begins with the first n bytes of this one, and has the end of a lexeme behind them
abbrev pub GoesOn : List ℕ → ℕ → Type 0
GoesOn text n = (more : List ℕ) × (ls : List Lexeme) × (tree : ModuleTree) × IsSpelled (take n text ++ more) ls tree × EndsAt ls n

-- these lexemes of the text stand in front, each at the end of which some text of the grammar goes on
abbrev pub AllGoOn : List ℕ → List Lexeme → Type 0
AllGoOn text [] = Unit {0}
AllGoOn text (l ∷ ls) = GoesOn text l.end × AllGoOn text ls

-- the text leaves the grammar at this lexeme, with these before it
pub record LeavesAtLexeme (text : List ℕ) (before : List Lexeme) (l : Lexeme) : Type 0 where
  pub behind : List Lexeme
  pub lexes : Lexes text (before ++ l ∷ behind)
  pub go_on : AllGoOn text before
  pub stops : ¬ GoesOn text l.end

-- the text isn't in the grammar, and texts of the grammar go on behind each of its lexemes: it leaves it at its end
pub record LeavesAtEnd (text : List ℕ) : Type 0 where
  pub lexemes : List Lexeme
  pub lexes : Lexes text lexemes
  pub go_on : AllGoOn text lexemes
  pub none : (m : Parts) → ¬ HasParts text m

-- the place where a text that isn't in the grammar leaves it
abbrev pub LeavesAt : List ℕ → ℕ → Type 0
LeavesAt text at =
    ((before : List Lexeme) × (l : Lexeme) × LeavesAtLexeme text before l × (at ≡ l.start))
    ⊎ (LeavesAtEnd text × (at ≡ length text))
