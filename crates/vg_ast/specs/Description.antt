-- Which tokens are a description, with which tree.
use Rattle.std.specs.Prelude.{◌≡◌, IsTrue, List}
use Rattle.vg_tok.specs.declared.token.Token.{Token}
use Rattle.vg_ast.specs.declared.desc.Desc.{Desc}
use Rattle.vg_ast.specs.Placed.{Placed, placed}
use Rattle.vg_ast.specs.ConcreteItem.{Description}
use Rattle.vg_ast.specs.SpellingItem.{spelled_description}
use Rattle.vg_ast.specs.Grammar.{is_description}
use Rattle.vg_ast.specs.TreeItem.{description_of}

-- the tokens are those of a description of the grammar
abbrev pub IsDescription : List Placed → Type 0
IsDescription ts = (d : Description) × (ts ≡ spelled_description d) × IsTrue (is_description d)

-- the tokens read as a description with this tree
abbrev pub Reads : List Token → Desc → Type 0
Reads tokens tree = (d : Description) × (placed tokens ≡ spelled_description d) × IsTrue (is_description d) × (tree ≡ description_of d)
