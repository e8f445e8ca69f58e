-- Tokens as the grammar sees them: what each is, and where its first byte stands.
use Rattle.std.specs.Prelude.{ℕ, List, map}
use Rattle.vg_tok.specs.declared.token.Token.{Token}
use Rattle.vg_tok.specs.declared.token.Kind.{Kind}
use Rattle.vg_tok.specs.declared.token.Kind.TheVariants as kind
use Rattle.vg_tok.specs.declared.sign.Sign.{Sign}
use Rattle.vg_tok.specs.declared.word.Word.{Word}
use Rattle.vg_ast.specs.declared.name.Name.{Name}

pub record Placed : Type 0 where
  pub kind : Kind
  pub at : ℕ

abbrev pub placed_token : Token → Placed
placed_token token = record { kind = token.kind; at = token.start }

abbrev pub placed : List Token → List Placed
placed tokens = map placed_token tokens

-- a sign, a reserved word, a name, a number and a string, each at a place

abbrev pub sign : Sign → ℕ → Placed
sign s at = record { kind = kind.Sign s; at = at }

abbrev pub word : Word → ℕ → Placed
word w at = record { kind = kind.Word w; at = at }

abbrev pub name : Name → Placed
name n = record { kind = kind.Name n.text; at = n.at }

abbrev pub number : ℕ → ℕ → Placed
number value at = record { kind = kind.Number value; at = at }

abbrev pub string : List ℕ → ℕ → Placed
string text at = record { kind = kind.Str text; at = at }
