-- Reading whole pieces of a description.
use Rattle.std.specs.Prelude.{ℕ, List, [], ◌∷◌, Option, Some, None}
use Rattle.vg_tok.specs.declared.sign.Sign.TheVariants as signs
use Rattle.vg_tok.specs.declared.word.Word.TheVariants as words
use Rattle.vg_ast.specs.Placed.{Placed}
use Rattle.vg_ast.specs.declared.item.Item.{Item}
use Rattle.vg_ast.specs.declared.role.Role.{Role}
use Rattle.vg_ast.specs.declared.micro_item.MicroItem.{MicroItem}
use Rattle.vg_parse_expr.specs.Lexeme.{◌>>=◌, sign_at, word_at, name_at}
use Rattle.vg_parse_item.specs.declared.heading.Heading.{Heading}
use Rattle.vg_parse_item.specs.ReadingRow.{Reader}
use Rattle.vg_parse_item.specs.ReadingItem.{item_at}
use Rattle.vg_parse_item.specs.ReadingRole.{role_at, micro_item_at}

-- what was read, where no token stands behind it
abbrev pub whole : {X : Type 0} → X × List Placed → Option X
whole (x, []) = Some x
whole (x, t ∷ ts) = None

abbrev pub whole_of : {X : Type 0} → Option (X × List Placed) → Option X
whole_of read = read >>= whole

-- Headings, each up to its `{`.

-- behind the words of a heading that stands at this place
unfoldable pub heading_at : ℕ → Reader Heading
heading_at at ts = do
  name ← name_at ts
  equal ← sign_at signs.Equal name.1
  opening ← sign_at signs.OpenBrace equal.1
  Some (record { at = at; name = name.0 }, opening.1)

unfoldable pub isa_heading_at : Reader Heading
isa_heading_at ts = do
  first ← word_at words.Instruction ts
  second ← word_at words.Set first.1
  third ← word_at words.Architecture second.1
  heading_at first.0 third.1

unfoldable pub abi_heading_at : Reader Heading
abi_heading_at ts = do
  first ← word_at words.Application ts
  second ← word_at words.Binary first.1
  third ← word_at words.Interface second.1
  fourth ← word_at words.For third.1
  heading_at first.0 fourth.1

unfoldable pub micro_heading_at : Reader Heading
micro_heading_at ts = do
  first ← word_at words.Micro ts
  second ← word_at words.Architecture first.1
  third ← word_at words.For second.1
  heading_at first.0 third.1

-- Pieces: the item that the tokens are, and so on.

unfoldable pub item_piece : List Placed → Option Item
item_piece ts = item_at ts >>= whole

unfoldable pub role_piece : List Placed → Option Role
role_piece ts = role_at ts >>= whole

unfoldable pub micro_item_piece : List Placed → Option MicroItem
micro_item_piece ts = micro_item_at ts >>= whole

unfoldable pub isa_heading_piece : List Placed → Option Heading
isa_heading_piece ts = isa_heading_at ts >>= whole

unfoldable pub abi_heading_piece : List Placed → Option Heading
abi_heading_piece ts = abi_heading_at ts >>= whole

unfoldable pub micro_heading_piece : List Placed → Option Heading
micro_heading_piece ts = micro_heading_at ts >>= whole

-- the place of the `}` that the tokens are
unfoldable pub closing_piece : List Placed → Option ℕ
closing_piece ts = sign_at signs.CloseBrace ts >>= whole
