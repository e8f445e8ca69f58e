-- Reading items from the front of a list of tokens.
use Rattle.std.specs.Prelude.{ℕ, [], ◌∷◌, Option, Some, None, if◌then◌else◌}
use Rattle.vg_tok.specs.declared.token.Kind.{Kind}
use Rattle.vg_tok.specs.declared.token.Kind.TheVariants as kind
use Rattle.vg_tok.specs.declared.sign.Sign.TheVariants as signs
use Rattle.vg_tok.specs.declared.word.Word.{Word}
use Rattle.vg_tok.specs.declared.word.Word.TheVariants as words
use Rattle.vg_ast.specs.declared.expr.Expr.{Expr}
use Rattle.vg_ast.specs.declared.range.Range.{Range}
use Rattle.vg_ast.specs.declared.field.Field.{Field}
use Rattle.vg_ast.specs.declared.parameter.Parameter.{Parameter}
use Rattle.vg_ast.specs.declared.fix.Fix.{Fix}
use Rattle.vg_ast.specs.declared.part.NumberFormat.{NumberFormat}
use Rattle.vg_ast.specs.declared.part.NumberFormat.TheVariants as formats
use Rattle.vg_ast.specs.declared.part.Part.{Part}
use Rattle.vg_ast.specs.declared.part.Part.TheVariants as parts
use Rattle.vg_ast.specs.declared.item.Item.{Item}
use Rattle.vg_ast.specs.declared.item.Item.TheVariants as items
use Rattle.vg_parse_expr.specs.Lexeme.{◌>>=◌, begins_with, begins_with_word, sign_at, word_at, name_at}
use Rattle.vg_parse_expr.specs.Reading.{expression, type_expr}
use Rattle.vg_parse_item.specs.ReadingRow.{Reader, row_at, optional_row_at}
use Rattle.vg_parse_item.specs.ReadingStatement.{statement}

-- What stands in rows.

unfoldable pub range_at : Reader Range
range_at ts =
    expression 0 ts >>= λ high.
    if begins_with signs.DotDot high.1
    then (sign_at signs.DotDot high.1 >>= λ dots. expression 0 dots.1 >>= λ low. Some (record { high = high.0.tree; low = Some low.0.tree }, low.1))
    else Some (record { high = high.0.tree; low = None }, high.1)

unfoldable pub field_at : Reader Field
field_at ts = do
  name ← name_at ts
  opening ← sign_at signs.OpenBracket name.1
  ranges ← row_at range_at opening.1
  closing ← sign_at signs.CloseBracket ranges.1
  Some (record { name = name.0; ranges = ranges.0 }, closing.1)

unfoldable pub parameter_at : Reader Parameter
parameter_at ts = do
  name ← name_at ts
  colon ← sign_at signs.Colon name.1
  declared ← type_expr colon.1
  Some (record { name = name.0; declared = declared.0.tree }, declared.1)

unfoldable pub fix_at : Reader Fix
fix_at ts = do
  name ← name_at ts
  equal ← sign_at signs.Equal name.1
  value ← expression 0 equal.1
  Some (record { name = name.0; value = value.0.tree }, value.1)

-- behind the word `register` in a line of assembly
unfoldable pub register_part_at : ℕ → Reader Part
register_part_at at ts = do
  opening ← sign_at signs.OpenParenthesis ts
  file ← name_at opening.1
  inner_opening ← sign_at signs.OpenParenthesis file.1
  field ← name_at inner_opening.1
  inner_closing ← sign_at signs.CloseParenthesis field.1
  closing ← sign_at signs.CloseParenthesis inner_closing.1
  Some (parts.Register at file.0 field.0, closing.1)

-- behind the word `target`
unfoldable pub target_at : ℕ → Reader Part
target_at at ts = do
  opening ← sign_at signs.OpenParenthesis ts
  field ← name_at opening.1
  comma ← sign_at signs.Comma field.1
  shift ← expression 0 comma.1
  closing ← sign_at signs.CloseParenthesis shift.1
  Some (parts.Target at field.0 shift.0.tree, closing.1)

-- behind the word of a number format
unfoldable pub number_part_at : NumberFormat → ℕ → Reader Part
number_part_at form at ts = do
  opening ← sign_at signs.OpenParenthesis ts
  field ← name_at opening.1
  closing ← sign_at signs.CloseParenthesis field.1
  Some (parts.Number form at field.0, closing.1)

-- what a reserved word begins in a line of assembly
abbrev pub word_part_by : Word → ℕ → Reader Part
word_part_by words.Mnemonic at ts = Some (parts.Mnemonic at, ts)
word_part_by words.Register at ts = register_part_at at ts
word_part_by words.Decimal at ts = number_part_at formats.Decimal at ts
word_part_by words.Signed at ts = number_part_at formats.Signed at ts
word_part_by words.Hex at ts = number_part_at formats.Hex at ts
word_part_by words.Target at ts = target_at at ts
word_part_by _ at ts = None

abbrev pub part_by : Kind → ℕ → Reader Part
part_by (kind.Str text) at ts = Some (parts.Text at text, ts)
part_by (kind.Word w) at ts = word_part_by w at ts
part_by _ at ts = None

unfoldable pub part_at : Reader Part
part_at [] = None
part_at (t ∷ ts) = part_by t.kind t.at ts

-- Items, each behind its first word.

unfoldable pub constant_at : ℕ → Reader Item
constant_at at ts = do
  name ← name_at ts
  equal ← sign_at signs.Equal name.1
  value ← expression 0 equal.1
  Some (items.Constant at name.0 value.0.tree, value.1)

unfoldable pub using_at : ℕ → Reader Item
using_at at ts = do
  name ← name_at ts
  equal ← sign_at signs.Equal name.1
  meaning ← type_expr equal.1
  Some (items.Using at name.0 meaning.0.tree, meaning.1)

unfoldable pub function_at : ℕ → Reader Item
function_at at ts = do
  name ← name_at ts
  opening ← sign_at signs.OpenParenthesis name.1
  parameters ← optional_row_at signs.CloseParenthesis parameter_at opening.1
  closing ← sign_at signs.CloseParenthesis parameters.1
  arrow ← sign_at signs.Arrow closing.1
  result ← type_expr arrow.1
  equal ← sign_at signs.Equal result.1
  body ← expression 0 equal.1
  Some (items.Function at name.0 parameters.0 result.0.tree body.0.tree, body.1)

unfoldable pub program_counter_at : ℕ → Reader Item
program_counter_at at ts = do
  counter ← word_at words.Counter ts
  name ← name_at counter.1
  colon ← sign_at signs.Colon name.1
  declared ← type_expr colon.1
  Some (items.ProgramCounter at name.0 declared.0.tree, declared.1)

unfoldable pub memory_at : ℕ → Reader Item
memory_at at ts = do
  name ← name_at ts
  colon ← sign_at signs.Colon name.1
  address ← type_expr colon.1
  arrow ← sign_at signs.Arrow address.1
  cell ← type_expr arrow.1
  Some (items.Memory at name.0 address.0.tree cell.0.tree, cell.1)

unfoldable pub single_register_at : ℕ → Reader Item
single_register_at at ts = do
  name ← name_at ts
  colon ← sign_at signs.Colon name.1
  declared ← type_expr colon.1
  Some (items.Register at name.0 declared.0.tree, declared.1)

-- the index of the register that is always 0, where it stands
unfoldable pub zero_at : Reader (Option Expr)
zero_at ts =
    if begins_with_word words.Zero ts
    then (word_at words.Zero ts >>= λ zero. expression 0 zero.1 >>= λ index. Some (Some index.0.tree, index.1))
    else Some (None, ts)

-- behind the word `file`
unfoldable pub register_file_at : ℕ → Reader Item
register_file_at at ts = do
  name ← name_at ts
  colon ← sign_at signs.Colon name.1
  index ← type_expr colon.1
  arrow ← sign_at signs.Arrow index.1
  declared ← type_expr arrow.1
  zero ← zero_at declared.1
  Some (items.RegisterFile at name.0 index.0.tree declared.0.tree zero.0, zero.1)

unfoldable pub register_item_at : ℕ → Reader Item
register_item_at at ts =
    if begins_with_word words.File ts then (word_at words.File ts >>= λ file. register_file_at at file.1) else single_register_at at ts

unfoldable pub format_at : ℕ → Reader Item
format_at at ts = do
  name ← name_at ts
  colon ← sign_at signs.Colon name.1
  declared ← type_expr colon.1
  equal ← sign_at signs.Equal declared.1
  opening ← sign_at signs.OpenBrace equal.1
  fields ← row_at field_at opening.1
  closing ← sign_at signs.CloseBrace fields.1
  Some (items.Format at name.0 declared.0.tree fields.0, closing.1)

unfoldable pub instruction_at : ℕ → Reader Item
instruction_at at ts = do
  name ← name_at ts
  colon ← sign_at signs.Colon name.1
  format ← name_at colon.1
  equal ← sign_at signs.Equal format.1
  behaviour ← statement equal.1
  Some (items.Instruction at name.0 format.0 behaviour.0.tree, behaviour.1)

unfoldable pub encoding_at : ℕ → Reader Item
encoding_at at ts = do
  name ← name_at ts
  equal ← sign_at signs.Equal name.1
  opening ← sign_at signs.OpenBrace equal.1
  fixes ← optional_row_at signs.CloseBrace fix_at opening.1
  closing ← sign_at signs.CloseBrace fixes.1
  Some (items.Encoding at name.0 fixes.0, closing.1)

unfoldable pub assembly_at : ℕ → Reader Item
assembly_at at ts = do
  name ← name_at ts
  equal ← sign_at signs.Equal name.1
  opening ← sign_at signs.OpenParenthesis equal.1
  row ← row_at part_at opening.1
  closing ← sign_at signs.CloseParenthesis row.1
  Some (items.Assembly at name.0 row.0, closing.1)

-- what a reserved word begins
abbrev pub word_item_by : Word → ℕ → Reader Item
word_item_by words.Constant at ts = constant_at at ts
word_item_by words.Using at ts = using_at at ts
word_item_by words.Function at ts = function_at at ts
word_item_by words.Program at ts = program_counter_at at ts
word_item_by words.Memory at ts = memory_at at ts
word_item_by words.Register at ts = register_item_at at ts
word_item_by words.Format at ts = format_at at ts
word_item_by words.Instruction at ts = instruction_at at ts
word_item_by words.Encoding at ts = encoding_at at ts
word_item_by words.Assembly at ts = assembly_at at ts
word_item_by _ at ts = None

abbrev pub item_by : Kind → ℕ → Reader Item
item_by (kind.Word w) at ts = word_item_by w at ts
item_by _ at ts = None

unfoldable pub item_at : Reader Item
item_at [] = None
item_at (t ∷ ts) = item_by t.kind t.at ts
