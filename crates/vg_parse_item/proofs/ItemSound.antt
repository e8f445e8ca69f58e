-- What is read as an item is one, and the tokens in front of what follows spell it.
use Rattle.std.proofs.Common.{ℕ, List, [], ◌∷◌, Some, None, IfSome, refl, sym, subst}
use Rattle.vg_tok.specs.declared.token.Kind.{Kind}
use Rattle.vg_tok.specs.declared.token.Kind.TheVariants as kind
use Rattle.vg_tok.specs.declared.sign.Sign.TheVariants as signs
use Rattle.vg_tok.specs.declared.word.Word.{Word}
use Rattle.vg_tok.specs.declared.word.Word.TheVariants as words
use Rattle.vg_ast.specs.declared.part.NumberFormat.{NumberFormat}
use Rattle.vg_ast.specs.declared.part.NumberFormat.TheVariants as formats
use Rattle.vg_ast.specs.declared.part.Part.{Part}
use Rattle.vg_ast.specs.declared.item.Item.{Item}
use Rattle.vg_ast.specs.Placed.{Placed, word}
use Rattle.vg_ast.specs.ConcreteItem as concrete
use Rattle.vg_ast.specs.SpellingItem.{spelled_range, spelled_field, spelled_parameter, spelled_fix, format_word, spelled_part, spelled_zero, spelled_item}
use Rattle.vg_ast.specs.Grammar.{is_optional_expression, is_range, is_field, is_parameter, is_fix, is_part, is_item}
use Rattle.vg_ast.specs.TreeItem.{optional_tree_of, range_of, field_of, parameter_of, fix_of, part_of, item_of}
use Rattle.vg_parse_expr.specs.Lexeme.{begins_with, begins_with_word, sign_at, word_at, name_at}
use Rattle.vg_parse_expr.specs.Reading.{expression, type_expr}
use Rattle.vg_parse_expr.proofs.Tests.{both-from, three-from}
use Rattle.vg_parse_expr.proofs.Taking.{then_some, choose_some, sign_read, word_read, name_read}
use Rattle.vg_parse_item.specs.ReadingRow.{row_at, optional_row_at}
use Rattle.vg_parse_item.specs.ReadingStatement.{statement}
use Rattle.vg_parse_item.specs.ReadingItem.{range_at, field_at, parameter_at, fix_at, register_part_at, target_at, number_part_at, word_part_by, part_by, part_at, constant_at, using_at, function_at, program_counter_at, memory_at, single_register_at, zero_at, register_file_at, register_item_at, format_at, instruction_at, encoding_at, assembly_at, word_item_by, item_by, item_at}
use Rattle.vg_parse_item.proofs.Standing.{expression_read, type_read, Stands, row_read, optional_row_read}
use Rattle.vg_parse_item.proofs.StatementSound.{statement_read}

abbrev StandsPart : List Placed → Part × List Placed → Type 0
StandsPart = Stands spelled_part is_part part_of

abbrev pub StandsItem : List Placed → Item × List Placed → Type 0
StandsItem = Stands spelled_item is_item item_of

-- What stands in rows.

parameter_read : (ts : List Placed) → IfSome (parameter_at ts) (Stands spelled_parameter is_parameter parameter_of ts)
unfolding parameter_at
parameter_read ts =
    then_some (name_at ts) _ _ _ (name_read ts) (λ name name_is.
    then_some (sign_at signs.Colon name.1) _ _ _ (sign_read signs.Colon name.1) (λ colon colon_is.
    then_some (type_expr colon.1) _ _ _ (type_read colon.1) (λ declared declared_is.
    record { c = record { name = name.0; colon = colon.0; declared = declared_is.c }; right = declared_is.right; spells = let s = declared_is.spells in cc; tree_is = let t = declared_is.tree_is in cc })))

fix_read : (ts : List Placed) → IfSome (fix_at ts) (Stands spelled_fix is_fix fix_of ts)
unfolding fix_at
fix_read ts =
    then_some (name_at ts) _ _ _ (name_read ts) (λ name name_is.
    then_some (sign_at signs.Equal name.1) _ _ _ (sign_read signs.Equal name.1) (λ equal equal_is.
    then_some (expression 0 equal.1) _ _ _ (expression_read 0 equal.1 refl) (λ value value_is.
    record { c = record { name = name.0; equal = equal.0; value = value_is.c }; right = value_is.right; spells = let s = value_is.spells in cc; tree_is = let t = value_is.tree_is in cc })))

range_read : (ts : List Placed) → IfSome (range_at ts) (Stands spelled_range is_range range_of ts)
unfolding range_at
range_read ts =
    then_some (expression 0 ts) _ _ _ (expression_read 0 ts refl) (λ high high_is.
    choose_some (begins_with signs.DotDot high.1) _ _ _
    (λ h. then_some (sign_at signs.DotDot high.1) _ _ _ (sign_read signs.DotDot high.1) (λ dots dots_is.
    then_some (expression 0 dots.1) _ _ _ (expression_read 0 dots.1 refl) (λ low low_is. record {
      c = record { high = high_is.c; low = Some (dots.0, low_is.c) };
      right = both-from _ _ high_is.right low_is.right;
      spells = let s1 = high_is.spells in let s2 = low_is.spells in cc;
      tree_is = let t1 = high_is.tree_is in let t2 = low_is.tree_is in cc;
    })))
    (λ h. record {
      c = record { high = high_is.c; low = None };
      right = both-from _ _ high_is.right refl;
      spells = high_is.spells;
      tree_is = let t = high_is.tree_is in cc;
    }))

field_read : (ts : List Placed) → IfSome (field_at ts) (Stands spelled_field is_field field_of ts)
unfolding field_at
field_read ts =
    then_some (name_at ts) _ _ _ (name_read ts) (λ name name_is.
    then_some (sign_at signs.OpenBracket name.1) _ _ _ (sign_read signs.OpenBracket name.1) (λ opening opening_is.
    then_some (row_at range_at opening.1) _ _ _ (row_read range_at spelled_range is_range range_of range_read opening.1) (λ ranges ranges_is.
    then_some (sign_at signs.CloseBracket ranges.1) _ _ _ (sign_read signs.CloseBracket ranges.1) (λ closing closing_is.
    record { c = record { name = name.0; opening = opening.0; ranges = ranges_is.c; closing = closing.0 }; right = ranges_is.right; spells = let s = ranges_is.spells in cc; tree_is = let t = ranges_is.tree_is in cc }))))

-- Parts of a line of assembly.

register_part_read : (at : ℕ) (ts : List Placed) → IfSome (register_part_at at ts) (StandsPart (word words.Register at ∷ ts))
unfolding register_part_at
register_part_read at ts =
    then_some (sign_at signs.OpenParenthesis ts) _ _ _ (sign_read signs.OpenParenthesis ts) (λ opening opening_is.
    then_some (name_at opening.1) _ _ _ (name_read opening.1) (λ file file_is.
    then_some (sign_at signs.OpenParenthesis file.1) _ _ _ (sign_read signs.OpenParenthesis file.1) (λ inner_opening inner_opening_is.
    then_some (name_at inner_opening.1) _ _ _ (name_read inner_opening.1) (λ field field_is.
    then_some (sign_at signs.CloseParenthesis field.1) _ _ _ (sign_read signs.CloseParenthesis field.1) (λ inner_closing inner_closing_is.
    then_some (sign_at signs.CloseParenthesis inner_closing.1) _ _ _ (sign_read signs.CloseParenthesis inner_closing.1) (λ closing closing_is.
    record { c = concrete.register_part at opening.0 file.0 inner_opening.0 field.0 inner_closing.0 closing.0; right = refl; spells = cc; tree_is = refl }))))))

target_read : (at : ℕ) (ts : List Placed) → IfSome (target_at at ts) (StandsPart (word words.Target at ∷ ts))
unfolding target_at
target_read at ts =
    then_some (sign_at signs.OpenParenthesis ts) _ _ _ (sign_read signs.OpenParenthesis ts) (λ opening opening_is.
    then_some (name_at opening.1) _ _ _ (name_read opening.1) (λ field field_is.
    then_some (sign_at signs.Comma field.1) _ _ _ (sign_read signs.Comma field.1) (λ comma comma_is.
    then_some (expression 0 comma.1) _ _ _ (expression_read 0 comma.1 refl) (λ shift shift_is.
    then_some (sign_at signs.CloseParenthesis shift.1) _ _ _ (sign_read signs.CloseParenthesis shift.1) (λ closing closing_is.
    record { c = concrete.target at opening.0 field.0 comma.0 shift_is.c closing.0; right = shift_is.right; spells = let s = shift_is.spells in cc; tree_is = let t = shift_is.tree_is in cc })))))

number_part_read : (form : NumberFormat) (at : ℕ) (ts : List Placed) → IfSome (number_part_at form at ts) (StandsPart (word (format_word form) at ∷ ts))
unfolding number_part_at
number_part_read form at ts =
    then_some (sign_at signs.OpenParenthesis ts) _ _ _ (sign_read signs.OpenParenthesis ts) (λ opening opening_is.
    then_some (name_at opening.1) _ _ _ (name_read opening.1) (λ field field_is.
    then_some (sign_at signs.CloseParenthesis field.1) _ _ _ (sign_read signs.CloseParenthesis field.1) (λ closing closing_is.
    record { c = concrete.number_part form at opening.0 field.0 closing.0; right = refl; spells = cc; tree_is = refl })))

word_part_read : (w : Word) (at : ℕ) (ts : List Placed) → IfSome (word_part_by w at ts) (StandsPart (word w at ∷ ts))
word_part_read words.Mnemonic at ts = record { c = concrete.mnemonic at; right = refl; spells = refl; tree_is = refl }
word_part_read words.Register at ts = register_part_read at ts
word_part_read words.Decimal at ts = number_part_read formats.Decimal at ts
word_part_read words.Signed at ts = number_part_read formats.Signed at ts
word_part_read words.Hex at ts = number_part_read formats.Hex at ts
word_part_read words.Target at ts = target_read at ts
word_part_read _ at ts = tt

part_read_by : (k : Kind) (at : ℕ) (ts : List Placed) → IfSome (part_by k at ts) (StandsPart (record { kind = k; at = at } ∷ ts))
part_read_by (kind.Str text) at ts = record { c = concrete.text at text; right = refl; spells = refl; tree_is = refl }
part_read_by (kind.Word w) at ts = word_part_read w at ts
part_read_by (kind.Name text) at ts = tt
part_read_by (kind.Number n) at ts = tt
part_read_by (kind.Sign s) at ts = tt

part_read : (ts : List Placed) → IfSome (part_at ts) (StandsPart ts)
unfolding part_at
part_read [] = tt
part_read (t ∷ ts) = part_read_by t.kind t.at ts

-- Items.

constant_read : (at : ℕ) (ts : List Placed) → IfSome (constant_at at ts) (StandsItem (word words.Constant at ∷ ts))
unfolding constant_at
constant_read at ts =
    then_some (name_at ts) _ _ _ (name_read ts) (λ name name_is.
    then_some (sign_at signs.Equal name.1) _ _ _ (sign_read signs.Equal name.1) (λ equal equal_is.
    then_some (expression 0 equal.1) _ _ _ (expression_read 0 equal.1 refl) (λ value value_is.
    record { c = concrete.constant at name.0 equal.0 value_is.c; right = value_is.right; spells = let s = value_is.spells in cc; tree_is = let t = value_is.tree_is in cc })))

using_read : (at : ℕ) (ts : List Placed) → IfSome (using_at at ts) (StandsItem (word words.Using at ∷ ts))
unfolding using_at
using_read at ts =
    then_some (name_at ts) _ _ _ (name_read ts) (λ name name_is.
    then_some (sign_at signs.Equal name.1) _ _ _ (sign_read signs.Equal name.1) (λ equal equal_is.
    then_some (type_expr equal.1) _ _ _ (type_read equal.1) (λ meaning meaning_is.
    record { c = concrete.using at name.0 equal.0 meaning_is.c; right = meaning_is.right; spells = let s = meaning_is.spells in cc; tree_is = let t = meaning_is.tree_is in cc })))

function_read : (at : ℕ) (ts : List Placed) → IfSome (function_at at ts) (StandsItem (word words.Function at ∷ ts))
unfolding function_at
function_read at ts =
    then_some (name_at ts) _ _ _ (name_read ts) (λ name name_is.
    then_some (sign_at signs.OpenParenthesis name.1) _ _ _ (sign_read signs.OpenParenthesis name.1) (λ opening opening_is.
    then_some (optional_row_at signs.CloseParenthesis parameter_at opening.1) _ _ _ (optional_row_read parameter_at spelled_parameter is_parameter parameter_of parameter_read signs.CloseParenthesis opening.1) (λ parameters parameters_is.
    then_some (sign_at signs.CloseParenthesis parameters.1) _ _ _ (sign_read signs.CloseParenthesis parameters.1) (λ closing closing_is.
    then_some (sign_at signs.Arrow closing.1) _ _ _ (sign_read signs.Arrow closing.1) (λ arrow arrow_is.
    then_some (type_expr arrow.1) _ _ _ (type_read arrow.1) (λ result result_is.
    then_some (sign_at signs.Equal result.1) _ _ _ (sign_read signs.Equal result.1) (λ equal equal_is.
    then_some (expression 0 equal.1) _ _ _ (expression_read 0 equal.1 refl) (λ body body_is.
    record { c = concrete.function at name.0 opening.0 parameters_is.c closing.0 arrow.0 result_is.c equal.0 body_is.c; right = three-from _ _ _ parameters_is.right result_is.right body_is.right; spells = let s1 = parameters_is.spells in let s2 = result_is.spells in let s3 = body_is.spells in cc; tree_is = let t1 = parameters_is.tree_is in let t2 = result_is.tree_is in let t3 = body_is.tree_is in cc }))))))))

program_counter_read : (at : ℕ) (ts : List Placed) → IfSome (program_counter_at at ts) (StandsItem (word words.Program at ∷ ts))
unfolding program_counter_at
program_counter_read at ts =
    then_some (word_at words.Counter ts) _ _ _ (word_read words.Counter ts) (λ counter counter_is.
    then_some (name_at counter.1) _ _ _ (name_read counter.1) (λ name name_is.
    then_some (sign_at signs.Colon name.1) _ _ _ (sign_read signs.Colon name.1) (λ colon colon_is.
    then_some (type_expr colon.1) _ _ _ (type_read colon.1) (λ declared declared_is.
    record { c = concrete.program_counter at counter.0 name.0 colon.0 declared_is.c; right = declared_is.right; spells = let s = declared_is.spells in cc; tree_is = let t = declared_is.tree_is in cc }))))

memory_read : (at : ℕ) (ts : List Placed) → IfSome (memory_at at ts) (StandsItem (word words.Memory at ∷ ts))
unfolding memory_at
memory_read at ts =
    then_some (name_at ts) _ _ _ (name_read ts) (λ name name_is.
    then_some (sign_at signs.Colon name.1) _ _ _ (sign_read signs.Colon name.1) (λ colon colon_is.
    then_some (type_expr colon.1) _ _ _ (type_read colon.1) (λ address address_is.
    then_some (sign_at signs.Arrow address.1) _ _ _ (sign_read signs.Arrow address.1) (λ arrow arrow_is.
    then_some (type_expr arrow.1) _ _ _ (type_read arrow.1) (λ cell cell_is.
    record { c = concrete.memory at name.0 colon.0 address_is.c arrow.0 cell_is.c; right = both-from _ _ address_is.right cell_is.right; spells = let s1 = address_is.spells in let s2 = cell_is.spells in cc; tree_is = let t1 = address_is.tree_is in let t2 = cell_is.tree_is in cc })))))

single_register_read : (at : ℕ) (ts : List Placed) → IfSome (single_register_at at ts) (StandsItem (word words.Register at ∷ ts))
unfolding single_register_at
single_register_read at ts =
    then_some (name_at ts) _ _ _ (name_read ts) (λ name name_is.
    then_some (sign_at signs.Colon name.1) _ _ _ (sign_read signs.Colon name.1) (λ colon colon_is.
    then_some (type_expr colon.1) _ _ _ (type_read colon.1) (λ declared declared_is.
    record { c = concrete.register at name.0 colon.0 declared_is.c; right = declared_is.right; spells = let s = declared_is.spells in cc; tree_is = let t = declared_is.tree_is in cc })))

zero_read : (ts : List Placed) → IfSome (zero_at ts) (Stands spelled_zero is_optional_expression optional_tree_of ts)
unfolding zero_at
zero_read ts = choose_some (begins_with_word words.Zero ts) _ _ _
    (λ h. then_some (word_at words.Zero ts) _ _ _ (word_read words.Zero ts) (λ zero zero_is.
    then_some (expression 0 zero.1) _ _ _ (expression_read 0 zero.1 refl) (λ index index_is.
    record { c = Some (zero.0, index_is.c); right = index_is.right; spells = let s = index_is.spells in cc; tree_is = let t = index_is.tree_is in cc })))
    (λ h. record { c = None; right = refl; spells = refl; tree_is = refl })

register_file_read : (at : ℕ) (at_file : ℕ) (ts : List Placed) → IfSome (register_file_at at ts) (StandsItem (word words.Register at ∷ word words.File at_file ∷ ts))
unfolding register_file_at
register_file_read at at_file ts =
    then_some (name_at ts) _ _ _ (name_read ts) (λ name name_is.
    then_some (sign_at signs.Colon name.1) _ _ _ (sign_read signs.Colon name.1) (λ colon colon_is.
    then_some (type_expr colon.1) _ _ _ (type_read colon.1) (λ index index_is.
    then_some (sign_at signs.Arrow index.1) _ _ _ (sign_read signs.Arrow index.1) (λ arrow arrow_is.
    then_some (type_expr arrow.1) _ _ _ (type_read arrow.1) (λ declared declared_is.
    then_some (zero_at declared.1) _ _ _ (zero_read declared.1) (λ zero zero_is.
    record { c = concrete.register_file at at_file name.0 colon.0 index_is.c arrow.0 declared_is.c zero_is.c; right = three-from _ _ _ index_is.right declared_is.right zero_is.right; spells = let s1 = index_is.spells in let s2 = declared_is.spells in let s3 = zero_is.spells in cc; tree_is = let t1 = index_is.tree_is in let t2 = declared_is.tree_is in let t3 = zero_is.tree_is in cc }))))))

register_item_read : (at : ℕ) (ts : List Placed) → IfSome (register_item_at at ts) (StandsItem (word words.Register at ∷ ts))
unfolding register_item_at
register_item_read at ts = choose_some (begins_with_word words.File ts) _ _ _
    (λ h. then_some (word_at words.File ts) _ _ _ (word_read words.File ts) (λ file e.
    subst (λ (x : List Placed). IfSome (register_file_at at file.1) (StandsItem (word words.Register at ∷ x))) (sym e) (register_file_read at file.0 file.1)))
    (λ h. single_register_read at ts)

format_read : (at : ℕ) (ts : List Placed) → IfSome (format_at at ts) (StandsItem (word words.Format at ∷ ts))
unfolding format_at
format_read at ts =
    then_some (name_at ts) _ _ _ (name_read ts) (λ name name_is.
    then_some (sign_at signs.Colon name.1) _ _ _ (sign_read signs.Colon name.1) (λ colon colon_is.
    then_some (type_expr colon.1) _ _ _ (type_read colon.1) (λ declared declared_is.
    then_some (sign_at signs.Equal declared.1) _ _ _ (sign_read signs.Equal declared.1) (λ equal equal_is.
    then_some (sign_at signs.OpenBrace equal.1) _ _ _ (sign_read signs.OpenBrace equal.1) (λ opening opening_is.
    then_some (row_at field_at opening.1) _ _ _ (row_read field_at spelled_field is_field field_of field_read opening.1) (λ fields fields_is.
    then_some (sign_at signs.CloseBrace fields.1) _ _ _ (sign_read signs.CloseBrace fields.1) (λ closing closing_is.
    record { c = concrete.format at name.0 colon.0 declared_is.c equal.0 opening.0 fields_is.c closing.0; right = both-from _ _ declared_is.right fields_is.right; spells = let s1 = declared_is.spells in let s2 = fields_is.spells in cc; tree_is = let t1 = declared_is.tree_is in let t2 = fields_is.tree_is in cc })))))))

instruction_read : (at : ℕ) (ts : List Placed) → IfSome (instruction_at at ts) (StandsItem (word words.Instruction at ∷ ts))
unfolding instruction_at
instruction_read at ts =
    then_some (name_at ts) _ _ _ (name_read ts) (λ name name_is.
    then_some (sign_at signs.Colon name.1) _ _ _ (sign_read signs.Colon name.1) (λ colon colon_is.
    then_some (name_at colon.1) _ _ _ (name_read colon.1) (λ format format_is.
    then_some (sign_at signs.Equal format.1) _ _ _ (sign_read signs.Equal format.1) (λ equal equal_is.
    then_some (statement equal.1) _ _ _ (statement_read equal.1) (λ behaviour behaviour_is.
    record { c = concrete.instruction at name.0 colon.0 format.0 equal.0 behaviour_is.c; right = both-from _ _ behaviour_is.grouped behaviour_is.shallow; spells = let s = behaviour_is.spells in cc; tree_is = let t = behaviour_is.tree_is in cc })))))

encoding_read : (at : ℕ) (ts : List Placed) → IfSome (encoding_at at ts) (StandsItem (word words.Encoding at ∷ ts))
unfolding encoding_at
encoding_read at ts =
    then_some (name_at ts) _ _ _ (name_read ts) (λ name name_is.
    then_some (sign_at signs.Equal name.1) _ _ _ (sign_read signs.Equal name.1) (λ equal equal_is.
    then_some (sign_at signs.OpenBrace equal.1) _ _ _ (sign_read signs.OpenBrace equal.1) (λ opening opening_is.
    then_some (optional_row_at signs.CloseBrace fix_at opening.1) _ _ _ (optional_row_read fix_at spelled_fix is_fix fix_of fix_read signs.CloseBrace opening.1) (λ fixes fixes_is.
    then_some (sign_at signs.CloseBrace fixes.1) _ _ _ (sign_read signs.CloseBrace fixes.1) (λ closing closing_is.
    record { c = concrete.encoding at name.0 equal.0 opening.0 fixes_is.c closing.0; right = fixes_is.right; spells = let s = fixes_is.spells in cc; tree_is = let t = fixes_is.tree_is in cc })))))

assembly_read : (at : ℕ) (ts : List Placed) → IfSome (assembly_at at ts) (StandsItem (word words.Assembly at ∷ ts))
unfolding assembly_at
assembly_read at ts =
    then_some (name_at ts) _ _ _ (name_read ts) (λ name name_is.
    then_some (sign_at signs.Equal name.1) _ _ _ (sign_read signs.Equal name.1) (λ equal equal_is.
    then_some (sign_at signs.OpenParenthesis equal.1) _ _ _ (sign_read signs.OpenParenthesis equal.1) (λ opening opening_is.
    then_some (row_at part_at opening.1) _ _ _ (row_read part_at spelled_part is_part part_of part_read opening.1) (λ row row_is.
    then_some (sign_at signs.CloseParenthesis row.1) _ _ _ (sign_read signs.CloseParenthesis row.1) (λ closing closing_is.
    record { c = concrete.assembly at name.0 equal.0 opening.0 row_is.c closing.0; right = row_is.right; spells = let s = row_is.spells in cc; tree_is = let t = row_is.tree_is in cc })))))

word_item_read : (w : Word) (at : ℕ) (ts : List Placed) → IfSome (word_item_by w at ts) (StandsItem (word w at ∷ ts))
word_item_read words.Constant at ts = constant_read at ts
word_item_read words.Using at ts = using_read at ts
word_item_read words.Function at ts = function_read at ts
word_item_read words.Program at ts = program_counter_read at ts
word_item_read words.Memory at ts = memory_read at ts
word_item_read words.Register at ts = register_item_read at ts
word_item_read words.Format at ts = format_read at ts
word_item_read words.Instruction at ts = instruction_read at ts
word_item_read words.Encoding at ts = encoding_read at ts
word_item_read words.Assembly at ts = assembly_read at ts
word_item_read _ at ts = tt

item_read_by : (k : Kind) (at : ℕ) (ts : List Placed) → IfSome (item_by k at ts) (StandsItem (record { kind = k; at = at } ∷ ts))
item_read_by (kind.Word w) at ts = word_item_read w at ts
item_read_by (kind.Name text) at ts = tt
item_read_by (kind.Number n) at ts = tt
item_read_by (kind.Str text) at ts = tt
item_read_by (kind.Sign s) at ts = tt

pub item_read : (ts : List Placed) → IfSome (item_at ts) (StandsItem ts)
unfolding item_at
item_read [] = tt
item_read (t ∷ ts) = item_read_by t.kind t.at ts
