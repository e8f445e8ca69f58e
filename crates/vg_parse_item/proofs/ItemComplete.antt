-- An item of the grammar is read.
use Rattle.std.proofs.Common.{◌≡◌, ℕ, ◌<◌, ◌≤◌, true, false, List, [], ◌∷◌, length, Option, Some, None, refl, arith}
use Rattle.vg_tok.specs.declared.sign.Sign.TheVariants as signs
use Rattle.vg_tok.specs.declared.word.Word.TheVariants as words
use Rattle.vg_ast.specs.declared.name.Name.{Name}
use Rattle.vg_ast.specs.declared.part.NumberFormat.{NumberFormat}
use Rattle.vg_ast.specs.declared.part.NumberFormat.TheVariants as formats
use Rattle.vg_ast.specs.declared.part.Part.TheVariants as parts
use Rattle.vg_ast.specs.declared.item.Item.TheVariants as items
use Rattle.vg_ast.specs.Placed.{Placed, sign, word, name}
use Rattle.vg_ast.specs.Concrete.{Expr, TypeTree, Statement}
use Rattle.vg_ast.specs.ConcreteItem.{Row, Range, Field, Parameter, Fix, Part, text, mnemonic, register_part, number_part, target, Item, constant, using, function, program_counter, memory, register, register_file, format, instruction, encoding, assembly}
use Rattle.vg_ast.specs.Spelling.{spelled, spelled_type, spelled_statement}
use Rattle.vg_ast.specs.SpellingItem.{spelled_more, spelled_row, spelled_optional_row, spelled_low, spelled_range, spelled_field, spelled_parameter, spelled_fix, spelled_part, spelled_zero, spelled_item}
use Rattle.vg_ast.specs.Grammar.{is_expression, is_type, is_statement, is_row, is_optional_row, is_optional_expression, is_range, is_field, is_parameter, is_fix, is_part, is_item}
use Rattle.vg_ast.specs.Tree.{tree_of, type_of, statement_of}
use Rattle.vg_ast.specs.TreeItem.{row_of, optional_row_of, optional_tree_of, range_of, field_of, parameter_of, fix_of, part_of, item_of}
use Rattle.vg_parse_expr.specs.Lexeme.{begins_with, sign_at, word_at, name_at}
use Rattle.vg_parse_expr.specs.Exact.{ends}
use Rattle.vg_parse_expr.proofs.Tests.{both, three}
use Rattle.vg_parse_expr.proofs.Following.{ends_at_nothing, ends_at_sign}
use Rattle.vg_parse_expr.proofs.Primary.{longer}
use Rattle.vg_parse_item.specs.ReadingRow.{row_at, optional_row_at}
use Rattle.vg_parse_item.specs.ReadingStatement.{statement}
use Rattle.vg_parse_item.specs.ReadingItem.{range_at, field_at, parameter_at, fix_at, register_part_at, target_at, number_part_at, part_at, constant_at, using_at, function_at, program_counter_at, memory_at, single_register_at, zero_at, register_file_at, register_item_at, format_at, instruction_at, encoding_at, assembly_at, item_at}
use Rattle.vg_parse_item.proofs.Succeeding.{then_is, if_false, any_then, type_then, some_token, some_type_token, IsComplete, counted, Anything, row_is, optional_row_is}
use Rattle.vg_parse_item.proofs.StatementComplete.{sized_statement_of, statement_is}

-- What stands in rows.

record EndsRange (ts : List Placed) : Type 0 where
  expression_ends : ends 0 ts ≡ true
  no_dots : begins_with signs.DotDot ts ≡ false

range_parts : (high : Expr) (low : Option (ℕ × Expr)) (rest : List Placed) → is_expression high ≡ true → is_optional_expression low ≡ true → EndsRange rest
    → range_at (spelled high (spelled_low low rest)) ≡ Some (record { high = tree_of high; low = optional_tree_of low }, rest)
unfolding range_at sign_at
range_parts high None rest h k e = any_then _ high rest _ h e.expression_ends (if_false (begins_with signs.DotDot rest) _ _ _ e.no_dots refl)
range_parts high (Some low) rest h k e =
    any_then _ high (sign signs.DotDot low.0 ∷ spelled low.1 rest) _ h (ends_at_sign signs.DotDot low.0 (spelled low.1 rest) refl)
    (any_then _ low.1 rest _ k e.expression_ends refl)

range_is : IsComplete range_at spelled_range is_range range_of EndsRange
range_is c rest h e = let p = both (is_expression c.high) (is_optional_expression c.low) h in range_parts c.high c.low rest p.0 p.1 e

longer_low : (low : Option (ℕ × Expr)) (ts : List Placed) → length ts ≤ length (spelled_low low ts)
longer_low None ts = omega arith
longer_low (Some low) ts = omega (arith, longer low.1 ts)

range_longer : (c : Range) (ts : List Placed) → length ts < length (spelled_range c ts)
range_longer c ts = omega (arith, some_token c.high (spelled_low c.low ts), longer_low c.low ts)

ranges_are : (row : Row Range) (closing : ℕ) (rest : List Placed) → is_row is_range row ≡ true
    → row_at range_at (spelled_row spelled_range row (sign signs.CloseBracket closing ∷ rest)) ≡ Some (row_of range_of row, sign signs.CloseBracket closing ∷ rest)
ranges_are row closing rest h =
    row_is range_at spelled_range is_range range_of EndsRange range_is (λ at ts. record { expression_ends = ends_at_sign signs.Comma at ts refl; no_dots = refl }) range_longer
    row (sign signs.CloseBracket closing ∷ rest) h (record { expression_ends = ends_at_sign signs.CloseBracket closing rest refl; no_dots = refl }) refl

field_is : IsComplete field_at spelled_field is_field field_of Anything
unfolding field_at name_at sign_at
field_is c rest h e = then_is (row_at range_at (spelled_row spelled_range c.ranges (sign signs.CloseBracket c.closing ∷ rest))) _ (row_of range_of c.ranges, sign signs.CloseBracket c.closing ∷ rest) _
    (ranges_are c.ranges c.closing rest h) refl

field_longer : (c : Field) (ts : List Placed) → length ts < length (spelled_field c ts)
field_longer c ts =
    omega (arith, counted spelled_range range_longer c.ranges.more (sign signs.CloseBracket c.closing ∷ ts), range_longer c.ranges.first (spelled_more spelled_range c.ranges.more (sign signs.CloseBracket c.closing ∷ ts)))

parameter_is : IsComplete parameter_at spelled_parameter is_parameter parameter_of Anything
unfolding parameter_at name_at sign_at
parameter_is c rest h e = type_then _ c.declared rest _ h refl

parameter_longer : (c : Parameter) (ts : List Placed) → length ts < length (spelled_parameter c ts)
parameter_longer c ts = omega (arith, some_type_token c.declared ts)

fix_is : IsComplete fix_at spelled_fix is_fix fix_of (λ ts. ends 0 ts ≡ true)
unfolding fix_at name_at sign_at
fix_is c rest h e = any_then _ c.value rest _ h e refl

fix_longer : (c : Fix) (ts : List Placed) → length ts < length (spelled_fix c ts)
fix_longer c ts = omega (arith, some_token c.value ts)

number_part_is : (form : NumberFormat) (at opening : ℕ) (field : Name) (closing : ℕ) (rest : List Placed)
    → part_at (spelled_part (number_part form at opening field closing) rest) ≡ Some (parts.Number form at field, rest)
unfolding part_at number_part_at name_at sign_at
number_part_is formats.Decimal at opening field closing rest = refl
number_part_is formats.Signed at opening field closing rest = refl
number_part_is formats.Hex at opening field closing rest = refl

part_is : IsComplete part_at spelled_part is_part part_of Anything
unfolding part_at register_part_at target_at name_at sign_at
part_is (text at characters) rest h e = refl
part_is (mnemonic at) rest h e = refl
part_is (register_part at opening file inner_opening field inner_closing closing) rest h e = refl
part_is (number_part form at opening field closing) rest h e = number_part_is form at opening field closing rest
part_is (target at opening field comma shift closing) rest h e =
    any_then _ shift (sign signs.CloseParenthesis closing ∷ rest) _ h (ends_at_sign signs.CloseParenthesis closing rest refl) refl

part_longer : (c : Part) (ts : List Placed) → length ts < length (spelled_part c ts)
part_longer (text at characters) ts = omega arith
part_longer (mnemonic at) ts = omega arith
part_longer (register_part at opening file inner_opening field inner_closing closing) ts = omega arith
part_longer (number_part form at opening field closing) ts = omega arith
part_longer (target at opening field comma shift closing) ts = omega (arith, longer shift (sign signs.CloseParenthesis closing ∷ ts))

-- Items.

constant_is : (at : ℕ) (n : Name) (equal : ℕ) (value : Expr) → is_expression value ≡ true
    → constant_at at (name n ∷ sign signs.Equal equal ∷ spelled value []) ≡ Some (items.Constant at n (tree_of value), [])
unfolding constant_at name_at sign_at
constant_is at n equal value h = any_then _ value [] _ h ends_at_nothing refl

using_is : (at : ℕ) (n : Name) (equal : ℕ) (meaning : TypeTree) → is_type meaning ≡ true
    → using_at at (name n ∷ sign signs.Equal equal ∷ spelled_type meaning []) ≡ Some (items.Using at n (type_of meaning), [])
unfolding using_at name_at sign_at
using_is at n equal meaning h = type_then _ meaning [] _ h refl

function_is : (at : ℕ) (n : Name) (opening : ℕ) (parameters : Option (Row Parameter)) (closing arrow : ℕ) (result : TypeTree) (equal : ℕ) (body : Expr)
    → is_optional_row is_parameter parameters ≡ true → is_type result ≡ true → is_expression body ≡ true
    → function_at at (name n ∷ sign signs.OpenParenthesis opening ∷ spelled_optional_row spelled_parameter parameters (sign signs.CloseParenthesis closing ∷ sign signs.Arrow arrow
    ∷ spelled_type result (sign signs.Equal equal ∷ spelled body []))) ≡ Some (items.Function at n (optional_row_of parameter_of parameters) (type_of result) (tree_of body), [])
unfolding function_at name_at sign_at
function_is at n opening parameters closing arrow result equal body h k l =
    let ts : List Placed = sign signs.CloseParenthesis closing ∷ sign signs.Arrow arrow ∷ spelled_type result (sign signs.Equal equal ∷ spelled body []) in
    then_is (optional_row_at signs.CloseParenthesis parameter_at (spelled_optional_row spelled_parameter parameters ts)) _ (optional_row_of parameter_of parameters, ts) _
    (optional_row_is parameter_at spelled_parameter is_parameter parameter_of Anything parameter_is (λ x y. tt) parameter_longer signs.CloseParenthesis parameters ts (λ c x. refl) h refl tt refl)
    (type_then _ result (sign signs.Equal equal ∷ spelled body []) _ k (any_then _ body [] _ l ends_at_nothing refl))

program_counter_is : (at at_counter : ℕ) (n : Name) (colon : ℕ) (declared : TypeTree) → is_type declared ≡ true
    → program_counter_at at (word words.Counter at_counter ∷ name n ∷ sign signs.Colon colon ∷ spelled_type declared []) ≡ Some (items.ProgramCounter at n (type_of declared), [])
unfolding program_counter_at name_at sign_at word_at
program_counter_is at at_counter n colon declared h = type_then _ declared [] _ h refl

memory_is : (at : ℕ) (n : Name) (colon : ℕ) (address : TypeTree) (arrow : ℕ) (cell : TypeTree) → is_type address ≡ true → is_type cell ≡ true
    → memory_at at (name n ∷ sign signs.Colon colon ∷ spelled_type address (sign signs.Arrow arrow ∷ spelled_type cell [])) ≡ Some (items.Memory at n (type_of address) (type_of cell), [])
unfolding memory_at name_at sign_at
memory_is at n colon address arrow cell h k = type_then _ address (sign signs.Arrow arrow ∷ spelled_type cell []) _ h (type_then _ cell [] _ k refl)

register_is : (at : ℕ) (n : Name) (colon : ℕ) (declared : TypeTree) → is_type declared ≡ true
    → register_item_at at (name n ∷ sign signs.Colon colon ∷ spelled_type declared []) ≡ Some (items.Register at n (type_of declared), [])
unfolding register_item_at single_register_at name_at sign_at
register_is at n colon declared h = type_then _ declared [] _ h refl

zero_is : (zero : Option (ℕ × Expr)) → is_optional_expression zero ≡ true → zero_at (spelled_zero zero []) ≡ Some (optional_tree_of zero, [])
unfolding zero_at word_at
zero_is None h = refl
zero_is (Some zero) h = any_then _ zero.1 [] _ h ends_at_nothing refl

register_file_is : (at at_file : ℕ) (n : Name) (colon : ℕ) (index : TypeTree) (arrow : ℕ) (declared : TypeTree) (zero : Option (ℕ × Expr))
    → is_type index ≡ true → is_type declared ≡ true → is_optional_expression zero ≡ true
    → register_item_at at (word words.File at_file ∷ name n ∷ sign signs.Colon colon ∷ spelled_type index (sign signs.Arrow arrow ∷ spelled_type declared (spelled_zero zero [])))
    ≡ Some (items.RegisterFile at n (type_of index) (type_of declared) (optional_tree_of zero), [])
unfolding register_item_at register_file_at name_at sign_at word_at
register_file_is at at_file n colon index arrow declared zero h k l =
    type_then _ index (sign signs.Arrow arrow ∷ spelled_type declared (spelled_zero zero [])) _ h
    (type_then _ declared (spelled_zero zero []) _ k
    (then_is (zero_at (spelled_zero zero [])) _ (optional_tree_of zero, []) _ (zero_is zero l) refl))

format_is : (at : ℕ) (n : Name) (colon : ℕ) (declared : TypeTree) (equal opening : ℕ) (fields : Row Field) (closing : ℕ) → is_type declared ≡ true → is_row is_field fields ≡ true
    → format_at at (name n ∷ sign signs.Colon colon ∷ spelled_type declared (sign signs.Equal equal ∷ sign signs.OpenBrace opening
    ∷ spelled_row spelled_field fields (sign signs.CloseBrace closing ∷ []))) ≡ Some (items.Format at n (type_of declared) (row_of field_of fields), [])
unfolding format_at name_at sign_at
format_is at n colon declared equal opening fields closing h k =
    let ts : List Placed = sign signs.CloseBrace closing ∷ [] in
    type_then _ declared (sign signs.Equal equal ∷ sign signs.OpenBrace opening ∷ spelled_row spelled_field fields ts) _ h
    (then_is (row_at field_at (spelled_row spelled_field fields ts)) _ (row_of field_of fields, ts) _
    (row_is field_at spelled_field is_field field_of Anything field_is (λ x y. tt) field_longer fields ts k tt refl) refl)

instruction_is : (at : ℕ) (n : Name) (colon : ℕ) (of_format : Name) (equal : ℕ) (behaviour : Statement) → is_statement behaviour ≡ true
    → instruction_at at (name n ∷ sign signs.Colon colon ∷ name of_format ∷ sign signs.Equal equal ∷ spelled_statement behaviour []) ≡ Some (items.Instruction at n of_format (statement_of behaviour), [])
unfolding instruction_at name_at sign_at
instruction_is at n colon of_format equal behaviour h =
    then_is (statement (spelled_statement behaviour [])) _ (sized_statement_of behaviour, []) _ (statement_is behaviour [] h ends_at_nothing (λ k. refl)) refl

encoding_is : (at : ℕ) (n : Name) (equal opening : ℕ) (fixes : Option (Row Fix)) (closing : ℕ) → is_optional_row is_fix fixes ≡ true
    → encoding_at at (name n ∷ sign signs.Equal equal ∷ sign signs.OpenBrace opening ∷ spelled_optional_row spelled_fix fixes (sign signs.CloseBrace closing ∷ []))
    ≡ Some (items.Encoding at n (optional_row_of fix_of fixes), [])
unfolding encoding_at name_at sign_at
encoding_is at n equal opening fixes closing h =
    let ts : List Placed = sign signs.CloseBrace closing ∷ [] in
    then_is (optional_row_at signs.CloseBrace fix_at (spelled_optional_row spelled_fix fixes ts)) _ (optional_row_of fix_of fixes, ts) _
    (optional_row_is fix_at spelled_fix is_fix fix_of (λ x. ends 0 x ≡ true) fix_is (λ x y. ends_at_sign signs.Comma x y refl) fix_longer signs.CloseBrace fixes ts (λ c x. refl) h refl
    (ends_at_sign signs.CloseBrace closing [] refl) refl) refl

assembly_is : (at : ℕ) (n : Name) (equal opening : ℕ) (row : Row Part) (closing : ℕ) → is_row is_part row ≡ true
    → assembly_at at (name n ∷ sign signs.Equal equal ∷ sign signs.OpenParenthesis opening ∷ spelled_row spelled_part row (sign signs.CloseParenthesis closing ∷ []))
    ≡ Some (items.Assembly at n (row_of part_of row), [])
unfolding assembly_at name_at sign_at
assembly_is at n equal opening row closing h =
    let ts : List Placed = sign signs.CloseParenthesis closing ∷ [] in
    then_is (row_at part_at (spelled_row spelled_part row ts)) _ (row_of part_of row, ts) _
    (row_is part_at spelled_part is_part part_of Anything part_is (λ x y. tt) part_longer row ts h tt refl) refl

pub item_is : (c : Item) → is_item c ≡ true → item_at (spelled_item c []) ≡ Some (item_of c, [])
unfolding item_at
item_is (constant at n equal value) h = constant_is at n equal value h
item_is (using at n equal meaning) h = using_is at n equal meaning h
item_is (function at n opening parameters closing arrow result equal body) h =
    let p = three (is_optional_row is_parameter parameters) (is_type result) (is_expression body) h in
    function_is at n opening parameters closing arrow result equal body p.0 p.1 p.2
item_is (program_counter at at_counter n colon declared) h = program_counter_is at at_counter n colon declared h
item_is (memory at n colon address arrow cell) h = let p = both (is_type address) (is_type cell) h in memory_is at n colon address arrow cell p.0 p.1
item_is (register at n colon declared) h = register_is at n colon declared h
item_is (register_file at at_file n colon index arrow declared zero) h =
    let p = three (is_type index) (is_type declared) (is_optional_expression zero) h in
    register_file_is at at_file n colon index arrow declared zero p.0 p.1 p.2
item_is (format at n colon declared equal opening fields closing) h =
    let p = both (is_type declared) (is_row is_field fields) h in
    format_is at n colon declared equal opening fields closing p.0 p.1
item_is (instruction at n colon of_format equal behaviour) h = instruction_is at n colon of_format equal behaviour h
item_is (encoding at n equal opening fixes closing) h = encoding_is at n equal opening fixes closing h
item_is (assembly at n equal opening row closing) h = assembly_is at n equal opening row closing h
