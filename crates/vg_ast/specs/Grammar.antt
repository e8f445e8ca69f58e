-- The grammar: which concrete trees are of it. Each type, statement and expression is grouped as its operators want it,
-- and is no deeper than 64.
use Rattle.std.specs.Prelude.{ℕ, Bool, true, ◌&&◌, nat_le, Option}
use Rattle.std.specs.Option.{option_map_or}
use Rattle.std.specs.List.{list_all}
use Rattle.vg_ast.specs.Concrete.{Expr, TypeTree, Statement}
use Rattle.vg_ast.specs.Grouping.{is_grouped, is_grouped_type, is_grouped_statement}
use Rattle.vg_ast.specs.Depth.{depth, depth_type, depth_statement}
use Rattle.vg_ast.specs.ConcreteItem.{Row, Range, Field, Parameter, Fix, Part, text, mnemonic, register_part, number_part, target, Item, constant, using, function, program_counter, memory, register, register_file, format, instruction, encoding, assembly, Register, Role, stack_pointer, return_address, return_value, arguments, temporaries, saved, code_base, data_base, stack, Description}

-- the greatest depth of a tree
abbrev pub most_depth : ℕ
most_depth = 64

abbrev pub is_expression : Expr → Bool
is_expression e = is_grouped e && nat_le (depth e) most_depth

abbrev pub is_type : TypeTree → Bool
is_type t = is_grouped_type t && nat_le (depth_type t) most_depth

abbrev pub is_statement : Statement → Bool
is_statement s = is_grouped_statement s && nat_le (depth_statement s) most_depth

-- each of a row is of the grammar
abbrev pub is_row : {X : Type 0} → (X → Bool) → Row X → Bool
is_row is_right row = is_right row.first && list_all (λ x. is_right x.1) row.more

abbrev pub is_optional_row : {X : Type 0} → (X → Bool) → Option (Row X) → Bool
is_optional_row is_right row = option_map_or (is_row is_right) row true

abbrev pub is_optional_expression : Option (ℕ × Expr) → Bool
is_optional_expression e = option_map_or (λ x. is_expression x.1) e true

abbrev pub is_range : Range → Bool
is_range range = is_expression range.high && is_optional_expression range.low

abbrev pub is_field : Field → Bool
is_field field = is_row is_range field.ranges

abbrev pub is_parameter : Parameter → Bool
is_parameter parameter = is_type parameter.declared

abbrev pub is_fix : Fix → Bool
is_fix fix = is_expression fix.value

abbrev pub is_part : Part → Bool
is_part (text at characters) = true
is_part (mnemonic at) = true
is_part (register_part at opening file inner_opening field inner_closing closing) = true
is_part (number_part form at opening field closing) = true
is_part (target at opening field comma shift closing) = is_expression shift

abbrev pub is_item : Item → Bool
is_item (constant at n equal value) = is_expression value
is_item (using at n equal meaning) = is_type meaning
is_item (function at n opening parameters closing arrow result equal body) = is_optional_row is_parameter parameters && is_type result && is_expression body
is_item (program_counter at at_counter n colon declared) = is_type declared
is_item (memory at n colon address arrow cell) = is_type address && is_type cell
is_item (register at n colon declared) = is_type declared
is_item (register_file at at_file n colon index arrow declared zero) = is_type index && is_type declared && is_optional_expression zero
is_item (format at n colon declared equal opening fields closing) = is_type declared && is_row is_field fields
is_item (instruction at n colon of_format equal behaviour) = is_statement behaviour
is_item (encoding at n equal opening fixes closing) = is_optional_row is_fix fixes
is_item (assembly at n equal opening parts closing) = is_row is_part parts

abbrev pub is_register : Register → Bool
is_register reg = is_expression reg.index

abbrev pub is_role : Role → Bool
is_role (stack_pointer at second equal reg) = is_register reg
is_role (return_address at second equal reg) = is_register reg
is_role (return_value at second equal reg) = is_register reg
is_role (arguments at equal registers) = is_row is_register registers
is_role (temporaries at equal registers) = is_row is_register registers
is_role (saved at equal registers) = is_row is_register registers
is_role (code_base at equal base) = is_expression base
is_role (data_base at equal base) = is_expression base
is_role (stack at equal low dots high) = is_expression low && is_expression high

-- a description of the grammar; headings and stage lines have no trees in them
abbrev pub is_description : Description → Bool
is_description d = list_all is_item d.isa.inner && option_map_or (λ abi. list_all is_role abi.inner) d.abi true
