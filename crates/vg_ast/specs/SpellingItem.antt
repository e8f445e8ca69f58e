-- The tokens that the concrete tree of an item, a role, a stage line, a heading or a description spells, with other
-- tokens behind them: a line for each alternative of the grammar.
use Rattle.std.specs.Prelude.{ℕ, List, [], ◌∷◌, Option, Some, None}
use Rattle.vg_tok.specs.declared.sign.Sign.TheVariants as signs
use Rattle.vg_tok.specs.declared.word.Word.{Word}
use Rattle.vg_tok.specs.declared.word.Word.TheVariants as words
use Rattle.vg_ast.specs.declared.part.NumberFormat.{NumberFormat}
use Rattle.vg_ast.specs.declared.part.NumberFormat.TheVariants as formats
use Rattle.vg_ast.specs.Placed.{Placed, sign, word, name, string}
use Rattle.vg_ast.specs.Spelling.{spelled, spelled_type, spelled_statement}
use Rattle.vg_ast.specs.Concrete.{Expr}
use Rattle.vg_ast.specs.ConcreteItem.{Row, Range, Field, Parameter, Fix, Part, text, mnemonic, register_part, number_part, target, Item, constant, using, function, program_counter, memory, register, register_file, format, instruction, encoding, assembly, Register, Role, stack_pointer, return_address, return_value, arguments, temporaries, saved, code_base, data_base, stack, Act, read, write, compute, resolve, MicroItem, stage, forward, IsaHeading, AbiHeading, MicroHeading, Section, Description}

-- what one tree of a kind spells, with tokens behind it
abbrev pub Spells : Type 0 → Type 0
Spells X = X → List Placed → List Placed

abbrev pub spelled_more : {X : Type 0} → Spells X → List (ℕ × X) → List Placed → List Placed
spelled_more spells [] ts = ts
spelled_more spells (x ∷ more) ts = sign signs.Comma x.0 ∷ spells x.1 (spelled_more spells more ts)

abbrev pub spelled_row : {X : Type 0} → Spells X → Row X → List Placed → List Placed
spelled_row spells row ts = spells row.first (spelled_more spells row.more ts)

abbrev pub spelled_optional_row : {X : Type 0} → Spells X → Option (Row X) → List Placed → List Placed
spelled_optional_row spells None ts = ts
spelled_optional_row spells (Some row) ts = spelled_row spells row ts

abbrev pub spelled_low : Option (ℕ × Expr) → List Placed → List Placed
spelled_low None ts = ts
spelled_low (Some low) ts = sign signs.DotDot low.0 ∷ spelled low.1 ts

abbrev pub spelled_range : Range → List Placed → List Placed
spelled_range range ts = spelled range.high (spelled_low range.low ts)

abbrev pub spelled_field : Field → List Placed → List Placed
spelled_field field ts = name field.name ∷ sign signs.OpenBracket field.opening ∷ spelled_row spelled_range field.ranges (sign signs.CloseBracket field.closing ∷ ts)

abbrev pub spelled_parameter : Parameter → List Placed → List Placed
spelled_parameter parameter ts = name parameter.name ∷ sign signs.Colon parameter.colon ∷ spelled_type parameter.declared ts

abbrev pub spelled_fix : Fix → List Placed → List Placed
spelled_fix fix ts = name fix.name ∷ sign signs.Equal fix.equal ∷ spelled fix.value ts

abbrev pub format_word : NumberFormat → Word
format_word formats.Decimal = words.Decimal
format_word formats.Signed = words.Signed
format_word formats.Hex = words.Hex

abbrev pub spelled_part : Part → List Placed → List Placed
spelled_part (text at characters) ts = string characters at ∷ ts
spelled_part (mnemonic at) ts = word words.Mnemonic at ∷ ts
spelled_part (register_part at opening file inner_opening field inner_closing closing) ts =
    word words.Register at ∷ sign signs.OpenParenthesis opening ∷ name file ∷ sign signs.OpenParenthesis inner_opening ∷ name field
    ∷ sign signs.CloseParenthesis inner_closing ∷ sign signs.CloseParenthesis closing ∷ ts
spelled_part (number_part form at opening field closing) ts =
    word (format_word form) at ∷ sign signs.OpenParenthesis opening ∷ name field ∷ sign signs.CloseParenthesis closing ∷ ts
spelled_part (target at opening field comma shift closing) ts =
    word words.Target at ∷ sign signs.OpenParenthesis opening ∷ name field ∷ sign signs.Comma comma ∷ spelled shift (sign signs.CloseParenthesis closing ∷ ts)

abbrev pub spelled_zero : Option (ℕ × Expr) → List Placed → List Placed
spelled_zero None ts = ts
spelled_zero (Some zero) ts = word words.Zero zero.0 ∷ spelled zero.1 ts

abbrev pub spelled_item : Item → List Placed → List Placed
spelled_item (constant at n equal value) ts = word words.Constant at ∷ name n ∷ sign signs.Equal equal ∷ spelled value ts
spelled_item (using at n equal meaning) ts = word words.Using at ∷ name n ∷ sign signs.Equal equal ∷ spelled_type meaning ts
spelled_item (function at n opening parameters closing arrow result equal body) ts =
    word words.Function at ∷ name n ∷ sign signs.OpenParenthesis opening ∷ spelled_optional_row spelled_parameter parameters
    (sign signs.CloseParenthesis closing ∷ sign signs.Arrow arrow ∷ spelled_type result (sign signs.Equal equal ∷ spelled body ts))
spelled_item (program_counter at at_counter n colon declared) ts =
    word words.Program at ∷ word words.Counter at_counter ∷ name n ∷ sign signs.Colon colon ∷ spelled_type declared ts
spelled_item (memory at n colon address arrow cell) ts =
    word words.Memory at ∷ name n ∷ sign signs.Colon colon ∷ spelled_type address (sign signs.Arrow arrow ∷ spelled_type cell ts)
spelled_item (register at n colon declared) ts = word words.Register at ∷ name n ∷ sign signs.Colon colon ∷ spelled_type declared ts
spelled_item (register_file at at_file n colon index arrow declared zero) ts =
    word words.Register at ∷ word words.File at_file ∷ name n ∷ sign signs.Colon colon
    ∷ spelled_type index (sign signs.Arrow arrow ∷ spelled_type declared (spelled_zero zero ts))
spelled_item (format at n colon declared equal opening fields closing) ts =
    word words.Format at ∷ name n ∷ sign signs.Colon colon ∷ spelled_type declared
    (sign signs.Equal equal ∷ sign signs.OpenBrace opening ∷ spelled_row spelled_field fields (sign signs.CloseBrace closing ∷ ts))
spelled_item (instruction at n colon of_format equal behaviour) ts =
    word words.Instruction at ∷ name n ∷ sign signs.Colon colon ∷ name of_format ∷ sign signs.Equal equal ∷ spelled_statement behaviour ts
spelled_item (encoding at n equal opening fixes closing) ts =
    word words.Encoding at ∷ name n ∷ sign signs.Equal equal ∷ sign signs.OpenBrace opening ∷ spelled_optional_row spelled_fix fixes (sign signs.CloseBrace closing ∷ ts)
spelled_item (assembly at n equal opening parts closing) ts =
    word words.Assembly at ∷ name n ∷ sign signs.Equal equal ∷ sign signs.OpenParenthesis opening ∷ spelled_row spelled_part parts (sign signs.CloseParenthesis closing ∷ ts)

abbrev pub spelled_register : Register → List Placed → List Placed
spelled_register reg ts =
    name reg.file ∷ sign signs.OpenParenthesis reg.opening ∷ spelled reg.index (sign signs.CloseParenthesis reg.closing ∷ ts)

abbrev pub spelled_role : Role → List Placed → List Placed
spelled_role (stack_pointer at second equal reg) ts = word words.Stack at ∷ word words.Pointer second ∷ sign signs.Equal equal ∷ spelled_register reg ts
spelled_role (return_address at second equal reg) ts = word words.Return at ∷ word words.Address second ∷ sign signs.Equal equal ∷ spelled_register reg ts
spelled_role (return_value at second equal reg) ts = word words.Return at ∷ word words.Value second ∷ sign signs.Equal equal ∷ spelled_register reg ts
spelled_role (arguments at equal registers) ts = word words.Arguments at ∷ sign signs.Equal equal ∷ spelled_row spelled_register registers ts
spelled_role (temporaries at equal registers) ts = word words.Temporaries at ∷ sign signs.Equal equal ∷ spelled_row spelled_register registers ts
spelled_role (saved at equal registers) ts = word words.Saved at ∷ sign signs.Equal equal ∷ spelled_row spelled_register registers ts
spelled_role (code_base at equal base) ts = word words.Code at ∷ sign signs.Equal equal ∷ spelled base ts
spelled_role (data_base at equal base) ts = word words.Data at ∷ sign signs.Equal equal ∷ spelled base ts
spelled_role (stack at equal low dots high) ts = word words.Stack at ∷ sign signs.Equal equal ∷ spelled low (sign signs.DotDot dots ∷ spelled high ts)

abbrev pub spelled_act : Act → List Placed → List Placed
spelled_act (read at resource) ts = word words.Read at ∷ name resource ∷ ts
spelled_act (write at resource) ts = word words.Write at ∷ name resource ∷ ts
spelled_act (compute at) ts = word words.Compute at ∷ ts
spelled_act (resolve at) ts = word words.Resolve at ∷ ts

abbrev pub spelled_acts : Option (ℕ × Row Act) → List Placed → List Placed
spelled_acts None ts = ts
spelled_acts (Some acts) ts = sign signs.Colon acts.0 ∷ spelled_row spelled_act acts.1 ts

abbrev pub spelled_micro_item : MicroItem → List Placed → List Placed
spelled_micro_item (stage at n acts) ts = word words.Stage at ∷ name n ∷ spelled_acts acts ts
spelled_micro_item (forward at n) ts = word words.Forward at ∷ name n ∷ ts

abbrev pub spelled_isa_heading : IsaHeading → List Placed → List Placed
spelled_isa_heading h ts =
    word words.Instruction h.at ∷ word words.Set h.at_set ∷ word words.Architecture h.at_architecture ∷ name h.name ∷ sign signs.Equal h.equal ∷ sign signs.OpenBrace h.opening ∷ ts

abbrev pub spelled_abi_heading : AbiHeading → List Placed → List Placed
spelled_abi_heading h ts =
    word words.Application h.at ∷ word words.Binary h.at_binary ∷ word words.Interface h.at_interface ∷ word words.For h.at_for
    ∷ name h.name ∷ sign signs.Equal h.equal ∷ sign signs.OpenBrace h.opening ∷ ts

abbrev pub spelled_micro_heading : MicroHeading → List Placed → List Placed
spelled_micro_heading h ts =
    word words.Micro h.at ∷ word words.Architecture h.at_architecture ∷ word words.For h.at_for ∷ name h.name ∷ sign signs.Equal h.equal ∷ sign signs.OpenBrace h.opening ∷ ts

abbrev pub spelled_all : {X : Type 0} → Spells X → List X → List Placed → List Placed
spelled_all spells [] ts = ts
spelled_all spells (x ∷ xs) ts = spells x (spelled_all spells xs ts)

abbrev pub spelled_section : {H X : Type 0} → Spells H → Spells X → Section H X → List Placed → List Placed
spelled_section spells_heading spells section ts =
    spells_heading section.heading (spelled_all spells section.inner (sign signs.CloseBrace section.closing ∷ ts))

abbrev pub spelled_optional_section : {H X : Type 0} → Spells H → Spells X → Option (Section H X) → List Placed → List Placed
spelled_optional_section spells_heading spells None ts = ts
spelled_optional_section spells_heading spells (Some section) ts = spelled_section spells_heading spells section ts

-- the tokens of a description
abbrev pub spelled_description : Description → List Placed
spelled_description d =
    spelled_section spelled_isa_heading spelled_item d.isa
    (spelled_optional_section spelled_abi_heading spelled_role d.abi
    (spelled_optional_section spelled_micro_heading spelled_micro_item d.micro []))
