-- The tree that the concrete tree of an item, a role, a stage line or a description stands for.
use Rattle.std.specs.Prelude.{ℕ, List, [], ◌∷◌, map, Option, Some, None, option_map}
use Rattle.vg_ast.specs.declared.expr.Expr.{Expr}
use Rattle.vg_ast.specs.declared.range.Range.{Range}
use Rattle.vg_ast.specs.declared.field.Field.{Field}
use Rattle.vg_ast.specs.declared.parameter.Parameter.{Parameter}
use Rattle.vg_ast.specs.declared.fix.Fix.{Fix}
use Rattle.vg_ast.specs.declared.part.Part.{Part}
use Rattle.vg_ast.specs.declared.part.Part.TheVariants as parts
use Rattle.vg_ast.specs.declared.item.Item.{Item}
use Rattle.vg_ast.specs.declared.item.Item.TheVariants as items
use Rattle.vg_ast.specs.declared.register.Register.{Register}
use Rattle.vg_ast.specs.declared.role.Role.{Role}
use Rattle.vg_ast.specs.declared.role.Role.TheVariants as roles
use Rattle.vg_ast.specs.declared.act.Act.{Act}
use Rattle.vg_ast.specs.declared.act.Act.TheVariants as acts
use Rattle.vg_ast.specs.declared.micro_item.MicroItem.{MicroItem}
use Rattle.vg_ast.specs.declared.micro_item.MicroItem.TheVariants as micro_items
use Rattle.vg_ast.specs.declared.abi.Abi.{Abi}
use Rattle.vg_ast.specs.declared.micro.Micro.{Micro}
use Rattle.vg_ast.specs.declared.desc.Desc.{Desc}
use Rattle.vg_ast.specs.Tree.{tree_of, type_of, statement_of}
use Rattle.vg_ast.specs.Concrete as concrete
use Rattle.vg_ast.specs.ConcreteItem as concrete_item

abbrev pub row_of : {X Y : Type 0} → (X → Y) → concrete_item.Row X → List Y
row_of of row = of row.first ∷ map (λ x. of x.1) row.more

abbrev pub optional_row_of : {X Y : Type 0} → (X → Y) → Option (concrete_item.Row X) → List Y
optional_row_of of None = []
optional_row_of of (Some row) = row_of of row

abbrev pub optional_tree_of : Option (ℕ × concrete.Expr) → Option Expr
optional_tree_of e = option_map (λ x. tree_of x.1) e

abbrev pub range_of : concrete_item.Range → Range
range_of range = record { high = tree_of range.high; low = optional_tree_of range.low }

abbrev pub field_of : concrete_item.Field → Field
field_of field = record { name = field.name; ranges = row_of range_of field.ranges }

abbrev pub parameter_of : concrete_item.Parameter → Parameter
parameter_of parameter = record { name = parameter.name; declared = type_of parameter.declared }

abbrev pub fix_of : concrete_item.Fix → Fix
fix_of fix = record { name = fix.name; value = tree_of fix.value }

abbrev pub part_of : concrete_item.Part → Part
part_of (concrete_item.text at characters) = parts.Text at characters
part_of (concrete_item.mnemonic at) = parts.Mnemonic at
part_of (concrete_item.register_part at opening file inner_opening field inner_closing closing) = parts.Register at file field
part_of (concrete_item.number_part form at opening field closing) = parts.Number form at field
part_of (concrete_item.target at opening field comma shift closing) = parts.Target at field (tree_of shift)

abbrev pub item_of : concrete_item.Item → Item
item_of (concrete_item.constant at n equal value) = items.Constant at n (tree_of value)
item_of (concrete_item.using at n equal meaning) = items.Using at n (type_of meaning)
item_of (concrete_item.function at n opening parameters closing arrow result equal body) = items.Function at n (optional_row_of parameter_of parameters) (type_of result) (tree_of body)
item_of (concrete_item.program_counter at at_counter n colon declared) = items.ProgramCounter at n (type_of declared)
item_of (concrete_item.memory at n colon address arrow cell) = items.Memory at n (type_of address) (type_of cell)
item_of (concrete_item.register at n colon declared) = items.Register at n (type_of declared)
item_of (concrete_item.register_file at at_file n colon index arrow declared zero) = items.RegisterFile at n (type_of index) (type_of declared) (optional_tree_of zero)
item_of (concrete_item.format at n colon declared equal opening fields closing) = items.Format at n (type_of declared) (row_of field_of fields)
item_of (concrete_item.instruction at n colon of_format equal behaviour) = items.Instruction at n of_format (statement_of behaviour)
item_of (concrete_item.encoding at n equal opening fixes closing) = items.Encoding at n (optional_row_of fix_of fixes)
item_of (concrete_item.assembly at n equal opening row closing) = items.Assembly at n (row_of part_of row)

abbrev pub register_of : concrete_item.Register → Register
register_of register = record { file = register.file; index = tree_of register.index }

abbrev pub role_of : concrete_item.Role → Role
role_of (concrete_item.stack_pointer at second equal register) = roles.StackPointer at (register_of register)
role_of (concrete_item.return_address at second equal register) = roles.ReturnAddress at (register_of register)
role_of (concrete_item.return_value at second equal register) = roles.ReturnValue at (register_of register)
role_of (concrete_item.arguments at equal registers) = roles.Arguments at (row_of register_of registers)
role_of (concrete_item.temporaries at equal registers) = roles.Temporaries at (row_of register_of registers)
role_of (concrete_item.saved at equal registers) = roles.Saved at (row_of register_of registers)
role_of (concrete_item.code_base at equal base) = roles.Code at (tree_of base)
role_of (concrete_item.data_base at equal base) = roles.Data at (tree_of base)
role_of (concrete_item.stack at equal low dots high) = roles.Stack at (tree_of low) (tree_of high)

abbrev pub act_of : concrete_item.Act → Act
act_of (concrete_item.read at resource) = acts.Read at resource
act_of (concrete_item.write at resource) = acts.Write at resource
act_of (concrete_item.compute at) = acts.Compute at
act_of (concrete_item.resolve at) = acts.Resolve at

abbrev pub acts_of : Option (ℕ × concrete_item.Row concrete_item.Act) → List Act
acts_of None = []
acts_of (Some row) = row_of act_of row.1

abbrev pub micro_item_of : concrete_item.MicroItem → MicroItem
micro_item_of (concrete_item.stage at n row) = micro_items.Stage at n (acts_of row)
micro_item_of (concrete_item.forward at n) = micro_items.Forward at n

abbrev pub abi_of : concrete_item.Section concrete_item.AbiHeading concrete_item.Role → Abi
abi_of section = record { at = section.heading.at; name = section.heading.name; roles = map role_of section.inner; close = section.closing }

abbrev pub micro_of : concrete_item.Section concrete_item.MicroHeading concrete_item.MicroItem → Micro
micro_of section = record { at = section.heading.at; name = section.heading.name; items = map micro_item_of section.inner; close = section.closing }

abbrev pub description_of : concrete_item.Description → Desc
description_of d =
    record { name = d.isa.heading.name; items = map item_of d.isa.inner; close = d.isa.closing; abi = option_map abi_of d.abi; micro = option_map micro_of d.micro }
