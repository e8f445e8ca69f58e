-- The numbers that roles name, by what they are.
use Rattle.std.specs.Prelude.{ℕ, List, map, flat_map}
use Rattle.vg_ast.specs.declared.role.Role.{Role}
use Rattle.vg_type.specs.Item.{Setting}
use Rattle.vg_declare.specs.AbiRole.{index_of, return_value, arguments, code_base, data_base, stack_ends}
use Rattle.vg_processor.specs.IsaOf.{stack_pointer, return_address, temporaries, saved}
use Rattle.vg_processor.specs.declared.role_part.RolePart.{RolePart}
use Rattle.vg_processor.specs.declared.role_part.RolePart.TheVariants as part

abbrev pub numbers_by : Setting → RolePart → Role → List ℕ
numbers_by setting part.StackPointer role = map (index_of setting) (stack_pointer role)
numbers_by setting part.ReturnAddress role = map (index_of setting) (return_address role)
numbers_by setting part.ReturnValue role = map (index_of setting) (return_value role)
numbers_by setting part.Arguments role = map (index_of setting) (arguments role)
numbers_by setting part.Temporaries role = map (index_of setting) (temporaries role)
numbers_by setting part.Saved role = map (index_of setting) (saved role)
numbers_by setting part.Code role = code_base setting role
numbers_by setting part.Data role = data_base setting role
numbers_by setting part.Stack role = stack_ends setting role

-- those of all roles
abbrev pub numbers_in : Setting → RolePart → List Role → List ℕ
numbers_in setting which front = flat_map (numbers_by setting which) front
