-- The binary interface, by the numbers that its roles name.
use Rattle.std.specs.Prelude.{List}
use Rattle.vg_ast.specs.declared.role.Role.{Role}
use Rattle.vg_type.specs.Item.{Setting}
use Rattle.vg_isa.specs.declared.abi.Abi.{Abi}
use Rattle.vg_processor.specs.IsaOf.{files_of, first_or, second_or}
use Rattle.vg_processor.specs.declared.role_part.RolePart.TheVariants as part
use Rattle.vg_processor.specs.RoleNumbers.{numbers_in}

abbrev pub abi_from : Setting → List Role → Abi
abi_from setting front =
    record {
      file = record { 0 = first_or 0 (files_of setting front) };
      stack_pointer = first_or 0 (numbers_in setting part.StackPointer front);
      return_address = first_or 0 (numbers_in setting part.ReturnAddress front);
      return_value = first_or 0 (numbers_in setting part.ReturnValue front);
      arguments = numbers_in setting part.Arguments front;
      temporaries = numbers_in setting part.Temporaries front;
      saved = numbers_in setting part.Saved front;
      code_base = first_or 0 (numbers_in setting part.Code front);
      data_base = first_or 0 (numbers_in setting part.Data front);
      low = first_or 0 (numbers_in setting part.Stack front);
      high = second_or 0 (numbers_in setting part.Stack front);
    }
