-- The registers of roles, beside the first one.
use Rattle.std.specs.Prelude.{Bool, ◌&&◌, List, [], ◌∷◌, Option, Some, None}
use Rattle.vg_ast.specs.declared.register.Register.{Register}
use Rattle.vg_type.specs.Item.{Setting}
use Rattle.vg_declare.specs.AbiRole.{is_good, same_file}

abbrev pub first_register : List Register → Option Register
first_register [] = None
first_register (register ∷ more) = Some register

-- one that a role may name, and of the same file as the first one
abbrev pub is_right : Setting → Register → Register → Bool
is_right setting first register = is_good setting register && same_file first register
