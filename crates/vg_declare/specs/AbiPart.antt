-- The parts of roles that the rules of the binary interface compare, by a word for each.
use Rattle.std.specs.Prelude.{ℕ, ◌^◌, Bool, nat_lt, List, ◌++◌, flat_map}
use Rattle.std.specs.List.{list_all}
use Rattle.vg_ast.specs.declared.register.Register.{Register}
use Rattle.vg_ast.specs.declared.role.Role.{Role}
use Rattle.vg_type.specs.Item.{Setting}
use Rattle.vg_declare.specs.declared.abi_part.Registers.{Registers}
use Rattle.vg_declare.specs.declared.abi_part.Registers.TheVariants as registers
use Rattle.vg_declare.specs.declared.abi_part.Bases.{Bases}
use Rattle.vg_declare.specs.declared.abi_part.Bases.TheVariants as bases
use Rattle.vg_declare.specs.AbiRole.{return_value, arguments, other_registers, code_base, data_base, stack_ends, indices}

-- the registers of a role that are asked for
abbrev pub registers_by : Registers → Role → List Register
registers_by registers.ReturnValue role = return_value role
registers_by registers.Arguments role = arguments role
registers_by registers.Others role = other_registers role

-- the ends of memory that are asked for
abbrev pub bases_by : Setting → Bases → Role → List ℕ
bases_by setting bases.Code role = code_base setting role
bases_by setting bases.Data role = data_base setting role
bases_by setting bases.Stack role = stack_ends setting role

-- the numbers of a layout, without the end of memory
abbrev pub bases_of : Setting → List Role → List ℕ
bases_of setting front =
    flat_map (bases_by setting bases.Code) front ++ flat_map (bases_by setting bases.Data) front ++ flat_map (bases_by setting bases.Stack) front

-- the indices of the registers that have to differ
abbrev pub indices_apart : Setting → List Role → List ℕ
indices_apart setting front = indices setting arguments front ++ indices setting other_registers front

-- all are below the end of memory
abbrev pub are_below : ℕ → List ℕ → Bool
are_below width ns = list_all (λ n. nat_lt n (2 ^ width)) ns
