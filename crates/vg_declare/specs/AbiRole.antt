-- The rules of the application binary interface.
use Rattle.std.specs.Prelude.{ℕ, ◌%◌, ◌/◌, ◌^◌, Bool, true, false, ◌&&◌, not, nat_eq, nat_le, nat_lt, List, [], ◌∷◌, ◌++◌, map, flat_map, length, Option, Some, None}
use Rattle.std.specs.List.{list_all, list_any, range_with_len}
use Rattle.std.specs.Str.{bytes_eq}
use Rattle.vg_ast.specs.declared.expr.Expr.{Expr}
use Rattle.vg_ast.specs.declared.item.Item.{Item}
use Rattle.vg_ast.specs.declared.item.Item.TheVariants as items
use Rattle.vg_ast.specs.declared.register.Register.{Register}
use Rattle.vg_ast.specs.declared.role.Role.{Role}
use Rattle.vg_ast.specs.declared.role.Role.TheVariants as roles
use Rattle.vg_ast.specs.declared.abi.Abi.{Abi}
use Rattle.vg_names.specs.Definition.{item_named}
use Rattle.vg_whole.specs.Whole.{whole_of}
use Rattle.vg_type.specs.Judged.{told}
use Rattle.vg_type.specs.Scope.{declared_in, address_width, is_bits}
use Rattle.vg_type.specs.Item.{Setting, first_format, width_given}
use Rattle.vg_isa.specs.Same.{all_differ}
use Rattle.vg_tree.specs.Number.{value_or, width_or}

-- what an expression outside of all inner names is worth
abbrev pub number_of : Setting → Expr → ℕ
number_of setting e = value_or (whole_of setting.globals.constants e [])

-- ---- roles

-- the nine roles, by a number of each
abbrev pub role_number : Role → ℕ
role_number (roles.StackPointer at register) = 0
role_number (roles.ReturnAddress at register) = 1
role_number (roles.ReturnValue at register) = 2
role_number (roles.Arguments at registers) = 3
role_number (roles.Temporaries at registers) = 4
role_number (roles.Saved at registers) = 5
role_number (roles.Code at base) = 6
role_number (roles.Data at base) = 7
role_number (roles.Stack at low high) = 8

abbrev pub role_start : Role → ℕ
role_start (roles.StackPointer at register) = at
role_start (roles.ReturnAddress at register) = at
role_start (roles.ReturnValue at register) = at
role_start (roles.Arguments at registers) = at
role_start (roles.Temporaries at registers) = at
role_start (roles.Saved at registers) = at
role_start (roles.Code at base) = at
role_start (roles.Data at base) = at
role_start (roles.Stack at low high) = at

-- no role stands twice
abbrev pub stand_once : List Role → Bool
stand_once front = all_differ nat_eq (map role_number front)

-- all nine stand there
abbrev pub are_complete : List Role → Bool
are_complete front = list_all (λ k. list_any (λ (role : Role). nat_eq (role_number role) k) front) (range_with_len 0 9)

-- ---- registers

abbrev pub return_value : Role → List Register
return_value (roles.ReturnValue at register) = register ∷ []
return_value _ = []

abbrev pub arguments : Role → List Register
arguments (roles.Arguments at registers) = registers
arguments _ = []

-- the registers of all other roles
abbrev pub other_registers : Role → List Register
other_registers (roles.StackPointer at register) = register ∷ []
other_registers (roles.ReturnAddress at register) = register ∷ []
other_registers (roles.Temporaries at registers) = registers
other_registers (roles.Saved at registers) = registers
other_registers _ = []

abbrev pub registers_of : Role → List Register
registers_of role = return_value role ++ arguments role ++ other_registers role

abbrev pub index_of : Setting → Register → ℕ
index_of setting register = number_of setting register.index

-- a constant of a register file is there and isn't this number
abbrev pub is_not_zero : Setting → ℕ → Option Expr → Bool
is_not_zero setting k None = false
is_not_zero setting k (Some constant) = not (nat_eq k (number_of setting constant))

-- a register of a file of registers of `Bits<W>` with a zero, and not the one that is always 0
abbrev pub is_general : Setting → ℕ → Option Item → Bool
is_general setting k (Some (items.RegisterFile at name index given constant)) =
    is_bits (address_width setting.all setting.globals) (declared_in setting.globals given) && is_not_zero setting k constant
is_general setting k _ = false

abbrev pub is_good : Setting → Register → Bool
is_good setting register = is_general setting (index_of setting register) (item_named setting.all register.file.text)

abbrev pub same_file : Register → Register → Bool
same_file a b = bytes_eq a.file.text b.file.text

-- all of one file
abbrev pub are_of_one_file : List Register → Bool
are_of_one_file [] = true
are_of_one_file (register ∷ more) = list_all (same_file register) more

abbrev pub indices : Setting → (Role → List Register) → List Role → List ℕ
indices setting registers front = map (index_of setting) (flat_map registers front)

-- the registers differ, but that the return value may be one of the arguments
abbrev pub registers_differ : Setting → List Role → Bool
registers_differ setting front =
    all_differ nat_eq (indices setting arguments front ++ indices setting other_registers front)
    && list_all (λ k. not (list_any (nat_eq k) (indices setting other_registers front))) (indices setting return_value front)

-- three temporaries at least, and one saved register
abbrev pub are_enough : Role → Bool
are_enough (roles.Temporaries at registers) = nat_le 3 (length registers)
are_enough (roles.Saved at registers) = nat_le 1 (length registers)
are_enough _ = true

-- ---- the layout of memory

-- a multiple, where it is known of what
abbrev pub is_multiple : ℕ → ℕ → Bool
is_multiple k n = nat_eq (n % k) 0

-- B: the bytes of a format
abbrev pub word_bytes : Setting → ℕ
word_bytes setting = width_or (width_given setting.globals (first_format setting.all)) / 8

abbrev pub is_aligned : Setting → Role → Bool
is_aligned setting (roles.Code at base) = is_multiple (word_bytes setting) (number_of setting base)
is_aligned setting (roles.Data at base) = is_multiple 16 (number_of setting base)
is_aligned setting (roles.Stack at low high) = is_multiple 16 (number_of setting low) && is_multiple 16 (number_of setting high)
is_aligned setting _ = true

-- the parts of `code < data < low < high < 2 ^ W` that are there
abbrev pub code_base : Setting → Role → List ℕ
code_base setting (roles.Code at base) = number_of setting base ∷ []
code_base setting _ = []

abbrev pub data_base : Setting → Role → List ℕ
data_base setting (roles.Data at base) = number_of setting base ∷ []
data_base setting _ = []

abbrev pub stack_ends : Setting → Role → List ℕ
stack_ends setting (roles.Stack at low high) = number_of setting low ∷ number_of setting high ∷ []
stack_ends setting _ = []

abbrev pub layout_of : Setting → List Role → List ℕ
layout_of setting front =
    flat_map (code_base setting) front ++ flat_map (data_base setting) front ++ flat_map (stack_ends setting) front
    ++ 2 ^ width_or (address_width setting.all setting.globals) ∷ []

-- each is below all behind it
abbrev pub is_rising : List ℕ → Bool
is_rising [] = true
is_rising (n ∷ more) = list_all (nat_lt n) more && is_rising more

-- ---- the rules

-- roles keep all rules among them
abbrev pub are_kept : Setting → List Role → Bool
are_kept setting front =
    stand_once front
    && list_all (is_good setting) (flat_map registers_of front) && are_of_one_file (flat_map registers_of front)
    && registers_differ setting front && list_all are_enough front
    && list_all (is_aligned setting) front && is_rising (layout_of setting front)

-- the roles that, with all in front of them, break a rule
abbrev pub broken_roles : Setting → List Role → List Role → List ℕ
broken_roles setting front [] = []
broken_roles setting front (role ∷ more) =
    told (not (are_kept setting (front ++ role ∷ []))) (role_start role) ++ broken_roles setting (front ++ role ∷ []) more

-- a lacking role is told at the `}` of the part
abbrev pub abi_breaks : Setting → Option Abi → List ℕ
abi_breaks setting None = []
abi_breaks setting (Some abi) = broken_roles setting [] abi.roles ++ told (not (are_complete abi.roles)) abi.close
