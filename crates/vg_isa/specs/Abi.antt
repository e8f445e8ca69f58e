-- The rules of an application binary interface.
use Rattle.std.specs.Prelude.{ℕ, ◌%◌, ◌^◌, Bool, false, ◌&&◌, ◌||◌, not, nat_eq, nat_le, nat_lt, List, ◌∷◌, ◌++◌, length, slice_get}
use Rattle.std.specs.Option.{option_map_or}
use Rattle.std.specs.List.{list_all, list_any}
use Rattle.vg_isa.specs.declared.isa.Parts.{Parts}
use Rattle.vg_isa.specs.declared.abi.Abi.{Abi}
use Rattle.vg_isa.specs.declared.declaration.RegDecl.{RegDecl}
use Rattle.vg_isa.specs.Declaration.{word_bytes}
use Rattle.vg_isa.specs.Same.{all_differ}

-- the registers that have a role beside the return value
abbrev pub other_roles : Abi → List ℕ
other_roles abi = abi.stack_pointer ∷ abi.return_address ∷ abi.arguments ++ abi.temporaries ++ abi.saved

-- a file of registers as wide as the program counter, one of which reads as 0, has this register, and it isn't that one
abbrev pub is_general : ℕ → ℕ → RegDecl → Bool
is_general width r decl =
    option_map_or (λ (w : ℕ). nat_lt r (2 ^ w)) decl.index false
    && option_map_or (λ (z : ℕ). not (nat_eq r z)) decl.zero false
    && nat_eq decl.width width

-- the file of the interface has this register
abbrev pub is_role : Parts → Abi → ℕ → Bool
is_role d abi r = option_map_or (is_general d.pc.width r) (slice_get d.regs abi.file.0) false

-- the registers of roles differ, but that the return value may be one of the arguments
abbrev pub roles_differ : Abi → Bool
roles_differ abi =
    all_differ nat_eq (other_roles abi)
    && (list_any (nat_eq abi.return_value) abi.arguments || not (list_any (nat_eq abi.return_value) (other_roles abi)))

abbrev pub are_roles : Parts → Abi → Bool
are_roles d abi =
    list_all (is_role d abi) (abi.return_value ∷ other_roles abi) && roles_differ abi
    && nat_le 3 (length abi.temporaries) && nat_le 1 (length abi.saved)

-- code, data and stack begin where they may
abbrev pub are_aligned : Parts → Abi → Bool
are_aligned d abi =
    nat_eq (abi.code_base % word_bytes d) 0
    && nat_eq (abi.data_base % 16) 0 && nat_eq (abi.low % 16) 0 && nat_eq (abi.high % 16) 0

-- they lie behind one another, within the memory
abbrev pub are_behind : Parts → Abi → Bool
are_behind d abi =
    nat_lt abi.code_base abi.data_base && nat_lt abi.data_base abi.low
    && nat_lt abi.low abi.high && nat_lt abi.high (2 ^ d.pc.width)

abbrev pub is_abi : Parts → Abi → Bool
is_abi d abi = are_roles d abi && are_aligned d abi && are_behind d abi
