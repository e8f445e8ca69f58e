-- The state of a machine: what it reads, and how a write changes it.
use Rattle.std.specs.Prelude.{◌≡◌, ℕ, zero, suc, ◌+◌, ◌/◌, ◌%◌, ◌^◌, ◌<◌, Bool, true, false, ◌&&◌, IsTrue, nat_eq, List, [], ◌∷◌, length, map, replicate, Option, Some, None, slice_get, slice_set, slice_index, unwrap_or, if◌then◌else◌}
use Rattle.std.specs.Option.{option_map_or}
use Rattle.std.specs.List.{list_all}
use Rattle.std.specs.Ordering.{nat_cmp}
use Rattle.std.specs.FinMap.{FinMap, empty}
use Rattle.vg_bits.specs.BitValue.{BitValue}
use Rattle.vg_isa.specs.declared.isa.Parts.{Parts}
use Rattle.vg_isa.specs.declared.instr.Instr.{Instr}
use Rattle.vg_isa.specs.declared.declaration.RegDecl.{RegDecl}
use Rattle.vg_isa.specs.declared.write_made.Made.{Made}
use Rattle.vg_isa.specs.declared.ids.ResourceId.{ResourceId}
use Rattle.vg_isa.specs.declared.ids.ResourceId.TheVariants.{Memory, Reg}
use Rattle.vg_isa.specs.Declaration.{register_width, register_count}
use Rattle.vg_isa.specs.Typing.{fits}
use Rattle.vg_isa.specs.Value.{Reads}
use Rattle.vg_isa.specs.Effect.{effect_of, next_pc_of}
use Rattle.vg_mem.specs.Bytes.{AreBytes, byte_in, laid, stored}
use Rattle.vg_image.specs.declared.image.Image.{Image}

-- A state has a program counter, for each declaration the numbers of its registers, and the bytes of memory that aren't
-- 0, by their addresses.
pub record State : Type 0 where
  pub pc : ℕ
  pub registers : List (List ℕ)
  pub bytes : FinMap nat_cmp ℕ

-- ---- reading

-- the byte at an address
abbrev pub byte_at : State → ℕ → ℕ
byte_at s at = byte_in s.bytes at

-- the register of a declaration that reads as 0 is this one
abbrev pub is_zero_register : List RegDecl → ℕ → ℕ → Bool
is_zero_register regs r i = option_map_or (λ (decl : RegDecl). option_map_or (λ (z : ℕ). nat_eq z i) decl.zero false) (slice_get regs r) false

-- the numbers of a declaration's registers
abbrev pub numbers_of : State → ℕ → List ℕ
numbers_of s r = unwrap_or (slice_get s.registers r) []

-- what a register reads: its number, and 0 at the zero register
abbrev pub register_number : Parts → State → ℕ → ℕ → ℕ
register_number d s r i = if is_zero_register d.regs r i then 0 else slice_index (numbers_of s r) i

-- what the state reads
abbrev pub reads_of : Parts → State → Reads
reads_of d s = record {
  pc = record { width = d.pc.width; number = s.pc };
  reg = λ r i. record { width = register_width d.regs r; number = register_number d s r i };
  byte = byte_at s;
}

-- ---- writing

-- a write of the zero register does nothing
abbrev pub register_written : Parts → ℕ → ℕ → ℕ → State → State
register_written d r i n s =
    if is_zero_register d.regs r i then s
    else record { pc = s.pc; registers = slice_set s.registers r (slice_set (numbers_of s r) i n); bytes = s.bytes }

-- a state after a write; the index of a single register is 0
abbrev pub resource_written : Parts → ResourceId → Option BitValue → BitValue → State → State
resource_written d (Reg r) None value s = register_written d r.0 0 value.number s
resource_written d (Reg r) (Some at) value s = register_written d r.0 at.number value.number s
resource_written d Memory (Some at) value s =
    record { pc = s.pc; registers = s.registers; bytes = stored (2 ^ d.pc.width) at.number (value.width / 8) value.number s.bytes }
resource_written d Memory None value s = s

-- a state after writes, each of another resource
abbrev pub all_written : Parts → List Made → State → State
all_written d [] s = s
all_written d (made ∷ mades) s = resource_written d made.resource made.at made.value (all_written d mades s)

-- the state after an instruction: its writes, and the program counter after it
abbrev pub state_after : Parts → Instr → ℕ → State → State
state_after d instr word s =
    let written = all_written d (effect_of d instr word (reads_of d s)) s in
    record { pc = (next_pc_of d instr word (reads_of d s)).number; registers = written.registers; bytes = written.bytes }

-- ---- the first state

-- all registers are 0, and memory has the image's data
abbrev pub first_state : Parts → Image → State
first_state d i = record {
  pc = i.entry;
  registers = map (λ (decl : RegDecl). replicate (register_count decl) 0) d.regs;
  bytes = laid i.data_base i.bytes empty;
}

-- ---- what a state keeps

-- as many numbers as the declaration has registers, each below 2 to their width, and 0 at the register that reads as 0
abbrev pub is_file_of : RegDecl → List ℕ → Bool
is_file_of decl numbers =
    nat_eq (length numbers) (register_count decl) && list_all (fits decl.width) numbers
    && option_map_or (λ (z : ℕ). nat_eq (slice_index numbers z) 0) decl.zero true

-- the numbers of each declaration
abbrev pub are_files : List RegDecl → List (List ℕ) → Bool
are_files [] [] = true
are_files [] (numbers ∷ files) = false
are_files (decl ∷ regs) [] = false
are_files (decl ∷ regs) (numbers ∷ files) = is_file_of decl numbers && are_files regs files

-- What a state of a description keeps. Two that read alike are one (law `same_reads`).
pub record IsState (d : Parts) (s : State) : Type 0 where
  pub pc : s.pc < 2 ^ d.pc.width
  pub files : IsTrue (are_files d.regs s.registers)
  pub bytes : AreBytes (2 ^ d.pc.width) s.bytes
