-- What a simulator keeps of its description and its image.
use Rattle.std.specs.Prelude.{ℕ, ◌^◌, Bool, true, false, nat_lt, List}
use Rattle.std.specs.List.{list_all}
use Rattle.vg_isa.specs.declared.isa.Parts.{Parts}
use Rattle.vg_isa.specs.declared.instr.Instr.{Instr}
use Rattle.vg_isa.specs.declared.instr.Write.{Write}
use Rattle.vg_isa.specs.declared.ids.ResourceId.{ResourceId}
use Rattle.vg_isa.specs.declared.ids.ResourceId.TheVariants.{Memory, Reg}

-- a resource is a register
abbrev pub is_register : ResourceId → Bool
is_register Memory = false
is_register (Reg r) = true

-- each of the writes is of a register
abbrev pub write_registers : List Write → Bool
write_registers writes = list_all (λ (write : Write). is_register write.resource) writes

-- each write of each instruction is of a register
abbrev pub is_memory_free : Parts → Bool
is_memory_free d = list_all (λ (instr : Instr). write_registers instr.writes) d.instrs

-- code words have so many bits
abbrev pub are_words : ℕ → List ℕ → Bool
are_words width code = list_all (λ word. nat_lt word (2 ^ width)) code
