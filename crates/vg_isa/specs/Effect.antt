-- What an instruction does: the writes that it makes, and the program counter after it. All reads see the
-- state before the instruction.
use Rattle.std.specs.Prelude.{ℕ, List, Option, Some, None, slice_get, if◌then◌else◌}
use Rattle.std.specs.Option.{option_and_then, option_map, option_map_or}
use Rattle.std.specs.List.{filter_map}
use Rattle.vg_bits.specs.BitValue.{BitValue}
use Rattle.vg_bits.specs.BitValue as bits
use Rattle.vg_isa.specs.declared.isa.Parts.{Parts}
use Rattle.vg_isa.specs.declared.instr.Instr.{Instr}
use Rattle.vg_isa.specs.declared.instr.Write.{Write}
use Rattle.vg_isa.specs.declared.write_made.Made.{Made}
use Rattle.vg_isa.specs.Declaration.{word_bytes}
use Rattle.vg_isa.specs.Value.{Reads, value_of, holds}

-- the write that is made, where its guard holds
abbrev pub made_by : Parts → Write → ℕ → Reads → Option Made
made_by d write word s =
    if holds (value_of d write.guard word s)
    then Some (record { resource = write.resource; at = option_map (λ at. value_of d at word s) write.at; value = value_of d write.value word s })
    else None

-- the k-th write of an instruction, where it is made
abbrev pub made_of : Parts → Instr → ℕ → ℕ → Reads → Option Made
made_of d instr k word s = option_and_then (λ write. made_by d write word s) (slice_get instr.writes k)

-- all writes that an instruction makes, in the order of its writes
abbrev pub effect_of : Parts → Instr → ℕ → Reads → List Made
effect_of d instr word s = filter_map (λ write. made_by d write word s) instr.writes

-- the address after an instruction's own
abbrev pub following : Parts → Reads → BitValue
following d s = bits.add s.pc (record { width = d.pc.width; number = word_bytes d })

-- the program counter after an instruction: what is written to it where its guard holds, else the address
-- after its own
abbrev pub next_pc_of : Parts → Instr → ℕ → Reads → BitValue
next_pc_of d instr word s =
    option_map_or (λ next. if holds (value_of d next.0 word s) then value_of d next.1 word s else following d s) instr.next (following d s)
