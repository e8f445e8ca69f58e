-- The run of an image, one instruction at a time, as the laws of a pipeline speak of it.
use Rattle.std.specs.Prelude.{ℕ, zero, suc}
use Rattle.vg_bits.specs.BitValue.{BitValue}
use Rattle.vg_isa.specs.declared.isa.Parts.{Parts}
use Rattle.vg_isa.specs.Declaration.{register_width}
use Rattle.vg_image.specs.declared.image.Image.{Image}
use Rattle.vg_image.specs.State.{State, byte_at, register_number}
use Rattle.vg_image.specs.Run.{after}
use Rattle.vg_cycle.specs.Description.{View}

-- what a machine's state has at a location
abbrev pub contents_of : Parts → State → ℕ → ℕ → BitValue
contents_of d s zero i = record { width = 8; number = byte_at s i }
contents_of d s (suc r) i = record { width = register_width d.regs r; number = register_number d s r i }

abbrev pub view_of : Parts → State → View
view_of d s = record { pc = s.pc; has = contents_of d s }

-- what the instructions of a run see: each the state after those before it
abbrev pub run_from : Parts → Image → State → ℕ → View
run_from d i first k = view_of d (after d i k first)
