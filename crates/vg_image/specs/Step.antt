-- One step of an image: an instruction, or the reason why none is done.
use Rattle.std.specs.Prelude.{ℕ, ◌-◌, ◌/◌, ◌%◌, ◌&&◌, nat_eq, nat_le, Option, Some, None, slice_get, if◌then◌else◌}
use Rattle.vg_isa.specs.declared.isa.Parts.{Parts}
use Rattle.vg_isa.specs.declared.instr.Instr.{Instr}
use Rattle.vg_isa.specs.Declaration.{word_bytes}
use Rattle.vg_format.specs.Matching.{decoded}
use Rattle.vg_image.specs.declared.image.Image.{Image}
use Rattle.vg_image.specs.declared.ending.Ending.{Ending}
use Rattle.vg_image.specs.declared.ending.Ending.TheVariants.{End, StackEnd, OutOfCode, Illegal}
use Rattle.vg_image.specs.State.{State, state_after}

-- a step moves to a state, or the run is over
pub data Step : Type 0 where
  Moved : State → Step
  Over : Ending → Step

-- the code word at an address: the k-th stands at base + k * the bytes of a word
abbrev pub word_at : Parts → Image → ℕ → Option ℕ
word_at d i at =
    if nat_le i.base at && nat_eq ((at - i.base) % word_bytes d) 0
    then slice_get i.code ((at - i.base) / word_bytes d)
    else None

-- the step of an instruction, where there is one
abbrev pub executed : Parts → ℕ → State → Option Instr → Step
executed d word s None = Over Illegal
executed d word s (Some instr) = Moved (state_after d instr word s)

-- the step of the instruction with this number
abbrev pub instr_step : Parts → ℕ → State → Option ℕ → Step
instr_step d word s None = Over Illegal
instr_step d word s (Some k) = executed d word s (slice_get d.instrs k)

-- the step for the word at the program counter
abbrev pub word_step : Parts → State → Option ℕ → Step
word_step d s None = Over OutOfCode
word_step d s (Some word) = instr_step d word s (decoded d word)

-- In this order: the image's stop, its full stop, no code, no instruction, and else the instruction's effect.
abbrev pub step_of : Parts → Image → State → Step
step_of d i s =
    if nat_eq s.pc i.stop then Over End
    else (if nat_eq s.pc i.full then Over StackEnd else word_step d s (word_at d i s.pc))
