-- The state that a simulator stands for, and what its answers say of a step and of a run.
use Rattle.std.specs.Prelude.{◌≡◌, ◌⊎◌, ◌<◌, ℕ, Some}
use Rattle.std.specs.Option.{option_map}
use Rattle.std.specs.FinMap.{empty}
use Rattle.vg_isa.specs.declared.isa.Parts.{Parts}
use Rattle.vg_image.specs.declared.image.Image.{Image}
use Rattle.vg_image.specs.declared.ending.Ending.{Ending}
use Rattle.vg_image.specs.declared.ending.Ending.TheVariants as ending
use Rattle.vg_image.specs.State.{State}
use Rattle.vg_image.specs.Step.{Step, Moved, Over}
use Rattle.vg_image.specs.Run.{Stand, Steps, run_of}
use Rattle.vg_iss.specs.declared.iss.Iss.{Iss}
use Rattle.vg_iss.specs.declared.stepped.Stepped.{Stepped}
use Rattle.vg_iss.specs.declared.stepped.Stepped.TheVariants as stepped
use Rattle.vg_iss.specs.declared.ran.Ran.{Ran}

-- the description that it runs
abbrev pub description_of : Iss → Parts
description_of iss = iss.isa.now

-- the image that it runs
abbrev pub image_of : Iss → Image
image_of iss = iss.image.now

-- the state that it is in; nothing is stored
abbrev pub state_of : Iss → State
state_of iss = record { pc = iss.pc; registers = iss.registers.items; bytes = empty }

-- it runs what another runs
pub record RunsSame (old new : Iss) : Type 0 where
  pub description : description_of new ≡ description_of old
  pub image : image_of new ≡ image_of old

-- the name of an ending
abbrev pub stepped_of : Ending → Stepped
stepped_of ending.End = stepped.End
stepped_of ending.StackEnd = stepped.StackEnd
stepped_of ending.OutOfCode = stepped.OutOfCode
stepped_of ending.Illegal = stepped.Illegal

-- what a step answers
abbrev pub answer_of : Step → Stepped
answer_of (Moved t) = stepped.Moved
answer_of (Over e) = stepped_of e

-- a run's steps and its end
abbrev pub ran_of : Stand → Ran
ran_of r = record { end = option_map stepped_of r.ending; done = r.done }

-- the run itself
pub record IsRunOf (d : Parts) (i : Image) (bound : ℕ) (first last : State) (ran : Ran) : Type 0 where
  pub state : last ≡ (run_of d i bound first).state
  pub answer : ran ≡ ran_of (run_of d i bound first)

-- a run of at most so many steps found no memory for a store, behind these steps
pub record LacksMemory (d : Parts) (i : Image) (bound : ℕ) (first last : State) (ran : Ran) : Type 0 where
  pub steps : Steps d i ran.done first last
  pub within : ran.done < bound
  pub end : ran.end ≡ Some stepped.OutOfMemory

-- What a run of at most so many steps from a state answers, and the state that it leaves: those of the run, or it found no
-- memory.
abbrev pub IsRan : Parts → Image → ℕ → State → State → Ran → Type 0
IsRan d i bound first last ran = IsRunOf d i bound first last ran ⊎ LacksMemory d i bound first last ran
