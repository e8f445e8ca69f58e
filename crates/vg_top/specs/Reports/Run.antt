-- The report of a run: how it stands, and then the state.
use Rattle.std.specs.Prelude.{ℕ, ◌∷◌, ◌++◌, List, codes, decimal, Option, Some, None}
use Rattle.vg_isa.specs.declared.isa.Parts.{Parts}
use Rattle.vg_image.specs.declared.image.Image.{Image}
use Rattle.vg_image.specs.declared.ending.Ending.{Ending}
use Rattle.vg_image.specs.declared.ending.Ending.TheVariants.{End, StackEnd, OutOfCode, Illegal}
use Rattle.vg_image.specs.State.{reads_of}
use Rattle.vg_image.specs.Run.{Stand}
use Rattle.vg_top.specs.declared.status.Status.{Status}
use Rattle.vg_top.specs.declared.status.Status.TheVariants as status
use Rattle.vg_top.specs.Reports.State.{state_lines}

-- None where it is running
abbrev pub run_word : Option Ending → List ℕ
run_word None = codes "running"
run_word (Some End) = codes "ended"
run_word (Some StackEnd) = codes "stack full"
run_word (Some OutOfCode) = codes "out of code"
run_word (Some Illegal) = codes "illegal"

abbrev pub run_status : Option Ending → Status
run_status None = status.Running
run_status (Some End) = status.Done
run_status (Some StackEnd) = status.StackFull
run_status (Some OutOfCode) = status.OutOfCode
run_status (Some Illegal) = status.Illegal

-- the report of a run of instructions
abbrev pub run_report : Parts → Image → Stand → List ℕ
run_report d i r = run_word r.ending ++ codes " after " ++ decimal r.done ++ 10 ∷ state_lines d i (reads_of d r.state)
