-- Hazards: what an instruction reads that older ones in slots may still write.
use Rattle.std.specs.Prelude.{ℕ, suc, nat_lt, List, [], ◌∷◌, Option, Some, None, if◌then◌else◌}
use Rattle.vg_bits.specs.BitValue.{BitValue}
use Rattle.vg_hazard.specs.declared.writer.Writer.{Writer}
use Rattle.vg_hazard.specs.declared.choice.Choice.{Choice}
use Rattle.vg_hazard.specs.declared.choice.Choice.TheVariants.{Register}
use Rattle.vg_hazard.specs.Choosing.{choice_over}
use Rattle.vg_cycle.specs.Description.{Description}
use Rattle.vg_cycle.specs.Pipe.{Slot}

-- what stands for the contents of a location that a forwarded value replaces
abbrev pub no_contents : BitValue
no_contents = record { width = 1; number = 0 }

-- what is known, after u stages, of an instruction's write of a location
abbrev pub writer_of : Description → ℕ → ℕ → ℕ → Slot → Writer
writer_of d u r i y = record {
  guard = if nat_lt (d.guard_stage y.fetched r) u then Some (d.guard y.fetched y.view r) else None;
  value = if nat_lt (d.value_stage y.fetched r) u then Some (d.put y.fetched y.view r i no_contents) else None;
}

-- the say of the slot of stage t over the choice that the older ones make
abbrev pub choice_by : Description → ℕ → ℕ → ℕ → Option Slot → Choice → Choice
choice_by d r i t None older = older
choice_by d r i t (Some y) older =
    if d.names y.fetched y.view r i then choice_over (d.forward r) (writer_of d (suc t) r i y) older else older

-- where the value of a location comes from, by the slots from stage t on: those before its write stage count
abbrev pub choice_in : Description → ℕ → ℕ → ℕ → List (Option Slot) → Choice
choice_in d r i t [] = Register
choice_in d r i t (slot ∷ slots) =
    if nat_lt t (d.write_stage r) then choice_by d r i t slot (choice_in d r i (suc t) slots) else Register

-- the writer that a slot holds, in front of the others
abbrev pub with_writer : Description → ℕ → ℕ → ℕ → Option Slot → List Writer → List Writer
with_writer d r i t None older = older
with_writer d r i t (Some y) older = if d.names y.fetched y.view r i then writer_of d (suc t) r i y ∷ older else older

-- the writers of a location in the slots from stage t on, youngest first
abbrev pub writers_in : Description → ℕ → ℕ → ℕ → List (Option Slot) → List Writer
writers_in d r i t [] = []
writers_in d r i t (slot ∷ slots) =
    if nat_lt t (d.write_stage r) then with_writer d r i t slot (writers_in d r i (suc t) slots) else []
