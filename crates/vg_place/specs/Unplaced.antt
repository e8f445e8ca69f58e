-- Parts of instructions that are ready later than the stage that needs them.
use Rattle.std.specs.Prelude.{◌≡◌, ℕ, ◌+◌, ◌<◌, ◌≤◌, Bool, ◌&&◌, ◌||◌, nat_eq, nat_lt, IsTrue, List, [], ◌∷◌, ◌++◌, flat_map, ◌⊎◌, slice_get, Option, Some, None, unwrap_or, if◌then◌else◌}
use Rattle.std.specs.Option.{option_map_or}
use Rattle.vg_isa.specs.declared.isa.Parts.{Parts}
use Rattle.vg_isa.specs.declared.expr.Expr.{Expr}
use Rattle.vg_isa.specs.declared.instr.Write.{Write}
use Rattle.vg_isa.specs.declared.instr.Instr.{Instr}
use Rattle.vg_place.specs.declared.stage_table.Stages.{Stages}
use Rattle.vg_place.specs.declared.late.Late.{Late}
use Rattle.vg_place.specs.declared.late.Found.{Found}
use Rattle.vg_isa.specs.declared.abi.Micro.{Micro}
use Rattle.vg_isa.specs.Micro.{is_micro}
use Rattle.vg_place.specs.Stage.{stage_of, address_stage, write_stage, stages_in}

-- A part of an instruction: its place in the text, the stage in which it is there, and the one that needs it.
pub record Part : Type 0 where
  pub place : ℕ
  pub ready : ℕ
  pub needed : ℕ

-- a tree, and the address of a memory read in it; one without a place of its own stands at the text's start
abbrev pub tree_parts : Stages → ℕ → Expr → ℕ → ℕ → List Part
tree_parts s read_at e place needed =
    record { place = place; ready = stage_of s e; needed = needed } ∷ record { place = read_at; ready = address_stage s e; needed = s.memory.read } ∷ []

-- the guard, the index or address and the value of a write are needed in the resource's write stage
abbrev pub write_parts : Stages → ℕ → Write → List Part
write_parts s read_at w =
    tree_parts s read_at w.guard (unwrap_or w.guard_spot 0) (write_stage s w.resource)
    ++ option_map_or (λ (at : Expr). tree_parts s read_at at (unwrap_or w.at_spot 0) (write_stage s w.resource)) w.at []
    ++ tree_parts s read_at w.value w.value_spot (write_stage s w.resource)

-- where the guard and the value of the next program counter stand
abbrev pub next_places : Instr → ℕ × ℕ
next_places instr = option_map_or (λ (spots : Option ℕ × ℕ). (unwrap_or spots.0 0, spots.1)) instr.next_spots (0, 0)

-- the guard and the value of the next program counter are needed in the stage that decides on it
abbrev pub next_parts : Stages → Instr → List Part
next_parts s instr =
    option_map_or (λ (next : Expr × Expr).
    tree_parts s (unwrap_or instr.read_spot 0) next.0 (next_places instr).0 s.resolve ++ tree_parts s (unwrap_or instr.read_spot 0) next.1 (next_places instr).1 s.resolve) instr.next []

abbrev pub parts_of : Stages → Instr → List Part
parts_of s instr = flat_map (write_parts s (unwrap_or instr.read_spot 0)) instr.writes ++ next_parts s instr

abbrev pub is_late : Part → Bool
is_late part = nat_lt part.needed part.ready

-- ---- which late part is told

-- of two late parts the one that stands earlier in the text; of two at one place the one that is needed earlier
abbrev pub sooner : Option Late → Late → Option Late
sooner None late = Some late
sooner (Some b) late = if nat_lt late.at b.at || (nat_eq late.at b.at && nat_lt late.stage b.stage) then Some late else Some b

-- the one that is told of a list and one before it
abbrev pub earliest : List Part → Option Late → Option Late
earliest [] best = best
earliest (part ∷ parts) best = earliest parts (if is_late part then sooner best (record { at = part.place; stage = part.needed }) else best)

abbrev pub late_in : Stages → Instr → Option Late
late_in s instr = earliest (parts_of s instr) None

-- of what was found so far and the late part that is told of the next instruction
abbrev pub first_of : Option Found → ℕ → Option Late → Option Found
first_of best k None = best
first_of None k (Some late) = Some (record { instr = k; late = late })
first_of (Some b) k (Some late) = if nat_lt late.at b.late.at then Some (record { instr = k; late = late }) else Some b

-- the one that is told of instructions, numbered from k on, and one before them
abbrev pub first_from : Stages → ℕ → List Instr → Option Found → Option Found
first_from s k [] best = best
first_from s k (instr ∷ instrs) best = first_from s (k + 1) instrs (first_of best k (late_in s instr))

-- the late part that is told of a description; None where there is none
abbrev pub first_late : Stages → List Instr → Option Found
first_late s instrs = first_from s 0 instrs None

-- ---- what that is

-- the part stands in the list
abbrev pub Stands : Part → List Part → Type 0
Stands part parts = (i : ℕ) × (slice_get parts i ≡ Some part)

-- No part of an instruction is ready later than the stage that needs it.
abbrev pub IsInTime : Stages → List Instr → Type 0
IsInTime s instrs = (k : ℕ) (instr : Instr) (part : Part) → slice_get instrs k ≡ Some instr → Stands part (parts_of s instr) → part.ready ≤ part.needed

-- An instruction has a late part at this place, which is needed in this stage; and each late part of the
-- instructions stands later in the text, or at the same place in a later instruction, or there in the same one
-- and isn't needed earlier.
pub record IsFirst (s : Stages) (instrs : List Instr) (k at stage : ℕ) : Type 0 where
  pub instr : Instr
  pub has : slice_get instrs k ≡ Some instr
  pub part : Part
  pub stands : Stands part (parts_of s instr)
  pub late : part.needed < part.ready
  pub place : part.place ≡ at
  pub needed : part.needed ≡ stage
  pub first : (j : ℕ) (other : Instr) (p : Part) → slice_get instrs j ≡ Some other → Stands p (parts_of s other) → p.needed < p.ready
      → (at < p.place) ⊎ ((at ≡ p.place) × ((k < j) ⊎ ((k ≡ j) × (stage ≤ p.needed))))

-- The rules of a micro architecture hold, and no part of an instruction comes too late.
abbrev pub IsInOrder : Parts → Micro → Type 0
IsInOrder d micro = IsTrue (is_micro d micro) × IsInTime (stages_in d micro) d.instrs
