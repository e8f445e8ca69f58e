-- When each executed instruction does each stage, where the memory never says no.
use Rattle.std.specs.Prelude.{ℕ, zero, suc, ◌+◌, max, Bool, true, false, ◌&&◌, nat_eq, List, [], ◌∷◌, map, filter, filter_map, slice_get, slice_index_or, drop, Option, Some, None, if◌then◌else◌}
use Rattle.std.specs.Option.{option_map, option_map_or}
use Rattle.std.specs.List.{list_any}
use Rattle.vg_isa.specs.declared.isa.Parts.{Parts}
use Rattle.vg_isa.specs.declared.expr.Expr.{Expr}
use Rattle.vg_isa.specs.declared.expr.Expr.TheOpen.{Expr-F}
use Rattle.vg_isa.specs.declared.ids.RegId.{RegId}
use Rattle.vg_isa.specs.declared.ids.ResourceId.{ResourceId}
use Rattle.vg_isa.specs.declared.ids.ResourceId.TheVariants.{Memory, Reg}
use Rattle.vg_isa.specs.declared.declaration.RegDecl.{RegDecl}
use Rattle.vg_isa.specs.declared.instr.Write.{Write}
use Rattle.vg_isa.specs.declared.instr.Instr.{Instr}
use Rattle.vg_isa.specs.declared.abi.Micro.{Micro}
use Rattle.vg_isa.specs.Node.{Node, instr_nodes}
use Rattle.vg_isa.specs.Value.{Reads, value_of}
use Rattle.vg_place.specs.declared.stage_table.Stages.{Stages}
use Rattle.vg_place.specs.Stage.{stage_of, read_stage, write_stage}

-- ---- the recurrence

-- what an earlier instruction does with a location that a later one reads: nothing; it names it in a write whose
-- guard is false, which is known after a stage; or it writes it, and the value is to be had after a stage
pub data Touch : Type 0 where
  Passes : Touch
  Skips : ℕ → Touch
  Gives : ℕ → Touch

-- An executed instruction: whether its guess was right, the locations that it reads in a stage, and what it
-- does with each location.
pub record Row (Location : Type 0) : Type 0 where
  pub right : Bool
  pub reads : ℕ → List Location
  pub touches : Location → Touch

-- a row with the cycle in which it does each stage
abbrev pub TimedRow : Type 0 → Type 0
TimedRow Location = Row Location × (ℕ → ℕ)

-- when a location can be had behind a row, where it can be had behind the earlier ones in a cycle
abbrev pub had_behind : Touch → (ℕ → ℕ) → ℕ → ℕ
had_behind Passes time earlier = earlier
had_behind (Skips g) time earlier = max (time g) earlier
had_behind (Gives v) time earlier = time v

-- When a location can be had, by the rows before, youngest first: behind the last one that writes it, and behind
-- the guard of each younger one that names it and doesn't write it.
abbrev pub had : {Location : Type 0} → Location → List (TimedRow Location) → ℕ
had l [] = 0
had l (row ∷ earlier) = had_behind (row.0.touches l) row.1 (had l earlier)

-- when all of these locations can be had
abbrev pub all_had : {Location : Type 0} → List Location → List (TimedRow Location) → ℕ
all_had [] earlier = 0
all_had (l ∷ ls) earlier = max (had l earlier) (all_had ls earlier)

-- when the next instruction may be fetched: in the first cycle; once the one before has left stage 0, or has done it
-- where there is no other; and behind a wrong guess in the cycle after the one that decides
abbrev pub fetched_after : {Location : Type 0} → ℕ → ℕ → List (TimedRow Location) → ℕ
fetched_after stages resolve [] = 1
fetched_after stages resolve (last ∷ earlier) =
    max (if last.0.right then 0 else last.1 resolve + 1) (if nat_eq stages 1 then last.1 0 + 1 else last.1 1)

-- when the slot of a stage is free: once the instruction before has left it
abbrev pub free_after : {Location : Type 0} → ℕ → ℕ → List (TimedRow Location) → ℕ
free_after stages s [] = 0
free_after stages s (last ∷ earlier) = if nat_eq (s + 1) stages then last.1 s + 1 else last.1 (s + 1)

-- the cycle in which a row does a stage, by the rows before
abbrev pub row_time : {Location : Type 0} → ℕ → ℕ → Row Location → List (TimedRow Location) → ℕ → ℕ
row_time stages resolve row earlier zero = max (fetched_after stages resolve earlier) (all_had (row.reads 0) earlier)
row_time stages resolve row earlier (suc s) =
    max (row_time stages resolve row earlier s + 1) (max (free_after stages (suc s) earlier) (all_had (row.reads (suc s)) earlier))

-- rows, youngest first, with their cycles
abbrev pub timed_rows : {Location : Type 0} → ℕ → ℕ → List (Row Location) → List (TimedRow Location)
timed_rows stages resolve [] = []
timed_rows stages resolve (row ∷ earlier) = (row, row_time stages resolve row (timed_rows stages resolve earlier)) ∷ timed_rows stages resolve earlier

-- ---- executed instructions

-- An executed instruction: its number, its word, for each of its writes whether it was made, and whether the
-- guess behind it was right.
pub record Executed : Type 0 where
  pub instr : ℕ
  pub word : ℕ
  pub made : List Bool
  pub right : Bool

-- A location: a register that doesn't read as 0, or the memory.
pub data Place : Type 0 where
  Register : ℕ → ℕ → Place
  WholeMemory : Place

-- nothing is read: what an index is worked out of, which is made of fields and constants
abbrev pub no_reads : Reads
no_reads = record { pc = record { width = 1; number = 0 }; reg = λ r i. record { width = 1; number = 0 }; byte = λ at. 0 }

-- the register with this number is the one that reads as 0
abbrev pub is_zero : Parts → ℕ → ℕ → Bool
is_zero d r i = option_map_or (λ (decl : RegDecl). option_map_or (λ (z : ℕ). nat_eq z i) decl.zero false) (slice_get d.regs r) false

-- the register that an index names in an instruction word; 0 for a single register, and none where it reads as 0
abbrev pub register_place : Parts → ℕ → ℕ → Option Expr → Option Place
register_place d word r index =
    let i = option_map_or (λ (at : Expr). (value_of d at word no_reads).number) index 0 in
    if is_zero d r i then None else Some (Register r i)

-- the location that a node reads, and the stage in which it does
abbrev pub node_place : Parts → Stages → ℕ → Node → Option (Place × ℕ)
node_place d s word (Expr-F.Reg r index) = option_map (λ (l : Place). (l, read_stage s (Reg r))) (register_place d word r.0 index)
node_place d s word (Expr-F.Mem at bytes) = Some (WholeMemory, s.memory.read)
node_place d s word _ = None

-- the location that a write of a resource at an index names
abbrev pub named_place : Parts → ℕ → ResourceId → Option Expr → Option Place
named_place d word Memory at = Some WholeMemory
named_place d word (Reg r) at = register_place d word r.0 at

abbrev pub same_place : Place → Place → Bool
same_place (Register r i) (Register q j) = nat_eq r q && nat_eq i j
same_place WholeMemory WholeMemory = true
same_place _ _ = false

-- the values of a resource may be taken before they are written
abbrev pub is_forwarded : Micro → ResourceId → Bool
is_forwarded micro Memory = false
is_forwarded micro (Reg r) = list_any (λ (q : RegId). nat_eq q.0 r.0) micro.forward

-- What a write does with a location, where it was made or not: the value is to be had once it and its guard are known,
-- where values of the resource are forwarded, and else behind the write stage.
abbrev pub write_touch : Micro → Stages → Write → Bool → Touch
write_touch micro s w false = Skips (stage_of s w.guard)
write_touch micro s w true = Gives (if is_forwarded micro w.resource then max (stage_of s w.value) (stage_of s w.guard) else write_stage s w.resource)

-- what the writes of an instruction do with a location: one of them at most names it
abbrev pub writes_touch : Parts → Micro → Stages → ℕ → List Write → List Bool → Place → Touch
writes_touch d micro s word [] made l = Passes
writes_touch d micro s word (w ∷ writes) made l =
    if option_map_or (same_place l) (named_place d word w.resource w.at) false
    then write_touch micro s w (slice_index_or made 0 false)
    else writes_touch d micro s word writes (drop 1 made) l

-- the locations that an instruction reads in a stage
abbrev pub places_read : Parts → Stages → ℕ → Instr → ℕ → List Place
places_read d s word instr stage =
    map (λ (x : Place × ℕ). x.0) (filter (λ (x : Place × ℕ). nat_eq x.1 stage) (filter_map (node_place d s word) (instr_nodes instr)))

-- the row of an executed instruction; one that there isn't reads and writes nothing
abbrev pub row_of : Parts → Micro → Stages → Executed → Row Place
row_of d micro s e = record {
  right = e.right;
  reads = λ stage. option_map_or (λ (instr : Instr). places_read d s e.word instr stage) (slice_get d.instrs e.instr) [];
  touches = λ l. option_map_or (λ (instr : Instr). writes_touch d micro s e.word instr.writes e.made l) (slice_get d.instrs e.instr) Passes;
}

-- The cycle in which the youngest of executed instructions, youngest first, does a stage. Cycles are counted from 1; 0
-- where there is none.
abbrev pub entry_cycle : Parts → Micro → Stages → List Executed → ℕ → ℕ
entry_cycle d micro s [] stage = 0
entry_cycle d micro s (e ∷ earlier) stage = row_time s.count s.resolve (row_of d micro s e) (timed_rows s.count s.resolve (map (row_of d micro s) earlier)) stage
