-- A description as its pipeline sees it.
use Rattle.std.specs.Prelude.{ℕ, zero, suc, ◌+◌, ◌/◌, ◌%◌, ◌^◌, max, Bool, true, false, ◌&&◌, not, nat_eq, List, [], ◌∷◌, ◌++◌, map, take, Option, Some, None, slice_get, if◌then◌else◌}
use Rattle.std.specs.Option.{option_and_then, option_map, option_map_or}
use Rattle.vg_bits.specs.BitValue.{BitValue}
use Rattle.vg_isa.specs.declared.isa.Parts.{Parts}
use Rattle.vg_isa.specs.declared.expr.Expr.{Expr}
use Rattle.vg_isa.specs.declared.ids.ResourceId.TheVariants.{Reg}
use Rattle.vg_isa.specs.declared.instr.Instr.{Instr}
use Rattle.vg_isa.specs.declared.instr.Write.{Write}
use Rattle.vg_isa.specs.declared.abi.Micro.{Micro}
use Rattle.vg_isa.specs.Declaration.{register_width}
use Rattle.vg_isa.specs.Value.{Reads, value_of, holds}
use Rattle.vg_isa.specs.Effect.{following}
use Rattle.vg_format.specs.Matching.{decoded}
use Rattle.vg_image.specs.declared.image.Image.{Image}
use Rattle.vg_image.specs.State.{is_zero_register}
use Rattle.vg_image.specs.Step.{word_at}
use Rattle.vg_place.specs.declared.stage_table.Stages.{Stages}
use Rattle.vg_place.specs.Stage.{stage_of, stages_in, write_stage}
use Rattle.vg_place.specs.Reading.{stage_at}
use Rattle.vg_place.specs.Time.{is_forwarded}
use Rattle.vg_cycle.specs.Description.{Fetched, View, Ask, Description}
use Rattle.vg_cycle.specs.Hazard.{no_contents}
use Rattle.vg_pipe.specs.Trees.{are_reading, addresses_of, write_to, all_trees, place_of}

-- ---- instructions

-- what a view reads, as a machine's state does
abbrev pub reads_in : Parts → View → Reads
reads_in d v = record {
  pc = record { width = d.pc.width; number = v.pc };
  reg = λ r i. v.has (suc r) i;
  byte = λ at. (v.has 0 at).number;
}

-- the instruction with this number; none where there is no such one
abbrev pub writes_in : Parts → Fetched → List Write
writes_in d x = option_map_or (λ (instr : Instr). instr.writes) (slice_get d.instrs x.instr) []

abbrev pub next_in : Parts → Fetched → Option (Expr × Expr)
next_in d x = option_and_then (λ (instr : Instr). instr.next) (slice_get d.instrs x.instr)

-- the write of a resource
abbrev pub write_in : Parts → Fetched → ℕ → Option Write
write_in d x r = write_to r (writes_in d x)

-- the instruction of a word; None where none matches it
abbrev pub fetched_of : Parts → ℕ → Option ℕ → Option Fetched
fetched_of d word None = None
fetched_of d word (Some k) = option_map (λ (instr : Instr). record { instr = k; word = word }) (slice_get d.instrs k)

abbrev pub word_fetched : Parts → Option ℕ → Option Fetched
word_fetched d None = None
word_fetched d (Some word) = fetched_of d word (decoded d word)

-- the instruction at an address; None at the image's two stops, where no code word stands, and where none matches
abbrev pub code_at : Parts → Image → ℕ → Option Fetched
code_at d i at = if nat_eq at i.stop then None else (if nat_eq at i.full then None else word_fetched d (word_at d i at))

-- ---- writes

-- A write names a location: the whole memory, or a register that doesn't read as 0.
abbrev pub is_named : Parts → ℕ → Reads → Write → ℕ → ℕ → Bool
is_named d word s w zero i = true
is_named d word s w (suc r) i = nat_eq (place_of d word s w.at) i && not (is_zero_register d.regs r i)

-- a byte of memory after so many bytes of a number were stored from an address on, the least significant first, the
-- addresses modulo space
abbrev pub byte_stored : ℕ → ℕ → ℕ → ℕ → ℕ → ℕ → ℕ
byte_stored space at zero n i old = old
byte_stored space at (suc bytes) n i old = if nat_eq (at % space) i then n % 256 else byte_stored space (at + 1) bytes (n / 256) i old

-- what a location has after a write that names it
abbrev pub put_by : Parts → ℕ → Reads → Write → ℕ → ℕ → BitValue → BitValue
put_by d word s w zero i old =
    record { width = 8; number = byte_stored (2 ^ d.pc.width) (place_of d word s w.at) ((value_of d w.value word s).width / 8) (value_of d w.value word s).number i old.number }
put_by d word s w (suc r) i old = record { width = register_width d.regs r; number = (value_of d w.value word s).number }

-- the stage in which the index or address and the value of a write are known
abbrev pub put_stage : Stages → Write → ℕ
put_stage s w = max (stage_of s w.value) (option_map_or (λ (at : Expr). stage_of s at) w.at 0)

-- ---- the next program counter

abbrev pub next_of : Parts → ℕ → Reads → Option (Expr × Expr) → BitValue
next_of d word s next = option_map_or (λ (n : Expr × Expr). if holds (value_of d n.0 word s) then value_of d n.1 word s else following d s) next (following d s)

abbrev pub next_stage_of : Stages → Option (Expr × Expr) → ℕ
next_stage_of s next = option_map_or (λ (n : Expr × Expr). max (stage_of s n.0) (stage_of s n.1)) next 0

-- ---- asks

-- the memory read that an instruction makes: all reads of memory in its trees have one address
abbrev pub read_asks : Parts → ℕ → Reads → List Expr → List Ask
read_asks d word s trees = map (λ (at : ℕ). record { address = at; is_write = false }) (take 1 (addresses_of d word s trees))

-- the memory write that an instruction makes, where its guard holds
abbrev pub write_asks : Parts → ℕ → Reads → Option Write → List Ask
write_asks d word s None = []
write_asks d word s (Some w) = if holds (value_of d w.guard word s) then record { address = place_of d word s w.at; is_write = true } ∷ [] else []

-- the accesses of a stage: the read first
abbrev pub asks_in : Parts → Stages → ℕ → Reads → List Write → Option (Expr × Expr) → ℕ → List Ask
asks_in d s word v writes next u =
    (if nat_eq s.memory.read u then read_asks d word v (all_trees writes next) else [])
    ++ (if nat_eq s.memory.write u then write_asks d word v (write_to 0 writes) else [])

-- ---- the whole

abbrev pub written_in : Stages → ℕ → ℕ
written_in s zero = s.memory.write
written_in s (suc r) = write_stage s (Reg (record { 0 = r }))

abbrev pub forwarded_in : Micro → ℕ → Bool
forwarded_in micro zero = false
forwarded_in micro (suc r) = is_forwarded micro (Reg (record { 0 = r }))

-- A description that has a micro architecture, with an image, as the laws of a pipeline speak of it. Hazards of the
-- memory are those of the whole memory.
abbrev pub seen : Parts → Micro → Image → Description
seen d micro i = record {
  stages = (stages_in d micro).count;
  resolve = (stages_in d micro).resolve;
  read_stage = stage_at (stages_in d micro);
  write_stage = written_in (stages_in d micro);
  forward = forwarded_in micro;
  whole = λ r. nat_eq r 0;
  code = code_at d i;
  reads = λ x v r at. are_reading d x.word (reads_in d v) (all_trees (writes_in d x) (next_in d x)) r at;
  names = λ x v r at. option_map_or (λ (w : Write). is_named d x.word (reads_in d v) w r at) (write_in d x r) false;
  guard = λ x v r. option_map_or (λ (w : Write). holds (value_of d w.guard x.word (reads_in d v))) (write_in d x r) false;
  guard_stage = λ x r. option_map_or (λ (w : Write). stage_of (stages_in d micro) w.guard) (write_in d x r) 0;
  put = λ x v r at old. option_map_or (λ (w : Write). put_by d x.word (reads_in d v) w r at old) (write_in d x r) no_contents;
  value_stage = λ x r. option_map_or (put_stage (stages_in d micro)) (write_in d x r) 0;
  next = λ x v. (next_of d x.word (reads_in d v) (next_in d x)).number;
  next_stage = λ x. next_stage_of (stages_in d micro) (next_in d x);
  asks = λ x v u. asks_in d (stages_in d micro) x.word (reads_in d v) (writes_in d x) (next_in d x) u;
}
