-- What the laws of a pipeline need of a description, whatever its registers, formats and instructions are.
use Rattle.std.specs.Prelude.{◌≡◌, ℕ, suc, ◌<◌, ◌≤◌, Bool, true, false, ◌&&◌, IsTrue, List, Option, Some, if◌then◌else◌}
use Rattle.vg_bits.specs.BitValue.{BitValue}

-- An instruction word that was fetched: which instruction it is, and the word.
pub record Fetched : Type 0 where
  pub instr : ℕ
  pub word : ℕ

-- What an instruction reads: its own address, and the contents of each resource by index. A register file is
-- a resource whose index is the register's, a single register one with the index 0, and the memory one whose
-- index is an address. A machine's state gives a view, and so does what an instruction has read so far.
pub record View : Type 0 where
  pub pc : ℕ
  pub has : ℕ → ℕ → BitValue

-- A memory access that an instruction asks for.
pub record Ask : Type 0 where
  pub address : ℕ
  pub is_write : Bool

-- A description as the pipeline sees it. Resources have numbers; a location is a resource and an index.
pub record Description : Type 0 where
  -- how many stages there are, and the one that decides on the next program counter
  pub stages : ℕ
  pub resolve : ℕ
  -- the stages in which a resource is read and written
  pub read_stage : ℕ → ℕ
  pub write_stage : ℕ → ℕ
  -- values of the resource may be taken before they are written
  pub forward : ℕ → Bool
  -- hazards are those of the whole resource, as of the memory, and not of each index
  pub whole : ℕ → Bool
  -- the instruction at an address; None at a stop, where no code word stands, and where none matches the word
  pub code : ℕ → Option Fetched
  -- whether it reads a location, where its reads give what the view has
  pub reads : Fetched → View → ℕ → ℕ → Bool
  -- whether it names a location in a write
  pub names : Fetched → View → ℕ → ℕ → Bool
  -- whether its write of a resource is made, and the stage in which that is known
  pub guard : Fetched → View → ℕ → Bool
  pub guard_stage : Fetched → ℕ → ℕ
  -- what a location has after its write is made, from what it had; and the stage in which that is known
  pub put : Fetched → View → ℕ → ℕ → BitValue → BitValue
  pub value_stage : Fetched → ℕ → ℕ
  -- the next program counter, and the stage in which it is known
  pub next : Fetched → View → ℕ
  pub next_stage : Fetched → ℕ
  -- the memory accesses that it makes in a stage, in their order
  pub asks : Fetched → View → ℕ → List Ask

-- what a location has after an instruction, from what it had
abbrev pub written : Description → Fetched → View → ℕ → ℕ → BitValue → BitValue
written d x v r i old = if d.names x v r i && d.guard x v r then d.put x v r i old else old

-- One view agrees with another on the instruction's address and on each location that it reads in the first u
-- stages.
pub record Agrees (d : Description) (x : Fetched) (u : ℕ) (v w : View) : Type 0 where
  pub pc : v.pc ≡ w.pc
  pub has : (r i : ℕ) → d.read_stage r < u → IsTrue (d.reads x v r i) → v.has r i ≡ w.has r i

-- The stages are in order, and each part of an instruction is known in its stage: it depends on what is read
-- up to that stage alone.
pub record IsPlaced (d : Description) : Type 0 where
  -- no resource is read after its write, and none is written before the next program counter is decided
  pub read_first : (r : ℕ) → d.read_stage r ≤ d.write_stage r
  pub resolve_first : (r : ℕ) → d.resolve ≤ d.write_stage r
  pub within : (r : ℕ) → d.write_stage r < d.stages
  -- no part comes too late
  pub guard_ready : (x : Fetched) (r : ℕ) → d.guard_stage x r ≤ d.write_stage r
  pub value_ready : (x : Fetched) (r : ℕ) → d.value_stage x r ≤ d.write_stage r
  pub next_ready : (x : Fetched) → d.next_stage x ≤ d.resolve
  -- views that agree up to a stage give the same parts up to it
  pub reads_agree : (x : Fetched) (u : ℕ) (v w : View) → Agrees d x u v w → (r i : ℕ) → d.read_stage r < u → d.reads x v r i ≡ d.reads x w r i
  pub names_agree : (x : Fetched) (v w : View) → Agrees d x 1 v w → (r i : ℕ) → d.names x v r i ≡ d.names x w r i
  pub guard_agrees : (x : Fetched) (u : ℕ) (v w : View) → Agrees d x u v w → (r : ℕ) → d.guard_stage x r < u → d.guard x v r ≡ d.guard x w r
  pub put_agrees : (x : Fetched) (u : ℕ) (v w : View) → Agrees d x u v w → (r i : ℕ) (old : BitValue) → d.value_stage x r < u → d.put x v r i old ≡ d.put x w r i old
  pub next_agrees : (x : Fetched) (u : ℕ) (v w : View) → Agrees d x u v w → d.next_stage x < u → d.next x v ≡ d.next x w
  pub asks_agree : (x : Fetched) (u : ℕ) (v w : View) → Agrees d x (suc u) v w → d.asks x v u ≡ d.asks x w u
  -- a value that is forwarded is all that the location then has
  pub forwarded : (x : Fetched) (v : View) (r i : ℕ) (old older : BitValue) → IsTrue (d.forward r) → d.put x v r i old ≡ d.put x v r i older
  -- which location of a register file is read is known from the word; of a whole resource any will do
  pub index_known : (x : Fetched) (v w : View) (r i : ℕ) → d.whole r ≡ false → v.pc ≡ w.pc → d.reads x v r i ≡ d.reads x w r i
  pub whole_read : (x : Fetched) (v w : View) (r i : ℕ) → d.whole r ≡ true → IsTrue (d.reads x v r i) → (j : ℕ) × IsTrue (d.reads x w r j)
  pub whole_named : (x : Fetched) (v : View) (r i j : ℕ) → d.whole r ≡ true → d.names x v r i ≡ d.names x v r j
  pub whole_waits : (r : ℕ) → d.whole r ≡ true → d.forward r ≡ false

-- A run of instructions, one at a time: what the k-th of them sees. Each that there is leads to the next.
pub record IsRun (d : Description) (run : ℕ → View) : Type 0 where
  pub next : (k : ℕ) (x : Fetched) → d.code (run k).pc ≡ Some x → (run (suc k)).pc ≡ d.next x (run k)
  pub has : (k : ℕ) (x : Fetched) → d.code (run k).pc ≡ Some x → (r i : ℕ) → (run (suc k)).has r i ≡ written d x (run k) r i ((run k).has r i)
