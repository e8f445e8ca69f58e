-- What holds of every pipeline, whatever the description, the guesses and the answers of the memory are.
use Rattle.std.specs.Prelude.{◌≡◌, ℕ, ◌+◌, ◌*◌, ◌<◌, ◌≤◌, List, reverse, Option, None}
use Rattle.vg_bits.specs.BitValue.{BitValue}
use Rattle.vg_hazard.specs.Choosing.{choice_of}
use Rattle.vg_cycle.specs.Description.{View, Description}
use Rattle.vg_cycle.specs.Pipe.{Slot, Pipe, StandsFor, progress}
use Rattle.vg_cycle.specs.Hazard.{choice_in, writers_in}
use Rattle.vg_cycle.specs.Cycle.{Does, Waits, Moves, Fetches, Asked, IsOver, Tick, noes, Ticks, IsNew}

-- A pipeline stands for a run of instructions, one at a time.
pub record Refines (d : Description) (run : ℕ → View) : Type 0 where
  -- it does before its first cycle
  pub starts : (p : Pipe) → IsNew d (run 0) p → StandsFor d run p
  -- and still does after one instruction did a stage, retired, or decided on the next program counter
  pub moves : (p : Pipe) (younger : List (Option Slot)) (x : Slot) (room : List (Option Slot)) (y : Slot) (q : Pipe) → StandsFor d run p → Moves d p younger x room y q → StandsFor d run q
  -- after a fetch
  pub fetches : (p : Pipe) (x y : Slot) (q : Pipe) → StandsFor d run p → Fetches d p x y q → StandsFor d run q
  -- and after a whole cycle
  pub ticks : (p : Pipe) (asked : List Asked) (q : Pipe) → StandsFor d run p → Tick d p asked q → StandsFor d run q
  -- where it is over, nothing can be fetched at the run's own next address: the run is over there
  pub ends : (p : Pipe) → StandsFor d run p → IsOver d p → d.code (run p.retired).pc ≡ None

-- A pipeline gets on.
pub record Advances (d : Description) (run : ℕ → View) : Type 0 where
  -- each cycle wins a stage of the oldest instruction, or the memory said no
  pub wins : (p : Pipe) (asked : List Asked) (q : Pipe) → StandsFor d run p → Tick d p asked q → progress d p + 1 ≤ progress d q + noes asked
  -- so after c cycles as many stages are done, but for the noes
  pub stages_done : (c : ℕ) (p : Pipe) (denied : ℕ) (q : Pipe) → IsNew d (run 0) p → Ticks d c p denied q → StandsFor d run q × (c ≤ progress d q + denied)
  -- and n instructions have retired after n times the number of stages cycles, and one more for each no
  pub retires : (c n : ℕ) (p : Pipe) (denied : ℕ) (q : Pipe) → IsNew d (run 0) p → Ticks d c p denied q → n * d.stages + denied ≤ c → n ≤ q.retired

-- Who stays has a reason, and who has none goes.
pub record GoesByReason (d : Description) : Type 0 where
  -- where a location comes from is what `choose` answers for the writers in the slots, oldest first
  pub chosen : (r i t : ℕ) (slots : List (Option Slot)) → choice_in d r i t slots ≡ choice_of (d.forward r) (reverse (writers_in d r i t slots))
  -- an instruction that waits for no location can do its stage
  pub goes : (u : ℕ) (has : ℕ → ℕ → BitValue) (older : List (Option Slot)) (x : Slot) → (Waits d u older x → ⊥) → (y : Slot) × Does d u has older x y
  -- one that waits can't
  pub stays : (u : ℕ) (has : ℕ → ℕ → BitValue) (older : List (Option Slot)) (x y : Slot) → Does d u has older x y → Waits d u older x → ⊥

-- A slot that holds an instruction of the run has, after u stages, the run's value of each part that is known by then.
pub record HasParts (d : Description) (u : ℕ) (y : Slot) (s : View) : Type 0 where
  pub reads : (r i : ℕ) → d.read_stage r < u → d.reads y.fetched y.view r i ≡ d.reads y.fetched s r i
  pub guard : (r : ℕ) → d.guard_stage y.fetched r < u → d.guard y.fetched y.view r ≡ d.guard y.fetched s r
  pub put : (r i : ℕ) (old : BitValue) → d.value_stage y.fetched r < u → d.put y.fetched y.view r i old ≡ d.put y.fetched s r i old
  pub next : d.next_stage y.fetched < u → d.next y.fetched y.view ≡ d.next y.fetched s
  pub asks : (t : ℕ) → t < u → d.asks y.fetched y.view t ≡ d.asks y.fetched s t
