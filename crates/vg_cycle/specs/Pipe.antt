-- The state of a pipeline, and what it means that it stands for a run of instructions, one at a time.
use Rattle.std.specs.Prelude.{◌≡◌, ◌≢◌, ℕ, zero, suc, ◌+◌, ◌*◌, ◌<◌, List, [], ◌∷◌, length, drop, ◌⊎◌, Option, Some, None}
use Rattle.vg_bits.specs.BitValue.{BitValue}
use Rattle.vg_cycle.specs.Description.{Fetched, View, Description, Agrees}

-- What a slot keeps of an instruction: its word, its address and what it has read so far, and the address that
-- was guessed for the next fetch behind it. What it hasn't read yet is not used.
pub record Slot : Type 0 where
  pub fetched : Fetched
  pub view : View
  pub guess : ℕ

-- A pipeline between two cycles. Slot s holds an instruction that has done stage s. The slots are those of all
-- stages but the last, in order, so the youngest instruction is the first; an instruction that has done the
-- last stage has retired and counts as gone.
pub record Pipe : Type 0 where
  pub slots : List (Option Slot)
  pub has : ℕ → ℕ → BitValue
  pub fetch : ℕ
  pub retired : ℕ

-- how many instructions of the run are in slots or have retired, after so many retired
abbrev pub count : ℕ → List (Option Slot) → ℕ
count retired [] = retired
count retired (None ∷ slots) = count retired slots
count retired (Some y ∷ slots) = suc (count retired slots)

-- how many instructions have done the write stage of a resource
abbrev pub passed : Description → Pipe → ℕ → ℕ
passed d p r = count p.retired (drop (d.write_stage r) p.slots)

-- The slot holds the instruction that stands at a state, and after u stages has the state's value of each
-- location that it reads in them.
pub record HoldsAt (d : Description) (u : ℕ) (y : Slot) (s : View) : Type 0 where
  pub code : d.code s.pc ≡ Some y.fetched
  pub reads : Agrees d y.fetched u y.view s

module _ (d : Description) (run : ℕ → View) where
  -- The slots from stage t on hold the run's instructions, and each guess that isn't resolved yet is right.
  abbrev pub OnPath : ℕ → ℕ → List (Option Slot) → Type 0
  OnPath retired t [] = Unit {0}
  OnPath retired t (None ∷ slots) = OnPath retired (suc t) slots
  OnPath retired t (Some y ∷ slots) =
      OnPath retired (suc t) slots × HoldsAt d (suc t) y (run (count retired slots))
      × (t < d.resolve → y.guess ≡ (run (suc (count retired slots))).pc)

  -- One of the slots from stage t on has a wrong guess that isn't resolved yet. It and the older ones hold the
  -- run's instructions; those younger than it are on a wrong path, and may be anything.
  abbrev pub Astray : ℕ → ℕ → List (Option Slot) → Type 0
  Astray retired t [] = ⊥
  Astray retired t (None ∷ slots) = Astray retired (suc t) slots
  Astray retired t (Some y ∷ slots) =
      Astray retired (suc t) slots
      ⊎ (OnPath retired (suc t) slots × HoldsAt d (suc t) y (run (count retired slots))
      × (t < d.resolve) × (y.guess ≢ (run (suc (count retired slots))).pc))

  -- The pipeline stands for the run: as many instructions as have retired were done; each resource has what
  -- the run has after as many instructions as have passed its write stage; and the slots hold the run's
  -- next instructions, up to and with the first whose guess was wrong and isn't resolved yet. Where there
  -- is none, the fetch address is that of the run's next instruction.
  pub record StandsFor (p : Pipe) : Type 0 where
    pub shape : suc (length p.slots) ≡ d.stages
    pub retired : (k : ℕ) → k < p.retired → (x : Fetched) × (d.code (run k).pc ≡ Some x)
    pub contents : (r i : ℕ) → p.has r i ≡ (run (passed d p r)).has r i
    pub path : (OnPath p.retired 0 p.slots × (p.fetch ≡ (run (count p.retired p.slots)).pc)) ⊎ Astray p.retired 0 p.slots

-- what the older ones have done, where there is one, else what this one has done
abbrev pub older_first : ℕ → ℕ → ℕ
older_first own zero = own
older_first own (suc n) = suc n

-- how many stages the oldest instruction in the slots from stage t on has done; 0 where there is none
abbrev pub oldest : ℕ → List (Option Slot) → ℕ
oldest t [] = 0
oldest t (None ∷ slots) = oldest (suc t) slots
oldest t (Some y ∷ slots) = older_first (suc t) (oldest (suc t) slots)

-- the stages done by all instructions that have retired, and by the oldest that hasn't
abbrev pub progress : Description → Pipe → ℕ
progress d p = d.stages * p.retired + oldest 0 p.slots
