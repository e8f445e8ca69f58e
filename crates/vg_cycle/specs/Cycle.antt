-- What one cycle of a pipeline does: each instruction in a slot does its next stage or stays, from the oldest
-- on, and then one is fetched or none is.
use Rattle.std.specs.Prelude.{◌≡◌, ℕ, zero, suc, ◌+◌, ◌<◌, Bool, true, false, not, ◌&&◌, ◌||◌, nat_eq, IsTrue, List, [], ◌∷◌, ◌++◌, map, length, Option, Some, None, if◌then◌else◌}
use Rattle.vg_bits.specs.BitValue.{BitValue}
use Rattle.vg_hazard.specs.declared.choice.Choice.{Choice}
use Rattle.vg_hazard.specs.declared.choice.Choice.TheVariants.{Take, Register, Wait}
use Rattle.vg_cycle.specs.Description.{View, Ask, Description, written}
use Rattle.vg_cycle.specs.Pipe.{Slot, Pipe}
use Rattle.vg_cycle.specs.Hazard.{choice_in}

-- ---- one stage of one instruction

-- the value that a choice gives, where the location itself has `now`; none where it says to wait
abbrev pub Gives : Choice → BitValue → BitValue → Type 0
Gives (Take v) now got = got ≡ v
Gives Register now got = got ≡ now
Gives Wait now got = ⊥

-- An instruction does stage u: it reads what it reads in that stage, where older instructions are in the slots
-- from stage u on; what it read before is kept.
pub record Does (d : Description) (u : ℕ) (has : ℕ → ℕ → BitValue) (older : List (Option Slot)) (x y : Slot) : Type 0 where
  pub fetched : y.fetched ≡ x.fetched
  pub address : y.view.pc ≡ x.view.pc
  pub guess : y.guess ≡ x.guess
  pub kept : (r i : ℕ) → d.read_stage r < u → y.view.has r i ≡ x.view.has r i
  pub had : (r i : ℕ) → d.read_stage r ≡ u → IsTrue (d.reads y.fetched y.view r i) → Gives (choice_in d r i u older) (has r i) (y.view.has r i)

-- what a location has after an instruction did stage u
abbrev pub contents_after : Description → ℕ → Slot → (ℕ → ℕ → BitValue) → ℕ → ℕ → BitValue
contents_after d u y has r i = if nat_eq (d.write_stage r) u then written d y.fetched y.view r i (has r i) else has r i

-- an instruction decides in stage u on a next program counter that wasn't guessed
abbrev pub finds_wrong : Description → ℕ → Slot → Bool
finds_wrong d u y = nat_eq u d.resolve && not (nat_eq (d.next y.fetched y.view) y.guess)

-- The next slot is the first of these, and it is empty; behind the last stage there is always room.
abbrev pub IsOpen : List (Option Slot) → Type 0
IsOpen [] = Unit {0}
IsOpen (None ∷ older) = Unit {0}
IsOpen (Some y ∷ older) = ⊥

-- an instruction in the first of these slots; behind the last stage it is gone
abbrev pub entered : Slot → List (Option Slot) → List (Option Slot)
entered y [] = []
entered y (slot ∷ older) = Some y ∷ older

-- one more has retired where there is no further slot
abbrev pub retired_by : List (Option Slot) → ℕ → ℕ
retired_by [] retired = suc retired
retired_by (slot ∷ older) retired = retired

-- as many empty slots
abbrev pub cleared : List (Option Slot) → List (Option Slot)
cleared [] = []
cleared (slot ∷ slots) = None ∷ cleared slots

-- The instruction x does its next stage and is then y. Where its guess turns out wrong, all younger ones are
-- removed, and the fetch address is the right one.
pub record Moves (d : Description) (p : Pipe) (younger : List (Option Slot)) (x : Slot) (room : List (Option Slot)) (y : Slot) (q : Pipe) : Type 0 where
  pub slots : p.slots ≡ younger ++ (Some x ∷ room)
  pub is_open : IsOpen room
  pub does : Does d (suc (length younger)) p.has room x y
  pub slots_after : q.slots ≡ (if finds_wrong d (suc (length younger)) y then cleared younger else younger) ++ (None ∷ entered y room)
  pub has_after : (r i : ℕ) → q.has r i ≡ contents_after d (suc (length younger)) y p.has r i
  pub fetch_after : q.fetch ≡ (if finds_wrong d (suc (length younger)) y then d.next y.fetched y.view else p.fetch)
  pub retired_after : q.retired ≡ retired_by room p.retired

-- The instruction x at the fetch address does stage 0 and is then y. Its guess is the next fetch address, unless
-- stage 0 already decides otherwise.
pub record Fetches (d : Description) (p : Pipe) (x y : Slot) (q : Pipe) : Type 0 where
  pub is_open : IsOpen p.slots
  pub code : d.code p.fetch ≡ Some x.fetched
  pub address : x.view.pc ≡ p.fetch
  pub does : Does d 0 p.has p.slots x y
  pub slots_after : q.slots ≡ entered y p.slots
  pub has_after : (r i : ℕ) → q.has r i ≡ contents_after d 0 y p.has r i
  pub fetch_after : q.fetch ≡ (if finds_wrong d 0 y then d.next y.fetched y.view else y.guess)
  pub retired_after : q.retired ≡ retired_by p.slots p.retired

-- ---- who goes, and who stays

-- An access that was asked for, and the answer.
pub record Asked : Type 0 where
  pub ask : Ask
  pub granted : Bool

-- asks that were all granted
abbrev pub granted : List Ask → List Asked
granted asks = map (λ a. record { ask = a; granted = true }) asks

-- The asks were made in their order up to one that wasn't granted.
pub record Refuses (asks : List Ask) (asked : List Asked) : Type 0 where
  pub before : List Ask
  pub ask : Ask
  pub behind : List Ask
  pub asks_are : asks ≡ before ++ (ask ∷ behind)
  pub asked_are : asked ≡ granted before ++ (record { ask = ask; granted = false } ∷ [])

-- a location that the instruction reads in stage u can't be had
pub record Waits (d : Description) (u : ℕ) (older : List (Option Slot)) (x : Slot) : Type 0 where
  pub resource : ℕ
  pub index : ℕ
  pub stage : d.read_stage resource ≡ u
  pub reads : IsTrue (d.reads x.fetched x.view resource index)
  pub waits : choice_in d resource index u older ≡ Wait

-- Why an instruction doesn't do stage u, where the next slot is the first of `room`; and what was asked.
pub data Stays (d : Description) (u : ℕ) (has : ℕ → ℕ → BitValue) (room : List (Option Slot)) (x : Slot) (asked : List Asked) : Type 0 where
  -- the next slot is neither empty nor left
  Blocked : (IsOpen room → ⊥) → asked ≡ [] → Stays d u has room x asked
  -- a location can't be had
  Waiting : IsOpen room → Waits d u room x → asked ≡ [] → Stays d u has room x asked
  -- the memory said no to an ask
  Refused : IsOpen room → (y : Slot) → Does d u has room x y → Refuses (d.asks y.fetched y.view u) asked → Stays d u has room x asked

-- what was asked, and whether a wrong guess was found
pub record Outcome : Type 0 where
  pub asked : List Asked
  pub redirected : Bool

-- what the slot behind `younger` does in its turn
pub data Turn (d : Description) (younger : List (Option Slot)) (p : Pipe) (o : Outcome) (q : Pipe) : Type 0 where
  Empty : (room : List (Option Slot)) → p.slots ≡ younger ++ (None ∷ room) → o.asked ≡ [] → o.redirected ≡ false → q ≡ p → Turn d younger p o q
  Goes : (x : Slot) (room : List (Option Slot)) (y : Slot) → Moves d p younger x room y q
      → o.asked ≡ granted (d.asks y.fetched y.view (suc (length younger))) → o.redirected ≡ finds_wrong d (suc (length younger)) y → Turn d younger p o q
  Remains : (x : Slot) (room : List (Option Slot)) → p.slots ≡ younger ++ (Some x ∷ room)
      → Stays d (suc (length younger)) p.has room x o.asked → o.redirected ≡ false → q ≡ p → Turn d younger p o q

-- the turns of the slots of the first n stages, from the last of them down
abbrev pub Turns : Description → ℕ → Pipe → Outcome → Pipe → Type 0
Turns d zero p o q = (o.asked ≡ []) × (o.redirected ≡ false) × (q ≡ p)
Turns d (suc t) p o q =
    (younger : List (Option Slot)) × (length younger ≡ t) × (first : Outcome) × (middle : Pipe) × Turn d younger p first middle
    × (rest : Outcome) × Turns d t middle rest q × (o.asked ≡ first.asked ++ rest.asked) × (o.redirected ≡ (first.redirected || rest.redirected))

-- why nothing is fetched; and what was asked
pub data NoFetch (d : Description) (redirected : Bool) (p : Pipe) (asked : List Asked) : Type 0 where
  -- slot 0 is neither empty nor left
  Full : (IsOpen p.slots → ⊥) → asked ≡ [] → NoFetch d redirected p asked
  -- an instruction that was fetched before found a wrong guess in this cycle
  Redirected : redirected ≡ true → asked ≡ [] → NoFetch d redirected p asked
  -- a stop, or no matching code word
  NoCode : d.code p.fetch ≡ None → asked ≡ [] → NoFetch d redirected p asked
  -- the instruction there reads a location in stage 0 that can't be had, or an ask got a no
  Late : IsOpen p.slots → redirected ≡ false → (x : Slot) → d.code p.fetch ≡ Some x.fetched → x.view.pc ≡ p.fetch
      → Stays d 0 p.has p.slots x asked → NoFetch d redirected p asked

-- the fetch at the end of a cycle
pub data Fetching (d : Description) (redirected : Bool) (p : Pipe) (asked : List Asked) (q : Pipe) : Type 0 where
  Fetch : redirected ≡ false → (x y : Slot) → Fetches d p x y q → asked ≡ granted (d.asks y.fetched y.view 0) → Fetching d redirected p asked q
  NoFetch_ : NoFetch d redirected p asked → q ≡ p → Fetching d redirected p asked q

-- No slot holds an instruction, and none can be fetched.
pub record IsOver (d : Description) (p : Pipe) : Type 0 where
  pub empty : cleared p.slots ≡ p.slots
  pub stop : d.code p.fetch ≡ None

-- One cycle of a pipeline that isn't over. The instruction in the last stage's slot has retired before; it is
-- gone.
pub record Tick (d : Description) (p : Pipe) (asked : List Asked) (q : Pipe) : Type 0 where
  pub running : IsOver d p → ⊥
  pub outcome : Outcome
  pub turned : Pipe
  pub turns : Turns d (length p.slots) p outcome turned
  pub fetch_asked : List Asked
  pub fetch : Fetching d outcome.redirected turned fetch_asked q
  pub asked_are : asked ≡ outcome.asked ++ fetch_asked

-- how many of the asks got a no
abbrev pub noes : List Asked → ℕ
noes [] = 0
noes (a ∷ asked) = (if a.granted then 0 else 1) + noes asked

-- so many cycles, with so many noes
abbrev pub Ticks : Description → ℕ → Pipe → ℕ → Pipe → Type 0
Ticks d zero p denied q = (denied ≡ 0) × (q ≡ p)
Ticks d (suc c) p denied q = (earlier : ℕ) × (middle : Pipe) × Ticks d c p earlier middle × (asked : List Asked) × Tick d middle asked q × (denied ≡ earlier + noes asked)

-- a pipeline before its first cycle: all slots are empty, and nothing is done
pub record IsNew (d : Description) (first : View) (p : Pipe) : Type 0 where
  pub shape : suc (length p.slots) ≡ d.stages
  pub empty : cleared p.slots ≡ p.slots
  pub has : (r i : ℕ) → p.has r i ≡ first.has r i
  pub fetch : p.fetch ≡ first.pc
  pub retired : p.retired ≡ 0
