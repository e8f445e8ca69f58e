-- Runs of a machine: moves from place to place, up to a bound or to where it halts.
use Rattle.std.specs.Prelude.{◌≡◌, ℕ, zero, suc, Option, Some, None}

-- why a machine halts: at its end, where the stack is full, or by a fault, as at a word that is no instruction
pub data Halt (Fault : Type 0) : Type 0 where
  Ended : Halt Fault
  Full : Halt Fault
  Failed : Fault → Halt Fault

-- a machine moves to a place, or halts
pub data Move (Place Fault : Type 0) : Type 0 where
  Moved : Place → Move Place Fault
  Halted : Halt Fault → Move Place Fault

-- how a run stands: the place reached, and why no further move is made, where that is so
pub record Stand (Place Fault : Type 0) : Type 0 where
  pub place : Place
  pub halt : Option (Halt Fault)

-- how a run stands at a place behind which no move is made
abbrev pub stopped : {Place Fault : Type 0} → Place → Move Place Fault → Stand Place Fault
stopped m (Moved _) = record { place = m; halt = None }
stopped m (Halted h) = record { place = m; halt = Some h }

-- how a run stands that goes on where the machine moves
abbrev pub onward : {Place Fault : Type 0} → (Place → Stand Place Fault) → Place → Move Place Fault → Stand Place Fault
onward rest m (Moved t) = rest t
onward rest m (Halted h) = record { place = m; halt = Some h }

-- how the run from a place stands after at most so many moves
abbrev pub stand : {Place Fault : Type 0} → (Place → Move Place Fault) → ℕ → Place → Stand Place Fault
stand move zero m = stopped m (move m)
stand move (suc n) m = onward (stand move n) m (move m)

-- so many moves lead from a place to another
abbrev pub Leads : {Place Fault : Type 0} → (Place → Move Place Fault) → ℕ → Place → Place → Type 0
Leads move zero m t = m ≡ t
Leads {Place} move (suc n) m t = (next : Place) × (move m ≡ Moved next) × Leads move n next t
