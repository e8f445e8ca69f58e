-- Small descriptions at which the laws are tried, so that what they ask can be had.
use Rattle.std.specs.Prelude.{ℕ, zero, suc, ◌+◌, ◌%◌, true, ◌&&◌, nat_eq, List, [], Option, Some}
use Rattle.vg_cycle.specs.Description.{View, Description, IsPlaced, IsRun, written}
use Rattle.vg_cycle.specs.Pipe.{Slot, Pipe, StandsFor}
use Rattle.vg_cycle.specs.Cycle.{Moves, Asked, Tick, IsNew}

-- A counter: at each address stands an instruction that adds 1 to register 0 of resource 1 and goes on 4 bytes
-- further. It reads, computes, decides and writes in these of so many stages.
abbrev pub counter : ℕ → ℕ → ℕ → ℕ → Description
counter stages read compute write = record {
  stages = stages;
  resolve = compute;
  read_stage = λ r. read;
  write_stage = λ r. write;
  forward = λ r. nat_eq r 1;
  whole = λ r. nat_eq r 0;
  code = λ at. Some (record { instr = 0; word = 0 });
  reads = λ x v r i. nat_eq r 1 && nat_eq i 0;
  names = λ x v r i. nat_eq r 1 && nat_eq i 0;
  guard = λ x v r. true;
  guard_stage = λ x r. 0;
  put = λ x v r i old. record { width = 8; number = ((v.has 1 0).number + 1) % 256 };
  value_stage = λ x r. compute;
  next = λ x v. v.pc + 4;
  next_stage = λ x. 0;
  asks = λ x v u. [];
}

-- its run, from address 0 and a register that is 0
abbrev pub counts : Description → ℕ → View
counts d zero = record { pc = 0; has = λ r i. record { width = 8; number = 0 } }
counts d (suc k) = record {
  pc = (counts d k).pc + 4;
  has = λ r i. written d (record { instr = 0; word = 0 }) (counts d k) r i ((counts d k).has r i);
}

-- A description, its run, and a cycle from a new pipeline, as the laws ask for them.
pub record HasCycle (d : Description) (run : ℕ → View) : Type 0 where
  pub placed : IsPlaced d
  pub runs : IsRun d run
  pub first : Pipe
  pub new : IsNew d (run 0) first
  pub asked : List Asked
  pub second : Pipe
  pub tick : Tick d first asked second

-- A pipeline that stands for the run, and a stage that an instruction in it does.
pub record HasMove (d : Description) (run : ℕ → View) : Type 0 where
  pub before : Pipe
  pub stands : StandsFor d run before
  pub younger : List (Option Slot)
  pub x : Slot
  pub room : List (Option Slot)
  pub y : Slot
  pub after : Pipe
  pub moves : Moves d before younger x room y after
