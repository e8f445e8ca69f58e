-- States of a run, and what the meaning takes from outside: the width of addresses, and where things stand.
use Rattle.std.specs.Prelude.{ℕ, List, ◌++◌, map, Option, Some, None, flat_map, if◌then◌else◌}
use Rattle.vg_ir.specs.declared.name.Name.{Name}
use Rattle.vg_ir.specs.declared.instruction.Instruction.{Instruction}
use Rattle.vg_ir.specs.declared.terminator.Terminator.{Terminator}
use Rattle.vg_ir.specs.declared.function.Function.{Function}
use Rattle.vg_ir.specs.declared.global.Global.{Global}
use Rattle.vg_ir.specs.declared.module.Parts.{Parts}
use Rattle.vg_ir.specs.Lookup.{same_name}
use Rattle.vg_ir.specs.TypeLayout.{size_of}
use Rattle.vg_ir.specs.Memory.{Bytes, Object}

-- where things stand
pub record Placement : Type 0 where
  -- the bits of an address: 16, 32 or 64
  pub width : ℕ
  -- the lowest address of the stack, and the one behind its highest
  pub low : ℕ
  pub high : ℕ
  -- the bytes at the high end that hold what is passed on the stack to the function in which the run begins: the
  -- first frame ends below them
  pub passed : ℕ
  -- the address of a global
  pub address : Name → ℕ
  -- the bytes of the frame of a function
  pub frame : Name → ℕ
  -- where in the frame of a function the object of an alloca begins, counted from the frame's lowest address
  pub offset : Name → Name → ℕ

-- the values of a frame, by the names of parameters and results; None where one isn't set
abbrev pub Values : Type 0
Values = Name → Option ℕ

-- no value is set
abbrev pub no_values : Values
no_values n = None

-- one value set, and all others as they were
abbrev pub with_value : Name → ℕ → Values → Values
with_value n x values q = if same_name n q then Some x else values q

-- where a call's caller wants the result: a name, and the width of its type
pub record Destination : Type 0 where
  pub name : Name
  pub width : ℕ

-- a call that hasn't returned
pub record Frame : Type 0 where
  pub function : Function
  -- the name of the block that is executed
  pub block : Name
  -- what is left of the block: its instructions and its end
  pub left : List Instruction
  pub last : Terminator
  pub values : Values
  -- its lowest address
  pub base : ℕ
  -- its allocas that were executed, the last one first
  pub objects : List Object
  -- where the caller wants the result
  pub destination : Option Destination

-- the frame that runs, the frames that wait for it from the innermost out, and the bytes
pub record IrState : Type 0 where
  pub frame : Frame
  pub waiting : List Frame
  pub set : Bytes

-- the object of a global
abbrev pub global_object : Parts → Placement → Global → Object
global_object m p g =
    record { at = p.address g.name.name; size = size_of m p.width g.ty.ty; constant = g.constant }

-- the objects of all globals
abbrev pub global_objects : Parts → Placement → List Object
global_objects m p = map (global_object m p) m.globals

-- the live objects: the globals, and the allocas of open frames that were executed
abbrev pub live_objects : Parts → Placement → IrState → List Object
live_objects m p s = global_objects m p ++ s.frame.objects ++ flat_map (λ (f : Frame). f.objects) s.waiting
