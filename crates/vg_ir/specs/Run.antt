-- Runs: the start, and so many steps from it. A run stays at its end.
use Rattle.std.specs.Prelude.{ℕ, zero, suc, ◌+◌, ◌-◌, nat_lt, List, [], Option, None, slice_get, find, option_and_then, if◌then◌else◌}
use Rattle.vg_ir.specs.declared.name.Name.{Name}
use Rattle.vg_ir.specs.declared.global.Global.{Global}
use Rattle.vg_ir.specs.declared.module.Parts.{Parts}
use Rattle.vg_ir.specs.Lookup.{function_named}
use Rattle.vg_ir.specs.Memory.{Bytes, lies_in}
use Rattle.vg_ir.specs.Initial.{initial_bytes}
use Rattle.vg_ir.specs.Answer.{known}
use Rattle.vg_ir.specs.State.{Placement, global_object}
use Rattle.vg_ir.specs.Control.{Outcome, Next, End, StackFull, Undefined, Unset, go_on, entered}
use Rattle.vg_ir.specs.Step.{ir_step}

-- the byte of a global at an address in it
abbrev pub global_byte : Parts → Placement → Global → ℕ → Option ℕ
global_byte m p g at =
    slice_get (initial_bytes m p.width p.address g.ty.ty g.initial) (at - p.address g.name.name)

-- At the start the bytes of globals are set, and no others.
abbrev pub start_bytes : Parts → Placement → Bytes
start_bytes m p at =
    option_and_then (λ (g : Global). global_byte m p g at) (find (λ (g : Global). lies_in at 1 (global_object m p g)) m.globals)

-- The start is a call of a function with these numbers as its arguments. Its frame ends below what is passed on the stack.
-- The stack is full where the frame would begin below the stack's low end.
abbrev pub start : Parts → Placement → Name → List ℕ → Outcome
start m p entry arguments =
    go_on (known (function_named m entry)) (λ f.
    if nat_lt p.high (p.low + p.frame f.name.name + p.passed)
    then StackFull
    else entered p f arguments (p.high - p.passed) None [] (start_bytes m p))

-- one step more, where a state is reached
abbrev pub stepped : Parts → Placement → Outcome → Outcome
stepped m p (Next s) = ir_step m p s
stepped m p (End given set) = End given set
stepped m p StackFull = StackFull
stepped m p (Undefined c) = Undefined c
stepped m p Unset = Unset

-- the outcome after so many steps
abbrev pub ir_run : Parts → Placement → Name → List ℕ → ℕ → Outcome
ir_run m p entry arguments zero = start m p entry arguments
ir_run m p entry arguments (suc k) = stepped m p (ir_run m p entry arguments k)
