-- How control goes from block to block and from function to function.
use Rattle.std.specs.Prelude.{ℕ, ◌+◌, ◌-◌, nat_eq, nat_lt, List, [], ◌∷◌, Option, Some, None, find, option_and_then, option_map, if◌then◌else◌}
use Rattle.vg_bits.specs.BitValue.{BitValue}
use Rattle.vg_ir.specs.declared.name.Name.{Name}
use Rattle.vg_ir.specs.declared.name.NameAt.{NameAt}
use Rattle.vg_ir.specs.declared.operand.TypedOperand.{TypedOperand}
use Rattle.vg_ir.specs.declared.ty.TypeAt.{TypeAt}
use Rattle.vg_ir.specs.declared.instruction.Instruction.{Instruction}
use Rattle.vg_ir.specs.declared.instruction.Call.{Call}
use Rattle.vg_ir.specs.declared.terminator.Case.{Case}
use Rattle.vg_ir.specs.declared.terminator.Switch.{Switch}
use Rattle.vg_ir.specs.declared.block.Phi.{Phi}
use Rattle.vg_ir.specs.declared.block.Incoming.{Incoming}
use Rattle.vg_ir.specs.declared.block.Block.{Block}
use Rattle.vg_ir.specs.declared.function.Function.{Function}
use Rattle.vg_ir.specs.declared.function.Parameter.{Parameter}
use Rattle.vg_ir.specs.declared.module.Parts.{Parts}
use Rattle.vg_ir.specs.Shape.{number_of}
use Rattle.vg_ir.specs.Lookup.{same_name, function_named, block_named}
use Rattle.vg_ir.specs.Memory.{Bytes, cleared}
use Rattle.vg_ir.specs.Answer.{Cause, Answer, Known, Wrong, Lacking, ◌>>=◌, known}
use Rattle.vg_ir.specs.State.{Placement, Values, no_values, with_value, Destination, Frame, IrState}
use Rattle.vg_ir.specs.Operands.{value_width, of_width, operand_at, typed_operand}

-- what a step comes to
pub data Outcome : Type 0 where
  Next : IrState → Outcome
  -- the function in which the run began has returned: what it gives, None for void, and the bytes that are then set
  End : Option ℕ → Bytes → Outcome
  -- a frame has no room on the stack
  StackFull : Outcome
  -- the step has no meaning, for this cause
  Undefined : Cause → Outcome
  -- a value is read that isn't set, or a name has no definition
  Unset : Outcome

-- a step goes on with what a part of it gives
abbrev pub go_on : {A : Type 0} → Answer A → (A → Outcome) → Outcome
go_on (Known x) f = f x
go_on (Wrong c) f = Undefined c
go_on Lacking f = Unset

-- ---- branches

-- what a phi takes where its block is entered from this one
abbrev pub phi_value : Placement → Values → Name → Phi → Answer ℕ
phi_value p before from phi =
    known (find (λ (i : Incoming). same_name i.block.name from) phi.incoming) >>= λ incoming.
    operand_at p before phi.ty.ty incoming.operand >>= λ x.
    Known x.number

-- all phis are read before any is set
abbrev pub phi_values : Placement → Values → Name → List Phi → Values → Answer Values
phi_values p before from [] after = Known after
phi_values p before from (phi ∷ phis) after =
    phi_value p before from phi >>= λ x.
    phi_values p before from phis (with_value phi.result.name x after)

-- the state at the start of a block, behind its phis
abbrev pub in_block : IrState → Block → Values → IrState
in_block s b values = record {
  frame = record s.frame { block = b.name.name; left = b.instructions; last = b.terminator; values = values };
  waiting = s.waiting;
  set = s.set;
}

-- a branch to a block of the running function
abbrev pub jumped : Placement → IrState → Name → Outcome
jumped p s target =
    go_on (known (block_named s.frame.function target)) (λ b. go_on (phi_values p s.frame.values s.frame.block b.phis s.frame.values) (λ values. Next (in_block s b values)))

-- where a switch goes: the first case of the value's number
abbrev pub switch_target : Switch → BitValue → Name
switch_target t x =
    elim (find (λ (c : Case). nat_eq (number_of x.width c.number) x.number) t.cases) [
      | None ↦ t.otherwise.name
      | Some c ↦ c.target.name
    ]

-- ---- calls

-- the arguments are the values of the parameters
abbrev pub bound : ℕ → List Parameter → List ℕ → Values → Option Values
bound width [] [] values = Some values
bound width [] (x ∷ xs) values = None
bound width (q ∷ qs) [] values = None
bound width (q ∷ qs) (x ∷ xs) values =
    option_and_then (λ y. bound width qs xs (with_value q.name.name y values)) (option_and_then (λ n. of_width n x) (value_width width q.ty.ty))

-- the frame of a call: the first block of the function, its parameters, and no object
abbrev pub fresh_frame : Function → Block → Values → ℕ → Option Destination → Frame
fresh_frame f entry values base destination = record {
  function = f;
  block = entry.name.name;
  left = entry.instructions;
  last = entry.terminator;
  values = values;
  base = base;
  objects = [];
  destination = destination;
}

-- the entry block
abbrev pub first_block : List Block → Option Block
first_block [] = None
first_block (b ∷ bs) = Some b

-- A function is entered with arguments; its frame ends at an address, and its bytes are unset.
abbrev pub entered : Placement → Function → List ℕ → ℕ → Option Destination → List Frame → Bytes → Outcome
entered p f arguments end destination waiting set =
    let base = end - p.frame f.name.name in
    go_on (known (bound p.width f.parameters arguments no_values)) (λ values. go_on (known (first_block f.blocks)) (λ entry. Next (record { frame = fresh_frame f entry values base destination; waiting = waiting; set = cleared set base end })))

-- the numbers of arguments
abbrev pub argument_values : Placement → Values → List TypedOperand → Answer (List ℕ)
argument_values p values [] = Known []
argument_values p values (a ∷ more) =
    typed_operand p values a >>= λ x. argument_values p values more >>= λ xs. Known (x.number ∷ xs)

-- where the caller wants the result: where the call has a name for it, at the type that it is said to give
abbrev pub destination_of : Placement → Call → Option Destination
destination_of p c =
    option_and_then (λ (r : NameAt). option_and_then (λ (t : TypeAt). option_map (λ width. record { name = r.name; width = width }) (value_width p.width t.ty)) c.gives) c.result

-- the caller waits behind its call
abbrev pub behind_call : Frame → List Instruction → Frame
behind_call f left = record f { left = left }

-- A call of a function. The stack is full where the frame would begin below the stack's low end.
abbrev pub called : Parts → Placement → IrState → Call → List Instruction → Outcome
called m p s c left =
    go_on (known (function_named m c.callee.name)) (λ f. go_on (argument_values p s.frame.values c.arguments) (λ arguments.
    if nat_lt s.frame.base (p.low + p.frame f.name.name)
    then StackFull
    else entered p f arguments s.frame.base (destination_of p c) (behind_call s.frame left ∷ s.waiting) s.set))

-- what the caller's values are with what the function gives
abbrev pub with_result : Option Destination → Option ℕ → Values → Option Values
with_result None given values = Some values
with_result (Some d) None values = None
with_result (Some d) (Some x) values = option_map (λ y. with_value d.name y values) (of_width d.width x)

-- the function gives a number, or nothing: the run ends, or the caller goes on
abbrev pub given_back : IrState → Option ℕ → List Frame → Outcome
given_back s given [] = End given s.set
given_back s given (caller ∷ waiting) =
    go_on (known (with_result s.frame.destination given caller.values)) (λ values. Next (record { frame = record caller { values = values }; waiting = waiting; set = s.set }))

-- ret
abbrev pub returned : Placement → IrState → Option TypedOperand → Outcome
returned p s None = given_back s None s.waiting
returned p s (Some o) = go_on (typed_operand p s.frame.values o) (λ x. given_back s (Some x.number) s.waiting)
