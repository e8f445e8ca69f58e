-- Short words for the parts of a module, and for what is told of a run. All places are 0.
use Rattle.std.specs.Prelude.{ℕ, ◌+◌, zero, suc, true, false, List, [], ◌∷◌, codes, Option, Some, None}
use Prim.Native.String.{String}
use Rattle.vg_ir.specs.declared.name.Name.{Name}
use Rattle.vg_ir.specs.declared.name.NameAt.{NameAt}
use Rattle.vg_ir.specs.declared.spot.Spot.{Spot}
use Rattle.vg_ir.specs.declared.number.Number.{Number}
use Rattle.vg_ir.specs.declared.ty.Ty.{Ty}
use Rattle.vg_ir.specs.declared.ty.TypeAt.{TypeAt}
use Rattle.vg_ir.specs.declared.operand.Value.{Value}
use Rattle.vg_ir.specs.declared.operand.Value.TheVariants as value
use Rattle.vg_ir.specs.declared.operand.Operand.{Operand}
use Rattle.vg_ir.specs.declared.operand.TypedOperand.{TypedOperand}
use Rattle.vg_ir.specs.declared.operator.BinaryOperator.{BinaryOperator}
use Rattle.vg_ir.specs.declared.operator.Predicate.{Predicate}
use Rattle.vg_ir.specs.declared.operator.CastOperator.{CastOperator}
use Rattle.vg_ir.specs.declared.instruction.Instruction.{Instruction}
use Rattle.vg_ir.specs.declared.instruction.Instruction.TheVariants as instruction
use Rattle.vg_ir.specs.declared.instruction.Index.{Index}
use Rattle.vg_ir.specs.declared.terminator.Terminator.{Terminator}
use Rattle.vg_ir.specs.declared.terminator.Terminator.TheVariants as terminator
use Rattle.vg_ir.specs.declared.terminator.Case.{Case}
use Rattle.vg_ir.specs.declared.block.Phi.{Phi}
use Rattle.vg_ir.specs.declared.block.Incoming.{Incoming}
use Rattle.vg_ir.specs.declared.block.Block.{Block}
use Rattle.vg_ir.specs.declared.function.Function.{Function}
use Rattle.vg_ir.specs.declared.function.Parameter.{Parameter}
use Rattle.vg_ir.specs.declared.module.Parts.{Parts}
use Rattle.vg_ir.specs.Memory.{Bytes}
use Rattle.vg_ir.specs.Answer.{Cause}
use Rattle.vg_ir.specs.State.{Placement}
use Rattle.vg_ir.specs.Control.{Outcome, Next, End, StackFull, Undefined, Unset}

-- ---- names, types and operands

-- the place of everything
abbrev pub here : Spot
here = record { unit = 0; at = 0 }

-- a name of the one text
abbrev pub named : String → Name
named text = record { unit = 0; text = codes text }

-- a name where it stands
abbrev pub name_at : String → NameAt
name_at text = record { name = named text; at = here }

-- a type where it stands
abbrev pub type_at : Ty → TypeAt
type_at t = record { ty = t; at = here; leaves = [] }

-- %TEXT
abbrev pub local : String → Operand
local text = record { value = value.Local (named text); at = here }

-- @TEXT
abbrev pub global : String → Operand
global text = record { value = value.Global (named text); at = here }

-- a number without a sign
abbrev pub positive : ℕ → Number
positive n = record { negative = false; magnitude = n }

-- a number behind a `-`
abbrev pub negative : ℕ → Number
negative n = record { negative = true; magnitude = n }

-- a number as an operand
abbrev pub number : ℕ → Operand
number n = record { value = value.Number (positive n); at = here }

-- a number behind a `-` as an operand
abbrev pub minus : ℕ → Operand
minus n = record { value = value.Number (negative n); at = here }

-- true, false, null, undef or poison as an operand
abbrev pub constant : Value → Operand
constant v = record { value = v; at = here }

-- T OPERAND
abbrev pub typed : Ty → Operand → TypedOperand
typed t o = record { ty = type_at t; operand = o }

-- ---- instructions

-- %R = OP T A, B
abbrev pub binary : String → BinaryOperator → Ty → Operand → Operand → Instruction
binary r op t a b = instruction.Binary (record { at = here; result = name_at r; operator = op; ty = type_at t; left = a; right = b })

-- %R = icmp P T A, B
abbrev pub compare : String → Predicate → Ty → Operand → Operand → Instruction
compare r op t a b = instruction.Compare (record { at = here; result = name_at r; predicate = op; ty = type_at t; left = a; right = b })

-- %R = select i1 C, T A, T B
abbrev pub select : String → Operand → Ty → Operand → Operand → Instruction
select r c t a b = instruction.Select (record { at = here; result = name_at r; condition = c; then = typed t a; otherwise = typed t b })

-- %R = OP T A to U
abbrev pub cast : String → CastOperator → Ty → Operand → Ty → Instruction
cast r op t a to = instruction.Cast (record { at = here; result = name_at r; operator = op; operand = typed t a; target = type_at to })

-- %R = freeze T A
abbrev pub freeze : String → Ty → Operand → Instruction
freeze r t a = instruction.Freeze (record { at = here; result = name_at r; operand = typed t a })

-- %R = alloca T
abbrev pub alloca : String → Ty → Instruction
alloca r t = instruction.Alloca (record { at = here; result = name_at r; ty = type_at t; count = None; align = None })

-- %R = load T, ptr A
abbrev pub load : String → Ty → Operand → Instruction
load r t a = instruction.Load (record { at = here; result = name_at r; ty = type_at t; pointer = a })

-- store T V, ptr A
abbrev pub store : Ty → Operand → Operand → Instruction
store t v a = instruction.Store (record { at = here; value = typed t v; pointer = a })

-- iN OPERAND
abbrev pub index : ℕ → Operand → Index
index width o = record { ty = record { width = width; at = here }; operand = o }

-- %R = getelementptr T, ptr A, INDICES
abbrev pub element : String → Ty → Operand → List Index → Instruction
element r t a indices = instruction.ElementPointer (record { at = here; result = name_at r; ty = type_at t; pointer = a; indices = indices })

-- %R = call T @F(ARGUMENTS)
abbrev pub call : String → Ty → String → List TypedOperand → Instruction
call r t f arguments = instruction.Call (record { at = here; result = Some (name_at r); gives = Some (type_at t); callee = name_at f; arguments = arguments })

-- call void @F(ARGUMENTS)
abbrev pub call_void : String → List TypedOperand → Instruction
call_void f arguments = instruction.Call (record { at = here; result = None; gives = None; callee = name_at f; arguments = arguments })

-- ---- ends of blocks

-- br label %B
abbrev pub jump : String → Terminator
jump b = terminator.Jump (record { at = here; target = name_at b })

-- br i1 C, label %A, label %B
abbrev pub branch : Operand → String → String → Terminator
branch c a b = terminator.Branch (record { at = here; condition = c; then = name_at a; otherwise = name_at b })

-- T N, label %B
abbrev pub case : Ty → Number → String → Case
case t n b = record { ty = type_at t; number = n; at = here; target = name_at b }

-- switch T V, label %D [ CASES ]
abbrev pub switch : Ty → Operand → String → List Case → Terminator
switch t v d cases = terminator.Switch (record { at = here; value = typed t v; otherwise = name_at d; cases = cases })

-- ret T V
abbrev pub ret : Ty → Operand → Terminator
ret t v = terminator.Return (record { at = here; value = Some (typed t v) })

-- ret void
abbrev pub ret_void : Terminator
ret_void = terminator.Return (record { at = here; value = None })

-- unreachable
abbrev pub unreachable : Terminator
unreachable = terminator.Unreachable here

-- ---- blocks and functions

-- [ OPERAND, %B ]
abbrev pub incoming : Operand → String → Incoming
incoming o b = record { operand = o; block = name_at b }

-- %R = phi T FROM
abbrev pub phi : String → Ty → List Incoming → Phi
phi r t from = record { at = here; result = name_at r; ty = type_at t; incoming = from }

-- B: PHIS INSTRUCTIONS END
abbrev pub block : String → List Phi → List Instruction → Terminator → Block
block b phis instructions end = record { name = name_at b; phis = phis; instructions = instructions; terminator = end }

-- T %N
abbrev pub parameter : Ty → String → Parameter
parameter t n = record { ty = type_at t; name = name_at n }

-- define T @F(PARAMETERS) { BLOCKS }
abbrev pub function : Ty → String → List Parameter → List Block → Function
function t f parameters blocks = record { name = name_at f; linkage = None; gives = Some (type_at t); parameters = parameters; blocks = blocks }

-- a module of functions alone
abbrev pub functions : List Function → Parts
functions fs = record { structures = []; globals = []; functions = fs }

-- ---- where things stand

-- a stack, frames of one size, and no globals
abbrev pub stack : ℕ → ℕ → ℕ → (Name → Name → ℕ) → Placement
stack low high frame offset = record {
  width = 32;
  low = low;
  high = high;
  passed = 0;
  address = λ n. 0;
  frame = λ n. frame;
  offset = offset;
}

-- all objects of a frame at its lowest address
abbrev pub at_base : Name → Name → ℕ
at_base f n = 0

-- ---- what is told of a run

-- what is told of an outcome
pub data Report : Type 0 where
  -- it goes on
  Runs : Report
  -- it has ended with this number
  Gives : ℕ → Report
  -- it has ended without one
  Ends : Report
  Full : Report
  Fails : Cause → Report
  NotSet : Report

-- an outcome without its bytes
abbrev pub report : Outcome → Report
report (Next s) = Runs
report (End (Some x) set) = Gives x
report (End None set) = Ends
report StackFull = Full
report (Undefined c) = Fails c
report Unset = NotSet

-- so many bytes from an address on
abbrev pub bytes_from : Bytes → ℕ → ℕ → List (Option ℕ)
bytes_from set at zero = []
bytes_from set at (suc n) = set at ∷ bytes_from set (at + 1) n

-- so many bytes at the end of a run
abbrev pub bytes_at_end : Outcome → ℕ → ℕ → List (Option ℕ)
bytes_at_end (End given set) at n = bytes_from set at n
bytes_at_end o at n = []
