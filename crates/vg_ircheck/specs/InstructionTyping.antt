-- The types of instructions: where an operand or a result hasn't the type that the instruction needs, or a call isn't as its
-- function is defined.
use Rattle.std.specs.Prelude.{ℕ, Bool, true, false, ◌&&◌, nat_eq, nat_lt, List, [], ◌∷◌, ◌++◌, map, flat_map, slice_get, Option, Some, None, is_some, is_none, option_and_then, if◌then◌else◌}
use Rattle.std.specs.Option.{option_map_or}
use Rattle.vg_ir.specs.declared.name.NameAt.{NameAt}
use Rattle.vg_ir.specs.declared.spot.Spot.{Spot}
use Rattle.vg_ir.specs.declared.ty.Ty.{Ty}
use Rattle.vg_ir.specs.declared.ty.Ty.TheOpen.{Ty-F}
use Rattle.vg_ir.specs.declared.ty.Ty.TheVariants.{Int, Ptr}
use Rattle.vg_ir.specs.declared.ty.TypeAt.{TypeAt}
use Rattle.vg_ir.specs.declared.operand.Value.TheVariants as value
use Rattle.vg_ir.specs.declared.operand.TypedOperand.{TypedOperand}
use Rattle.vg_ir.specs.declared.operator.CastOperator.{CastOperator}
use Rattle.vg_ir.specs.declared.operator.CastOperator.TheVariants as cast
use Rattle.vg_ir.specs.declared.instruction.Instruction.{Instruction}
use Rattle.vg_ir.specs.declared.instruction.Instruction.TheVariants as instruction
use Rattle.vg_ir.specs.declared.instruction.Cast.{Cast}
use Rattle.vg_ir.specs.declared.instruction.Select.{Select}
use Rattle.vg_ir.specs.declared.instruction.ElementPointer.{ElementPointer}
use Rattle.vg_ir.specs.declared.instruction.Index.{Index}
use Rattle.vg_ir.specs.declared.instruction.Call.{Call}
use Rattle.vg_ir.specs.declared.terminator.Terminator.{Terminator}
use Rattle.vg_ir.specs.declared.terminator.Terminator.TheVariants as terminator
use Rattle.vg_ir.specs.declared.terminator.Switch.{Switch}
use Rattle.vg_ir.specs.declared.terminator.Return.{Return}
use Rattle.vg_ir.specs.declared.terminator.Case.{Case}
use Rattle.vg_ir.specs.declared.block.Phi.{Phi}
use Rattle.vg_ir.specs.declared.block.Incoming.{Incoming}
use Rattle.vg_ir.specs.declared.block.Block.{Block}
use Rattle.vg_ir.specs.declared.function.Function.{Function}
use Rattle.vg_ir.specs.declared.function.Parameter.{Parameter}
use Rattle.vg_ir.specs.declared.module.Parts.{Parts}
use Rattle.vg_ir.specs.Lookup.{function_named}
use Rattle.vg_ir.specs.Shape.{integer_width, is_scalar, number_of}
use Rattle.vg_ir.specs.Address.{opened}
use Rattle.vg_ircheck.specs.Place.{unless}
use Rattle.vg_ircheck.specs.Types.{is_integer, is_address, same_type, same_types, same_result}
use Rattle.vg_ircheck.specs.OperandTyping.{is_global_name, operand_places, typed_places, any_type, label_places}

-- ---- casts

-- what a cast may be from
abbrev pub is_source : CastOperator → Ty → Bool
is_source cast.Zext t = is_integer t
is_source cast.Sext t = is_integer t
is_source cast.Trunc t = is_integer t
is_source cast.PtrToInt t = is_address t
is_source cast.IntToPtr t = is_integer t
is_source cast.Bitcast t = is_scalar t

-- an integer of more bits than another type, where that is an integer too
abbrev pub is_wider : Ty → Ty → Bool
is_wider source t = option_map_or (λ n. option_map_or (λ m. nat_lt m n) (integer_width source) true) (integer_width t) false

-- an integer of fewer bits
abbrev pub is_narrower : Ty → Ty → Bool
is_narrower source t = option_map_or (λ n. option_map_or (λ m. nat_lt n m) (integer_width source) true) (integer_width t) false

-- what a cast may be to. Where it is from a wrong type, only as much is asked as doesn't depend on that.
abbrev pub is_target : CastOperator → Ty → Ty → Bool
is_target cast.Zext source t = is_wider source t
is_target cast.Sext source t = is_wider source t
is_target cast.Trunc source t = is_narrower source t
is_target cast.PtrToInt source t = is_integer t
is_target cast.IntToPtr source t = is_address t
is_target cast.Bitcast source t = if is_scalar source then same_type source t else true

-- a cast: to a wrong type at its word, from a wrong type at the operand
abbrev pub cast_places : Parts → Function → Cast → List Spot
cast_places m f i =
    unless (is_target i.operator i.operand.ty.ty i.target.ty) i.at ++ typed_places m f (is_source i.operator) i.operand

-- ---- select

-- both values of a select are of one type
abbrev pub select_places : Parts → Function → Select → List Spot
select_places m f i =
    operand_places m f any_type (Int 1) i.condition
    ++ typed_places m f any_type i.then
    ++ typed_places m f (same_type i.then.ty.ty) i.otherwise

-- ---- getelementptr

-- the number of a field, which is written as a number of type i32
abbrev pub field_index : Index → Option ℕ
field_index i = elim i.operand.value [
  | value.Local n ↦ None
  | value.Global n ↦ None
  | value.Number n ↦ if nat_eq i.ty.width 32 then Some (number_of 32 n) else None
  | value.True ↦ None
  | value.False ↦ None
  | value.Null ↦ None
  | value.Undef ↦ None
  | value.Poison ↦ None
]

-- the part of a type to which an index leads
abbrev pub part_type : Ty-F Ty → Index → Option Ty
part_type (Ty-F.Int n) i = None
part_type Ty-F.Ptr i = None
part_type (Ty-F.Array count element) i = Some element
part_type (Ty-F.Struct fields) i = option_and_then (slice_get fields) (field_index i)
part_type (Ty-F.Named n) i = None

-- an index is of its integer type
abbrev pub index_places : Parts → Function → Index → List Spot
index_places m f i = operand_places m f any_type (Int i.ty.width) i.operand

-- further indices, each into a part of the type where the one before leads; behind one that leads nowhere none is judged
abbrev pub inner_places : Parts → Function → Ty → List Index → List Spot
inner_places m f t [] = []
inner_places m f t (i ∷ more) =
    index_places m f i
    ++ elim (option_and_then (λ layer. part_type layer i) (opened m t)) [
      | None ↦ i.operand.at ∷ []
      | Some part ↦ inner_places m f part more
    ]

-- the first index goes by whole elements of the type
abbrev pub indices_places : Parts → Function → Ty → List Index → List Spot
indices_places m f t [] = []
indices_places m f t (i ∷ more) = index_places m f i ++ inner_places m f t more

-- getelementptr
abbrev pub element_places : Parts → Function → ElementPointer → List Spot
element_places m f i = operand_places m f any_type Ptr i.pointer ++ indices_places m f i.ty.ty i.indices

-- ---- calls

-- the written types of a call are those of the function
abbrev pub is_called_as : Function → Call → Bool
is_called_as g c =
    same_result g.gives c.gives
    && same_types (map (λ (q : Parameter). q.ty.ty) g.parameters) (map (λ (a : TypedOperand). a.ty.ty) c.arguments)

-- the callee: a name that a global has is no function, and one that nothing has is without a definition
abbrev pub callee_places : Parts → Call → List Spot
callee_places m c = elim (function_named m c.callee.name) [
  | None ↦ if is_global_name m c.callee.name then (c.at ∷ []) else (c.callee.at ∷ [])
  | Some g ↦ unless (is_called_as g c) c.at
]

-- a call of void sets nothing
abbrev pub is_result_given : Call → Bool
is_result_given c = option_map_or (λ (r : NameAt). is_some c.gives) c.result true

-- a call
abbrev pub call_places : Parts → Function → Call → List Spot
call_places m f c =
    unless (is_result_given c) c.at ++ callee_places m c ++ flat_map (typed_places m f any_type) c.arguments

-- ---- instructions

-- an instruction
abbrev pub instruction_places : Parts → Function → Instruction → List Spot
instruction_places m f (instruction.Binary i) =
    operand_places m f is_integer i.ty.ty i.left ++ operand_places m f is_integer i.ty.ty i.right
instruction_places m f (instruction.Compare i) =
    operand_places m f is_scalar i.ty.ty i.left ++ operand_places m f is_scalar i.ty.ty i.right
instruction_places m f (instruction.Select i) = select_places m f i
instruction_places m f (instruction.Cast i) = cast_places m f i
instruction_places m f (instruction.Freeze i) = typed_places m f any_type i.operand
instruction_places m f (instruction.Alloca i) = []
instruction_places m f (instruction.Load i) = operand_places m f any_type Ptr i.pointer
instruction_places m f (instruction.Store i) =
    typed_places m f any_type i.value ++ operand_places m f any_type Ptr i.pointer
instruction_places m f (instruction.ElementPointer i) = element_places m f i
instruction_places m f (instruction.Call i) = call_places m f i

-- ---- ends of blocks

-- a case is of the type of the switch
abbrev pub case_places : Function → Ty → Case → List Spot
case_places f t c = unless (same_type t c.ty.ty) c.at ++ label_places f c.target

-- a switch is of an integer
abbrev pub switch_places : Parts → Function → Switch → List Spot
switch_places m f t =
    typed_places m f is_integer t.value ++ label_places f t.otherwise ++ flat_map (case_places f t.value.ty.ty) t.cases

-- the function gives a value of this type
abbrev pub is_given : Function → Ty → Bool
is_given f t = option_map_or (λ (g : TypeAt). same_type g.ty t) f.gives false

-- a function gives what its `ret`s have: a wrong value at the operand, a lacking one at the word
abbrev pub return_places : Parts → Function → Return → List Spot
return_places m f t = elim t.value [
  | None ↦ unless (is_none f.gives) t.at
  | Some v ↦ typed_places m f (is_given f) v
]

-- the end of a block
abbrev pub terminator_places : Parts → Function → Terminator → List Spot
terminator_places m f (terminator.Jump t) = label_places f t.target
terminator_places m f (terminator.Branch t) =
    operand_places m f any_type (Int 1) t.condition ++ label_places f t.then ++ label_places f t.otherwise
terminator_places m f (terminator.Switch t) = switch_places m f t
terminator_places m f (terminator.Return t) = return_places m f t
terminator_places m f (terminator.Unreachable at) = []

-- ---- blocks and functions

-- what a phi takes from a block
abbrev pub incoming_places : Parts → Function → Ty → Incoming → List Spot
incoming_places m f t i = operand_places m f any_type t i.operand ++ label_places f i.block

-- a phi
abbrev pub phi_places : Parts → Function → Phi → List Spot
phi_places m f p = flat_map (incoming_places m f p.ty.ty) p.incoming

-- a block
abbrev pub block_places : Parts → Function → Block → List Spot
block_places m f b =
    flat_map (phi_places m f) b.phis ++ flat_map (instruction_places m f) b.instructions
    ++ terminator_places m f b.terminator

-- a function
abbrev pub function_places : Parts → Function → List Spot
function_places m f = flat_map (block_places m f) f.blocks
