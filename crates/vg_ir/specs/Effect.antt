-- What an instruction that neither calls nor ends a block does: the values of its frame, the bytes and the frame's objects
-- after it.
use Rattle.std.specs.Prelude.{ℕ, ◌+◌, ◌*◌, false, ◌&&◌, nat_eq, nat_lt, List, ◌∷◌, Option, Some, None, if◌then◌else◌}
use Rattle.std.specs.Option.{option_map_or}
use Rattle.vg_ir.specs.declared.name.Name.{Name}
use Rattle.vg_ir.specs.declared.instruction.Instruction.{Instruction}
use Rattle.vg_ir.specs.declared.instruction.Instruction.TheVariants as instruction
use Rattle.vg_ir.specs.declared.instruction.Binary.{Binary}
use Rattle.vg_ir.specs.declared.instruction.Compare.{Compare}
use Rattle.vg_ir.specs.declared.instruction.Select.{Select}
use Rattle.vg_ir.specs.declared.instruction.Cast.{Cast}
use Rattle.vg_ir.specs.declared.instruction.Freeze.{Freeze}
use Rattle.vg_ir.specs.declared.instruction.Alloca.{Alloca}
use Rattle.vg_ir.specs.declared.instruction.Load.{Load}
use Rattle.vg_ir.specs.declared.instruction.Store.{Store}
use Rattle.vg_ir.specs.declared.instruction.ElementPointer.{ElementPointer}
use Rattle.vg_ir.specs.declared.instruction.Count.{Count}
use Rattle.vg_ir.specs.declared.module.Parts.{Parts}
use Rattle.vg_ir.specs.Shape.{number_of}
use Rattle.vg_ir.specs.TypeLayout.{size_of}
use Rattle.vg_ir.specs.Memory.{Bytes, Object, object_at, loaded, stored}
use Rattle.vg_ir.specs.Answer.{Answer, Known, Wrong, Lacking, LoadOutside, StoreOutside, LoadUnset, LoadNoBit, StoreConstant, ◌>>=◌, known}
use Rattle.vg_ir.specs.Arithmetic.{binary_value, compared, bit_of, cast_value}
use Rattle.vg_ir.specs.State.{Placement, Values, with_value, Frame, IrState, live_objects}
use Rattle.vg_ir.specs.Operands.{value_width, operand, operand_at, typed_operand}
use Rattle.vg_ir.specs.Address.{element_address}

-- the values of the frame, the bytes and the objects of the frame behind an instruction
pub record Effect : Type 0 where
  pub values : Values
  pub set : Bytes
  pub objects : List Object

-- a result is set, and nothing else
abbrev pub sets_result : IrState → Name → ℕ → Effect
sets_result s n x =
    record { values = with_value n x s.frame.values; set = s.set; objects = s.frame.objects }

-- bytes are set, and nothing else
abbrev pub sets_bytes : IrState → Bytes → Effect
sets_bytes s set = record { values = s.frame.values; set = set; objects = s.frame.objects }

-- an object is made, and its address is the result
abbrev pub makes_object : IrState → Name → Object → Effect
makes_object s n o =
    record { values = with_value n o.at s.frame.values; set = s.set; objects = o ∷ s.frame.objects }

-- ---- memory

-- an i1 is 0 or 1
abbrev pub as_width : ℕ → ℕ → Answer ℕ
as_width width x = if nat_eq width 1 && nat_lt 1 x then Wrong LoadNoBit else Known x

-- the number that was loaded, where all of its bytes are set
abbrev pub as_loaded : ℕ → Option ℕ → Answer ℕ
as_loaded width None = Wrong LoadUnset
as_loaded width (Some x) = as_width width x

-- so many bytes are loaded from an address, as a number of a width
abbrev pub load_value : List Object → Bytes → ℕ → ℕ → ℕ → Answer ℕ
load_value objects set at bytes width =
    elim (object_at objects at bytes) [
      | None ↦ Wrong LoadOutside
      | Some o ↦ as_loaded width (loaded set at bytes)
    ]

-- so many bytes of a number are stored at an address
abbrev pub store_value : List Object → Bytes → ℕ → ℕ → ℕ → Answer Bytes
store_value objects set at bytes x =
    elim (object_at objects at bytes) [
      | None ↦ Wrong StoreOutside
      | Some o ↦ if o.constant then Wrong StoreConstant else Known (stored set at bytes x)
    ]

-- how many of its type stand in the object of an alloca
abbrev pub count_of : Alloca → ℕ
count_of i = option_map_or (λ (c : Count). number_of c.ty.width c.number) i.count 1

-- the object of an alloca
abbrev pub alloca_object : Parts → Placement → Frame → Alloca → Object
alloca_object m p f i = record {
  at = f.base + p.offset f.function.name.name i.result.name;
  size = size_of m p.width i.ty.ty * count_of i;
  constant = false;
}

-- ---- results

-- a two-operand instruction
abbrev pub binary_result : Placement → Values → Binary → Answer ℕ
binary_result p values i =
    operand_at p values i.ty.ty i.left >>= λ a.
    operand_at p values i.ty.ty i.right >>= λ b.
    binary_value i.operator a b

-- icmp gives an i1
abbrev pub compare_result : Placement → Values → Compare → Answer ℕ
compare_result p values i =
    operand_at p values i.ty.ty i.left >>= λ a.
    operand_at p values i.ty.ty i.right >>= λ b.
    Known (bit_of (compared i.predicate a b))

-- select reads all of its operands
abbrev pub select_result : Placement → Values → Select → Answer ℕ
select_result p values i =
    operand p values 1 i.condition >>= λ c.
    operand_at p values i.then.ty.ty i.then.operand >>= λ a.
    operand_at p values i.then.ty.ty i.otherwise.operand >>= λ b.
    Known (if nat_eq c.number 1 then a.number else b.number)

-- a cast to the width of its target
abbrev pub cast_result : Placement → Values → Cast → Answer ℕ
cast_result p values i =
    typed_operand p values i.operand >>= λ a.
    known (value_width p.width i.target.ty) >>= λ width.
    Known (cast_value i.operator a width)

-- freeze is the identity
abbrev pub freeze_result : Placement → Values → Freeze → Answer ℕ
freeze_result p values i = typed_operand p values i.operand >>= λ a. Known a.number

-- load reads as many bytes as its type has
abbrev pub load_result : Parts → Placement → IrState → Load → Answer ℕ
load_result m p s i =
    known (value_width p.width i.ty.ty) >>= λ width.
    operand p s.frame.values p.width i.pointer >>= λ at.
    load_value (live_objects m p s) s.set at.number (size_of m p.width i.ty.ty) width

-- getelementptr
abbrev pub element_result : Parts → Placement → Values → ElementPointer → Answer ℕ
element_result m p values i =
    operand p values p.width i.pointer >>= λ at. element_address m p values i.ty.ty at.number i.indices

-- the bytes behind a store
abbrev pub store_result : Parts → Placement → IrState → Store → Answer Bytes
store_result m p s i =
    typed_operand p s.frame.values i.value >>= λ x.
    operand p s.frame.values p.width i.pointer >>= λ at.
    store_value (live_objects m p s) s.set at.number (size_of m p.width i.value.ty.ty) x.number

-- ---- instructions

-- an instruction sets its result, its bytes or its object
abbrev pub effect : Parts → Placement → IrState → Instruction → Answer Effect
effect m p s (instruction.Binary i) =
    binary_result p s.frame.values i >>= λ x. Known (sets_result s i.result.name x)
effect m p s (instruction.Compare i) =
    compare_result p s.frame.values i >>= λ x. Known (sets_result s i.result.name x)
effect m p s (instruction.Select i) =
    select_result p s.frame.values i >>= λ x. Known (sets_result s i.result.name x)
effect m p s (instruction.Cast i) =
    cast_result p s.frame.values i >>= λ x. Known (sets_result s i.result.name x)
effect m p s (instruction.Freeze i) =
    freeze_result p s.frame.values i >>= λ x. Known (sets_result s i.result.name x)
effect m p s (instruction.Alloca i) = Known (makes_object s i.result.name (alloca_object m p s.frame i))
effect m p s (instruction.Load i) =
    load_result m p s i >>= λ x. Known (sets_result s i.result.name x)
effect m p s (instruction.Store i) = store_result m p s i >>= λ set. Known (sets_bytes s set)
effect m p s (instruction.ElementPointer i) =
    element_result m p s.frame.values i >>= λ to. Known (sets_result s i.result.name to)
effect m p s (instruction.Call i) = Lacking

-- the state behind the instruction, of which this is left of the block
abbrev pub takes_effect : IrState → Effect → List Instruction → IrState
takes_effect s e left = record {
  frame = record s.frame { left = left; values = e.values; objects = e.objects };
  waiting = s.waiting;
  set = e.set;
}
