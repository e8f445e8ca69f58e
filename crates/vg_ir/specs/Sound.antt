-- What every state of a run keeps: numbers fit their types, bytes are bytes, frames stand on one another, and the objects of
-- a frame lie in it.
use Rattle.std.specs.Prelude.{◌≡◌, ℕ, ◌+◌, ◌-◌, ◌*◌, ◌^◌, ◌<◌, ◌≤◌, ◌⊎◌, true, IsTrue, List, [], ◌∷◌, Option, Some, None, flat_map, option_map}
use Rattle.vg_ir.specs.declared.name.Name.{Name}
use Rattle.vg_ir.specs.declared.instruction.Instruction.{Instruction}
use Rattle.vg_ir.specs.declared.instruction.Instruction.TheVariants as instruction
use Rattle.vg_ir.specs.declared.instruction.Alloca.{Alloca}
use Rattle.vg_ir.specs.declared.block.Phi.{Phi}
use Rattle.vg_ir.specs.declared.block.Block.{Block}
use Rattle.vg_ir.specs.declared.function.Function.{Function}
use Rattle.vg_ir.specs.declared.function.Parameter.{Parameter}
use Rattle.vg_ir.specs.declared.ty.Ty.{Ty}
use Rattle.vg_ir.specs.declared.module.Parts.{Parts}
use Rattle.vg_ir.specs.Lookup.{same_name}
use Rattle.vg_ir.specs.WellFormed.{is_module}
use Rattle.vg_ir.specs.TypeLayout.{size_of}
use Rattle.vg_ir.specs.Memory.{Bytes, Object}
use Rattle.vg_ir.specs.State.{Placement, Values, Destination, Frame, IrState}
use Rattle.vg_ir.specs.Operands.{value_width}
use Rattle.vg_ir.specs.Effect.{count_of, alloca_object}
use Rattle.vg_ir.specs.Control.{destination_of}

-- ---- what a function sets

-- an element of a list
abbrev pub IsIn : {A : Type 0} → A → List A → Type 0
IsIn x [] = ⊥
IsIn x (y ∷ ys) = (x ≡ y) ⊎ IsIn x ys

-- the instructions of all blocks, phis and ends apart
abbrev pub instructions_of : List Block → List Instruction
instructions_of blocks = flat_map (λ (b : Block). b.instructions) blocks

-- the phis of all blocks
abbrev pub phis_of : List Block → List Phi
phis_of blocks = flat_map (λ (b : Block). b.phis) blocks

-- a name with the width of a type
abbrev pub at_width : Placement → Name → Ty → Option (Name × ℕ)
at_width p n t = option_map (λ (width : ℕ). (n, width)) (value_width p.width t)

-- the result of an instruction, and its width
abbrev pub result_of : Placement → Instruction → Option (Name × ℕ)
result_of p (instruction.Binary i) = at_width p i.result.name i.ty.ty
result_of p (instruction.Compare i) = Some (i.result.name, 1)
result_of p (instruction.Select i) = at_width p i.result.name i.then.ty.ty
result_of p (instruction.Cast i) = at_width p i.result.name i.target.ty
result_of p (instruction.Freeze i) = at_width p i.result.name i.operand.ty.ty
result_of p (instruction.Alloca i) = Some (i.result.name, p.width)
result_of p (instruction.Load i) = at_width p i.result.name i.ty.ty
result_of p (instruction.Store i) = None
result_of p (instruction.ElementPointer i) = Some (i.result.name, p.width)
result_of p (instruction.Call i) = option_map (λ (d : Destination). (d.name, d.width)) (destination_of p i)

-- a function sets a name at a width: by a parameter, a phi or an instruction
abbrev pub SetsAt : Placement → Function → Name → ℕ → Type 0
SetsAt p f n width =
    ((q : Parameter) × IsIn q f.parameters × (at_width p q.name.name q.ty.ty ≡ Some (n, width)))
    ⊎ (((i : Phi) × IsIn i (phis_of f.blocks) × (at_width p i.result.name i.ty.ty ≡ Some (n, width)))
    ⊎ ((i : Instruction) × IsIn i (instructions_of f.blocks) × (result_of p i ≡ Some (n, width))))

-- a number fits the width at which the function sets the name
abbrev pub FitsName : Placement → Function → Name → ℕ → Type 0
FitsName p f q x = (n : Name) × (width : ℕ) × SetsAt p f n width × (same_name n q ≡ true) × (x < 2 ^ width)

-- each value that is set fits the width at which the function sets its name
abbrev pub FitNames : Placement → Function → Values → Type 0
FitNames p f values = (q : Name) (x : ℕ) → values q ≡ Some x → FitsName p f q x

-- ---- frames

-- an object is that of an alloca of the frame's function
abbrev pub IsOwn : Parts → Placement → Frame → Object → Type 0
IsOwn m p f o =
    (i : Alloca) × IsIn (instruction.Alloca i) (instructions_of f.function.blocks) × (o ≡ alloca_object m p f i)

-- what a frame keeps by itself
pub record IsFrame (m : Parts) (p : Placement) (f : Frame) : Type 0 where
  pub defined : IsIn f.function m.functions
  pub left : (i : Instruction) → IsIn i f.left → IsIn i (instructions_of f.function.blocks)
  pub values : FitNames p f.function f.values
  pub objects : (o : Object) → IsIn o f.objects → IsOwn m p f o

-- the address behind the frame that stands below these: the lowest one of the next, and below what is passed to the first
abbrev pub end_of : Placement → List Frame → ℕ
end_of p [] = p.high - p.passed
end_of p (f ∷ fs) = f.base

-- the caller, if there is one, sets the name at the width that the frame's result has
abbrev pub FitsCaller : Placement → Frame → List Frame → Type 0
FitsCaller p f [] = Unit {0}
FitsCaller p f (caller ∷ fs) = (d : Destination) → f.destination ≡ Some d → SetsAt p caller.function d.name d.width

-- what a frame keeps with those that wait for it: it begins at the stack's low end or above, and ends where the next begins
pub record Stands (m : Parts) (p : Placement) (f : Frame) (fs : List Frame) : Type 0 where
  pub frame : IsFrame m p f
  pub ends : f.base + p.frame f.function.name.name ≡ end_of p fs
  pub low : p.low ≤ f.base
  pub fits : FitsCaller p f fs

-- all frames, from the innermost out
abbrev pub AreStacked : Parts → Placement → List Frame → Type 0
AreStacked m p [] = Unit {0}
AreStacked m p (f ∷ fs) = Stands m p f fs × AreStacked m p fs

-- each byte that is set is below 256
abbrev pub AreBytes : Bytes → Type 0
AreBytes set = (at b : ℕ) → set at ≡ Some b → b < 256

-- what every state of a run keeps
pub record IsSound (m : Parts) (p : Placement) (s : IrState) : Type 0 where
  pub stacked : AreStacked m p (s.frame ∷ s.waiting)
  pub bytes : AreBytes s.set

-- ---- what is asked of a module and of where things stand

-- two objects are one, or have no byte in common
abbrev pub AreApart : Object → Object → Type 0
AreApart a b = (a ≡ b) ⊎ ((a.at + a.size ≤ b.at) ⊎ (b.at + b.size ≤ a.at))

-- an alloca of a function
abbrev pub IsAllocaOf : Parts → Function → Alloca → Type 0
IsAllocaOf m f i = IsIn f m.functions × IsIn (instruction.Alloca i) (instructions_of f.blocks)

-- the bytes of an alloca
abbrev pub alloca_size : Parts → Placement → Alloca → ℕ
alloca_size m p i = size_of m p.width i.ty.ty * count_of i

-- The module is well formed; addresses have 16, 32 or 64 bits, and the stack ends below 2 to that; each alloca lies in the
-- frame of its function, apart from the others of it.
pub record IsPlaced (m : Parts) (p : Placement) : Type 0 where
  pub formed : IsTrue (is_module m)
  pub width : (p.width ≡ 16) ⊎ ((p.width ≡ 32) ⊎ (p.width ≡ 64))
  pub high : p.high < 2 ^ p.width
  pub inside : (f : Function) (i : Alloca) → IsAllocaOf m f i
      → p.offset f.name.name i.result.name + alloca_size m p i ≤ p.frame f.name.name
  pub apart : (f : Function) (i j : Alloca) → IsAllocaOf m f i → IsAllocaOf m f j
      → ((p.offset f.name.name i.result.name ≡ p.offset f.name.name j.result.name) × (alloca_size m p i ≡ alloca_size m p j))
      ⊎ ((p.offset f.name.name i.result.name + alloca_size m p i ≤ p.offset f.name.name j.result.name)
      ⊎ (p.offset f.name.name j.result.name + alloca_size m p j ≤ p.offset f.name.name i.result.name))

-- the objects of open frames
abbrev pub open_objects : IrState → List Object
open_objects s = flat_map (λ (f : Frame). f.objects) (s.frame ∷ s.waiting)
