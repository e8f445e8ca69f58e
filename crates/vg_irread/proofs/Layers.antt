-- The width of each type.
use Rattle.std.proofs.Common.{◌≡◌, ℕ, Option, Some, None, List, sym, ap, ◌∙◌}
use Rattle.vg_ir.specs.declared.name.Name.{Name}
use Rattle.vg_ir.specs.declared.ty.Ty.{Ty, out-Ty, roll-Ty, out-roll-Ty}
use Rattle.vg_ir.specs.declared.ty.Ty.TheOpen.{Ty-F}
use Rattle.vg_ir.specs.declared.ty.Ty.TheVariants as ty
use Rattle.vg_ir.specs.declared.ty.Ty.TheVariants.{rolls-Int, rolls-Ptr, rolls-Array, rolls-Struct, rolls-Named}
use Rattle.vg_ir.specs.Shape.{integer_width}

abbrev width_in : Ty-F Ty → Option ℕ
width_in (Ty-F.Int n) = Some n
width_in Ty-F.Ptr = None
width_in (Ty-F.Array count element) = None
width_in (Ty-F.Struct fields) = None
width_in (Ty-F.Named name) = None

in_layer : (t : Ty) (l : Ty-F Ty) → roll-Ty l ≡ t → integer_width t ≡ width_in l
in_layer t l h = ap (λ z. width_in (out-Ty z)) (sym h) ∙ ap width_in (out-roll-Ty l)

pub width-Int : (n : ℕ) → integer_width (ty.Int n) ≡ Some n
width-Int n = in_layer (ty.Int n) (Ty-F.Int n) (rolls-Int n)

pub width-Ptr : integer_width ty.Ptr ≡ None
width-Ptr = in_layer ty.Ptr Ty-F.Ptr rolls-Ptr

pub width-Array : (n : ℕ) (t : Ty) → integer_width (ty.Array n t) ≡ None
width-Array n t = in_layer (ty.Array n t) (Ty-F.Array n t) (rolls-Array n t)

pub width-Struct : (ts : List Ty) → integer_width (ty.Struct ts) ≡ None
width-Struct ts = in_layer (ty.Struct ts) (Ty-F.Struct ts) (rolls-Struct ts)

pub width-Named : (name : Name) → integer_width (ty.Named name) ≡ None
width-Named name = in_layer (ty.Named name) (Ty-F.Named name) (rolls-Named name)
