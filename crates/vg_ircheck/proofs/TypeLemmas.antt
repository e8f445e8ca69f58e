-- The folds over types, by the form of the type.
use Rattle.std.proofs.Common.{◌≡◌, ℕ, Bool, List, [], ◌∷◌, map, flat_map, sym, ap, ◌∙◌}
use Rattle.vg_ir.specs.declared.name.Name.{Name}
use Rattle.vg_ir.specs.declared.ty.Ty.{Ty, fold-roll-Ty}
use Rattle.vg_ir.specs.declared.ty.Ty.TheOpen.{Ty-F}
use Rattle.vg_ir.specs.declared.ty.Ty.TheVariants as ty
use Rattle.vg_ir.specs.declared.ty.Ty.TheVariants.{rolls-Int, rolls-Ptr, rolls-Array, rolls-Struct, rolls-Named}
use Rattle.vg_ircheck.specs.Types.{Leaf, Whole, Address, Structure, same_type, same_type_step, leaves_step, leaves_of}

-- ---- equal types

pub same_Int : (n : ℕ) (t : Ty) → same_type (ty.Int n) t ≡ same_type_step (Ty-F.Int n) t
same_Int n t = ap (λ s. same_type s t) (sym (rolls-Int n)) ∙ ap (λ f. f t) (fold-roll-Ty (Ty → Bool) same_type_step (Ty-F.Int n))

pub same_Ptr : (t : Ty) → same_type ty.Ptr t ≡ same_type_step Ty-F.Ptr t
same_Ptr t = ap (λ s. same_type s t) (sym rolls-Ptr) ∙ ap (λ f. f t) (fold-roll-Ty (Ty → Bool) same_type_step Ty-F.Ptr)

pub same_Array : (n : ℕ) (e t : Ty) → same_type (ty.Array n e) t ≡ same_type_step (Ty-F.Array n (same_type e)) t
same_Array n e t = ap (λ s. same_type s t) (sym (rolls-Array n e)) ∙ ap (λ f. f t) (fold-roll-Ty (Ty → Bool) same_type_step (Ty-F.Array n e))

pub same_Struct : (fields : List Ty) (t : Ty) → same_type (ty.Struct fields) t ≡ same_type_step (Ty-F.Struct (map same_type fields)) t
same_Struct fields t = ap (λ s. same_type s t) (sym (rolls-Struct fields)) ∙ ap (λ f. f t) (fold-roll-Ty (Ty → Bool) same_type_step (Ty-F.Struct fields))

pub same_Named : (n : Name) (t : Ty) → same_type (ty.Named n) t ≡ same_type_step (Ty-F.Named n) t
same_Named n t = ap (λ s. same_type s t) (sym (rolls-Named n)) ∙ ap (λ f. f t) (fold-roll-Ty (Ty → Bool) same_type_step (Ty-F.Named n))

-- ---- what stands innermost

pub leaves_Int : (n : ℕ) → leaves_of (ty.Int n) ≡ Whole n ∷ []
leaves_Int n = ap leaves_of (sym (rolls-Int n)) ∙ fold-roll-Ty (List Leaf) leaves_step (Ty-F.Int n)

pub leaves_Ptr : leaves_of ty.Ptr ≡ Address ∷ []
leaves_Ptr = ap leaves_of (sym rolls-Ptr) ∙ fold-roll-Ty (List Leaf) leaves_step Ty-F.Ptr

pub leaves_Array : (n : ℕ) (e : Ty) → leaves_of (ty.Array n e) ≡ leaves_of e
leaves_Array n e = ap leaves_of (sym (rolls-Array n e)) ∙ fold-roll-Ty (List Leaf) leaves_step (Ty-F.Array n e)

pub leaves_Struct : (fields : List Ty) → leaves_of (ty.Struct fields) ≡ flat_map (λ leaves. leaves) (map leaves_of fields)
leaves_Struct fields = ap leaves_of (sym (rolls-Struct fields)) ∙ fold-roll-Ty (List Leaf) leaves_step (Ty-F.Struct fields)

pub leaves_Named : (n : Name) → leaves_of (ty.Named n) ≡ Structure n ∷ []
leaves_Named n = ap leaves_of (sym (rolls-Named n)) ∙ fold-roll-Ty (List Leaf) leaves_step (Ty-F.Named n)
