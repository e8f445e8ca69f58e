-- The width of a field by its type.
use Rattle.std.proofs.Common.{◌≡◌, ℕ, Bool, true, Option, Some, None, ap, ◌∙◌, if◌then◌else◌}
use Rattle.vg_ast.specs.declared.type_expr.BitsKind.TheVariants as kinds
use Rattle.vg_isa.specs.Typing.{is_width}
use Rattle.vg_type.specs.declared.value_type.ValueType.{ValueType}
use Rattle.vg_type.specs.declared.value_type.ValueType.TheVariants.{Sized}
use Rattle.vg_type.specs.ValueType.{width_of}
use Rattle.vg_type.specs.Scope.{bits_of}
use Rattle.vg_tree.specs.Number.{width_or}

some_equal : {A : Type 0} (a b : A) → Some a ≡ Some b → a ≡ b
some_equal a b h = cc

pub typed_width : (bits : Option ℕ) (t : ValueType) → is_width (width_or bits) ≡ true → Some t ≡ bits_of bits → width_of t ≡ width_or bits
typed_width None t h e = absurd (cc)
typed_width (Some n) t h e = ap width_of (some_equal t (Sized kinds.Bits n) (e ∙ ap (λ (b : Bool). if b then Some (Sized kinds.Bits n) else None) h))

pub untyped_width : (bits : Option ℕ) → is_width (width_or bits) ≡ true → None ≡ bits_of bits → ⊥
untyped_width None h e = absurd (cc)
untyped_width (Some n) h e = let f : None ≡ Some (Sized kinds.Bits n) = e ∙ ap (λ (b : Bool). if b then Some (Sized kinds.Bits n) else None) h in absurd (cc)
