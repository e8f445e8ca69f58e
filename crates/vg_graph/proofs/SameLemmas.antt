-- Binary operators of one number are the same.
use Rattle.std.proofs.Common.{◌≡◌, ℕ, true, false, List, [], ◌∷◌, Some, refl, sym, ap, ◌∙◌}
use Rattle.std.specs.Prelude.{slice_get}
use Rattle.std.proofs.lemmas.Option.{same_Some}
use Rattle.vg_isa.specs.declared.operator.BinOp.{BinOp}
use Rattle.vg_isa.specs.declared.operator.BinOp.TheVariants as binop
use Rattle.vg_graph.specs.Same.{binary_number}

operators : List BinOp
operators =
    binop.Add ∷ binop.Sub ∷ binop.Mul ∷ binop.MulLong false ∷ binop.MulLong true ∷ binop.Udiv ∷ binop.Sdiv ∷ binop.Urem ∷ binop.Srem
    ∷ binop.And ∷ binop.Or ∷ binop.Xor ∷ binop.Shl ∷ binop.Shr ∷ binop.Sar ∷ binop.Eq ∷ binop.Lt ∷ binop.Slt ∷ []

listed : (op : BinOp) → slice_get operators (binary_number op) ≡ Some op
unfolding operators
listed binop.Add = refl
listed binop.Sub = refl
listed binop.Mul = refl
listed (binop.MulLong false) = refl
listed (binop.MulLong true) = refl
listed binop.Udiv = refl
listed binop.Sdiv = refl
listed binop.Urem = refl
listed binop.Srem = refl
listed binop.And = refl
listed binop.Or = refl
listed binop.Xor = refl
listed binop.Shl = refl
listed binop.Shr = refl
listed binop.Sar = refl
listed binop.Eq = refl
listed binop.Lt = refl
listed binop.Slt = refl

-- operators of one number are the same
pub same_binary : (a b : BinOp) → binary_number a ≡ binary_number b → a ≡ b
same_binary a b h = same_Some a b (sym (listed a) ∙ ap (λ (n : ℕ). slice_get operators n) h ∙ listed b)
