-- Trees of a processor are equal where their operators and operands are.
use Rattle.std.proofs.Common.{◌≡◌, ℕ, Bool, true, false, ◌&&◌, IsTrue, ◌↔◌, List, [], ◌∷◌, Option, Some, refl, sym, ap, ◌∙◌}
use Rattle.std.specs.Prelude.{slice_get}
use Rattle.std.proofs.lemmas.Option.{same_Some}
use Rattle.std.proofs.lemmas.Bool.{and_parts, and_from}
use Rattle.vg_bits.specs.BitValue.{BitValue}
use Rattle.vg_isa.specs.declared.expr.Expr.{Expr, out-Expr}
use Rattle.vg_isa.specs.declared.expr.Expr.TheOpen.{Expr-F}
use Rattle.vg_isa.specs.declared.expr.Expr.TheVariants.{Const, Field, Reg, Mem, Unary, Binary, Cast, Slice, Join, If, outs-Const, outs-Field, outs-Reg, outs-Mem, outs-Unary, outs-Binary, outs-Cast, outs-Slice, outs-Join, outs-If}
use Rattle.vg_isa.specs.declared.ids.FieldId.{FieldId}
use Rattle.vg_isa.specs.declared.ids.RegId.{RegId}
use Rattle.vg_isa.specs.declared.operator.UnOp.{UnOp}
use Rattle.vg_isa.specs.declared.operator.BinOp.{BinOp}
use Rattle.vg_isa.specs.declared.operator.BinOp.TheVariants as binop
use Rattle.vg_isa.specs.declared.operator.CastOp.{CastOp}
use Rattle.vg_isa.specs.Same.{same_tree}
use Rattle.vg_isa.proofs.SameLemmas.{same_tree-equal, equal-same_tree}
use Rattle.vg_tree.specs.SameTree.{binary_number}

operators : List BinOp
operators =
    binop.Add ∷ binop.Sub ∷ binop.Mul ∷ binop.MulLong false ∷ binop.MulLong true ∷ binop.Udiv ∷ binop.Sdiv ∷ binop.Urem ∷ binop.Srem
    ∷ binop.And ∷ binop.Or ∷ binop.Xor ∷ binop.Shl ∷ binop.Shr ∷ binop.Sar ∷ binop.Eq ∷ binop.Lt ∷ binop.Slt ∷ []

listed : (op : BinOp) → slice_get operators (binary_number op) ≡ Some op
unfolding operators
listed binop.Add = refl
listed binop.Sub = refl
listed binop.Mul = refl
listed (binop.MulLong false) = refl
listed (binop.MulLong true) = refl
listed binop.Udiv = refl
listed binop.Sdiv = refl
listed binop.Urem = refl
listed binop.Srem = refl
listed binop.And = refl
listed binop.Or = refl
listed binop.Xor = refl
listed binop.Shl = refl
listed binop.Shr = refl
listed binop.Sar = refl
listed binop.Eq = refl
listed binop.Lt = refl
listed binop.Slt = refl

-- operators of one number are the same
pub same_binary : (a b : BinOp) → binary_number a ≡ binary_number b → a ≡ b
same_binary a b h = same_Some a b (sym (listed a) ∙ ap (λ (n : ℕ). slice_get operators n) h ∙ listed b)

-- what equal trees have at their top

pub of_Const : (x y : BitValue) → Const x ≡ Const y → x ≡ y
of_Const x y h = let e : Expr-F.Const x ≡ Expr-F.Const y = sym (outs-Const x) ∙ ap out-Expr h ∙ outs-Const y in cc

pub of_Field : (x y : FieldId) → Field x ≡ Field y → x ≡ y
of_Field x y h = let e : Expr-F.Field x ≡ Expr-F.Field y = sym (outs-Field x) ∙ ap out-Expr h ∙ outs-Field y in cc

pub of_Reg : (x y : RegId) (i j : Option Expr) → Reg x i ≡ Reg y j → (x ≡ y) × (i ≡ j)
of_Reg x y i j h = let e : Expr-F.Reg x i ≡ Expr-F.Reg y j = sym (outs-Reg x i) ∙ ap out-Expr h ∙ outs-Reg y j in (cc, cc)

pub of_Mem : (x y : Expr) (n m : ℕ) → Mem x n ≡ Mem y m → (n ≡ m) × (x ≡ y)
of_Mem x y n m h = let e : Expr-F.Mem x n ≡ Expr-F.Mem y m = sym (outs-Mem x n) ∙ ap out-Expr h ∙ outs-Mem y m in (cc, cc)

pub of_Unary : (f g : UnOp) (x y : Expr) → Unary f x ≡ Unary g y → (f ≡ g) × (x ≡ y)
of_Unary f g x y h = let e : Expr-F.Unary f x ≡ Expr-F.Unary g y = sym (outs-Unary f x) ∙ ap out-Expr h ∙ outs-Unary g y in (cc, cc)

pub of_Binary : (f g : BinOp) (x y u v : Expr) → Binary f x u ≡ Binary g y v → (f ≡ g) × ((x ≡ y) × (u ≡ v))
of_Binary f g x y u v h = let e : Expr-F.Binary f x u ≡ Expr-F.Binary g y v = sym (outs-Binary f x u) ∙ ap out-Expr h ∙ outs-Binary g y v in (cc, (cc, cc))

pub of_Cast : (f g : CastOp) (n m : ℕ) (x y : Expr) → Cast f n x ≡ Cast g m y → ((f ≡ g) × (n ≡ m)) × (x ≡ y)
of_Cast f g n m x y h = let e : Expr-F.Cast f n x ≡ Expr-F.Cast g m y = sym (outs-Cast f n x) ∙ ap out-Expr h ∙ outs-Cast g m y in ((cc, cc), cc)

pub of_Slice : (x y : Expr) (g h k l : ℕ) → Slice x g k ≡ Slice y h l → ((g ≡ h) × (k ≡ l)) × (x ≡ y)
of_Slice x y g h k l p = let e : Expr-F.Slice x g k ≡ Expr-F.Slice y h l = sym (outs-Slice x g k) ∙ ap out-Expr p ∙ outs-Slice y h l in ((cc, cc), cc)

pub of_Join : (x y u v : Expr) → Join x u ≡ Join y v → (x ≡ y) × (u ≡ v)
of_Join x y u v h = let e : Expr-F.Join x u ≡ Expr-F.Join y v = sym (outs-Join x u) ∙ ap out-Expr h ∙ outs-Join y v in (cc, cc)

pub of_If : (c d x y u v : Expr) → If c x u ≡ If d y v → (c ≡ d) × ((x ≡ y) × (u ≡ v))
of_If c d x y u v h = let e : Expr-F.If c x u ≡ Expr-F.If d y v = sym (outs-If c x u) ∙ ap out-Expr h ∙ outs-If d y v in (cc, (cc, cc))

pub both_told : {A B : Type 0} (p q r : Bool) → r ≡ (p && q) → IsTrue p ↔ A → IsTrue q ↔ B → IsTrue r ↔ (A × B)
both_told p q r e f g = ((λ h. let k = and_parts p q (sym e ∙ h) in (f.0 k.0, g.0 k.1)), λ h. e ∙ and_from p q (f.1 h.0) (g.1 h.1))

-- the test of equal trees
pub same_told : (a b : Expr) (r : Bool) → IsTrue r ↔ (a ≡ b) → r ≡ same_tree a b
same_told a b r h = by r (same_tree a b) (λ t. equal-same_tree a b (h.0 t)) (λ t. h.1 (same_tree-equal a b t))
  where
    by : (r s : Bool) → (r ≡ true → s ≡ true) → (s ≡ true → r ≡ true) → r ≡ s
    by true true f g = refl
    by false false f g = refl
    by true false f g = sym (f refl)
    by false true f g = g refl

pub ruleset same_steps = (of_Const, of_Field, of_Reg, of_Mem, of_Unary, of_Binary, of_Cast, of_Slice, of_Join, of_If)
