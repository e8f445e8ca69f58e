-- The reader of types in the code is the one on lists, and what it reads has a known width.
use Rattle.std.proofs.Common.{◌≡◌, ℕ, true, Option, Some, None, Result, Ok, Err, List, [], ◌∷◌, refl, sym, subst, arith}
use Rattle.std.specs.Prelude.{IfSome, IfOk}
use Rattle.std.proofs.lemmas.Bool.Decides.{nat_tests}
use Rattle.vg_ir.specs.declared.ty.Ty.{Ty}
use Rattle.vg_ir.specs.declared.ty.TypeAt.{TypeAt}
use Rattle.vg_ir.specs.Shape.{integer_width, is_integer_width}
use Rattle.vg_irparse.specs.declared.role.Wanted.{Wanted}
use Rattle.vg_irparse.specs.declared.stop.Stop.{Stop}
use Rattle.vg_irparse.specs.Placed.{Placed, any_type}
use Rattle.vg_irparse.specs.Answer.{reads, Gives}
use Rattle.vg_irparse.specs.Concrete.{TypeTree, integer, pointer, array, structure, named}
use Rattle.vg_irparse.specs.Grammar.{is_type}
use Rattle.vg_irparse.specs.ReadingType.{simple_type, type_by, most_brackets}
use Rattle.vg_irparse.specs.ReadingType as types
use Rattle.vg_irparse.specs.Tree as tree
use Rattle.vg_irread.specs.ReadingType.{type_in, type_at}
use Rattle.vg_irread.specs.ReadingOperand.{IsWidth, HasWidth}
use Rattle.vg_irread.proofs.Layers.{width-Int, width-Ptr, width-Array, width-Struct, width-Named}
use Rattle.vg_irread.proofs.TypesExact.{type_sound}

by_first : (o : Option Ty) (w : Wanted) (t : Placed) (ts : List Placed) → type_by o w t ts ≡ type_in o w most_brackets t ts
by_first (Some u) w t ts = refl
by_first None w t ts = refl

pub whole_same : (w : Wanted) (ts : List Placed) → types.type_at w ts ≡ type_at w most_brackets ts
whole_same w [] = refl
whole_same w (t ∷ ts) = by_first (simple_type t.text) w t ts

known : (n : ℕ) → is_integer_width n ≡ true → IsWidth n
known n h = record { wide = grind (arith, nat_tests); narrow = grind (arith, nat_tests) }

at_width : (t : Ty) (o : Option ℕ) → integer_width t ≡ o → IfSome o (λ w. IsWidth w) → HasWidth t
at_width t o e h = subst (λ z. IfSome z (λ w. IsWidth w)) (sym e) h

tree_width : (t : TypeTree) → is_type t ≡ true → HasWidth (tree.type_of t)
tree_width (integer width at) g = at_width _ (Some width) (width-Int width) (known width g)
tree_width (pointer at) g = at_width _ None width-Ptr tt
tree_width (array opening n by element closing) g = at_width _ None (width-Array _ (tree.type_of element)) tt
tree_width (structure opening first more closing) g = at_width _ None (width-Struct (tree.type_of first ∷ tree.types_of more)) tt
tree_width (named name) g = at_width _ None (width-Named _) tt

pub read_width : (w : Wanted) (d : ℕ) (ts : List Placed) (x : TypeAt) (rest : List Placed) → type_at w d ts ≡ reads (x, rest) → HasWidth x.ty
read_width w d ts x rest h =
    let f = type_sound any_type w d ts x rest h in
    subst (λ (z : TypeAt). HasWidth z.ty) (sym f.same) (tree_width f.tree f.is_one)

-- so it is with what a function returns that gives what is read
pub given_width : {R : Type 0} (rest : R → List Placed) (r : Result (TypeAt × R) Stop) (w : Wanted) (d : ℕ) (ts : List Placed)
    → Gives (λ (x : TypeAt × R). (x.0, rest x.1)) r (type_at w d ts) → IfOk r (λ x. HasWidth x.0.ty)
given_width rest (Ok x) w d ts h = read_width w d ts x.0 (rest x.1) h
given_width rest (Err e) w d ts h = tt
