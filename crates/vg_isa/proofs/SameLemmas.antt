-- The test whether two trees are the same.
use Rattle.std.proofs.Common.{◌≡◌, true, IsTrue, refl, ap, subst}
use Rattle.std.proofs.lemmas.Bool.{and_from as conjunction}
use base.Stored.{Gv, gnil, gnum, gcons}
use Rattle.vg_isa.specs.declared.expr.Expr.{Expr}
use Rattle.vg_isa.specs.contracts.expr.Expr as expr_type
use Rattle.vg_isa.specs.Same.{same_numbers, same_tree}
use Rattle.vg_isa.proofs.Tests.{both, nat_eq-true, true-nat_eq}

same_numbers-equal : (a b : Gv) → same_numbers a b ≡ true → a ≡ b
unfolding same_numbers
same_numbers-equal gnil gnil h = refl
same_numbers-equal gnil (gnum n) h = cc
same_numbers-equal gnil (gcons c d) h = cc
same_numbers-equal (gnum m) gnil h = cc
same_numbers-equal (gnum m) (gnum n) h = ap gnum (true-nat_eq m n h)
same_numbers-equal (gnum m) (gcons c d) h = cc
same_numbers-equal (gcons a b) gnil h = cc
same_numbers-equal (gcons a b) (gnum n) h = cc
same_numbers-equal (gcons a b) (gcons c d) h =
    let parts = both (same_numbers a c) (same_numbers b d) h in
    λ i. gcons (same_numbers-equal a c parts.0 i) (same_numbers-equal b d parts.1 i)

same_numbers-itself : (a : Gv) → same_numbers a a ≡ true
unfolding same_numbers
same_numbers-itself gnil = refl
same_numbers-itself (gnum n) = nat_eq-true n n refl
same_numbers-itself (gcons a b) = conjunction _ _ (same_numbers-itself a) (same_numbers-itself b)

-- the same trees are equal
pub same_tree-equal : (e f : Expr) → IsTrue (same_tree e f) → e ≡ f
same_tree-equal e f h = expr_type.the_row.coded.inj e f (same_numbers-equal _ _ h)

-- equal trees are the same
pub equal-same_tree : (e f : Expr) → e ≡ f → IsTrue (same_tree e f)
equal-same_tree e f h = subst (λ x. IsTrue (same_tree e x)) h (same_numbers-itself _)
