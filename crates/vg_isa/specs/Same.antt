-- Tests whether two things are the same.
use Rattle.std.specs.Prelude.{ℕ, Bool, true, false, ◌&&◌, not, nat_eq, List, [], ◌∷◌}
use Rattle.std.specs.List.{list_any, list_all}
use base.Stored.{Gv, gnil, gnum, gcons}
use Rattle.vg_isa.specs.declared.expr.Expr.{Expr}
use Rattle.vg_isa.specs.contracts.expr.Expr as expr_type
use Rattle.vg_isa.specs.declared.ids.FieldId.{FieldId}
use Rattle.vg_isa.specs.declared.ids.ResourceId.{ResourceId}
use Rattle.vg_isa.specs.declared.ids.ResourceId.TheVariants.{Memory, Reg}

abbrev pub same_field : FieldId → FieldId → Bool
same_field f g = nat_eq f.format.0 g.format.0 && nat_eq f.index g.index

abbrev pub same_resource : ResourceId → ResourceId → Bool
same_resource Memory Memory = true
same_resource (Reg r) (Reg q) = nat_eq r.0 q.0
same_resource _ _ = false

-- The logic gives each value of a type of the code a tree of numbers, and different values different ones.
unfoldable pub same_numbers : Gv → Gv → Bool
same_numbers gnil gnil = true
same_numbers (gnum m) (gnum n) = nat_eq m n
same_numbers (gcons a b) (gcons c d) = same_numbers a c && same_numbers b d
same_numbers _ _ = false

-- two trees are the same, operator by operator and operand by operand (law `same_trees`)
abbrev pub same_tree : Expr → Expr → Bool
same_tree e f = same_numbers (expr_type.the_row.coded.code e) (expr_type.the_row.coded.code f)

abbrev pub same_access : Expr × ℕ → Expr × ℕ → Bool
same_access a b = same_tree a.0 b.0 && nat_eq a.1 b.1

-- no two of a list are the same
abbrev pub all_differ : {X : Type 0} → (X → X → Bool) → List X → Bool
all_differ same [] = true
all_differ same (x ∷ xs) = not (list_any (same x) xs) && all_differ same xs

-- all of a list are the same
abbrev pub all_same : {X : Type 0} → (X → X → Bool) → List X → Bool
all_same same [] = true
all_same same (x ∷ xs) = list_all (same x) xs
