-- Formats are no wider than 64 bits where no range is broken.
use Rattle.std.proofs.Common.{◌≡◌, ℕ, Bool, true, false, nat_le, List, [], ◌∷◌, ◌++◌, Option, Some, None, ◌∙◌, refl, ap, arith}
use Rattle.std.specs.List.{list_all}
use Rattle.std.proofs.lemmas.Bool.{and_from, not-false, or_parts}
use Rattle.std.proofs.lemmas.Bool.Decides.{nat_tests}
use Rattle.vg_ast.specs.declared.desc.Desc.{Desc}
use Rattle.vg_ast.specs.declared.expr.Expr.{Expr}
use Rattle.vg_ast.specs.declared.type_expr.TypeExpr.{TypeExpr}
use Rattle.vg_ast.specs.declared.item.Item.{Item}
use Rattle.vg_ast.specs.declared.item.Item.TheVariants as items
use Rattle.vg_names.specs.First.{first_of}
use Rattle.vg_names.proofs.FirstLemmas.{nothing_first}
use Rattle.vg_type.specs.Faults.{of_any, of_each}
use Rattle.vg_type.specs.Judged.{told}
use Rattle.vg_type.specs.Scope.{declared_in, is_machine_width, width_in}
use Rattle.vg_type.specs.Item.{Setting, abi_faults, differ, field_faults, first_format, format_type_faults, in_type, is_no_machine_width, is_wrong_format, item_faults, setting_of, type_start, width_given, wrong_ranges}
use Rattle.vg_tree.specs.Number.{width_or}
use Rattle.vg_declare.specs.FieldCover.{are_narrow, is_narrow}

left_empty : (xs ys : List ℕ) → xs ++ ys ≡ [] → xs ≡ []
left_empty [] ys e = refl
left_empty (x ∷ xs) ys e = absurd (cc)

right_empty : (xs ys : List ℕ) → xs ++ ys ≡ [] → ys ≡ []
right_empty [] ys e = e
right_empty (x ∷ xs) ys e = absurd (cc)

not_told : (t : Bool) (at : ℕ) → told t at ≡ [] → t ≡ false
not_told true at e = absurd (cc)
not_told false at e = refl

machine_narrow : (n : ℕ) → is_machine_width n ≡ true → nat_le n 64 ≡ true
machine_narrow n e = grind (arith, nat_tests, e)

width_narrow : (width : Option ℕ) → is_no_machine_width width ≡ false → nat_le (width_or width) 64 ≡ true
width_narrow None e = refl
width_narrow (Some n) e = machine_narrow n (not-false (is_machine_width n) e)

module _ (setting : Setting) where
  format_narrow : (given : TypeExpr Expr) → (format_type_faults setting given).ranges ≡ [] → nat_le (width_or (width_in (declared_in setting.globals given))) 64 ≡ true
  format_narrow given e =
      let first = width_given setting.globals (first_format setting.all) in
      let width = width_in (declared_in setting.globals given) in
      width_narrow width (or_parts (is_no_machine_width width) (differ first width)
      (not_told (is_wrong_format first width) (type_start given) (left_empty (told (is_wrong_format first width) (type_start given)) ((in_type setting.scope given).ranges) e))).0

  item_narrow : (item : Item) → (item_faults setting item).ranges ≡ [] → is_narrow setting item ≡ true
  item_narrow (items.Constant at name value) e = refl
  item_narrow (items.Using at name meaning) e = refl
  item_narrow (items.Function at name parameters given body) e = refl
  item_narrow (items.ProgramCounter at name given) e = refl
  item_narrow (items.Memory at name address cell) e = refl
  item_narrow (items.Register at name given) e = refl
  item_narrow (items.RegisterFile at name index given constant) e = refl
  item_narrow (items.Format at name given fields) e = format_narrow given (left_empty ((format_type_faults setting given).ranges) ((of_each (field_faults setting.scope) fields).ranges) e)
  item_narrow (items.Instruction at name format behaviour) e = refl
  item_narrow (items.Encoding at name fixes) e = refl
  item_narrow (items.Assembly at name row) e = refl

  all_narrow : (all : List Item) → (of_each (item_faults setting) all).ranges ≡ [] → list_all (is_narrow setting) all ≡ true
  all_narrow [] e = refl
  all_narrow (item ∷ more) e =
      and_from (is_narrow setting item) (list_all (is_narrow setting) more)
      (item_narrow item (left_empty ((item_faults setting item).ranges) ((of_each (item_faults setting) more).ranges) e))
      (all_narrow more (right_empty ((item_faults setting item).ranges) ((of_each (item_faults setting) more).ranges) e))

-- what the rule on formats asks for is so where no range is broken
pub narrow_formats : (d : Desc) → wrong_ranges d ≡ [] → are_narrow (setting_of d.items) ≡ true
narrow_formats d e =
    let setting = setting_of d.items in
    all_narrow setting d.items (left_empty ((of_each (item_faults setting) d.items).ranges) ((of_any (abi_faults setting.scope) d.abi).ranges) e)

-- so it is in a setting of the description
pub are_narrow_in : (d : Desc) (setting : Setting) → setting ≡ setting_of d.items → first_of (wrong_ranges d) ≡ None → are_narrow setting ≡ true
are_narrow_in d setting is e = ap are_narrow is ∙ narrow_formats d (nothing_first (wrong_ranges d) e)
