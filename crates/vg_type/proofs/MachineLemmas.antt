-- The first item that says how wide the program counter or a format is, from one of the items on.
use Rattle.std.proofs.Common.{◌≡◌, ℕ, ◌+◌, ◌<◌, List, ◌∷◌, length, drop, get_or, add-one, drop-cons, Option, Some, None, refl, ap, sym, ◌∙◌}
use Rattle.std.specs.Option.{option_or}
use Rattle.vg_ast.specs.declared.expr.Expr.{Expr}
use Rattle.vg_ast.specs.declared.type_expr.TypeExpr.{TypeExpr}
use Rattle.vg_ast.specs.declared.item.Item.{Item}
use Rattle.vg_ast.specs.declared.item.Item.TheVariants as items
use Rattle.vg_type.specs.Item.{first_format}
use Rattle.vg_type.specs.Machine.{counter_of, format_of}
use Rattle.vg_type.specs.Scope.{counter_type}

counter_on : (item : Item) (more : List Item) → counter_type (item ∷ more) ≡ option_or (counter_of item) (counter_type more)
counter_on (items.Constant at name value) more = refl
counter_on (items.Using at name meaning) more = refl
counter_on (items.Function at name parameters given body) more = refl
counter_on (items.ProgramCounter at name given) more = refl
counter_on (items.Memory at name address cell) more = refl
counter_on (items.Register at name given) more = refl
counter_on (items.RegisterFile at name index given constant) more = refl
counter_on (items.Format at name given fields) more = refl
counter_on (items.Instruction at name format behaviour) more = refl
counter_on (items.Encoding at name fixes) more = refl
counter_on (items.Assembly at name row) more = refl

format_on : (item : Item) (more : List Item) → first_format (item ∷ more) ≡ option_or (format_of item) (first_format more)
format_on (items.Constant at name value) more = refl
format_on (items.Using at name meaning) more = refl
format_on (items.Function at name parameters given body) more = refl
format_on (items.ProgramCounter at name given) more = refl
format_on (items.Memory at name address cell) more = refl
format_on (items.Register at name given) more = refl
format_on (items.RegisterFile at name index given constant) more = refl
format_on (items.Format at name given fields) more = refl
format_on (items.Instruction at name format behaviour) more = refl
format_on (items.Encoding at name fixes) more = refl
format_on (items.Assembly at name row) more = refl

module _ {X Y : Type 0} (of : X → Option Y) (first : List X → Option Y) (on : (x : X) (more : List X) → first (x ∷ more) ≡ option_or (of x) (first more))
    (xs : List X) (k : ℕ) (x : X) (within : k < length xs) (is : x ≡ get_or xs k x) where
  from_here : first (drop k xs) ≡ option_or (of x) (first (drop (k + 1) xs))
  from_here =
      ap first (drop-cons xs k x within) ∙ ap (λ n. first (get_or xs k x ∷ drop n xs)) (sym (add-one k)) ∙ ap (λ y. first (y ∷ drop (k + 1) xs)) (sym is)
      ∙ on x (drop (k + 1) xs)

  here : (y : Y) → Some y ≡ of x → first (drop k xs) ≡ Some y
  here y e = from_here ∙ ap (λ o. option_or o (first (drop (k + 1) xs))) (sym e)

  behind : None ≡ of x → first (drop k xs) ≡ first (drop (k + 1) xs)
  behind e = from_here ∙ ap (λ o. option_or o (first (drop (k + 1) xs))) (sym e)

module _ (xs : List Item) (k : ℕ) (x : Item) (within : k < length xs) (is : x ≡ get_or xs k x) where
  pub counter_here : (t : TypeExpr Expr) → Some t ≡ counter_of x → counter_type (drop k xs) ≡ Some t
  counter_here t e = here counter_of counter_type counter_on xs k x within is t e

  pub counter_behind : None ≡ counter_of x → counter_type (drop k xs) ≡ counter_type (drop (k + 1) xs)
  counter_behind e = behind counter_of counter_type counter_on xs k x within is e

  pub format_here : (t : TypeExpr Expr) → Some t ≡ format_of x → first_format (drop k xs) ≡ Some t
  format_here t e = here format_of first_format format_on xs k x within is t e

  pub format_behind : None ≡ format_of x → first_format (drop k xs) ≡ first_format (drop (k + 1) xs)
  format_behind e = behind format_of first_format format_on xs k x within is e
