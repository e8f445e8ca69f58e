-- The unknown names of an expression by those of its parts, one equation for each way to make one.
use Rattle.std.proofs.Common.{◌≡◌, ℕ, List, map, ◌∷◌, None, sym, ap, ◌∙◌}
use Rattle.std.specs.Option.{option_or}
use Rattle.vg_ast.specs.declared.name.Name.{Name}
use Rattle.vg_ast.specs.declared.operator.UnaryOperator.{UnaryOperator}
use Rattle.vg_ast.specs.declared.operator.BinaryOperator.{BinaryOperator}
use Rattle.vg_ast.specs.declared.type_expr.TypeExpr.{TypeExpr}
use Rattle.vg_ast.specs.declared.type_expr.TypeExpr.TheVariants as types
use Rattle.vg_ast.specs.declared.expr.Expr.{Expr, fold-roll-Expr}
use Rattle.vg_ast.specs.declared.expr.Expr.TheOpen.{Expr-F}
use Rattle.vg_ast.specs.declared.expr.Expr.TheVariants as tree
use Rattle.vg_ast.specs.declared.expr.Expr.TheVariants.{rolls-Number, rolls-Name, rolls-Call, rolls-Access, rolls-Join, rolls-Parentheses, rolls-Unary, rolls-Binary, rolls-Cast, rolls-Slice, rolls-If, rolls-Let}
use Rattle.vg_ast.specs.declared.item.Item.{Item}
use Rattle.vg_names.specs.Definition.{Text}
use Rattle.vg_names.specs.First.{first_of}
use Rattle.vg_names.specs.Unknown.{Places, all_of, global, value, is_callable, is_memory, expression_step, expression_unknowns, type_unknowns}
use Rattle.vg_names.proofs.FirstLemmas.{first_of_append, first_of_three}

pub first-Number : (all : List Item) (inner : List Text) (value : ℕ) (at : ℕ) → first_of (expression_unknowns all (tree.Number value at) inner) ≡ None
first-Number all inner value at = ap (λ e. first_of (expression_unknowns all e inner)) (sym (rolls-Number value at)) ∙ ap (λ places. first_of (places inner)) (fold-roll-Expr Places (expression_step all) (Expr-F.Number value at))

pub first-Name : (all : List Item) (inner : List Text) (name : Name) → first_of (expression_unknowns all (tree.Name name) inner) ≡ first_of (value all inner name)
first-Name all inner name = ap (λ e. first_of (expression_unknowns all e inner)) (sym (rolls-Name name)) ∙ ap (λ places. first_of (places inner)) (fold-roll-Expr Places (expression_step all) (Expr-F.Name name))

pub first-Call : (all : List Item) (inner : List Text) (name : Name) (arguments : List Expr) → first_of (expression_unknowns all (tree.Call name arguments) inner) ≡ option_or (first_of (global all inner is_callable name)) (first_of (all_of (map (expression_unknowns all) arguments) inner))
first-Call all inner name arguments = ap (λ e. first_of (expression_unknowns all e inner)) (sym (rolls-Call name arguments)) ∙ ap (λ places. first_of (places inner)) (fold-roll-Expr Places (expression_step all) (Expr-F.Call name arguments)) ∙ first_of_append (global all inner is_callable name) (all_of (map (expression_unknowns all) arguments) inner)

pub first-Access : (all : List Item) (inner : List Text) (memory : Name) (at : ℕ) (size : Expr) (address : Expr) → first_of (expression_unknowns all (tree.Access memory at size address) inner) ≡ option_or (option_or (first_of (global all inner is_memory memory)) (first_of (expression_unknowns all size inner))) (first_of (expression_unknowns all address inner))
first-Access all inner memory at size address = ap (λ e. first_of (expression_unknowns all e inner)) (sym (rolls-Access memory at size address)) ∙ ap (λ places. first_of (places inner)) (fold-roll-Expr Places (expression_step all) (Expr-F.Access memory at size address)) ∙ first_of_three (global all inner is_memory memory) (expression_unknowns all size inner) (expression_unknowns all address inner)

pub first-Join : (all : List Item) (inner : List Text) (at : ℕ) (high : Expr) (low : Expr) → first_of (expression_unknowns all (tree.Join at high low) inner) ≡ option_or (first_of (expression_unknowns all high inner)) (first_of (expression_unknowns all low inner))
first-Join all inner at high low = ap (λ e. first_of (expression_unknowns all e inner)) (sym (rolls-Join at high low)) ∙ ap (λ places. first_of (places inner)) (fold-roll-Expr Places (expression_step all) (Expr-F.Join at high low)) ∙ first_of_append (expression_unknowns all high inner) (expression_unknowns all low inner)

pub first-Parentheses : (all : List Item) (inner : List Text) (at : ℕ) (body : Expr) → first_of (expression_unknowns all (tree.Parentheses at body) inner) ≡ first_of (expression_unknowns all body inner)
first-Parentheses all inner at body = ap (λ e. first_of (expression_unknowns all e inner)) (sym (rolls-Parentheses at body)) ∙ ap (λ places. first_of (places inner)) (fold-roll-Expr Places (expression_step all) (Expr-F.Parentheses at body))

pub first-Unary : (all : List Item) (inner : List Text) (op : UnaryOperator) (at : ℕ) (operand : Expr) → first_of (expression_unknowns all (tree.Unary op at operand) inner) ≡ first_of (expression_unknowns all operand inner)
first-Unary all inner op at operand = ap (λ e. first_of (expression_unknowns all e inner)) (sym (rolls-Unary op at operand)) ∙ ap (λ places. first_of (places inner)) (fold-roll-Expr Places (expression_step all) (Expr-F.Unary op at operand))

pub first-Binary : (all : List Item) (inner : List Text) (op : BinaryOperator) (at : ℕ) (left : Expr) (right : Expr) → first_of (expression_unknowns all (tree.Binary op at left right) inner) ≡ option_or (first_of (expression_unknowns all left inner)) (first_of (expression_unknowns all right inner))
first-Binary all inner op at left right = ap (λ e. first_of (expression_unknowns all e inner)) (sym (rolls-Binary op at left right)) ∙ ap (λ places. first_of (places inner)) (fold-roll-Expr Places (expression_step all) (Expr-F.Binary op at left right)) ∙ first_of_append (expression_unknowns all left inner) (expression_unknowns all right inner)

pub first-Cast : (all : List Item) (inner : List Text) (operand : Expr) (at : ℕ) (target : TypeExpr Expr) → first_of (expression_unknowns all (tree.Cast operand at target) inner) ≡ option_or (first_of (expression_unknowns all operand inner)) (first_of (type_unknowns all target inner))
first-Cast all inner operand at (types.Sized kind start width) =
    ap (λ e. first_of (expression_unknowns all e inner)) (sym (rolls-Cast operand at (types.Sized kind start width))) ∙ ap (λ places. first_of (places inner)) (fold-roll-Expr Places (expression_step all) (Expr-F.Cast operand at (types.Sized kind start width))) ∙ first_of_append (expression_unknowns all operand inner) (type_unknowns all (types.Sized kind start width) inner)
first-Cast all inner operand at (types.Bool start) =
    ap (λ e. first_of (expression_unknowns all e inner)) (sym (rolls-Cast operand at (types.Bool start))) ∙ ap (λ places. first_of (places inner)) (fold-roll-Expr Places (expression_step all) (Expr-F.Cast operand at (types.Bool start))) ∙ first_of_append (expression_unknowns all operand inner) (type_unknowns all (types.Bool start) inner)
first-Cast all inner operand at (types.Alias name) =
    ap (λ e. first_of (expression_unknowns all e inner)) (sym (rolls-Cast operand at (types.Alias name))) ∙ ap (λ places. first_of (places inner)) (fold-roll-Expr Places (expression_step all) (Expr-F.Cast operand at (types.Alias name))) ∙ first_of_append (expression_unknowns all operand inner) (type_unknowns all (types.Alias name) inner)

pub first-Slice : (all : List Item) (inner : List Text) (operand : Expr) (at : ℕ) (high : Expr) (low : Expr) → first_of (expression_unknowns all (tree.Slice operand at high low) inner) ≡ option_or (option_or (first_of (expression_unknowns all operand inner)) (first_of (expression_unknowns all high inner))) (first_of (expression_unknowns all low inner))
first-Slice all inner operand at high low = ap (λ e. first_of (expression_unknowns all e inner)) (sym (rolls-Slice operand at high low)) ∙ ap (λ places. first_of (places inner)) (fold-roll-Expr Places (expression_step all) (Expr-F.Slice operand at high low)) ∙ first_of_three (expression_unknowns all operand inner) (expression_unknowns all high inner) (expression_unknowns all low inner)

pub first-If : (all : List Item) (inner : List Text) (at : ℕ) (condition : Expr) (one : Expr) (other : Expr) → first_of (expression_unknowns all (tree.If at condition one other) inner) ≡ option_or (option_or (first_of (expression_unknowns all condition inner)) (first_of (expression_unknowns all one inner))) (first_of (expression_unknowns all other inner))
first-If all inner at condition one other = ap (λ e. first_of (expression_unknowns all e inner)) (sym (rolls-If at condition one other)) ∙ ap (λ places. first_of (places inner)) (fold-roll-Expr Places (expression_step all) (Expr-F.If at condition one other)) ∙ first_of_three (expression_unknowns all condition inner) (expression_unknowns all one inner) (expression_unknowns all other inner)

pub first-Let : (all : List Item) (inner : List Text) (at : ℕ) (name : Name) (bound : Expr) (body : Expr) → first_of (expression_unknowns all (tree.Let at name bound body) inner) ≡ option_or (first_of (expression_unknowns all bound inner)) (first_of (expression_unknowns all body (name.text ∷ inner)))
first-Let all inner at name bound body = ap (λ e. first_of (expression_unknowns all e inner)) (sym (rolls-Let at name bound body)) ∙ ap (λ places. first_of (places inner)) (fold-roll-Expr Places (expression_step all) (Expr-F.Let at name bound body)) ∙ first_of_append (expression_unknowns all bound inner) (expression_unknowns all body (name.text ∷ inner))

pub ruleset expression_steps = (first-Number, first-Name, first-Call, first-Access, first-Join, first-Parentheses, first-Unary, first-Binary, first-Cast, first-Slice, first-If, first-Let)
