-- The unknown names of a statement by those of its parts, one equation for each way to make one.
use Rattle.std.proofs.Common.{◌≡◌, ℕ, List, map, [], ◌∷◌, ◌++◌, Option, Some, None, sym, ap, ◌∙◌, refl}
use Rattle.std.specs.Option.{option_or}
use Rattle.vg_ast.specs.declared.name.Name.{Name}
use Rattle.vg_ast.specs.declared.expr.Expr.{Expr}
use Rattle.vg_ast.specs.declared.goal.Goal.{Goal}
use Rattle.vg_ast.specs.declared.statement.Statement.{Statement, fold-roll-Statement}
use Rattle.vg_ast.specs.declared.statement.Statement.TheOpen.{Statement-F}
use Rattle.vg_ast.specs.declared.statement.Statement.TheVariants as tree
use Rattle.vg_ast.specs.declared.statement.Statement.TheVariants.{rolls-Block, rolls-Let, rolls-If, rolls-Assign}
use Rattle.vg_ast.specs.declared.item.Item.{Item}
use Rattle.vg_names.specs.Definition.{Text}
use Rattle.vg_names.specs.First.{first_of}
use Rattle.vg_names.specs.Unknown.{Places, all_of, expression_unknowns, goal_unknowns, statement_step, statement_unknowns}
use Rattle.vg_names.proofs.FirstLemmas.{first_of_append}

pub first-Block : (all : List Item) (inner : List Text) (at : ℕ) (body : List Statement) → first_of (statement_unknowns all (tree.Block at body) inner) ≡ first_of (all_of (map (statement_unknowns all) body) inner)
first-Block all inner at body =
    ap (λ s. first_of (statement_unknowns all s inner)) (sym (rolls-Block at body)) ∙ ap (λ places. first_of (places inner)) (fold-roll-Statement Places (statement_step all) (Statement-F.Block at body))

pub first-Let_statement : (all : List Item) (inner : List Text) (at : ℕ) (name : Name) (bound : Expr) (body : Statement)
    → first_of (statement_unknowns all (tree.Let at name bound body) inner) ≡ option_or (first_of (expression_unknowns all bound inner)) (first_of (statement_unknowns all body (name.text ∷ inner)))
first-Let_statement all inner at name bound body =
    ap (λ s. first_of (statement_unknowns all s inner)) (sym (rolls-Let at name bound body)) ∙ ap (λ places. first_of (places inner)) (fold-roll-Statement Places (statement_step all) (Statement-F.Let at name bound body))
    ∙ first_of_append (expression_unknowns all bound inner) (statement_unknowns all body (name.text ∷ inner))

pub first-If_alone : (all : List Item) (inner : List Text) (at : ℕ) (condition : Expr) (body : Statement)
    → first_of (statement_unknowns all (tree.If at condition body None) inner) ≡ option_or (first_of (expression_unknowns all condition inner)) (first_of (statement_unknowns all body inner))
first-If_alone all inner at condition body =
    ap (λ s. first_of (statement_unknowns all s inner)) (sym (rolls-If at condition body None)) ∙ ap (λ places. first_of (places inner)) (fold-roll-Statement Places (statement_step all) (Statement-F.If at condition body None))
    ∙ first_of_append (expression_unknowns all condition inner ++ statement_unknowns all body inner) []
    ∙ or_none (first_of (expression_unknowns all condition inner ++ statement_unknowns all body inner))
    ∙ first_of_append (expression_unknowns all condition inner) (statement_unknowns all body inner)
  where
    or_none : (o : Option ℕ) → option_or o None ≡ o
    or_none None = refl
    or_none (Some x) = refl

pub first-If_else : (all : List Item) (inner : List Text) (at : ℕ) (condition : Expr) (body other : Statement)
    → first_of (statement_unknowns all (tree.If at condition body (Some other)) inner) ≡ option_or (option_or (first_of (expression_unknowns all condition inner)) (first_of (statement_unknowns all body inner))) (first_of (statement_unknowns all other inner))
first-If_else all inner at condition body other =
    ap (λ s. first_of (statement_unknowns all s inner)) (sym (rolls-If at condition body (Some other))) ∙ ap (λ places. first_of (places inner)) (fold-roll-Statement Places (statement_step all) (Statement-F.If at condition body (Some other)))
    ∙ first_of_append (expression_unknowns all condition inner ++ statement_unknowns all body inner) (statement_unknowns all other inner)
    ∙ ap (λ o. option_or o (first_of (statement_unknowns all other inner))) (first_of_append (expression_unknowns all condition inner) (statement_unknowns all body inner))

pub first-Assign : (all : List Item) (inner : List Text) (goal : Goal) (assigned : Expr)
    → first_of (statement_unknowns all (tree.Assign goal assigned) inner) ≡ option_or (first_of (goal_unknowns all goal inner)) (first_of (expression_unknowns all assigned inner))
first-Assign all inner goal assigned =
    ap (λ s. first_of (statement_unknowns all s inner)) (sym (rolls-Assign goal assigned)) ∙ ap (λ places. first_of (places inner)) (fold-roll-Statement Places (statement_step all) (Statement-F.Assign goal assigned))
    ∙ first_of_append (goal_unknowns all goal inner) (expression_unknowns all assigned inner)

pub ruleset statement_steps = (first-Block, first-Let_statement, first-If_alone, first-If_else, first-Assign)
