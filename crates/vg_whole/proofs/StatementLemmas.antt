-- The places of a statement by those of its parts, one equation for each way to make one.
use Rattle.std.proofs.Common.{◌≡◌, ℕ, List, map, [], ◌∷◌, Option, Some, None, sym, ap, ◌∙◌, refl}
use Rattle.std.specs.Option.{option_or}
use Rattle.vg_ast.specs.declared.name.Name.{Name}
use Rattle.vg_ast.specs.declared.expr.Expr.{Expr}
use Rattle.vg_ast.specs.declared.goal.Goal.{Goal}
use Rattle.vg_ast.specs.declared.statement.Statement.{Statement, fold-roll-Statement}
use Rattle.vg_ast.specs.declared.statement.Statement.TheOpen.{Statement-F}
use Rattle.vg_ast.specs.declared.statement.Statement.TheVariants as tree
use Rattle.vg_ast.specs.declared.statement.Statement.TheVariants.{rolls-Block, rolls-Let, rolls-If, rolls-Assign}
use Rattle.vg_names.specs.First.{first_of}
use Rattle.vg_whole.specs.declared.worth.Worth.{Worth}
use Rattle.vg_whole.specs.Whole.{Inner, Constants, judged}
use Rattle.vg_whole.specs.Overflow.{Places, all_of, expression_overflows, goal_overflows, statement_step, statement_overflows}
use Rattle.vg_names.proofs.FirstLemmas.{first_of_append, first_of_three}

pub first-Block : (c : Constants) (inner : Inner Worth) (at : ℕ) (body : List Statement) → first_of (statement_overflows c (tree.Block at body) inner) ≡ first_of (all_of (map (statement_overflows c) body) inner)
first-Block c inner at body =
    ap (λ s. first_of (statement_overflows c s inner)) (sym (rolls-Block at body)) ∙ ap (λ places. first_of (places inner)) (fold-roll-Statement Places (statement_step c) (Statement-F.Block at body))

pub first-Let_statement : (c : Constants) (inner : Inner Worth) (at : ℕ) (name : Name) (bound : Expr) (body : Statement)
    → first_of (statement_overflows c (tree.Let at name bound body) inner) ≡ option_or (first_of (judged c bound inner).places) (first_of (statement_overflows c body ((name.text, (judged c bound inner).worth) ∷ inner)))
first-Let_statement c inner at name bound body =
    ap (λ s. first_of (statement_overflows c s inner)) (sym (rolls-Let at name bound body)) ∙ ap (λ places. first_of (places inner)) (fold-roll-Statement Places (statement_step c) (Statement-F.Let at name bound body))
    ∙ first_of_append (judged c bound inner).places (statement_overflows c body ((name.text, (judged c bound inner).worth) ∷ inner))

pub first-If_alone : (c : Constants) (inner : Inner Worth) (at : ℕ) (condition : Expr) (body : Statement)
    → first_of (statement_overflows c (tree.If at condition body None) inner) ≡ option_or (first_of (expression_overflows c condition inner)) (first_of (statement_overflows c body inner))
first-If_alone c inner at condition body =
    ap (λ s. first_of (statement_overflows c s inner)) (sym (rolls-If at condition body None)) ∙ ap (λ places. first_of (places inner)) (fold-roll-Statement Places (statement_step c) (Statement-F.If at condition body None))
    ∙ first_of_three (expression_overflows c condition inner) (statement_overflows c body inner) []
    ∙ or_none (option_or (first_of (expression_overflows c condition inner)) (first_of (statement_overflows c body inner)))
  where
    or_none : (o : Option ℕ) → option_or o None ≡ o
    or_none None = refl
    or_none (Some x) = refl

pub first-If_else : (c : Constants) (inner : Inner Worth) (at : ℕ) (condition : Expr) (body other : Statement)
    → first_of (statement_overflows c (tree.If at condition body (Some other)) inner) ≡ option_or (option_or (first_of (expression_overflows c condition inner)) (first_of (statement_overflows c body inner))) (first_of (statement_overflows c other inner))
first-If_else c inner at condition body other =
    ap (λ s. first_of (statement_overflows c s inner)) (sym (rolls-If at condition body (Some other))) ∙ ap (λ places. first_of (places inner)) (fold-roll-Statement Places (statement_step c) (Statement-F.If at condition body (Some other)))
    ∙ first_of_three (expression_overflows c condition inner) (statement_overflows c body inner) (statement_overflows c other inner)

pub first-Assign : (c : Constants) (inner : Inner Worth) (goal : Goal) (assigned : Expr)
    → first_of (statement_overflows c (tree.Assign goal assigned) inner) ≡ option_or (first_of (goal_overflows c goal inner)) (first_of (expression_overflows c assigned inner))
first-Assign c inner goal assigned =
    ap (λ s. first_of (statement_overflows c s inner)) (sym (rolls-Assign goal assigned)) ∙ ap (λ places. first_of (places inner)) (fold-roll-Statement Places (statement_step c) (Statement-F.Assign goal assigned))
    ∙ first_of_append (goal_overflows c goal inner) (expression_overflows c assigned inner)

pub ruleset statement_steps = (first-Block, first-Let_statement, first-If_alone, first-If_else, first-Assign)
