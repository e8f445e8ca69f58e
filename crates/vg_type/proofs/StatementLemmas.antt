-- The first places of a statement by those of its parts, one law for each way to make one.
use Rattle.std.proofs.Common.{◌≡◌, ℕ, List, map, [], ◌∷◌, Option, Some, None, sym, ap, ◌∙◌, refl}
use Rattle.vg_ast.specs.declared.name.Name.{Name}
use Rattle.vg_ast.specs.declared.expr.Expr.{Expr}
use Rattle.vg_ast.specs.declared.goal.Goal.{Goal}
use Rattle.vg_ast.specs.declared.statement.Statement.{Statement, fold-roll-Statement}
use Rattle.vg_ast.specs.declared.statement.Statement.TheOpen.{Statement-F}
use Rattle.vg_ast.specs.declared.statement.Statement.TheVariants as tree
use Rattle.vg_ast.specs.declared.statement.Statement.TheVariants.{rolls-Block, rolls-Let, rolls-If, rolls-Assign}
use Rattle.vg_whole.specs.Whole.{Inner}
use Rattle.vg_type.specs.declared.first_places.FirstPlaces.{FirstPlaces}
use Rattle.vg_type.specs.declared.judgement.Judgement.{Judgement}
use Rattle.vg_type.specs.declared.sort.Sort.{Sort}
use Rattle.vg_type.specs.Expression.{Scope, judged}
use Rattle.vg_type.specs.Faults.{Faults, both, of_each, of_any, in_expression, at_type}
use Rattle.vg_type.specs.FirstPlaces.{first_places, earlier, found_anywhere, found_at_condition}
use Rattle.vg_type.specs.Found.{first_found}
use Rattle.vg_type.specs.Statement.{Places, goal_judged, written_type, at_condition, statement_step, statement_faults}
use Rattle.vg_type.proofs.PlaceLemmas.{joined, condition_first}

each_mapped : (f : Statement → Places) (inner : Inner Sort) (xs : List Statement) → of_each (λ (x : Places). x inner) (map f xs) ≡ of_each (λ (s : Statement). f s inner) xs
each_mapped f inner [] = refl
each_mapped f inner (x ∷ xs) = ap (both (f x inner)) (each_mapped f inner xs)

module _ (scope : Scope) (inner : Inner Sort) where
  abbrev faults : Statement → Faults
  faults s = statement_faults scope s inner

  faults-Block : (at : ℕ) (body : List Statement) → faults (tree.Block at body) ≡ of_each faults body
  faults-Block at body =
      ap faults (sym (rolls-Block at body)) ∙ ap (λ (p : Places). p inner) (fold-roll-Statement Places (statement_step scope) (Statement-F.Block at body))
      ∙ each_mapped (statement_faults scope) inner body

  faults-Let : (at : ℕ) (name : Name) (bound : Expr) (body : Statement)
      → faults (tree.Let at name bound body) ≡ both (in_expression (judged scope bound inner)) (statement_faults scope body ((name.text, (judged scope bound inner).sort) ∷ inner))
  faults-Let at name bound body =
      ap faults (sym (rolls-Let at name bound body)) ∙ ap (λ (p : Places). p inner) (fold-roll-Statement Places (statement_step scope) (Statement-F.Let at name bound body))

  faults-If : (at : ℕ) (condition : Expr) (body : Statement) (other : Option Statement)
      → faults (tree.If at condition body other) ≡ both (at_condition (judged scope condition inner)) (both (faults body) (of_any faults other))
  faults-If at condition body None =
      ap faults (sym (rolls-If at condition body None)) ∙ ap (λ (p : Places). p inner) (fold-roll-Statement Places (statement_step scope) (Statement-F.If at condition body None))
  faults-If at condition body (Some other) =
      ap faults (sym (rolls-If at condition body (Some other)))
      ∙ ap (λ (p : Places). p inner) (fold-roll-Statement Places (statement_step scope) (Statement-F.If at condition body (Some other)))

  faults-Assign : (goal : Goal) (assigned : Expr)
      → faults (tree.Assign goal assigned) ≡ both (goal_judged scope goal inner) (at_type (written_type scope goal inner) (judged scope assigned inner))
  faults-Assign goal assigned =
      ap faults (sym (rolls-Assign goal assigned)) ∙ ap (λ (p : Places). p inner) (fold-roll-Statement Places (statement_step scope) (Statement-F.Assign goal assigned))

  -- ---- the same, as the code puts its parts together

  pub state-Block : (s : Statement) (at : ℕ) (body list : List Statement) (r : FirstPlaces) → s ≡ tree.Block at body → list ≡ body
      → r ≡ first_places (of_each faults list) → r ≡ first_places (faults s)
  state-Block s at body list r is same e =
      e ∙ ap (λ (l : List Statement). first_places (of_each faults l)) same ∙ ap first_places (sym (faults-Block at body)) ∙ ap (λ (t : Statement). first_places (faults t)) (sym is)

  pub state-Let : (s : Statement) (at : ℕ) (name : Name) (bound bound2 : Expr) (body body2 : Statement) (f : Judgement) (front behind r : FirstPlaces)
      → s ≡ tree.Let at name bound body → bound2 ≡ bound → body2 ≡ body → f ≡ first_found (judged scope bound2 inner) → front ≡ found_anywhere f
      → behind ≡ first_places (statement_faults scope body2 ((name.text, f.sort) ∷ inner)) → r ≡ earlier front behind → r ≡ first_places (faults s)
  state-Let s at name bound bound2 body body2 f front behind r is hb hy gb gf gy by =
      let eb : f ≡ first_found (judged scope bound inner) = gb ∙ ap (λ (e : Expr). first_found (judged scope e inner)) hb in
      joined (in_expression (judged scope bound inner)) (statement_faults scope body ((name.text, (judged scope bound inner).sort) ∷ inner)) r front behind by
      (gf ∙ ap found_anywhere eb)
      (gy ∙ ap (λ (y : Statement). first_places (statement_faults scope y ((name.text, f.sort) ∷ inner))) hy
      ∙ ap (λ (j : Judgement). first_places (statement_faults scope body ((name.text, j.sort) ∷ inner))) eb)
      ∙ ap first_places (sym (faults-Let at name bound body)) ∙ ap (λ (t : Statement). first_places (faults t)) (sym is)

  condition_by : (condition condition2 : Expr) (f : Judgement) (front : FirstPlaces) → condition2 ≡ condition → f ≡ first_found (judged scope condition2 inner)
      → front ≡ found_at_condition f → front ≡ first_places (at_condition (judged scope condition inner))
  condition_by condition condition2 f front h g e =
      e ∙ ap found_at_condition (g ∙ ap (λ (x : Expr). first_found (judged scope x inner)) h) ∙ sym (condition_first (judged scope condition inner))

  branch_by : (body body2 : Statement) (p : FirstPlaces) → body2 ≡ body → p ≡ first_places (faults body2) → p ≡ first_places (faults body)
  branch_by body body2 p h g = g ∙ ap (λ (t : Statement). first_places (faults t)) h

  pub state-If : (s : Statement) (at : ℕ) (condition condition2 : Expr) (body body2 : Statement) (other : Option Statement) (f : Judgement) (front one two behind r : FirstPlaces)
      → s ≡ tree.If at condition body other → condition2 ≡ condition → body2 ≡ body → f ≡ first_found (judged scope condition2 inner) → front ≡ found_at_condition f
      → one ≡ first_places (faults body2) → two ≡ first_places (of_any faults other) → behind ≡ earlier one two → r ≡ earlier front behind → r ≡ first_places (faults s)
  state-If s at condition condition2 body body2 other f front one two behind r is hc hy gc gf gy go eb by =
      joined (at_condition (judged scope condition inner)) (both (faults body) (of_any faults other)) r front behind by
      (condition_by condition condition2 f front hc gc gf)
      (joined (faults body) (of_any faults other) behind one two eb (branch_by body body2 one hy gy) go)
      ∙ ap first_places (sym (faults-If at condition body other)) ∙ ap (λ (t : Statement). first_places (faults t)) (sym is)

  pub state-Assign : (s : Statement) (goal : Goal) (assigned assigned2 : Expr) (r : FirstPlaces) → s ≡ tree.Assign goal assigned → assigned2 ≡ assigned
      → r ≡ first_places (both (goal_judged scope goal inner) (at_type (written_type scope goal inner) (judged scope assigned2 inner))) → r ≡ first_places (faults s)
  state-Assign s goal assigned assigned2 r is h e =
      e ∙ ap (λ (x : Expr). first_places (both (goal_judged scope goal inner) (at_type (written_type scope goal inner) (judged scope x inner)))) h
      ∙ ap first_places (sym (faults-Assign goal assigned)) ∙ ap (λ (t : Statement). first_places (faults t)) (sym is)
