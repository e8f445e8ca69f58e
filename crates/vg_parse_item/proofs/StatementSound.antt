-- What is read as a statement is one, and the tokens in front of what follows spell it.
use Rattle.std.proofs.Common.{◌≡◌, ℕ, zero, suc, ◌+◌, max, Bool, true, false, not, ◌&&◌, nat_le, nat_lt, List, [], ◌∷◌, ◌++◌, length, Some, None, IfSome, refl, sym, ap, subst, ◌∙◌, arith, append_assoc}
use Rattle.std.proofs.lemmas.Bool.Decides.{nat_tests}
use Rattle.std.proofs.lemmas.List.{append-nil}
use Rattle.vg_tok.specs.declared.sign.Sign.TheVariants as signs
use Rattle.vg_tok.specs.declared.word.Word.TheVariants as words
use Rattle.vg_ast.specs.declared.name.Name.{Name}
use Rattle.vg_ast.specs.declared.expr.Expr.{Expr}
use Rattle.vg_ast.specs.declared.goal.Goal.{Goal}
use Rattle.vg_ast.specs.declared.goal.Goal.TheVariants as goals
use Rattle.vg_ast.specs.declared.statement.Statement.{Statement}
use Rattle.vg_ast.specs.declared.statement.Statement.TheVariants as statements
use Rattle.vg_ast.specs.Placed.{Placed, sign, word, name}
use Rattle.vg_ast.specs.Concrete as concrete
use Rattle.vg_ast.specs.Spelling.{spelled_goal, spelled_statement, spelled_statements}
use Rattle.vg_ast.specs.Grouping.{is_grouped, is_grouped_goal, ends_open, is_grouped_statement, are_grouped_statements}
use Rattle.vg_ast.specs.Depth.{depth, depth_goal, depth_statement, depth_statements}
use Rattle.vg_ast.specs.Tree.{goal_of, statement_of, statements_of}
use Rattle.vg_parse_expr.specs.declared.operand.Operand.{Operand}
use Rattle.vg_parse_expr.specs.Lexeme.{◌>>=◌, begins_with, begins_with_word, sign_at, word_at, name_at}
use Rattle.vg_parse_expr.specs.Reading.{expression}
use Rattle.vg_parse_expr.proofs.Tests.{both, both-from, three-from, four-from, deeper}
use Rattle.vg_parse_expr.proofs.Taking.{then_some, some_map, choose_some, sign_read, word_read, name_read}
use Rattle.vg_parse_item.specs.declared.sized.SizedStatement.{SizedStatement}
use Rattle.vg_parse_item.specs.declared.sized.SizedGoal.{SizedGoal}
use Rattle.vg_parse_item.specs.ReadingRow.{Reader}
use Rattle.vg_parse_item.specs.ReadingStatement.{goal_over, indexed_at, cells_at, goal_behind, goal_at, statement_over, assign_at, statements_at, block_at, local_at, otherwise_at, conditional_at, statement_by, statement_within, statement}
use Rattle.vg_parse_item.proofs.Standing.{StandsExpression, expression_read}

record StandsGoal (ts : List Placed) (found : SizedGoal × List Placed) : Type 0 where
  c : concrete.Goal
  grouped : is_grouped_goal c ≡ true
  shallow : nat_le (depth_goal c) 64 ≡ true
  spells : ts ≡ spelled_goal c found.1
  tree_is : found.0.tree ≡ goal_of c
  depth_is : found.0.depth ≡ depth_goal c

-- A statement, behind which no `else` stands that would belong to it.
pub record StandsStatement (ts : List Placed) (found : SizedStatement × List Placed) : Type 0 where
  pub c : concrete.Statement
  pub grouped : is_grouped_statement c ≡ true
  pub shallow : nat_le (depth_statement c) 64 ≡ true
  pub spells : ts ≡ spelled_statement c found.1
  pub tree_is : found.0.tree ≡ statement_of c
  pub depth_is : found.0.depth ≡ depth_statement c
  pub nearest : ends_open c ≡ true → begins_with_word words.Else found.1 ≡ false

-- the statements of a block, with the `}` behind them
record StandStatements (front : List Statement) (deepest : ℕ) (ts : List Placed) (found : (List Statement × ℕ) × List Placed) : Type 0 where
  body : concrete.Statements
  closing : ℕ
  grouped : are_grouped_statements body ≡ true
  spells : ts ≡ spelled_statements body (sign signs.CloseBrace closing ∷ found.1)
  trees_are : found.0.0 ≡ front ++ statements_of body
  depth_is : found.0.1 ≡ max deepest (depth_statements body)

goal_over_read : (tree : Goal) (parts : ℕ) (rest : List Placed) (Q : SizedGoal × List Placed → Type 0)
    → (nat_lt parts 64 ≡ true → Q (record { tree = tree; depth = 1 + parts }, rest)) → IfSome (goal_over tree parts rest) Q
goal_over_read tree parts rest Q f = choose_some (nat_lt parts 64) _ _ _ f (λ h. tt)

over_read : (tree : Statement) (parts : ℕ) (rest : List Placed) (Q : SizedStatement × List Placed → Type 0)
    → (nat_lt parts 64 ≡ true → Q (record { tree = tree; depth = 1 + parts }, rest)) → IfSome (statement_over tree parts rest) Q
over_read tree parts rest Q f = choose_some (nat_lt parts 64) _ _ _ f (λ h. tt)

grouped_part : (c : concrete.Expr) → (is_grouped c && nat_le (depth c) 64) ≡ true → is_grouped c ≡ true
grouped_part c h = (both (is_grouped c) (nat_le (depth c) 64) h).0

-- Goals.

indexed_read : (n : Name) (opening : ℕ) (ts : List Placed) → IfSome (indexed_at n ts) (StandsGoal (name n ∷ sign signs.OpenParenthesis opening ∷ ts))
unfolding indexed_at
indexed_read n opening ts =
    then_some (expression 0 ts) _ _ _ (expression_read 0 ts refl) (λ index i.
    then_some (sign_at signs.CloseParenthesis index.1) _ _ _ (sign_read signs.CloseParenthesis index.1) (λ closing e.
    goal_over_read (goals.Indexed n index.0.tree) index.0.depth closing.1 (StandsGoal (name n ∷ sign signs.OpenParenthesis opening ∷ ts)) (λ small. record {
      c = concrete.indexed n opening i.c closing.0;
      grouped = grouped_part i.c i.right;
      shallow = deeper _ _ small i.depth_is;
      spells = let s = i.spells in cc;
      tree_is = ap (λ (x : Expr). goals.Indexed n x) i.tree_is;
      depth_is = ap (λ (x : ℕ). 1 + x) i.depth_is;
    })))

cells_read : (n : Name) (less : ℕ) (ts : List Placed) → IfSome (cells_at n less ts) (StandsGoal (name n ∷ sign signs.Less less ∷ ts))
unfolding cells_at
cells_read n less ts =
    then_some (expression 7 ts) _ _ _ (expression_read 7 ts refl) (λ size s.
    then_some (sign_at signs.Greater size.1) _ _ _ (sign_read signs.Greater size.1) (λ greater g.
    then_some (sign_at signs.OpenParenthesis greater.1) _ _ _ (sign_read signs.OpenParenthesis greater.1) (λ opening o.
    then_some (expression 0 opening.1) _ _ _ (expression_read 0 opening.1 refl) (λ address a.
    then_some (sign_at signs.CloseParenthesis address.1) _ _ _ (sign_read signs.CloseParenthesis address.1) (λ closing e.
    goal_over_read (goals.Access n less size.0.tree address.0.tree) (max size.0.depth address.0.depth) closing.1 (StandsGoal (name n ∷ sign signs.Less less ∷ ts)) (λ small.
    let d : max size.0.depth address.0.depth ≡ max (depth s.c) (depth a.c) = let x = s.depth_is in let y = a.depth_is in cc in
    record {
      c = concrete.cells n less s.c greater.0 opening.0 a.c closing.0;
      grouped = three-from _ _ _ (grouped_part s.c s.right) s.reaches (grouped_part a.c a.right);
      shallow = deeper _ _ small d;
      spells = let x = s.spells in let y = a.spells in cc;
      tree_is = let x = s.tree_is in let y = a.tree_is in cc;
      depth_is = ap (λ (x : ℕ). 1 + x) d;
    }))))))

goal_behind_read : (n : Name) (ts : List Placed) → IfSome (goal_behind n ts) (StandsGoal (name n ∷ ts))
unfolding goal_behind
goal_behind_read n ts =
    choose_some (begins_with signs.OpenParenthesis ts) _ _ _
    (λ h. then_some (sign_at signs.OpenParenthesis ts) _ _ _ (sign_read signs.OpenParenthesis ts) (λ opening e.
    subst (λ (x : List Placed). IfSome (indexed_at n opening.1) (StandsGoal (name n ∷ x))) (sym e) (indexed_read n opening.0 opening.1)))
    (λ h. choose_some (begins_with signs.Less ts) _ _ _
    (λ k. then_some (sign_at signs.Less ts) _ _ _ (sign_read signs.Less ts) (λ less e.
    subst (λ (x : List Placed). IfSome (cells_at n less.0 less.1) (StandsGoal (name n ∷ x))) (sym e) (cells_read n less.0 less.1)))
    (λ k. record { c = concrete.whole n; grouped = refl; shallow = refl; spells = refl; tree_is = refl; depth_is = refl }))

goal_read : (ts : List Placed) → IfSome (goal_at ts) (StandsGoal ts)
unfolding goal_at
goal_read ts =
    then_some (name_at ts) _ _ _ (name_read ts) (λ n e.
    subst (λ (x : List Placed). IfSome (goal_behind n.0 n.1) (StandsGoal x)) (sym e) (goal_behind_read n.0 n.1))

-- Statements.

both_shallow : (a b : ℕ) → nat_le a 64 ≡ true → nat_le b 64 ≡ true → nat_le (max a b) 64 ≡ true
both_shallow a b h k = grind (arith, nat_tests)

never_open : false ≡ true → (b : Bool) → b ≡ false
never_open h b = absurd (cc)

assign_read : (ts : List Placed) → IfSome (assign_at ts) (StandsStatement ts)
unfolding assign_at
assign_read ts =
    then_some (goal_at ts) _ _ _ (goal_read ts) (λ goal g.
    then_some (sign_at signs.ColonEqual goal.1) _ _ _ (sign_read signs.ColonEqual goal.1) (λ colon_equal e.
    then_some (expression 0 colon_equal.1) _ _ _ (expression_read 0 colon_equal.1 refl) (λ value v.
    record {
      c = concrete.assign g.c colon_equal.0 v.c;
      grouped = both-from _ _ g.grouped (grouped_part v.c v.right);
      shallow = both_shallow (depth_goal g.c) (depth v.c) g.shallow (both (is_grouped v.c) (nat_le (depth v.c) 64) v.right).1;
      spells = let x = g.spells in let y = v.spells in cc;
      tree_is = let x = g.tree_is in let y = v.tree_is in cc;
      depth_is = let x = g.depth_is in let y = v.depth_is in cc;
      nearest = λ h. never_open h (begins_with_word words.Else value.1);
    })))

abbrev IsSound : Reader SizedStatement → Type 0
IsSound read = (ts : List Placed) → IfSome (read ts) (StandsStatement ts)

more_statements : (front : List Statement) (deepest : ℕ) (ts : List Placed) (found : SizedStatement × List Placed) → StandsStatement ts found
    → (all : (List Statement × ℕ) × List Placed) → StandStatements (front ++ found.0.tree ∷ []) (max deepest found.0.depth) found.1 all → StandStatements front deepest ts all
more_statements front deepest ts found f all a = record {
  body = concrete.statements f.c a.body;
  closing = a.closing;
  grouped = both-from _ _ f.grouped a.grouped;
  spells = f.spells ∙ ap (λ (x : List Placed). spelled_statement f.c x) a.spells;
  trees_are = a.trees_are ∙ (append_assoc front (found.0.tree ∷ []) (statements_of a.body) ∙ ap (λ (x : Statement). front ++ (x ∷ statements_of a.body)) f.tree_is);
  depth_is = let d = f.depth_is in let b = a.depth_is in omega arith;
}

module _ (read : Reader SizedStatement) (sound : IsSound read) where
  statements_read : (fuel : ℕ) (front : List Statement) (deepest : ℕ) (ts : List Placed) → IfSome (statements_at fuel read front deepest ts) (StandStatements front deepest ts)
  unfolding statements_at
  statements_read zero front deepest ts = tt
  statements_read (suc fuel) front deepest ts =
      choose_some (begins_with signs.CloseBrace ts) _ _ _
      (λ h. then_some (sign_at signs.CloseBrace ts) _ _ _ (sign_read signs.CloseBrace ts) (λ closing e.
      record { body = concrete.no_statement; closing = closing.0; grouped = refl; spells = e; trees_are = sym (append-nil front); depth_is = omega arith }))
      (λ h. then_some (read ts) _ _ _ (sound ts) (λ found f.
      some_map (statements_at fuel read (front ++ found.0.tree ∷ []) (max deepest found.0.depth) found.1) _ _ (λ all a. more_statements front deepest ts found f all a)
      (statements_read fuel (front ++ found.0.tree ∷ []) (max deepest found.0.depth) found.1)))

  block_read : (opening : ℕ) (ts : List Placed) → IfSome (block_at read opening ts) (StandsStatement (sign signs.OpenBrace opening ∷ ts))
  unfolding block_at
  block_read opening ts =
      then_some (statements_at (length ts) read [] 0 ts) _ _ _ (statements_read (length ts) [] 0 ts) (λ found a.
      over_read (statements.Block opening found.0.0) found.0.1 found.1 (StandsStatement (sign signs.OpenBrace opening ∷ ts)) (λ small.
      let d : found.0.1 ≡ depth_statements a.body = let x = a.depth_is in omega arith in
      record {
        c = concrete.block opening a.body a.closing;
        grouped = a.grouped;
        shallow = deeper _ _ small d;
        spells = ap (λ (x : List Placed). sign signs.OpenBrace opening ∷ x) a.spells;
        tree_is = ap (λ (x : List Statement). statements.Block opening x) a.trees_are;
        depth_is = ap (λ (x : ℕ). 1 + x) d;
        nearest = λ h. never_open h (begins_with_word words.Else found.1);
      }))

  local_read : (at : ℕ) (ts : List Placed) → IfSome (local_at read at ts) (StandsStatement (word words.Let at ∷ ts))
  unfolding local_at
  local_read at ts =
      then_some (name_at ts) _ _ _ (name_read ts) (λ n m.
      then_some (sign_at signs.Equal n.1) _ _ _ (sign_read signs.Equal n.1) (λ equal e.
      then_some (expression 0 equal.1) _ _ _ (expression_read 0 equal.1 refl) (λ bound a.
      then_some (word_at words.In bound.1) _ _ _ (word_read words.In bound.1) (λ body_word w.
      then_some (read body_word.1) _ _ _ (sound body_word.1) (λ body b.
      over_read (statements.Let at n.0 bound.0.tree body.0.tree) (max bound.0.depth body.0.depth) body.1 (StandsStatement (word words.Let at ∷ ts)) (λ small.
      let d : max bound.0.depth body.0.depth ≡ max (depth a.c) (depth_statement b.c) = let x = a.depth_is in let y = b.depth_is in cc in
      record {
        c = concrete.local at n.0 equal.0 a.c body_word.0 b.c;
        grouped = both-from _ _ (grouped_part a.c a.right) b.grouped;
        shallow = deeper _ _ small d;
        spells = let x = a.spells in let y = b.spells in cc;
        tree_is = let x = a.tree_is in let y = b.tree_is in cc;
        depth_is = ap (λ (x : ℕ). 1 + x) d;
        nearest = b.nearest;
      }))))))

  not_open : (a b : Bool) → (a ≡ true → b ≡ false) → b ≡ true → not a ≡ true
  not_open false b f h = refl
  not_open true b f h = let k = f refl in absurd (cc)

  -- a choice: the `else` behind its first branch is its own
  choice_read : (at : ℕ) (ts : List Placed) (condition : Operand × List Placed) → StandsExpression 0 ts condition
      → (at_then : ℕ) (behind : List Placed) → condition.1 ≡ word words.Then at_then ∷ behind → (body : SizedStatement × List Placed) → StandsStatement behind body
      → begins_with_word words.Else body.1 ≡ true
      → IfSome (word_at words.Else body.1 >>= λ other_word. read other_word.1 >>= λ other.
      statement_over (statements.If at condition.0.tree body.0.tree (Some other.0.tree)) (max condition.0.depth (max body.0.depth other.0.depth)) other.1) (StandsStatement (word words.If at ∷ ts))
  choice_read at ts condition c at_then behind t body b h =
      then_some (word_at words.Else body.1) _ _ _ (word_read words.Else body.1) (λ other_word w.
      then_some (read other_word.1) _ _ _ (sound other_word.1) (λ other o.
      over_read (statements.If at condition.0.tree body.0.tree (Some other.0.tree)) (max condition.0.depth (max body.0.depth other.0.depth)) other.1 (StandsStatement (word words.If at ∷ ts)) (λ small.
      let d : max condition.0.depth (max body.0.depth other.0.depth) ≡ max (depth c.c) (max (depth_statement b.c) (depth_statement o.c)) =
      let x = c.depth_is in let y = b.depth_is in let z = o.depth_is in cc in
      record {
        c = concrete.choice at c.c at_then b.c other_word.0 o.c;
        grouped = four-from _ _ _ _ (grouped_part c.c c.right) b.grouped (not_open (ends_open b.c) _ b.nearest h) o.grouped;
        shallow = deeper _ _ small d;
        spells = let x = c.spells in let y = b.spells in let z = o.spells in cc;
        tree_is = let x = c.tree_is in let y = b.tree_is in let z = o.tree_is in cc;
        depth_is = ap (λ (x : ℕ). 1 + x) d;
        nearest = o.nearest;
      })))

  when_read : (at : ℕ) (ts : List Placed) (condition : Operand × List Placed) → StandsExpression 0 ts condition
      → (at_then : ℕ) (behind : List Placed) → condition.1 ≡ word words.Then at_then ∷ behind → (body : SizedStatement × List Placed) → StandsStatement behind body
      → begins_with_word words.Else body.1 ≡ false
      → IfSome (statement_over (statements.If at condition.0.tree body.0.tree None) (max condition.0.depth body.0.depth) body.1) (StandsStatement (word words.If at ∷ ts))
  when_read at ts condition c at_then behind t body b h =
      over_read (statements.If at condition.0.tree body.0.tree None) (max condition.0.depth body.0.depth) body.1 (StandsStatement (word words.If at ∷ ts)) (λ small.
      let d : max condition.0.depth body.0.depth ≡ max (depth c.c) (depth_statement b.c) = let x = c.depth_is in let y = b.depth_is in cc in
      record {
        c = concrete.when at c.c at_then b.c;
        grouped = both-from _ _ (grouped_part c.c c.right) b.grouped;
        shallow = deeper _ _ small d;
        spells = let x = c.spells in let y = b.spells in cc;
        tree_is = let x = c.tree_is in let y = b.tree_is in cc;
        depth_is = ap (λ (x : ℕ). 1 + x) d;
        nearest = λ k. h;
      })

  conditional_read : (at : ℕ) (ts : List Placed) → IfSome (conditional_at read at ts) (StandsStatement (word words.If at ∷ ts))
  unfolding conditional_at otherwise_at
  conditional_read at ts =
      then_some (expression 0 ts) _ _ _ (expression_read 0 ts refl) (λ condition c.
      then_some (word_at words.Then condition.1) _ _ _ (word_read words.Then condition.1) (λ body_word w.
      then_some (read body_word.1) _ _ _ (sound body_word.1) (λ body b.
      choose_some (begins_with_word words.Else body.1) _ _ _
      (λ h. choice_read at ts condition c body_word.0 body_word.1 w body b h)
      (λ h. when_read at ts condition c body_word.0 body_word.1 w body b h))))

  by_read : IsSound (statement_by read)
  unfolding statement_by
  by_read ts =
      choose_some (begins_with signs.OpenBrace ts) _ _ _
      (λ h. then_some (sign_at signs.OpenBrace ts) _ _ _ (sign_read signs.OpenBrace ts) (λ opening e.
      subst (λ (x : List Placed). IfSome (block_at read opening.0 opening.1) (StandsStatement x)) (sym e) (block_read opening.0 opening.1)))
      (λ h. choose_some (begins_with_word words.Let ts) _ _ _
      (λ k. then_some (word_at words.Let ts) _ _ _ (word_read words.Let ts) (λ at e.
      subst (λ (x : List Placed). IfSome (local_at read at.0 at.1) (StandsStatement x)) (sym e) (local_read at.0 at.1)))
      (λ k. choose_some (begins_with_word words.If ts) _ _ _
      (λ j. then_some (word_at words.If ts) _ _ _ (word_read words.If ts) (λ at e.
      subst (λ (x : List Placed). IfSome (conditional_at read at.0 at.1) (StandsStatement x)) (sym e) (conditional_read at.0 at.1)))
      (λ j. assign_read ts)))

within_read : (fuel : ℕ) → IsSound (statement_within fuel)
unfolding statement_within
within_read zero ts = tt
within_read (suc fuel) ts = by_read (statement_within fuel) (within_read fuel) ts

pub statement_read : (ts : List Placed) → IfSome (statement ts) (StandsStatement ts)
statement_read ts = within_read 64 ts
