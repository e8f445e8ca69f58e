-- A statement of the grammar is read, where it ends.
use Rattle.std.proofs.Common.{◌≡◌, ℕ, zero, suc, ◌+◌, ◌<◌, ◌≤◌, max, Bool, true, false, not, nat_le, nat_lt, List, [], ◌∷◌, ◌++◌, length, Some, None, refl, sym, ap, ◌∙◌, arith, append_assoc}
use Rattle.std.proofs.lemmas.Bool.Decides.{nat_tests}
use Rattle.std.proofs.lemmas.List.{append-nil}
use Rattle.vg_tok.specs.declared.sign.Sign.TheVariants as signs
use Rattle.vg_tok.specs.declared.word.Word.TheVariants as words
use Rattle.vg_ast.specs.declared.name.Name.{Name}
use Rattle.vg_ast.specs.declared.goal.Goal as goal
use Rattle.vg_ast.specs.declared.goal.Goal.TheVariants as goals
use Rattle.vg_ast.specs.declared.statement.Statement as tree
use Rattle.vg_ast.specs.declared.statement.Statement.TheVariants as trees
use Rattle.vg_ast.specs.Placed.{Placed, sign, word, name}
use Rattle.vg_ast.specs.Concrete.{Expr, Goal, whole, indexed, cells, Statement, block, local, when, choice, assign, Statements, no_statement, statements}
use Rattle.vg_ast.specs.Spelling.{spelled, spelled_goal, spelled_statement, spelled_statements}
use Rattle.vg_ast.specs.Grouping.{level, is_grouped, is_grouped_goal, ends_open, is_grouped_statement, are_grouped_statements}
use Rattle.vg_ast.specs.Depth.{depth, depth_goal, depth_statement, depth_statements}
use Rattle.vg_ast.specs.Grammar.{is_expression, is_statement}
use Rattle.vg_ast.specs.Tree.{tree_of, goal_of, statement_of, statements_of}
use Rattle.vg_parse_expr.specs.Lexeme.{begins_with, begins_with_word, sign_at, word_at, name_at}
use Rattle.vg_parse_expr.specs.Exact.{ends}
use Rattle.vg_parse_expr.proofs.Tests.{both, three, four, both-from, le_trans, one_part, two_parts, room}
use Rattle.vg_parse_expr.proofs.Following.{ends_at_sign, ends_at_word, ends_at_greater, ends_at_statement}
use Rattle.vg_parse_expr.proofs.Primary.{longer, max_assoc}
use Rattle.vg_parse_expr.proofs.Complete.{some_depth}
use Rattle.vg_parse_item.specs.declared.sized.SizedStatement.{SizedStatement}
use Rattle.vg_parse_item.specs.declared.sized.SizedGoal.{SizedGoal}
use Rattle.vg_parse_item.specs.ReadingRow.{Reader}
use Rattle.vg_parse_item.specs.ReadingStatement.{goal_over, indexed_at, cells_at, goal_behind, goal_at, statement_over, assign_at, statements_at, block_at, local_at, otherwise_at, conditional_at, statement_by, statement_within, statement}
use Rattle.vg_parse_item.proofs.Succeeding.{then_is, if_true, if_false, expression_then, any_then}

abbrev sized_goal_of : Goal → SizedGoal
sized_goal_of c = record { tree = goal_of c; depth = depth_goal c }

abbrev pub sized_statement_of : Statement → SizedStatement
sized_statement_of c = record { tree = statement_of c; depth = depth_statement c }

goal_over_is : (t : goal.Goal) (parts : ℕ) (rest : List Placed) → nat_lt parts 64 ≡ true → goal_over t parts rest ≡ Some (record { tree = t; depth = 1 + parts }, rest)
goal_over_is t parts rest h = if_true (nat_lt parts 64) _ _ _ h refl

over_is : (t : tree.Statement) (parts : ℕ) (rest : List Placed) → nat_lt parts 64 ≡ true → statement_over t parts rest ≡ Some (record { tree = t; depth = 1 + parts }, rest)
over_is t parts rest h = if_true (nat_lt parts 64) _ _ _ h refl

-- Depths.

in_whole : (m : ℕ) → nat_le (1 + m) 64 ≡ true → nat_lt m 64 ≡ true
in_whole m h = grind (arith, nat_tests)

below : (m : ℕ) → nat_lt m 64 ≡ true → nat_le m 64 ≡ true
below m h = grind (arith, nat_tests)

part : (c : Expr) (n : ℕ) → is_grouped c ≡ true → nat_le (depth c) n ≡ true → nat_le n 64 ≡ true → is_expression c ≡ true
part c n g d h = both-from (is_grouped c) (nat_le (depth c) 64) g (le_trans (depth c) n 64 d h)

-- Goals.

indexed_is : (n : Name) (index : Expr) (closing : ℕ) (rest : List Placed) → is_grouped index ≡ true → nat_lt (depth index) 64 ≡ true
    → indexed_at n (spelled index (sign signs.CloseParenthesis closing ∷ rest)) ≡ Some (record { tree = goals.Indexed n (tree_of index); depth = 1 + depth index }, rest)
unfolding indexed_at sign_at
indexed_is n index closing rest g d =
    any_then _ index (sign signs.CloseParenthesis closing ∷ rest) _ (part index 64 g (below (depth index) d) refl) (ends_at_sign signs.CloseParenthesis closing rest refl)
    (goal_over_is (goals.Indexed n (tree_of index)) (depth index) rest d)

cells_is : (n : Name) (less : ℕ) (size : Expr) (greater opening : ℕ) (address : Expr) (closing : ℕ) (rest : List Placed)
    → is_grouped size ≡ true → nat_le 7 (level size) ≡ true → is_grouped address ≡ true → nat_lt (max (depth size) (depth address)) 64 ≡ true
    → cells_at n less (spelled size (sign signs.Greater greater ∷ sign signs.OpenParenthesis opening ∷ spelled address (sign signs.CloseParenthesis closing ∷ rest)))
    ≡ Some (record { tree = goals.Access n less (tree_of size) (tree_of address); depth = 1 + max (depth size) (depth address) }, rest)
unfolding cells_at sign_at
cells_is n less size greater opening address closing rest g l k d =
    let q = two_parts (depth size) (depth address) 64 (below _ d) in
    expression_then _ 7 size (sign signs.Greater greater ∷ sign signs.OpenParenthesis opening ∷ spelled address (sign signs.CloseParenthesis closing ∷ rest)) _ (part size 64 g q.0 refl) l
    (ends_at_greater greater (sign signs.OpenParenthesis opening ∷ spelled address (sign signs.CloseParenthesis closing ∷ rest)))
    (any_then _ address (sign signs.CloseParenthesis closing ∷ rest) _ (part address 64 k q.1 refl) (ends_at_sign signs.CloseParenthesis closing rest refl)
    (goal_over_is (goals.Access n less (tree_of size) (tree_of address)) (max (depth size) (depth address)) rest d))

goal_is : (c : Goal) (at : ℕ) (rest : List Placed) → is_grouped_goal c ≡ true → nat_le (depth_goal c) 64 ≡ true
    → goal_at (spelled_goal c (sign signs.ColonEqual at ∷ rest)) ≡ Some (sized_goal_of c, sign signs.ColonEqual at ∷ rest)
unfolding goal_at goal_behind name_at sign_at
goal_is (whole n) at rest g d = refl
goal_is (indexed n opening index closing) at rest g d = indexed_is n index closing (sign signs.ColonEqual at ∷ rest) g (in_whole (depth index) d)
goal_is (cells n less size greater opening address closing) at rest g d =
    let p = three (is_grouped size) (nat_le 7 (level size)) (is_grouped address) g in
    cells_is n less size greater opening address closing (sign signs.ColonEqual at ∷ rest) p.0 p.1 p.2 (in_whole (max (depth size) (depth address)) d)

-- How many tokens statements spell.

longer_goal : (c : Goal) (ts : List Placed) → length ts < length (spelled_goal c ts)
longer_goal (whole n) ts = omega arith
longer_goal (indexed n opening index closing) ts = omega (arith, longer index (sign signs.CloseParenthesis closing ∷ ts))
longer_goal (cells n less size greater opening address closing) ts =
    omega (arith, longer size (sign signs.Greater greater ∷ sign signs.OpenParenthesis opening ∷ spelled address (sign signs.CloseParenthesis closing ∷ ts)), longer address (sign signs.CloseParenthesis closing ∷ ts))

mutual
  longer_statement : (c : Statement) (ts : List Placed) → length ts < length (spelled_statement c ts)
  longer_statement (block opening body closing) ts = omega (arith, longer_statements body (sign signs.CloseBrace closing ∷ ts))
  longer_statement (local at n equal bound at_in body) ts = omega (arith, longer_statement body ts, longer bound (word words.In at_in ∷ spelled_statement body ts))
  longer_statement (when at condition at_then body) ts = omega (arith, longer_statement body ts, longer condition (word words.Then at_then ∷ spelled_statement body ts))
  longer_statement (choice at condition at_then body at_else other) ts =
      omega (
        arith,
        longer_statement other ts,
        longer_statement body (word words.Else at_else ∷ spelled_statement other ts),
        longer condition (word words.Then at_then ∷ spelled_statement body (word words.Else at_else ∷ spelled_statement other ts)),
      )
  longer_statement (assign g colon_equal value) ts = omega (arith, longer value ts, longer_goal g (sign signs.ColonEqual colon_equal ∷ spelled value ts))

  longer_statements : (c : Statements) (ts : List Placed) → length ts ≤ length (spelled_statements c ts)
  longer_statements no_statement ts = omega arith
  longer_statements (statements first more) ts = omega (arith, longer_statements more ts, longer_statement first (spelled_statements more ts))

abbrev count : Statements → ℕ
count no_statement = 0
count (statements first more) = suc (count more)

counted : (c : Statements) (ts : List Placed) → count c + length ts ≤ length (spelled_statements c ts)
counted no_statement ts = omega arith
counted (statements first more) ts = omega (arith, counted more ts, longer_statement first (spelled_statements more ts))

-- What a statement begins with.

begins_no_close : (c : Statement) (ts : List Placed) → begins_with signs.CloseBrace (spelled_statement c ts) ≡ false
begins_no_close (block opening body closing) ts = refl
begins_no_close (local at n equal bound at_in body) ts = refl
begins_no_close (when at condition at_then body) ts = refl
begins_no_close (choice at condition at_then body at_else other) ts = refl
begins_no_close (assign (whole n) colon_equal value) ts = refl
begins_no_close (assign (indexed n opening index closing) colon_equal value) ts = refl
begins_no_close (assign (cells n less size greater opening address closing) colon_equal value) ts = refl

begins_no_else : (c : Statement) (ts : List Placed) → begins_with_word words.Else (spelled_statement c ts) ≡ false
begins_no_else (block opening body closing) ts = refl
begins_no_else (local at n equal bound at_in body) ts = refl
begins_no_else (when at condition at_then body) ts = refl
begins_no_else (choice at condition at_then body at_else other) ts = refl
begins_no_else (assign (whole n) colon_equal value) ts = refl
begins_no_else (assign (indexed n opening index closing) colon_equal value) ts = refl
begins_no_else (assign (cells n less size greater opening address closing) colon_equal value) ts = refl

assign_by : (read : Reader SizedStatement) (g : Goal) (ts : List Placed) → statement_by read (spelled_goal g ts) ≡ assign_at (spelled_goal g ts)
unfolding statement_by
assign_by read (whole n) ts = refl
assign_by read (indexed n opening index closing) ts = refl
assign_by read (cells n less size greater opening address closing) ts = refl

-- behind a statement of a block

more_ends : (more : Statements) (closing : ℕ) (rest : List Placed) → are_grouped_statements more ≡ true
    → ends 0 (spelled_statements more (sign signs.CloseBrace closing ∷ rest)) ≡ true
more_ends no_statement closing rest g = ends_at_sign signs.CloseBrace closing rest refl
more_ends (statements first more) closing rest g =
    ends_at_statement first (spelled_statements more (sign signs.CloseBrace closing ∷ rest)) (both (is_grouped_statement first) (are_grouped_statements more) g).0

more_no_else : (more : Statements) (closing : ℕ) (rest : List Placed) → begins_with_word words.Else (spelled_statements more (sign signs.CloseBrace closing ∷ rest)) ≡ false
more_no_else no_statement closing rest = refl
more_no_else (statements first more) closing rest = begins_no_else first (spelled_statements more (sign signs.CloseBrace closing ∷ rest))

-- Statements of at most this depth are read where they end: an `else` behind them doesn't belong to them.
abbrev IsComplete : ℕ → Reader SizedStatement → Type 0
IsComplete n read = (c : Statement) (rest : List Placed) → is_grouped_statement c ≡ true → nat_le (depth_statement c) n ≡ true
    → ends 0 rest ≡ true → (ends_open c ≡ true → begins_with_word words.Else rest ≡ false) → read (spelled_statement c rest) ≡ Some (sized_statement_of c, rest)

max_nothing : (a : ℕ) → a ≡ max a 0
max_nothing a = omega arith

max_zero : (a : ℕ) → max 0 a ≡ a
max_zero a = omega arith

never : (a b : Bool) → not a ≡ true → a ≡ true → b ≡ false
never true b h k = cc
never false b h k = cc

module _ (n : ℕ) (small : nat_lt n 64 ≡ true) (read : Reader SizedStatement) (complete : IsComplete n read) where
  statements_are : (fuel : ℕ) (body : Statements) (front : List tree.Statement) (deepest closing : ℕ) (rest : List Placed) → count body < fuel
      → are_grouped_statements body ≡ true → nat_le (depth_statements body) n ≡ true
      → statements_at fuel read front deepest (spelled_statements body (sign signs.CloseBrace closing ∷ rest)) ≡ Some ((front ++ statements_of body, max deepest (depth_statements body)), rest)
  unfolding statements_at sign_at
  statements_are zero body front deepest closing rest f g d = absurd (omega arith)
  statements_are (suc fuel) no_statement front deepest closing rest f g d =
      ap (λ (x : List tree.Statement). Some ((x, deepest), rest)) (sym (append-nil front)) ∙ ap (λ (x : ℕ). Some ((front ++ [], x), rest)) (max_nothing deepest)
  statements_are (suc fuel) (statements first more) front deepest closing rest f g d =
      let ts : List Placed = spelled_statements more (sign signs.CloseBrace closing ∷ rest) in
      let p = both (is_grouped_statement first) (are_grouped_statements more) g in
      let q = two_parts (depth_statement first) (depth_statements more) n d in
      if_false (begins_with signs.CloseBrace (spelled_statement first ts)) _ _ _ (begins_no_close first ts)
      (then_is (read (spelled_statement first ts)) _ (sized_statement_of first, ts) _ (complete first ts p.0 q.0 (more_ends more closing rest p.1) (λ h. more_no_else more closing rest))
      (statements_are fuel more (front ++ statement_of first ∷ []) (max deepest (depth_statement first)) closing rest (omega arith) p.1 q.1
      ∙ (ap (λ (x : List tree.Statement). Some ((x, max (max deepest (depth_statement first)) (depth_statements more)), rest)) (append_assoc front (statement_of first ∷ []) (statements_of more))
      ∙ ap (λ (x : ℕ). Some ((front ++ (statement_of first ∷ statements_of more), x), rest)) (max_assoc deepest (depth_statement first) (depth_statements more)))))

  fits : (m : ℕ) → nat_le (1 + m) (suc n) ≡ true → nat_lt m 64 ≡ true
  fits m d = room m n (one_part m n d) small

  block_is : (opening : ℕ) (body : Statements) (closing : ℕ) (rest : List Placed) → are_grouped_statements body ≡ true → nat_le (1 + depth_statements body) (suc n) ≡ true
      → block_at read opening (spelled_statements body (sign signs.CloseBrace closing ∷ rest)) ≡ Some (sized_statement_of (block opening body closing), rest)
  unfolding block_at
  block_is opening body closing rest g d =
      let ts : List Placed = spelled_statements body (sign signs.CloseBrace closing ∷ rest) in
      then_is (statements_at (length ts) read [] 0 ts) _ ((statements_of body, depth_statements body), rest) _
      (statements_are (length ts) body [] 0 closing rest (omega (arith, counted body (sign signs.CloseBrace closing ∷ rest))) g (one_part (depth_statements body) n d)
      ∙ ap (λ (x : ℕ). Some ((statements_of body, x), rest)) (max_zero (depth_statements body)))
      (over_is (trees.Block opening (statements_of body)) (depth_statements body) rest (fits (depth_statements body) d))

  local_is : (at : ℕ) (m : Name) (equal : ℕ) (bound : Expr) (at_in : ℕ) (body : Statement) (rest : List Placed)
      → is_grouped bound ≡ true → is_grouped_statement body ≡ true → nat_le (1 + max (depth bound) (depth_statement body)) (suc n) ≡ true
      → ends 0 rest ≡ true → (ends_open body ≡ true → begins_with_word words.Else rest ≡ false)
      → local_at read at (name m ∷ sign signs.Equal equal ∷ spelled bound (word words.In at_in ∷ spelled_statement body rest)) ≡ Some (sized_statement_of (local at m equal bound at_in body), rest)
  unfolding local_at name_at sign_at word_at
  local_is at m equal bound at_in body rest g h d e o =
      let q = two_parts (depth bound) (depth_statement body) n (one_part (max (depth bound) (depth_statement body)) n d) in
      any_then _ bound (word words.In at_in ∷ spelled_statement body rest) _ (part bound n g q.0 (below n small)) (ends_at_word words.In at_in (spelled_statement body rest) refl)
      (then_is (read (spelled_statement body rest)) _ (sized_statement_of body, rest) _ (complete body rest h q.1 e o)
      (over_is (trees.Let at m (tree_of bound) (statement_of body)) (max (depth bound) (depth_statement body)) rest (fits (max (depth bound) (depth_statement body)) d)))

  when_is : (at : ℕ) (condition : Expr) (at_then : ℕ) (body : Statement) (rest : List Placed)
      → is_grouped condition ≡ true → is_grouped_statement body ≡ true → nat_le (1 + max (depth condition) (depth_statement body)) (suc n) ≡ true
      → ends 0 rest ≡ true → begins_with_word words.Else rest ≡ false
      → conditional_at read at (spelled condition (word words.Then at_then ∷ spelled_statement body rest)) ≡ Some (sized_statement_of (when at condition at_then body), rest)
  unfolding conditional_at otherwise_at word_at
  when_is at condition at_then body rest g h d e o =
      let q = two_parts (depth condition) (depth_statement body) n (one_part (max (depth condition) (depth_statement body)) n d) in
      any_then _ condition (word words.Then at_then ∷ spelled_statement body rest) _ (part condition n g q.0 (below n small)) (ends_at_word words.Then at_then (spelled_statement body rest) refl)
      (then_is (read (spelled_statement body rest)) _ (sized_statement_of body, rest) _ (complete body rest h q.1 e (λ k. o))
      (if_false (begins_with_word words.Else rest) _ _ _ o
      (over_is (trees.If at (tree_of condition) (statement_of body) None) (max (depth condition) (depth_statement body)) rest (fits (max (depth condition) (depth_statement body)) d))))

  choice_is : (at : ℕ) (condition : Expr) (at_then : ℕ) (body : Statement) (at_else : ℕ) (other : Statement) (rest : List Placed)
      → is_grouped condition ≡ true → is_grouped_statement body ≡ true → not (ends_open body) ≡ true → is_grouped_statement other ≡ true
      → nat_le (1 + max (depth condition) (max (depth_statement body) (depth_statement other))) (suc n) ≡ true
      → ends 0 rest ≡ true → (ends_open other ≡ true → begins_with_word words.Else rest ≡ false)
      → conditional_at read at (spelled condition (word words.Then at_then ∷ spelled_statement body (word words.Else at_else ∷ spelled_statement other rest)))
      ≡ Some (sized_statement_of (choice at condition at_then body at_else other), rest)
  unfolding conditional_at otherwise_at word_at
  choice_is at condition at_then body at_else other rest g h i j d e o =
      let ts : List Placed = word words.Else at_else ∷ spelled_statement other rest in
      let q = two_parts (depth condition) (max (depth_statement body) (depth_statement other)) n (one_part (max (depth condition) (max (depth_statement body) (depth_statement other))) n d) in
      let r = two_parts (depth_statement body) (depth_statement other) n q.1 in
      any_then _ condition (word words.Then at_then ∷ spelled_statement body ts) _ (part condition n g q.0 (below n small)) (ends_at_word words.Then at_then (spelled_statement body ts) refl)
      (then_is (read (spelled_statement body ts)) _ (sized_statement_of body, ts) _
      (complete body ts h r.0 (ends_at_word words.Else at_else (spelled_statement other rest) refl) (λ k. never (ends_open body) (begins_with_word words.Else ts) i k))
      (then_is (read (spelled_statement other rest)) _ (sized_statement_of other, rest) _ (complete other rest j r.1 e o)
      (over_is (trees.If at (tree_of condition) (statement_of body) (Some (statement_of other))) (max (depth condition) (max (depth_statement body) (depth_statement other))) rest
      (fits (max (depth condition) (max (depth_statement body) (depth_statement other))) d))))

  assign_is : (g : Goal) (colon_equal : ℕ) (value : Expr) (rest : List Placed) → is_grouped_goal g ≡ true → is_grouped value ≡ true
      → nat_le (depth_goal g) 64 ≡ true → nat_le (depth value) 64 ≡ true → ends 0 rest ≡ true
      → assign_at (spelled_goal g (sign signs.ColonEqual colon_equal ∷ spelled value rest)) ≡ Some (sized_statement_of (assign g colon_equal value), rest)
  unfolding assign_at sign_at
  assign_is g colon_equal value rest h i d k e =
      then_is (goal_at (spelled_goal g (sign signs.ColonEqual colon_equal ∷ spelled value rest))) _ (sized_goal_of g, sign signs.ColonEqual colon_equal ∷ spelled value rest) _
      (goal_is g colon_equal (spelled value rest) h d)
      (any_then _ value rest _ (part value 64 i k refl) e refl)

  at_most : (m : ℕ) → nat_le m (suc n) ≡ true → nat_le m 64 ≡ true
  at_most m d = grind (arith, nat_tests)

  by_is : IsComplete (suc n) (statement_by read)
  unfolding statement_by sign_at word_at
  by_is (block opening body closing) rest g d e o = block_is opening body closing rest g d
  by_is (local at m equal bound at_in body) rest g d e o =
      let p = both (is_grouped bound) (is_grouped_statement body) g in
      local_is at m equal bound at_in body rest p.0 p.1 d e o
  by_is (when at condition at_then body) rest g d e o =
      let p = both (is_grouped condition) (is_grouped_statement body) g in
      when_is at condition at_then body rest p.0 p.1 d e (o refl)
  by_is (choice at condition at_then body at_else other) rest g d e o =
      let p = four (is_grouped condition) (is_grouped_statement body) (not (ends_open body)) (is_grouped_statement other) g in
      choice_is at condition at_then body at_else other rest p.0 p.1 p.2 p.3 d e o
  by_is (assign goal colon_equal value) rest g d e o =
      let p = both (is_grouped_goal goal) (is_grouped value) g in
      let q = two_parts (depth_goal goal) (depth value) (suc n) d in
      assign_by read goal (sign signs.ColonEqual colon_equal ∷ spelled value rest)
      ∙ assign_is goal colon_equal value rest p.0 p.1 (at_most (depth_goal goal) q.0) (at_most (depth value) q.1) e

-- No statement has depth 0.

no_depth_goal : (c : Goal) → nat_le (depth_goal c) 0 ≡ true → ⊥
no_depth_goal (whole n) h = cc
no_depth_goal (indexed n opening index closing) h = some_depth _ h
no_depth_goal (cells n less size greater opening address closing) h = some_depth _ h

no_depth : (c : Statement) → nat_le (depth_statement c) 0 ≡ true → ⊥
no_depth (block opening body closing) h = some_depth _ h
no_depth (local at n equal bound at_in body) h = some_depth _ h
no_depth (when at condition at_then body) h = some_depth _ h
no_depth (choice at condition at_then body at_else other) h = some_depth _ h
no_depth (assign g colon_equal value) h = no_depth_goal g (two_parts (depth_goal g) (depth value) 0 h).0

within_is : (fuel : ℕ) → nat_le fuel 64 ≡ true → IsComplete fuel (statement_within fuel)
unfolding statement_within
within_is zero s c rest g d e o = absurd (no_depth c d)
within_is (suc fuel) s c rest g d e o = by_is fuel (under fuel s) (statement_within fuel) (within_is fuel (less fuel s)) c rest g d e o
  where
    less : (n : ℕ) → nat_le (suc n) 64 ≡ true → nat_le n 64 ≡ true
    less n h = grind (arith, nat_tests)

    under : (n : ℕ) → nat_le (suc n) 64 ≡ true → nat_lt n 64 ≡ true
    under n h = grind (arith, nat_tests)

pub statement_is : (c : Statement) (rest : List Placed) → is_statement c ≡ true → ends 0 rest ≡ true → (ends_open c ≡ true → begins_with_word words.Else rest ≡ false)
    → statement (spelled_statement c rest) ≡ Some (sized_statement_of c, rest)
statement_is c rest h e o =
    let p = both (is_grouped_statement c) (nat_le (depth_statement c) 64) h in
    within_is 64 refl c rest p.0 p.1 e o
