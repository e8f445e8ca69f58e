-- Concrete trees of expressions, types and statements: one constructor for each alternative of the grammar. Each sign
-- and each reserved word of the text stands in the tree by its place alone; which one it is, `Spelling` says.
use Rattle.std.specs.Prelude.{ℕ}
use Rattle.vg_ast.specs.declared.name.Name.{Name}
use Rattle.vg_ast.specs.declared.operator.UnaryOperator.{UnaryOperator}
use Rattle.vg_ast.specs.declared.operator.BinaryOperator.{BinaryOperator}
use Rattle.vg_ast.specs.declared.type_expr.BitsKind.{BitsKind}

mutual
  pub data Expr : Type 0 where
    number : (value at : ℕ) → Expr
    variable : Name → Expr
    -- name ( arguments )
    call : Name → (opening : ℕ) → Arguments → (closing : ℕ) → Expr
    -- name < size > ( address )
    access : Name → (less : ℕ) → Expr → (greater : ℕ) → (opening : ℕ) → Expr → (closing : ℕ) → Expr
    -- join ( high , low )
    joined : (at : ℕ) → (opening : ℕ) → Expr → (comma : ℕ) → Expr → (closing : ℕ) → Expr
    -- ( inner )
    parentheses : (opening : ℕ) → Expr → (closing : ℕ) → Expr
    unary : UnaryOperator → (at : ℕ) → Expr → Expr
    binary : Expr → BinaryOperator → (at : ℕ) → Expr → Expr
    -- operand as type
    cast : Expr → (at : ℕ) → TypeTree → Expr
    -- operand [ high .. low ]
    slice : Expr → (opening : ℕ) → Expr → (dots : ℕ) → Expr → (closing : ℕ) → Expr
    -- if condition then one else other
    conditional : (at : ℕ) → Expr → (at_then : ℕ) → Expr → (at_else : ℕ) → Expr → Expr
    -- let name = bound in body
    binding : (at : ℕ) → Name → (equal : ℕ) → Expr → (at_in : ℕ) → Expr → Expr

  -- none, or one or more with commas between them
  pub data Arguments : Type 0 where
    no_argument : Arguments
    arguments : Expr → MoreArguments → Arguments

  pub data MoreArguments : Type 0 where
    no_more : MoreArguments
    one_more : (comma : ℕ) → Expr → MoreArguments → MoreArguments

  pub data TypeTree : Type 0 where
    -- kind < width >
    sized : BitsKind → (at : ℕ) → (less : ℕ) → Expr → (greater : ℕ) → TypeTree
    bool : (at : ℕ) → TypeTree
    alias : Name → TypeTree

pub data Goal : Type 0 where
  whole : Name → Goal
  -- name ( index )
  indexed : Name → (opening : ℕ) → Expr → (closing : ℕ) → Goal
  -- name < size > ( address )
  cells : Name → (less : ℕ) → Expr → (greater : ℕ) → (opening : ℕ) → Expr → (closing : ℕ) → Goal

mutual
  pub data Statement : Type 0 where
    -- { statements }
    block : (opening : ℕ) → Statements → (closing : ℕ) → Statement
    -- let name = bound in body
    local : (at : ℕ) → Name → (equal : ℕ) → Expr → (at_in : ℕ) → Statement → Statement
    -- if condition then body
    when : (at : ℕ) → Expr → (at_then : ℕ) → Statement → Statement
    -- if condition then body else other
    choice : (at : ℕ) → Expr → (at_then : ℕ) → Statement → (at_else : ℕ) → Statement → Statement
    -- goal := value
    assign : Goal → (colon_equal : ℕ) → Expr → Statement

  pub data Statements : Type 0 where
    no_statement : Statements
    statements : Statement → Statements → Statements
