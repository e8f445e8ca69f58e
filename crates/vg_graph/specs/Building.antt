-- How the nodes of a tree are made: one step after another, without recursion.
use Rattle.std.specs.Prelude.{◌≡◌, ℕ, ◌+◌, ◌*◌, List, [], ◌∷◌, ◌++◌, map, sum_by, Some, None, IsTrue}
use Rattle.vg_isa.specs.declared.isa.Parts.{Parts}
use Rattle.vg_isa.specs.declared.expr.Expr.{Expr, fold-Expr, out-Expr}
use Rattle.vg_isa.specs.declared.expr.Expr.TheOpen.{Expr-F}
use Rattle.vg_isa.specs.Typing.{is_typed}
use Rattle.vg_graph.specs.declared.operator.Op.{Op}
use Rattle.vg_graph.specs.declared.operator.Op.TheVariants as op
use Rattle.vg_graph.specs.declared.task.Task.{Task}
use Rattle.vg_graph.specs.declared.task.Task.TheVariants.{Enter, Leave}
use Rattle.vg_graph.specs.declared.node.Node.{Node}
use Rattle.vg_graph.specs.Node.{operands_in}
use Rattle.vg_graph.specs.Tree.{IsTree}
use Rattle.vg_graph.specs.Graph.{GraphValue, IsShared}

-- a tree to go into, or one whose operands have their nodes
pub data Step : Type 0 where
  enter : Expr → Step
  leave : Expr → Step

abbrev pub step_of : Task → Step
step_of (Enter e) = enter e.now
step_of (Leave e) = leave e.now

-- the tasks of a stack from its top on
abbrev pub from_top : List Task → List Step → List Step
from_top [] steps = steps
from_top (task ∷ tasks) steps = from_top tasks (step_of task ∷ steps)

-- the operands of a tree, in order
abbrev pub operands_of : Expr → List Expr
operands_of e = operands_in (out-Expr e)

-- to go into the operands of a tree, in order, and then to make its node
abbrev pub entering : Expr → List Step
entering e = map enter (operands_of e) ++ leave e ∷ []

-- where these trees have their nodes, the steps leave those of these trees
abbrev pub IsReady : List Step → List Expr → List Expr → Type 0
IsReady [] done out = done ≡ out
IsReady (enter e ∷ steps) done out = IsReady steps (done ++ e ∷ []) out
IsReady (leave e ∷ steps) done out = (rest : List Expr) × (done ≡ rest ++ operands_of e) × IsReady steps (rest ++ e ∷ []) out

-- the trees stand at the nodes, one by one
abbrev pub StandAll : List Node → List ℕ → List Expr → Type 0
StandAll nodes [] [] = Unit {0}
StandAll nodes (n ∷ ns) (e ∷ es) = IsTree nodes n e × StandAll nodes ns es
StandAll nodes [] (e ∷ es) = ⊥
StandAll nodes (n ∷ ns) [] = ⊥

-- the trees of the steps are typed
abbrev pub AreTyped : Parts → List Step → Type 0
AreTyped d [] = Unit {0}
AreTyped d (enter e ∷ steps) = IsTrue (is_typed d e) × AreTyped d steps
AreTyped d (leave e ∷ steps) = IsTrue (is_typed d e) × AreTyped d steps

-- how many nodes a tree has
abbrev pub size_of : Expr → ℕ
size_of e = fold-Expr ℕ (λ (x : Expr-F ℕ). 1 + sum_by (λ (n : ℕ). n) (operands_in x)) e

-- how much is left to do
abbrev pub weight_of : List Step → ℕ
weight_of [] = 0
weight_of (enter e ∷ steps) = 2 * size_of e + weight_of steps
weight_of (leave e ∷ steps) = 1 + weight_of steps

-- the operator of one level of a tree
abbrev pub op_in : {X : Type 0} → Expr-F X → Op
op_in (Expr-F.Const b) = op.Const b
op_in (Expr-F.Field f) = op.Field f
op_in Expr-F.Pc = op.Pc
op_in (Expr-F.Reg r i) = op.Reg r
op_in (Expr-F.Mem a bytes) = op.Mem bytes
op_in (Expr-F.Unary o a) = op.Unary o
op_in (Expr-F.Binary o a b) = op.Binary o
op_in (Expr-F.Cast o width a) = op.Cast o width
op_in (Expr-F.Slice a high low) = op.Slice high low
op_in (Expr-F.Join a b) = op.Join
op_in (Expr-F.If c a b) = op.If

-- the graph with more nodes, and no two the same if that was so
pub record Extends (old new : GraphValue) : Type 0 where
  pub more : List Node
  pub isa : new.isa ≡ old.isa
  pub nodes : new.nodes ≡ old.nodes ++ more
  pub shared : IsShared old → IsShared new
