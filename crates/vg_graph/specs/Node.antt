-- The nodes of a graph: an operator, and the numbers of its operands.
use Rattle.std.specs.Prelude.{◌≡◌, ℕ, ◌<◌, List, [], ◌∷◌, Some, None, slice_get}
use Rattle.vg_isa.specs.declared.expr.Expr.TheOpen.{Expr-F}
use Rattle.vg_graph.specs.declared.operands.Operands.{Operands}
use Rattle.vg_graph.specs.declared.operands.Operands.TheVariants.{Zero, One, Two, Three}
use Rattle.vg_graph.specs.declared.operator.Op.TheVariants as op
use Rattle.vg_graph.specs.declared.node.Node.{Node}

-- x is one of a list
abbrev pub IsIn : {X : Type 0} → List X → X → Type 0
IsIn xs x = (place : ℕ) × (slice_get xs place ≡ Some x)

-- the numbers of operands, in order
abbrev pub numbers_of : Operands → List ℕ
numbers_of Zero = []
numbers_of (One a) = a ∷ []
numbers_of (Two a b) = a ∷ b ∷ []
numbers_of (Three a b c) = a ∷ b ∷ c ∷ []

-- the numbers of a node's operands, in order
abbrev pub args_of : Node → List ℕ
args_of node = numbers_of node.args

-- the operands of one level of a tree, in order
abbrev pub operands_in : {X : Type 0} → Expr-F X → List X
operands_in (Expr-F.Const b) = []
operands_in (Expr-F.Field f) = []
operands_in Expr-F.Pc = []
operands_in (Expr-F.Reg r None) = []
operands_in (Expr-F.Reg r (Some i)) = i ∷ []
operands_in (Expr-F.Mem a bytes) = a ∷ []
operands_in (Expr-F.Unary o a) = a ∷ []
operands_in (Expr-F.Binary o a b) = a ∷ b ∷ []
operands_in (Expr-F.Cast o width a) = a ∷ []
operands_in (Expr-F.Slice a high low) = a ∷ []
operands_in (Expr-F.Join a b) = a ∷ b ∷ []
operands_in (Expr-F.If c a b) = c ∷ a ∷ b ∷ []

-- the node of one level of a tree whose operands are numbers of nodes
abbrev pub node_of : Expr-F ℕ → Node
node_of (Expr-F.Const b) = record { op = op.Const b; args = Zero }
node_of (Expr-F.Field f) = record { op = op.Field f; args = Zero }
node_of Expr-F.Pc = record { op = op.Pc; args = Zero }
node_of (Expr-F.Reg r None) = record { op = op.Reg r; args = Zero }
node_of (Expr-F.Reg r (Some i)) = record { op = op.Reg r; args = One i }
node_of (Expr-F.Mem a bytes) = record { op = op.Mem bytes; args = One a }
node_of (Expr-F.Unary o a) = record { op = op.Unary o; args = One a }
node_of (Expr-F.Binary o a b) = record { op = op.Binary o; args = Two a b }
node_of (Expr-F.Cast o width a) = record { op = op.Cast o width; args = One a }
node_of (Expr-F.Slice a high low) = record { op = op.Slice high low; args = One a }
node_of (Expr-F.Join a b) = record { op = op.Join; args = Two a b }
node_of (Expr-F.If c a b) = record { op = op.If; args = Three c a b }

-- each of these numbers is below a bound
abbrev pub AllBelow : ℕ → List ℕ → Type 0
AllBelow bound [] = Unit {0}
AllBelow bound (x ∷ xs) = (x < bound) × AllBelow bound xs
