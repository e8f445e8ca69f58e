-- One level of a tree, and the node that it makes.
use Rattle.std.proofs.Common.{◌≡◌, ℕ, Option, Some, None, refl, sym, ap, ◌∙◌, map}
use Rattle.std.proofs.lemmas.Option.{same_Some}
use Rattle.vg_isa.specs.declared.expr.Expr.{Expr, fold-Expr, fold-roll-Expr, map-Expr, roll-Expr}
use Rattle.vg_isa.specs.declared.expr.Expr.TheOpen.{Expr-F}
use Rattle.vg_graph.specs.declared.operands.Operands.{Operands}
use Rattle.vg_graph.specs.declared.operands.Operands.TheVariants.{Zero, One, Two, Three}
use Rattle.vg_graph.specs.declared.operator.Op.{Op}
use Rattle.vg_graph.specs.declared.operator.Op.TheVariants as op
use Rattle.vg_graph.specs.declared.node.Node.{Node}
use Rattle.vg_graph.specs.Node.{IsIn, args_of, node_of, operands_in}
use Rattle.vg_graph.specs.Replaced.{renamed, renamed_node}

-- the level of a node
abbrev level_at : Op → Operands → Option (Expr-F ℕ)
level_at (op.Const b) Zero = Some (Expr-F.Const b)
level_at (op.Field f) Zero = Some (Expr-F.Field f)
level_at op.Pc Zero = Some Expr-F.Pc
level_at (op.Reg r) Zero = Some (Expr-F.Reg r None)
level_at (op.Reg r) (One i) = Some (Expr-F.Reg r (Some i))
level_at (op.Mem bytes) (One a) = Some (Expr-F.Mem a bytes)
level_at (op.Unary o) (One a) = Some (Expr-F.Unary o a)
level_at (op.Binary o) (Two a b) = Some (Expr-F.Binary o a b)
level_at (op.Cast o width) (One a) = Some (Expr-F.Cast o width a)
level_at (op.Slice high low) (One a) = Some (Expr-F.Slice a high low)
level_at op.Join (Two a b) = Some (Expr-F.Join a b)
level_at op.If (Three c a b) = Some (Expr-F.If c a b)
level_at _ _ = None

abbrev level_of : Node → Option (Expr-F ℕ)
level_of node = level_at node.op node.args

level_of-node : (x : Expr-F ℕ) → level_of (node_of x) ≡ Some x
level_of-node (Expr-F.Const b) = refl
level_of-node (Expr-F.Field f) = refl
level_of-node Expr-F.Pc = refl
level_of-node (Expr-F.Reg r None) = refl
level_of-node (Expr-F.Reg r (Some i)) = refl
level_of-node (Expr-F.Mem a bytes) = refl
level_of-node (Expr-F.Unary o a) = refl
level_of-node (Expr-F.Binary o a b) = refl
level_of-node (Expr-F.Cast o width a) = refl
level_of-node (Expr-F.Slice a high low) = refl
level_of-node (Expr-F.Join a b) = refl
level_of-node (Expr-F.If c a b) = refl

-- a node is that of one level at most
pub node_of-same : (x y : Expr-F ℕ) → node_of x ≡ node_of y → x ≡ y
node_of-same x y h = same_Some x y (sym (level_of-node x) ∙ ap level_of h ∙ level_of-node y)

-- the operands of a level are those of its node
pub args_of-node : (x : Expr-F ℕ) → args_of (node_of x) ≡ operands_in x
args_of-node (Expr-F.Const b) = refl
args_of-node (Expr-F.Field f) = refl
args_of-node Expr-F.Pc = refl
args_of-node (Expr-F.Reg r None) = refl
args_of-node (Expr-F.Reg r (Some i)) = refl
args_of-node (Expr-F.Mem a bytes) = refl
args_of-node (Expr-F.Unary o a) = refl
args_of-node (Expr-F.Binary o a b) = refl
args_of-node (Expr-F.Cast o width a) = refl
args_of-node (Expr-F.Slice a high low) = refl
args_of-node (Expr-F.Join a b) = refl
args_of-node (Expr-F.If c a b) = refl

-- a level over two things that are equal at each operand
pub map_same : (X : Type 0) (x : Expr-F ℕ) (f g : ℕ → X) → ((k : ℕ) → IsIn (operands_in x) k → f k ≡ g k) → map-Expr ℕ X f x ≡ map-Expr ℕ X g x
map_same X (Expr-F.Const b) f g h = refl
map_same X (Expr-F.Field n) f g h = refl
map_same X Expr-F.Pc f g h = refl
map_same X (Expr-F.Reg r None) f g h = refl
map_same X (Expr-F.Reg r (Some i)) f g h = λ j. Expr-F.Reg r (Some (h i (0, refl) j))
map_same X (Expr-F.Mem a bytes) f g h = λ j. Expr-F.Mem (h a (0, refl) j) bytes
map_same X (Expr-F.Unary o a) f g h = λ j. Expr-F.Unary o (h a (0, refl) j)
map_same X (Expr-F.Binary o a b) f g h = λ j. Expr-F.Binary o (h a (0, refl) j) (h b (1, refl) j)
map_same X (Expr-F.Cast o width a) f g h = λ j. Expr-F.Cast o width (h a (0, refl) j)
map_same X (Expr-F.Slice a high low) f g h = λ j. Expr-F.Slice (h a (0, refl) j) high low
map_same X (Expr-F.Join a b) f g h = λ j. Expr-F.Join (h a (0, refl) j) (h b (1, refl) j)
map_same X (Expr-F.If c a b) f g h = λ j. Expr-F.If (h c (0, refl) j) (h a (1, refl) j) (h b (2, refl) j)

-- a level over what comes of each operand by two steps
pub map_map : (X Y : Type 0) (x : Expr-F ℕ) (f : ℕ → X) (g : X → Y) → map-Expr X Y g (map-Expr ℕ X f x) ≡ map-Expr ℕ Y (λ (k : ℕ). g (f k)) x
map_map X Y (Expr-F.Const b) f g = refl
map_map X Y (Expr-F.Field n) f g = refl
map_map X Y Expr-F.Pc f g = refl
map_map X Y (Expr-F.Reg r None) f g = refl
map_map X Y (Expr-F.Reg r (Some i)) f g = refl
map_map X Y (Expr-F.Mem a bytes) f g = refl
map_map X Y (Expr-F.Unary o a) f g = refl
map_map X Y (Expr-F.Binary o a b) f g = refl
map_map X Y (Expr-F.Cast o width a) f g = refl
map_map X Y (Expr-F.Slice a high low) f g = refl
map_map X Y (Expr-F.Join a b) f g = refl
map_map X Y (Expr-F.If c a b) f g = refl

-- a level over its own operands
pub map_id : (x : Expr-F ℕ) → map-Expr ℕ ℕ (λ k. k) x ≡ x
map_id (Expr-F.Const b) = refl
map_id (Expr-F.Field n) = refl
map_id Expr-F.Pc = refl
map_id (Expr-F.Reg r None) = refl
map_id (Expr-F.Reg r (Some i)) = refl
map_id (Expr-F.Mem a bytes) = refl
map_id (Expr-F.Unary o a) = refl
map_id (Expr-F.Binary o a b) = refl
map_id (Expr-F.Cast o width a) = refl
map_id (Expr-F.Slice a high low) = refl
map_id (Expr-F.Join a b) = refl
map_id (Expr-F.If c a b) = refl

-- the operands of a changed level
pub operands_in-map : (X : Type 0) (x : Expr-F ℕ) (f : ℕ → X) → operands_in (map-Expr ℕ X f x) ≡ map f (operands_in x)
operands_in-map X (Expr-F.Const b) f = refl
operands_in-map X (Expr-F.Field n) f = refl
operands_in-map X Expr-F.Pc f = refl
operands_in-map X (Expr-F.Reg r None) f = refl
operands_in-map X (Expr-F.Reg r (Some i)) f = refl
operands_in-map X (Expr-F.Mem a bytes) f = refl
operands_in-map X (Expr-F.Unary o a) f = refl
operands_in-map X (Expr-F.Binary o a b) f = refl
operands_in-map X (Expr-F.Cast o width a) f = refl
operands_in-map X (Expr-F.Slice a high low) f = refl
operands_in-map X (Expr-F.Join a b) f = refl
operands_in-map X (Expr-F.If c a b) f = refl

-- the node of a level with one number in place of another
pub node_of-renamed : (old new : ℕ) (x : Expr-F ℕ) → node_of (map-Expr ℕ ℕ (renamed old new) x) ≡ renamed_node old new (node_of x)
node_of-renamed old new (Expr-F.Const b) = refl
node_of-renamed old new (Expr-F.Field n) = refl
node_of-renamed old new Expr-F.Pc = refl
node_of-renamed old new (Expr-F.Reg r None) = refl
node_of-renamed old new (Expr-F.Reg r (Some i)) = refl
node_of-renamed old new (Expr-F.Mem a bytes) = refl
node_of-renamed old new (Expr-F.Unary o a) = refl
node_of-renamed old new (Expr-F.Binary o a b) = refl
node_of-renamed old new (Expr-F.Cast o width a) = refl
node_of-renamed old new (Expr-F.Slice a high low) = refl
node_of-renamed old new (Expr-F.Join a b) = refl
node_of-renamed old new (Expr-F.If c a b) = refl

-- what a fold makes of a level over trees
pub fold_level : (A : Type 0) (step : Expr-F A → A) (x : Expr-F ℕ) (tree : ℕ → Expr) → fold-Expr A step (roll-Expr (map-Expr ℕ Expr tree x)) ≡ step (map-Expr ℕ A (λ (k : ℕ). fold-Expr A step (tree k)) x)
fold_level A step x tree = fold-roll-Expr A step (map-Expr ℕ Expr tree x) ∙ ap step (map_map Expr A x tree (fold-Expr A step))
