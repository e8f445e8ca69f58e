-- What the tests ask for: nodes without operands, and where their users stand.
use Rattle.std.proofs.Common.{◌≡◌, ℕ, zero, suc, ◌+◌, ◌<◌, List, [], length, slice_get, Option, Some, None, refl, sym, ap, ◌∙◌, subst, arith}
use Rattle.std.proofs.lemmas.Option.{same_Some, slice_get_within}
use Rattle.vg_bits.specs.BitValue.{BitValue}
use Rattle.vg_isa.specs.declared.isa.Parts.{Parts}
use Rattle.vg_isa.specs.declared.expr.Expr.{Expr, fold-roll-Expr, map-Expr, roll-Expr}
use Rattle.vg_isa.specs.declared.expr.Expr.TheOpen.{Expr-F}
use Rattle.vg_isa.specs.Typing.{Typing, typing_step, width_of}
use Rattle.vg_graph.specs.declared.node.Node.{Node}
use Rattle.vg_graph.specs.declared.operator.Op.TheVariants as op
use Rattle.vg_graph.specs.declared.operands.Operands.TheVariants.{Zero}
use Rattle.vg_graph.specs.Node.{IsIn, args_of, node_of}
use Rattle.vg_graph.specs.Tree.{IsOperand, IsTree, Uses, itself, through}
use Rattle.vg_graph.specs.Graph.{AreExact, GraphValue, IsFit, edges_of, operand_at, target_of, users_at}
use Rattle.std.specs.Option.{option_and_then}
use Rattle.vg_graph.proofs.LevelLemmas.{node_of-same}
use Rattle.vg_graph.proofs.TreeLemmas.{level_of_tree}

-- the width of the tree at a node without operands
leaf_width : (d : Parts) (nodes : List Node) (n : ℕ) (e : Expr) (x : Expr-F ℕ) → slice_get nodes n ≡ Some (node_of x) → IsTree nodes n e
    → (tree : ℕ → Expr) × (e ≡ roll-Expr (map-Expr ℕ Expr tree x))
leaf_width d nodes n e x at stands =
    let l = level_of_tree nodes n e stands in
    let same : l.level ≡ x = node_of-same l.level x (same_Some (node_of l.level) (node_of x) (sym l.at ∙ at)) in
    (l.tree, l.is ∙ ap (λ (y : Expr-F ℕ). roll-Expr (map-Expr ℕ Expr l.tree y)) same)

pub pc_width : (d : Parts) (nodes : List Node) (n : ℕ) (e : Expr) → slice_get nodes n ≡ Some (record { op = op.Pc; args = Zero }) → IsTree nodes n e → width_of d e ≡ d.pc.width
pc_width d nodes n e at stands =
    let is = leaf_width d nodes n e Expr-F.Pc at stands in
    ap (width_of d) is.1 ∙ ap (λ (t : Typing). t.width) (fold-roll-Expr Typing (typing_step d) Expr-F.Pc)

pub const_width : (d : Parts) (nodes : List Node) (n : ℕ) (e : Expr) (b : BitValue) → slice_get nodes n ≡ Some (record { op = op.Const b; args = Zero }) → IsTree nodes n e → width_of d e ≡ b.width
const_width d nodes n e b at stands =
    let is = leaf_width d nodes n e (Expr-F.Const b) at stands in
    ap (width_of d) is.1 ∙ ap (λ (t : Typing). t.width) (fold-roll-Expr Typing (typing_step d) (Expr-F.Const b))

-- a constant uses nothing
pub const_uses_nothing : (nodes : List Node) (m n : ℕ) (b : BitValue) → slice_get nodes n ≡ Some (record { op = op.Const b; args = Zero }) → ¬ Uses nodes m n
const_uses_nothing nodes m n b at uses = go n uses at
  where
    nothing : (k n : ℕ) → slice_get nodes n ≡ Some (record { op = op.Const b; args = Zero }) → IsOperand nodes k n → ⊥
    nothing k n at operand =
        let same : operand.node ≡ record { op = op.Const b; args = Zero } = same_Some operand.node (record { op = op.Const b; args = Zero }) (sym operand.stands ∙ at) in
        let among : IsIn {X = ℕ} [] k = subst (λ (node : Node). IsIn (args_of node) k) same operand.among in
        let here : slice_get {X = ℕ} [] among.0 ≡ Some k = among.1 in
        cc

    go : (n : ℕ) → Uses nodes m n → slice_get nodes n ≡ Some (record { op = op.Const b; args = Zero }) → ⊥
    go n (itself _ operand) at = nothing m n at operand
    go n (through _ k operand rest) at = nothing k n at operand

-- the program counter fits each graph
pub pc_fits : (g : GraphValue) → IsFit g (record { op = op.Pc; args = Zero })
pc_fits g = record {
  level = Expr-F.Pc;
  is = refl;
  within = tt;
  typed = λ tree stands. ap (λ (t : Typing). t.is_typed) (fold-roll-Expr Typing (typing_step g.isa) Expr-F.Pc);
}

-- an edge in the list of a node is one of the edges
pub edge_within : (nodes : List Node) (users : List (List ℕ)) (n e place : ℕ) → AreExact nodes users → slice_get (users_at users n) place ≡ Some e → e < length (edges_of nodes)
edge_within nodes users n e place exact at = go (slice_get (edges_of nodes) e) refl ((exact n e).0 (place, at))
  where
    go : (o : Option (ℕ × ℕ)) → slice_get (edges_of nodes) e ≡ o → target_of nodes e ≡ Some n → e < length (edges_of nodes)
    go (Some p) eq t = slice_get_within (edges_of nodes) e p eq
    go None eq t = absurd (none (sym (ap (option_and_then (operand_at nodes)) eq) ∙ t))
      where
        none : None ≡ Some n → ⊥
        none h = cc
