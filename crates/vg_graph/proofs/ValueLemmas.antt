-- The value of a node is that of its tree.
use Rattle.std.proofs.Common.{◌≡◌, ℕ, List, Some, sym, ap, ◌∙◌, subst}
use Rattle.std.specs.Prelude.{slice_get}
use Rattle.std.proofs.lemmas.Option.{same_Some}
use Rattle.vg_bits.specs.BitValue.{BitValue}
use Rattle.vg_isa.specs.declared.isa.Parts.{Parts}
use Rattle.vg_isa.specs.declared.expr.Expr.{Expr, map-Expr, roll-Expr}
use Rattle.vg_isa.specs.declared.expr.Expr.TheOpen.{Expr-F}
use Rattle.vg_isa.specs.Value.{Reads, value_of, value_step}
use Rattle.vg_graph.specs.declared.node.Node.{Node}
use Rattle.vg_graph.specs.Node.{IsIn, node_of, operands_in}
use Rattle.vg_graph.specs.NodeValue.{HasValue, worth}
use Rattle.vg_graph.specs.Tree.{IsTree, over}
use Rattle.vg_graph.proofs.LevelLemmas.{fold_level, map_same, node_of-same}
use Rattle.vg_graph.proofs.TreeLemmas.{level_of_tree}

module _ (d : Parts) (nodes : List Node) (word : ℕ) (s : Reads) where
  pub tree_worth : (n : ℕ) (e : Expr) → IsTree nodes n e → HasValue d nodes word s n (value_of d e word s)
  tree_worth _ _ (over n x tree at below) =
      subst (λ (v : BitValue). HasValue d nodes word s n v) (sym (fold_level BitValue (value_step d word s) x tree))
      (worth n x (λ (k : ℕ). value_of d (tree k) word s) at (λ k among. tree_worth k (tree k) (below k among)))

  pub worth_tree : (n : ℕ) (v : BitValue) (e : Expr) → HasValue d nodes word s n v → IsTree nodes n e → v ≡ value_of d e word s
  worth_tree _ _ e (worth n x value at below) stands =
      let l = level_of_tree nodes n e stands in
      let one : x ≡ l.level = node_of-same x l.level (same_Some (node_of x) (node_of l.level) (sym at ∙ l.at)) in
      let values : map-Expr ℕ BitValue value x ≡ map-Expr ℕ BitValue (λ (k : ℕ). value_of d (l.tree k) word s) x =
      map_same BitValue x value (λ (k : ℕ). value_of d (l.tree k) word s) (λ k among. worth_tree k (value k) (l.tree k) (below k among) (l.below k (subst (λ (y : Expr-F ℕ). IsIn (operands_in y) k) one among))) in
      ap (value_step d word s) (values ∙ ap (λ (y : Expr-F ℕ). map-Expr ℕ BitValue (λ (k : ℕ). value_of d (l.tree k) word s) y) one)
      ∙ sym (fold_level BitValue (value_step d word s) l.level l.tree)
      ∙ ap (λ (t : Expr). value_of d t word s) (sym l.is)
