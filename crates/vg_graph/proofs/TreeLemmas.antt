-- The trees at the nodes of a graph.
use Rattle.std.proofs.Common.{◌≡◌, ◌≢◌, ℕ, zero, suc, ◌<◌, ◌≤◌, ◌⊎◌, inl, inr, IsTrue, true, false, eqb, List, [], ◌∷◌, ◌++◌, length, Some, refl, sym, ap, ◌∙◌, subst, arith}
use Rattle.std.specs.Prelude.{slice_get}
use Rattle.std.proofs.lemmas.Bool.{cases_lt}
use Rattle.std.proofs.lemmas.Bool.Decides.{eqb_tells}
use Rattle.std.proofs.lemmas.List.{length-append}
use Rattle.std.proofs.lemmas.Option.{slice_get_within, same_Some}
use Rattle.vg_isa.specs.declared.isa.Parts.{Parts}
use Rattle.vg_isa.specs.declared.expr.Expr.{Expr, map-Expr, roll-Expr}
use Rattle.vg_isa.specs.declared.expr.Expr.TheOpen.{Expr-F}
use Rattle.vg_isa.specs.declared.expr.Expr.TheVariants.{Pc}
use Rattle.vg_isa.specs.Typing.{is_typed}
use Rattle.vg_graph.specs.declared.node.Node.{Node}
use Rattle.vg_graph.specs.Node.{AllBelow, IsIn, node_of, operands_in}
use Rattle.vg_graph.specs.Tree.{IsTree, over, HaveTrees}
use Rattle.vg_graph.proofs.Gets.{gets-append_left, gets-end}
use Rattle.vg_graph.proofs.LevelLemmas.{node_of-same, map_same}

-- what stands at a node that has a tree
pub record IsLevel (nodes : List Node) (n : ℕ) (e : Expr) : Type 0 where
  pub level : Expr-F ℕ
  pub tree : ℕ → Expr
  pub at : slice_get nodes n ≡ Some (node_of level)
  pub below : (k : ℕ) → IsIn (operands_in level) k → IsTree nodes k (tree k)
  pub is : e ≡ roll-Expr (map-Expr ℕ Expr tree level)

pub level_of_tree : (nodes : List Node) (n : ℕ) (e : Expr) → IsTree nodes n e → IsLevel nodes n e
level_of_tree nodes _ _ (over n x tree at below) = record { level = x; tree = tree; at = at; below = below; is = refl }

-- a node with a tree is one of the nodes
pub tree_within : (nodes : List Node) (n : ℕ) (e : Expr) → IsTree nodes n e → n < length nodes
tree_within nodes n e stands = let l = level_of_tree nodes n e stands in slice_get_within nodes n (node_of l.level) l.at

-- a node has one tree
pub tree_unique : (nodes : List Node) (n : ℕ) (e f : Expr) → IsTree nodes n e → IsTree nodes n f → e ≡ f
tree_unique nodes _ _ f (over n x tree at below) other =
    let l = level_of_tree nodes n f other in
    let same : x ≡ l.level = node_of-same x l.level (same_Some (node_of x) (node_of l.level) (sym at ∙ l.at)) in
    let trees : map-Expr ℕ Expr tree x ≡ map-Expr ℕ Expr l.tree x =
    map_same Expr x tree l.tree (λ k among. tree_unique nodes k (tree k) (l.tree k) (below k among) (l.below k (subst (λ (y : Expr-F ℕ). IsIn (operands_in y) k) same among))) in
    ap roll-Expr (trees ∙ ap (λ (y : Expr-F ℕ). map-Expr ℕ Expr l.tree y) same) ∙ sym l.is

-- a tree stays with more nodes
pub tree_stays : (nodes more : List Node) (n : ℕ) (e : Expr) → IsTree nodes n e → IsTree (nodes ++ more) n e
tree_stays nodes more _ _ (over n x tree at below) = over n x tree (gets-append_left nodes more n (node_of x) at) (λ k among. tree_stays nodes more k (tree k) (below k among))

-- a tree for each node
pub record IsForest (d : Parts) (nodes : List Node) : Type 0 where
  pub tree : ℕ → Expr
  pub stands : (n : ℕ) → n < length nodes → IsTree nodes n (tree n)
  pub typed : (n : ℕ) → n < length nodes → IsTrue (is_typed d (tree n))

pub forest : (d : Parts) (nodes : List Node) → HaveTrees d nodes → IsForest d nodes
forest d nodes have = record {
  tree = λ n. pick n (cases_lt n (length nodes));
  stands = λ n below. stands n below (cases_lt n (length nodes));
  typed = λ n below. typed n below (cases_lt n (length nodes));
}
  where
    pick : (n : ℕ) → (n < length nodes) ⊎ (length nodes ≤ n) → Expr
    pick n (inl below) = (have n below).tree
    pick n (inr past) = Pc

    stands : (n : ℕ) → n < length nodes → (w : (n < length nodes) ⊎ (length nodes ≤ n)) → IsTree nodes n (pick n w)
    stands n below (inl b) = (have n b).stands
    stands n below (inr past) = absurd (omega arith)

    typed : (n : ℕ) → n < length nodes → (w : (n < length nodes) ⊎ (length nodes ≤ n)) → IsTrue (is_typed d (pick n w))
    typed n below (inl b) = (have n b).typed
    typed n below (inr past) = absurd (omega arith)

-- a tree for each number of a list
pub choose : (P : ℕ → Expr → Type 0) (ks : List ℕ) → ((k : ℕ) → IsIn ks k → (e : Expr) × P k e) → (tree : ℕ → Expr) × ((k : ℕ) → IsIn ks k → P k (tree k))
choose P [] each = ((λ k. Pc), λ k among. absurd (nothing k among))
  where
    nothing : (k : ℕ) → IsIn {X = ℕ} [] k → ⊥
    nothing k among = let at : slice_get {X = ℕ} [] among.0 ≡ Some k = among.1 in cc
choose P (n ∷ ks) each =
    let rest = choose P ks (λ k among. each k (suc among.0, among.1)) in
    ((λ k. pick rest.0 k (eqb_tells k n)), λ k among. holds rest.0 rest.1 k among (eqb_tells k n))
  where
    first : (e : Expr) × P n e
    first = each n (0, refl)

    pick : (ℕ → Expr) → (k : ℕ) → ((eqb k n ≡ true) × (k ≡ n)) ⊎ ((eqb k n ≡ false) × (k ≢ n)) → Expr
    pick tree k (inl w) = first.0
    pick tree k (inr w) = tree k

    holds : (tree : ℕ → Expr) → ((k : ℕ) → IsIn ks k → P k (tree k)) → (k : ℕ) → IsIn (n ∷ ks) k → (w : ((eqb k n ≡ true) × (k ≡ n)) ⊎ ((eqb k n ≡ false) × (k ≢ n))) → P k (pick tree k w)
    holds tree rest k among (inl w) = subst (λ (m : ℕ). P m first.0) (sym w.1) first.1
    holds tree rest k (zero, at) (inr w) = absurd (let same : n ≡ k = cc in w.1 (sym same))
    holds tree rest k (suc place, at) (inr w) = rest k (place, at)

-- the nodes with one more, which has a tree
pub trees_more :
    (d : Parts) (nodes : List Node) (level : Expr-F ℕ)
    → HaveTrees d nodes
    → ((k : ℕ) → IsIn (operands_in level) k → k < length nodes)
    → ((tree : ℕ → Expr) → ((k : ℕ) → IsIn (operands_in level) k → IsTree nodes k (tree k)) → IsTrue (is_typed d (roll-Expr (map-Expr ℕ Expr tree level))))
    → HaveTrees d (nodes ++ node_of level ∷ [])
trees_more d nodes level have within typed n below = elim (cases_lt n (length nodes)) [
  | inl before ↦ record { tree = (have n before).tree; stands = tree_stays nodes (node_of level ∷ []) n (have n before).tree (have n before).stands; typed = (have n before).typed }
  | inr past ↦
      let last : n ≡ length nodes = omega (arith, length-append nodes (node_of level ∷ [])) in
      let all = forest d nodes have in
      record {
        tree = roll-Expr (map-Expr ℕ Expr all.tree level);
        stands =
            subst (λ (m : ℕ). IsTree (nodes ++ node_of level ∷ []) m (roll-Expr (map-Expr ℕ Expr all.tree level))) (sym last)
            (over (length nodes) level all.tree (gets-end nodes (node_of level)) (λ k among. tree_stays nodes (node_of level ∷ []) k (all.tree k) (all.stands k (within k among))));
        typed = typed all.tree (λ k among. all.stands k (within k among));
      }
]

-- each number of a list below a bound is below it
pub below_each : (bound : ℕ) (ks : List ℕ) → AllBelow bound ks → (k : ℕ) → IsIn ks k → k < bound
below_each bound [] all k (place, at) = absurd (let h : slice_get {X = ℕ} [] place ≡ Some k = at in cc)
below_each bound (x ∷ ks) all k (zero, at) = let same : x ≡ k = cc in subst (λ (m : ℕ). m < bound) same all.0
below_each bound (x ∷ ks) all k (suc place, at) = below_each bound ks all.1 k (place, at)
