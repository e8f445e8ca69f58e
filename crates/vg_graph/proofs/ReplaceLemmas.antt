-- The trees of a graph in which all users of a node use another one.
use Rattle.std.proofs.Common.{◌≡◌, ◌≢◌, ℕ, inl, inr, List, map, Option, Some, None, refl, sym, ap, ◌∙◌, subst}
use Rattle.std.specs.Prelude.{slice_get}
use Rattle.std.proofs.lemmas.Bool.Decides.{eqb_tells}
use Rattle.std.proofs.lemmas.Option.{slice_get-map}
use Rattle.std.specs.Option.{option_map}
use Rattle.vg_bits.specs.BitValue.{BitValue}
use Rattle.vg_isa.specs.declared.isa.Parts.{Parts}
use Rattle.vg_isa.specs.declared.expr.Expr.{Expr, fold-Expr, map-Expr, roll-Expr}
use Rattle.vg_isa.specs.declared.expr.Expr.TheOpen.{Expr-F}
use Rattle.vg_isa.specs.Typing.{Typing, typing_of, typing_step}
use Rattle.vg_isa.specs.Value.{Reads, value_of, value_step}
use Rattle.vg_graph.specs.declared.node.Node.{Node}
use Rattle.vg_graph.specs.Node.{IsIn, node_of, operands_in}
use Rattle.vg_graph.specs.Tree.{IsTree, over, IsOperand, Uses, itself, through}
use Rattle.vg_graph.specs.Replaced.{renamed, renamed_node}
use Rattle.vg_graph.proofs.LevelLemmas.{map_id, args_of-node, map_same, map_map, operands_in-map, node_of-renamed, fold_level}
use Rattle.vg_graph.proofs.TreeLemmas.{tree_unique, choose}

-- ---- operands

-- an operand of a level is one of its node
pub operand_of_level : (nodes : List Node) (n k : ℕ) (x : Expr-F ℕ) → slice_get nodes n ≡ Some (node_of x) → IsIn (operands_in x) k → IsOperand nodes k n
operand_of_level nodes n k x at among = record { node = node_of x; stands = at; among = subst (λ (ks : List ℕ). IsIn ks k) (sym (args_of-node x)) among }

pub renamed_other : (old new k : ℕ) → k ≢ old → renamed old new k ≡ k
renamed_other old new k differ = elim (eqb_tells k old) [
  | inl (_, same) ↦ absurd (differ same)
  | inr (test, _) ↦ rw test refl
]

pub renamed_old : (old new : ℕ) → renamed old new old ≡ new
renamed_old old new = elim (eqb_tells old old) [
  | inl (test, _) ↦ rw test refl
  | inr (_, differ) ↦ absurd (differ refl)
]

-- the node at a number, with the new operand
renamed_at : (old new : ℕ) (nodes : List Node) (n : ℕ) (x : Expr-F ℕ) → slice_get nodes n ≡ Some (node_of x) → slice_get (map (renamed_node old new) nodes) n ≡ Some (node_of (map-Expr ℕ ℕ (renamed old new) x))
renamed_at old new nodes n x at = slice_get-map (renamed_node old new) nodes n ∙ ap (λ o. option_map (renamed_node old new) o) at ∙ ap Some (sym (node_of-renamed old new x))

In-mapped : (f : ℕ → ℕ) (ks : List ℕ) (k : ℕ) → IsIn (map f ks) k → (j : ℕ) × IsIn ks j × (k ≡ f j)
In-mapped f ks k among = found (slice_get ks among.0) refl (sym (slice_get-map f ks among.0) ∙ among.1)
  where
    found : (o : Option ℕ) → slice_get ks among.0 ≡ o → option_map f o ≡ Some k → (j : ℕ) × IsIn ks j × (k ≡ f j)
    found None at is = absurd (none is)
      where
        none : option_map f None ≡ Some k → ⊥
        none h = cc
    found (Some j) at is = (j, (among.0, at), sym (same is))
      where
        same : option_map f (Some j) ≡ Some k → f j ≡ k
        same h = cc

In-map : (f : ℕ → ℕ) (ks : List ℕ) (k : ℕ) → IsIn ks k → IsIn (map f ks) (f k)
In-map f ks k among = (among.0, slice_get-map f ks among.0 ∙ ap (λ (o : Option ℕ). option_map f o) among.1)

module _ (d : Parts) (old new : ℕ) (nodes : List Node) where
  abbrev pub after : List Node
  after = map (renamed_node old new) nodes

  -- the tree at a node that is not the old one and doesn't use it stays
  tree_apart : (n : ℕ) (e : Expr) → IsTree nodes n e → ¬ Uses nodes old n → IsTree after n e
  tree_apart _ _ (over n x tree at below) apart =
      let other : (k : ℕ) → IsIn (operands_in x) k → k ≢ old = λ k among same. apart (itself n (subst (λ (m : ℕ). IsOperand nodes m n) same (operand_of_level nodes n k x at among))) in
      let plain : map-Expr ℕ ℕ (renamed old new) x ≡ x = map_same ℕ x (renamed old new) (λ k. k) (λ k among. renamed_other old new k (other k among)) ∙ map_id x in
      over n x tree
      (renamed_at old new nodes n x at ∙ ap (λ (y : Expr-F ℕ). Some (node_of y)) plain)
      (λ k among. tree_apart k (tree k) (below k among) (λ uses. apart (through n k (operand_of_level nodes n k x at among) uses)))

  -- a tree with the tree at the new node in place of those at the old one
  pub record IsChanged (n : ℕ) (e : Expr) : Type 0 where
    pub tree : Expr
    pub stands : IsTree after (renamed old new n) tree
    pub typing : typing_of d tree ≡ typing_of d e
    pub value : (word : ℕ) (s : Reads) → ((f g : Expr) → IsTree nodes old f → IsTree nodes new g → value_of d f word s ≡ value_of d g word s) → value_of d tree word s ≡ value_of d e word s

  -- the same, at the node itself
  pub record IsKept (n : ℕ) (e : Expr) : Type 0 where
    pub tree : Expr
    pub stands : IsTree after n tree
    pub typing : typing_of d tree ≡ typing_of d e
    pub value : (word : ℕ) (s : Reads) → ((f g : Expr) → IsTree nodes old f → IsTree nodes new g → value_of d f word s ≡ value_of d g word s) → value_of d tree word s ≡ value_of d e word s

  module _ (f g : Expr) (old_is : IsTree nodes old f) (new_is : IsTree nodes new g) (one : typing_of d g ≡ typing_of d f) (apart : ¬ Uses nodes old new) where
    -- where the node itself is the old one, the new tree stands there
    changed_itself : IsChanged old f
    changed_itself = record {
      tree = g;
      stands = subst (λ (n : ℕ). IsTree after n g) (sym (renamed_old old new)) (tree_apart new g new_is apart);
      typing = one;
      value = λ word s same. sym (same f g old_is new_is);
    }

    level_kept : (n : ℕ) (x : Expr-F ℕ) (tree : ℕ → Expr) → slice_get nodes n ≡ Some (node_of x) → ((k : ℕ) → IsIn (operands_in x) k → IsChanged k (tree k)) → IsKept n (roll-Expr (map-Expr ℕ Expr tree x))
    level_kept n x tree at each = record {
      tree = roll-Expr (map-Expr ℕ Expr chosen.0 level);
      stands = over n level chosen.0 (renamed_at old new nodes n x at) chosen.1;
      typing = same_fold Typing (typing_step d) (λ k among. (each k among).typing);
      value = λ word s same. same_fold BitValue (value_step d word s) (λ k among. (each k among).value word s same);
    }
      where
        level : Expr-F ℕ
        level = map-Expr ℕ ℕ (renamed old new) x

        chosen : (t : ℕ → Expr) × ((k : ℕ) → IsIn (operands_in (map-Expr ℕ ℕ (renamed old new) x)) k → IsTree after k (t k))
        chosen = choose (λ k e. IsTree after k e) (operands_in (map-Expr ℕ ℕ (renamed old new) x)) (λ k among.
            let found = In-mapped (renamed old new) (operands_in x) k (subst (λ (ks : List ℕ). IsIn ks k) (operands_in-map ℕ x (renamed old new)) among) in
            let changed_k = each found.0 found.1 in
            (changed_k.tree, subst (λ (m : ℕ). IsTree after m changed_k.tree) (sym found.2) changed_k.stands))

        same_tree : (k : ℕ) (among : IsIn (operands_in x) k) → chosen.0 (renamed old new k) ≡ (each k among).tree
        same_tree k among =
            let there : IsIn (operands_in (map-Expr ℕ ℕ (renamed old new) x)) (renamed old new k) = subst (λ (ks : List ℕ). IsIn ks (renamed old new k)) (sym (operands_in-map ℕ x (renamed old new))) (In-map (renamed old new) (operands_in x) k among) in
            tree_unique after (renamed old new k) (chosen.0 (renamed old new k)) (each k among).tree (chosen.1 (renamed old new k) there) (each k among).stands

        same_fold : (A : Type 0) (step : Expr-F A → A) → ((k : ℕ) (among : IsIn (operands_in x) k) → fold-Expr A step (each k among).tree ≡ fold-Expr A step (tree k)) → fold-Expr A step (roll-Expr (map-Expr ℕ Expr chosen.0 level)) ≡ fold-Expr A step (roll-Expr (map-Expr ℕ Expr tree x))
        same_fold A step same =
            fold_level A step (map-Expr ℕ ℕ (renamed old new) x) chosen.0
            ∙ ap step (
            map_map ℕ A x (renamed old new) (λ (k : ℕ). fold-Expr A step (chosen.0 k))
            ∙ map_same A x (λ (k : ℕ). fold-Expr A step (chosen.0 (renamed old new k))) (λ (k : ℕ). fold-Expr A step (tree k)) (λ k among. ap (fold-Expr A step) (same_tree k among) ∙ same k among)
            )
            ∙ sym (fold_level A step x tree)

    -- the tree at each node, after the change
    pub changed : (n : ℕ) (e : Expr) → IsTree nodes n e → IsChanged n e
    changed _ _ (over n x tree at below) = elim (eqb_tells n old) [
      | inl (_, same) ↦
          let e = roll-Expr (map-Expr ℕ Expr tree x) in
          let is : f ≡ e = tree_unique nodes old f e old_is (subst (λ (m : ℕ). IsTree nodes m e) same (over n x tree at below)) in
          subst (λ (m : ℕ). IsChanged m e) (sym same) (subst (λ (t : Expr). IsChanged old t) is changed_itself)
      | inr (_, differ) ↦
          let k = level_kept n x tree at (λ k among. changed k (tree k) (below k among)) in
          record { tree = k.tree; stands = subst (λ (m : ℕ). IsTree after m k.tree) (sym (renamed_other old new n differ)) k.stands; typing = k.typing; value = k.value }
    ]

    -- the tree at each node stands there with changes below it
    pub kept : (n : ℕ) (e : Expr) → IsTree nodes n e → IsKept n e
    kept _ _ (over n x tree at below) = level_kept n x tree at (λ k among. changed k (tree k) (below k among))
