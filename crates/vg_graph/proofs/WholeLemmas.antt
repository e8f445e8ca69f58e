-- What a graph keeps.
use Rattle.std.proofs.Common.{◌≡◌, ℕ, ◌+◌, ◌^◌, ◌<◌, inl, inr, List, [], ◌∷◌, ◌++◌, length, get_or, map, IsTrue, Option, Some, None, refl, sym, ap, ◌∙◌, subst, arith}
use Rattle.std.specs.Prelude.{slice_get, Result, Ok, Err, IfOk, OnErr}
use Rattle.std.proofs.lemmas.List.{length-append, length-map}
use Rattle.std.proofs.lemmas.Option.{slice_get-get_or, slice_get-map, none-some, same_Some}
use Rattle.vg_isa.specs.declared.isa.Parts.{Parts}
use Rattle.vg_list.specs.NodeLists.{IsDisjoint, IsLinked}
use Rattle.vg_graph.specs.declared.operands.Operands.{Operands}
use Rattle.vg_graph.specs.declared.operands.Operands.TheVariants.{Zero, One, Two, Three}
use Rattle.vg_graph.specs.declared.node.Node.{Node}
use Rattle.vg_graph.specs.declared.roots.Roots.{Roots}
use Rattle.vg_graph.specs.declared.store.Store.{Store}
use Rattle.vg_isa.specs.declared.expr.Expr.{Expr}
use Rattle.vg_isa.specs.Typing.{Typing, typing_of, is_typed, width_of}
use Rattle.vg_isa.specs.Value.{Reads, value_of}
use Rattle.std.specs.Option.{option_map, option_and_then}
use Rattle.std.proofs.lemmas.Bool.Decides.{eqb_tells}
use Rattle.vg_graph.specs.declared.root.Root.{Root}
use Rattle.vg_graph.specs.declared.root.Root.TheVariants.{Guard, At, Value, NextGuard, NextValue}
use Rattle.vg_graph.specs.declared.roots.WriteRoots.{WriteRoots}
use Rattle.vg_graph.specs.declared.roots.NextRoots.{NextRoots}
use Rattle.vg_graph.specs.Replaced.{HaveOneValue, HaveOneWidth, moved_users, renamed, renamed_next, renamed_node, renamed_operands, renamed_roots, renamed_write, replaced}
use Rattle.vg_graph.proofs.ReplaceLemmas.{IsKept, kept}
use Rattle.vg_graph.specs.Node.{IsIn, args_of}
use Rattle.vg_graph.specs.Tree.{HaveTrees, IsTree, Uses}
use Rattle.vg_graph.specs.Graph.{GraphValue, AreUsers, IsAdded, IsFit, IsGraph, edges_of, root_of, target_of}
use Rattle.vg_graph.specs.Store.{IsStore, IsStoreAdded, SameNodes}
use Rattle.vg_graph.specs.Whole.{IsWhole}
use Rattle.vg_graph.proofs.Gets.{gets-end}
use Rattle.vg_graph.proofs.EdgeLemmas.{edge_kept, operand_is, target_is}
use Rattle.vg_graph.proofs.LevelLemmas.{args_of-node}
use Rattle.vg_graph.proofs.TreeLemmas.{below_each, tree_unique, trees_more}

-- a graph of these parts
abbrev pub graph_of : Parts → Store → Roots → GraphValue
graph_of d s all = record { isa = d; nodes = s.nodes.items; users = s.users.lists; roots = all }

pub whole_graph : (d : Parts) (s : Store) (all : Roots) → IsWhole d s all → IsGraph (graph_of d s all)
whole_graph d s all kept = record { trees = kept.trees; users = kept.store.exact; user_lists = kept.store.user_lists; roots = kept.roots }

pub whole_users : (d : Parts) (s : Store) (all : Roots) → IsWhole d s all → IsDisjoint s.users → AreUsers (graph_of d s all)
whole_users d s all kept disjoint = record { exact = kept.store.exact; once = λ n e i j at_i at_j. (disjoint e n i n j at_i at_j).1 }

-- each edge names a node
pub edge_target : (nodes : List Node) (e : ℕ) → e < length (edges_of nodes) → (n : ℕ) × (target_of nodes e ≡ Some n)
edge_target nodes e below =
    let at = slice_get-get_or (edges_of nodes) e (0, 0) below in
    let place = get_or (edges_of nodes) e (0, 0) in
    let edge = edge_kept nodes e place at in
    (get_or (args_of edge.node) place.1 0, target_is nodes e place at ∙ operand_is nodes place.0 place.1 edge.node edge.stands ∙ slice_get-get_or (args_of edge.node) place.1 0 edge.below)

-- each edge is in a list
pub edge_linked : (s : Store) (e : ℕ) → IsStore s → e < length (edges_of s.nodes.items) → IsLinked s.users e
edge_linked s e kept below =
    let target = edge_target s.nodes.items e below in
    let has = (kept.exact target.0 e).1 target.1 in
    (target.0, has.0, has.1)

-- ---- one node more

trees_same : (d : Parts) (old new : Store) → HaveTrees d old.nodes.items → new.nodes.items ≡ old.nodes.items → HaveTrees d new.nodes.items
trees_same d old new have same = subst (λ (ns : List Node). HaveTrees d ns) (sym same) have

whole_same : (d : Parts) (old new : Store) (all : Roots) → IsWhole d old all → IsStore new → SameNodes old new → IsWhole d new all
whole_same d old new all kept store same = record {
  store = store;
  trees = trees_same d old new kept.trees same.nodes;
  roots = λ r n at. subst (λ (ns : List Node). n < length ns) (sym same.nodes) (kept.roots r n at);
  few = subst (λ (ns : List Node). length ns < 2 ^ 32) (sym same.nodes) kept.few;
}

whole_appended : (d : Parts) (old new : Store) (all : Roots) (node : Node) → IsWhole d old all → IsStore new → IsFit (graph_of d old all) node → length old.nodes.items + 1 < 2 ^ 32 → new.nodes.items ≡ old.nodes.items ++ node ∷ [] → IsWhole d new all
whole_appended d old new all node kept store fit room nodes = record {
  store = store;
  trees =
      subst (λ (ns : List Node). HaveTrees d ns) (sym nodes)
      (subst (λ (x : Node). HaveTrees d (old.nodes.items ++ x ∷ [])) (sym fit.is)
      (trees_more d old.nodes.items fit.level kept.trees
      (λ k among. below_each (length old.nodes.items) (args_of node) fit.within k (subst (λ (ks : List ℕ). IsIn ks k) (sym (ap args_of fit.is ∙ args_of-node fit.level)) among))
      fit.typed));
  roots = λ r n at.
      let below : n < length old.nodes.items = kept.roots r n at in
      subst (λ (ns : List Node). n < length ns) (sym nodes) (omega (arith, length-append old.nodes.items (node ∷ [])));
  few = subst (λ (ns : List Node). length ns < 2 ^ 32) (sym nodes) (omega (arith, length-append old.nodes.items (node ∷ [])));
}

pub whole_added : (d : Parts) (old new : Store) (all : Roots) (node : Node) (E : Type 0) (r : Result ℕ E) → IsWhole d old all → IsStore new → IsFit (graph_of d old all) node → length old.nodes.items + 1 < 2 ^ 32 → IfOk r (λ n. IsStoreAdded old new node n) → OnErr r (SameNodes old new) → IsWhole d new all
whole_added d old new all node E (Ok n) kept store fit room (inl present) err = whole_same d old new all kept store present.same
whole_added d old new all node E (Ok n) kept store fit room (inr appended) err = whole_appended d old new all node kept store fit room appended.nodes
whole_added d old new all node E (Err e) kept store fit room ok err = whole_same d old new all kept store err

-- the graph after a node was asked for
pub graph_added : (d : Parts) (old new : Store) (all : Roots) (node : Node) (n : ℕ) → IsStoreAdded old new node n → IsAdded (graph_of d old all) (graph_of d new all) node n
graph_added d old new all node n (inl present) = inl (record { found = present.found; same = λ i. record { isa = d; nodes = present.same.nodes i; users = present.same.users i; roots = all } })
graph_added d old new all node n (inr appended) = inr (record {
  absent = appended.absent;
  number = appended.number;
  graph = λ i. record { isa = d; nodes = appended.nodes i; users = appended.users i; roots = all };
})

pub graph_same : (d : Parts) (old new : Store) (all : Roots) → SameNodes old new → graph_of d new all ≡ graph_of d old all
graph_same d old new all same = λ i. record { isa = d; nodes = same.nodes i; users = same.users i; roots = all }

-- ---- another node in place of one

-- the typings of typed trees of one width
typing_same : (d : Parts) (e f : Expr) → IsTrue (is_typed d e) → IsTrue (is_typed d f) → width_of d e ≡ width_of d f → typing_of d f ≡ typing_of d e
typing_same d e f e_typed f_typed width = let w : width_of d f ≡ width_of d e = sym width in let t : is_typed d f ≡ is_typed d e = f_typed ∙ sym e_typed in λ i. record { width = w i; is_typed = t i }

root_renamed : (old new : ℕ) (all : Roots) (r : Root) (n : ℕ) → root_of (renamed_roots old new all) r ≡ Some n → (m : ℕ) × (root_of all r ≡ Some m) × (n ≡ renamed old new m)
root_renamed old new all (Guard k) n h = write_guard (slice_get all.writes k) (sym (ap (λ (o : Option WriteRoots). option_map (λ (w : WriteRoots). w.guard) o) (slice_get-map (renamed_write old new) all.writes k)) ∙ h)
  where
    write_guard : (o : Option WriteRoots) → option_map (λ (w : WriteRoots). w.guard) (option_map (renamed_write old new) o) ≡ Some n → (m : ℕ) × (option_map (λ (w : WriteRoots). w.guard) o ≡ Some m) × (n ≡ renamed old new m)
    write_guard None g = absurd (none-some n g)
    write_guard (Some w) g = (w.guard, refl, sym (same_Some (renamed old new w.guard) n g))
root_renamed old new all (At k) n h = write_at (slice_get all.writes k) (sym (ap (λ (o : Option WriteRoots). option_and_then (λ (w : WriteRoots). w.at) o) (slice_get-map (renamed_write old new) all.writes k)) ∙ h)
  where
    at_of : (o : Option ℕ) → option_map (renamed old new) o ≡ Some n → (m : ℕ) × (o ≡ Some m) × (n ≡ renamed old new m)
    at_of None g = absurd (none-some n g)
    at_of (Some m) g = (m, refl, sym (same_Some (renamed old new m) n g))

    write_at : (o : Option WriteRoots) → option_and_then (λ (w : WriteRoots). w.at) (option_map (renamed_write old new) o) ≡ Some n → (m : ℕ) × (option_and_then (λ (w : WriteRoots). w.at) o ≡ Some m) × (n ≡ renamed old new m)
    write_at None g = absurd (none-some n g)
    write_at (Some w) g = at_of w.at g
root_renamed old new all (Value k) n h = write_value (slice_get all.writes k) (sym (ap (λ (o : Option WriteRoots). option_map (λ (w : WriteRoots). w.value) o) (slice_get-map (renamed_write old new) all.writes k)) ∙ h)
  where
    write_value : (o : Option WriteRoots) → option_map (λ (w : WriteRoots). w.value) (option_map (renamed_write old new) o) ≡ Some n → (m : ℕ) × (option_map (λ (w : WriteRoots). w.value) o ≡ Some m) × (n ≡ renamed old new m)
    write_value None g = absurd (none-some n g)
    write_value (Some w) g = (w.value, refl, sym (same_Some (renamed old new w.value) n g))
root_renamed old new all NextGuard n h = next_guard all.next h
  where
    next_guard : (o : Option NextRoots) → option_map (λ (x : NextRoots). x.guard) (option_map (renamed_next old new) o) ≡ Some n → (m : ℕ) × (option_map (λ (x : NextRoots). x.guard) o ≡ Some m) × (n ≡ renamed old new m)
    next_guard None g = absurd (none-some n g)
    next_guard (Some x) g = (x.guard, refl, sym (same_Some (renamed old new x.guard) n g))
root_renamed old new all NextValue n h = next_value all.next h
  where
    next_value : (o : Option NextRoots) → option_map (λ (x : NextRoots). x.value) (option_map (renamed_next old new) o) ≡ Some n → (m : ℕ) × (option_map (λ (x : NextRoots). x.value) o ≡ Some m) × (n ≡ renamed old new m)
    next_value None g = absurd (none-some n g)
    next_value (Some x) g = (x.value, refl, sym (same_Some (renamed old new x.value) n g))

module _ (d : Parts) (s t : Store) (all : Roots) (old new : ℕ) (whole : IsWhole d s all) (old_in : old < length s.nodes.items) (new_in : new < length s.nodes.items) (widths : HaveOneWidth (graph_of d s all) old new) (apart : ¬ Uses s.nodes.items old new) (nodes : t.nodes.items ≡ map (renamed_node old new) s.nodes.items) where
  kept_at : (n : ℕ) (e : Expr) → IsTree s.nodes.items n e → IsKept d old new s.nodes.items n e
  kept_at n e stands =
      let f = whole.trees old old_in in
      let g = whole.trees new new_in in
      kept d old new s.nodes.items f.tree g.tree f.stands g.stands (typing_same d f.tree g.tree f.typed g.typed (widths f.tree g.tree f.stands g.stands)) apart n e stands

  pub whole_replaced : IsStore t → IsWhole d t (renamed_roots old new all)
  whole_replaced store = record {
    store = store;
    trees = subst (λ (ns : List Node). HaveTrees d ns) (sym nodes) (λ n below.
        let before = whole.trees n (rw (length-map s.nodes.items (renamed_node old new)) at below) in
        let after = kept_at n before.tree before.stands in
        record { tree = after.tree; stands = after.stands; typed = ap (λ (x : Typing). x.is_typed) after.typing ∙ before.typed });
    roots = λ r n at.
        let found = root_renamed old new all r n at in
        let within : n < length s.nodes.items = rw found.2 (renamed_within found.0 (whole.roots r found.0 found.1)) in
        subst (λ (ns : List Node). n < length ns) (sym nodes) (rw (length-map s.nodes.items (renamed_node old new)) within);
    few = subst (λ (ns : List Node). length ns < 2 ^ 32) (sym nodes) (rw (length-map s.nodes.items (renamed_node old new)) whole.few);
  }
    where
      renamed_within : (m : ℕ) → m < length s.nodes.items → renamed old new m < length s.nodes.items
      renamed_within m below = elim (eqb_tells m old) [ inl (test, _) ↦ rw test new_in | inr (test, _) ↦ rw test below ]

  -- each node keeps its value where the two nodes have one value
  pub values_replaced : (word : ℕ) (reads : Reads) → HaveOneValue word reads (graph_of d s all) old (graph_of d s all) new → (n : ℕ) → HaveOneValue word reads (graph_of d s all) n (graph_of d t (renamed_roots old new all)) n
  values_replaced word reads same n e f e_stands f_stands =
      let after = kept_at n e e_stands in
      let f_after : IsTree (map (renamed_node old new) s.nodes.items) n f = subst (λ (ns : List Node). IsTree ns n f) nodes f_stands in
      let is : after.tree ≡ f = tree_unique (map (renamed_node old new) s.nodes.items) n after.tree f after.stands f_after in
      sym (after.value word reads same) ∙ ap (λ (x : Expr). value_of d x word reads) is

-- ---- a node in its own place

renamed_itself : (n k : ℕ) → renamed n n k ≡ k
renamed_itself n k = elim (eqb_tells k n) [ inl (test, same) ↦ rw test (sym same) | inr (test, _) ↦ rw test refl ]

operands_itself : (n : ℕ) (a : Operands) → renamed_operands n n a ≡ a
operands_itself n Zero = refl
operands_itself n (One a) = λ i. One (renamed_itself n a i)
operands_itself n (Two a b) = λ i. Two (renamed_itself n a i) (renamed_itself n b i)
operands_itself n (Three a b c) = λ i. Three (renamed_itself n a i) (renamed_itself n b i) (renamed_itself n c i)

nodes_itself : (n : ℕ) (nodes : List Node) → map (renamed_node n n) nodes ≡ nodes
nodes_itself n [] = refl
nodes_itself n (x ∷ nodes) = λ i. record { op = x.op; args = operands_itself n x.args i } ∷ nodes_itself n nodes i

option_itself : (n : ℕ) (o : Option ℕ) → option_map (renamed n n) o ≡ o
option_itself n None = refl
option_itself n (Some k) = λ i. Some (renamed_itself n k i)

writes_itself : (n : ℕ) (writes : List WriteRoots) → map (renamed_write n n) writes ≡ writes
writes_itself n [] = refl
writes_itself n (w ∷ writes) = λ i. record { guard = renamed_itself n w.guard i; at = option_itself n w.at i; value = renamed_itself n w.value i } ∷ writes_itself n writes i

next_itself : (n : ℕ) (o : Option NextRoots) → option_map (renamed_next n n) o ≡ o
next_itself n None = refl
next_itself n (Some x) = λ i. Some (record { guard = renamed_itself n x.guard i; value = renamed_itself n x.value i })

users_itself : (n : ℕ) (users : List (List ℕ)) → moved_users n n users ≡ users
users_itself n users = elim (eqb_tells n n) [ inl (test, _) ↦ rw test refl | inr (_, differ) ↦ absurd (differ refl) ]

-- a node that is replaced by itself changes nothing
pub replaced_itself : (n : ℕ) (g : GraphValue) → replaced n n g ≡ g
replaced_itself n g = λ i. record {
  isa = g.isa;
  nodes = nodes_itself n g.nodes i;
  users = users_itself n g.users i;
  roots = record { writes = writes_itself n g.roots.writes i; next = next_itself n g.roots.next i };
}
