-- The nodes of the parts of an instruction.
use Rattle.std.proofs.Common.{◌≡◌, ℕ, zero, suc, ◌<◌, IsTrue, List, [], ◌∷◌, ◌++◌, length, Option, Some, None, refl, sym, ap, ◌∙◌, subst}
use Rattle.std.specs.Prelude.{slice_get}
use Rattle.std.specs.Option.{option_map, option_and_then}
use Rattle.std.proofs.lemmas.Option.{none-some}
use Rattle.vg_isa.specs.declared.isa.Parts.{Parts}
use Rattle.vg_isa.specs.declared.expr.Expr.{Expr}
use Rattle.vg_isa.specs.declared.instr.Instr.{Instr}
use Rattle.vg_isa.specs.declared.instr.Write.{Write}
use Rattle.vg_isa.specs.declared.ids.ResourceId.{ResourceId}
use Rattle.vg_isa.specs.declared.ids.ResourceId.TheVariants.{Memory, Reg}
use Rattle.vg_isa.specs.Typing.{is_typed, is_write, is_write_of}
use Rattle.vg_isa.specs.Accepted.{is_next}
use Rattle.vg_isa.proofs.Tests.{both}
use Rattle.vg_graph.specs.declared.node.Node.{Node}
use Rattle.vg_graph.specs.declared.root.Root.{Root}
use Rattle.vg_graph.specs.declared.root.Root.TheVariants.{Guard, At, Value, NextGuard, NextValue}
use Rattle.vg_graph.specs.declared.roots.Roots.{Roots}
use Rattle.vg_graph.specs.declared.roots.WriteRoots.{WriteRoots}
use Rattle.vg_graph.specs.declared.roots.NextRoots.{NextRoots}
use Rattle.vg_graph.specs.Tree.{IsTree}
use Rattle.vg_graph.specs.Graph.{GraphValue, IsShared, StandsAt, root_of, tree_of}
use Rattle.vg_graph.specs.Building.{Extends}
use Rattle.vg_graph.specs.Behaviour.{IsTypedAt, IsWriteAt, AreWritesAt, IsNextAt}
use Rattle.vg_graph.proofs.TreeLemmas.{tree_stays, tree_within}

append_nothing : (xs : List Node) → xs ++ [] ≡ xs
append_nothing [] = refl
append_nothing (x ∷ xs) = ap (λ (ys : List Node). x ∷ ys) (append_nothing xs)

-- a graph extends itself
pub Extends_itself : (g : GraphValue) → Extends g g
Extends_itself g = record { more = []; isa = refl; nodes = sym (append_nothing g.nodes); shared = λ shared. shared }

-- ---- trees stay where they stand

pub tree_extended : (f g : GraphValue) (n : ℕ) (e : Expr) → Extends f g → IsTree f.nodes n e → IsTree g.nodes n e
tree_extended f g n e more stands = subst (λ (ns : List Node). IsTree ns n e) (sym more.nodes) (tree_stays f.nodes more.more n e stands)

pub at_extended : (f g : GraphValue) (n : Option ℕ) (e : Option Expr) → Extends f g → StandsAt f.nodes n e → StandsAt g.nodes n e
at_extended f g (Some n) (Some e) more stands = tree_extended f g n e more stands
at_extended f g None None more stands = tt
at_extended f g (Some n) None more stands = absurd stands
at_extended f g None (Some e) more stands = absurd stands

pub write_extended : (f g : GraphValue) (w : WriteRoots) (x : Write) → Extends f g → IsWriteAt f.nodes w x → IsWriteAt g.nodes w x
write_extended f g w x more stands = record {
  guard = tree_extended f g w.guard x.guard more stands.guard;
  at = at_extended f g w.at x.at more stands.at;
  value = tree_extended f g w.value x.value more stands.value;
}

pub writes_extended : (f g : GraphValue) (ws : List WriteRoots) (xs : List Write) → Extends f g → AreWritesAt f.nodes ws xs → AreWritesAt g.nodes ws xs
writes_extended f g [] [] more stand = tt
writes_extended f g (w ∷ ws) (x ∷ xs) more stand = (write_extended f g w x more stand.0, writes_extended f g ws xs more stand.1)
writes_extended f g (w ∷ ws) [] more stand = absurd stand
writes_extended f g [] (x ∷ xs) more stand = absurd stand

-- one write more
pub writes_pushed : (nodes : List Node) (ws : List WriteRoots) (xs : List Write) (w : WriteRoots) (x : Write) → AreWritesAt nodes ws xs → IsWriteAt nodes w x → AreWritesAt nodes (ws ++ w ∷ []) (xs ++ x ∷ [])
writes_pushed nodes [] [] w x stand stands = (stands, tt)
writes_pushed nodes (v ∷ ws) (y ∷ xs) w x stand stands = (stand.0, writes_pushed nodes ws xs w x stand.1 stands)
writes_pushed nodes (v ∷ ws) [] w x stand stands = absurd stand
writes_pushed nodes [] (y ∷ xs) w x stand stands = absurd stand

-- ---- the roots

guards_stand : (nodes : List Node) (k : ℕ) (ws : List WriteRoots) (xs : List Write) → AreWritesAt nodes ws xs → StandsAt nodes (option_map (λ (w : WriteRoots). w.guard) (slice_get ws k)) (option_map (λ (w : Write). w.guard) (slice_get xs k))
guards_stand nodes k [] [] stand = tt
guards_stand nodes zero (w ∷ ws) (x ∷ xs) stand = stand.0.guard
guards_stand nodes (suc k) (w ∷ ws) (x ∷ xs) stand = guards_stand nodes k ws xs stand.1
guards_stand nodes k (w ∷ ws) [] stand = absurd stand
guards_stand nodes k [] (x ∷ xs) stand = absurd stand

ats_stand : (nodes : List Node) (k : ℕ) (ws : List WriteRoots) (xs : List Write) → AreWritesAt nodes ws xs → StandsAt nodes (option_and_then (λ (w : WriteRoots). w.at) (slice_get ws k)) (option_and_then (λ (w : Write). w.at) (slice_get xs k))
ats_stand nodes k [] [] stand = tt
ats_stand nodes zero (w ∷ ws) (x ∷ xs) stand = stand.0.at
ats_stand nodes (suc k) (w ∷ ws) (x ∷ xs) stand = ats_stand nodes k ws xs stand.1
ats_stand nodes k (w ∷ ws) [] stand = absurd stand
ats_stand nodes k [] (x ∷ xs) stand = absurd stand

values_stand : (nodes : List Node) (k : ℕ) (ws : List WriteRoots) (xs : List Write) → AreWritesAt nodes ws xs → StandsAt nodes (option_map (λ (w : WriteRoots). w.value) (slice_get ws k)) (option_map (λ (w : Write). w.value) (slice_get xs k))
values_stand nodes k [] [] stand = tt
values_stand nodes zero (w ∷ ws) (x ∷ xs) stand = stand.0.value
values_stand nodes (suc k) (w ∷ ws) (x ∷ xs) stand = values_stand nodes k ws xs stand.1
values_stand nodes k (w ∷ ws) [] stand = absurd stand
values_stand nodes k [] (x ∷ xs) stand = absurd stand

next_guard_stands : (nodes : List Node) (n : Option NextRoots) (x : Option (Expr × Expr)) → IsNextAt nodes n x → StandsAt nodes (option_map (λ (r : NextRoots). r.guard) n) (option_map (λ (p : Expr × Expr). p.0) x)
next_guard_stands nodes None None stands = tt
next_guard_stands nodes (Some n) (Some x) stands = stands.0
next_guard_stands nodes None (Some x) stands = absurd stands
next_guard_stands nodes (Some n) None stands = absurd stands

next_value_stands : (nodes : List Node) (n : Option NextRoots) (x : Option (Expr × Expr)) → IsNextAt nodes n x → StandsAt nodes (option_map (λ (r : NextRoots). r.value) n) (option_map (λ (p : Expr × Expr). p.1) x)
next_value_stands nodes None None stands = tt
next_value_stands nodes (Some n) (Some x) stands = stands.1
next_value_stands nodes None (Some x) stands = absurd stands
next_value_stands nodes (Some n) None stands = absurd stands

-- where writes and next program counter stand, each part does
pub parts_stand : (nodes : List Node) (roots : Roots) (instr : Instr) → AreWritesAt nodes roots.writes instr.writes → IsNextAt nodes roots.next instr.next → (r : Root) → StandsAt nodes (root_of roots r) (tree_of instr r)
parts_stand nodes roots instr writes next (Guard k) = guards_stand nodes k roots.writes instr.writes writes
parts_stand nodes roots instr writes next (At k) = ats_stand nodes k roots.writes instr.writes writes
parts_stand nodes roots instr writes next (Value k) = values_stand nodes k roots.writes instr.writes writes
parts_stand nodes roots instr writes next NextGuard = next_guard_stands nodes roots.next instr.next next
parts_stand nodes roots instr writes next NextValue = next_value_stands nodes roots.next instr.next next

-- where a tree stands there is a node
pub at_within : (nodes : List Node) (o : Option ℕ) (e : Option Expr) (n : ℕ) → StandsAt nodes o e → o ≡ Some n → n < length nodes
at_within nodes (Some m) (Some e) n stands is = let same : m ≡ n = cc in subst (λ (k : ℕ). k < length nodes) same (tree_within nodes m e stands)
at_within nodes None None n stands is = absurd (none-some n is)
at_within nodes (Some m) None n stands is = absurd stands
at_within nodes None (Some e) n stands is = absurd stands

-- ---- widths

pub record AreTypedParts (d : Parts) (write : Write) : Type 0 where
  pub guard : IsTrue (is_typed d write.guard)
  pub at : IsTypedAt d write.at
  pub value : IsTrue (is_typed d write.value)

resource_typed : (d : Parts) (resource : ResourceId) (at : Option Expr) (value : Expr) → IsTrue (is_write_of d resource at value) → IsTypedAt d at × IsTrue (is_typed d value)
resource_typed d Memory (Some at) value h = ((both _ _ (both _ _ (both _ _ h).0).0).0, (both _ _ (both _ _ h).0).1)
resource_typed d Memory None value h = absurd cc
resource_typed d (Reg r) (Some at) value h = ((both _ _ (both _ _ h).0).0, (both _ _ (both _ _ h).1).0)
resource_typed d (Reg r) None value h = (tt, (both _ _ (both _ _ h).1).0)

-- the trees of a write are typed
pub parts_typed : (d : Parts) (write : Write) → IsTrue (is_write d write) → AreTypedParts d write
parts_typed d write h =
    let rest = resource_typed d write.resource write.at write.value (both _ _ h).1 in
    record { guard = (both _ _ (both _ _ h).0).0; at = rest.0; value = rest.1 }

-- the trees of the next program counter are typed
pub next_typed : (d : Parts) (next : Expr × Expr) → IsTrue (is_next d (Some next)) → IsTrue (is_typed d next.0) × IsTrue (is_typed d next.1)
next_typed d next h = ((both _ _ (both _ _ h).0).0, (both _ _ (both _ _ h).1).0)
