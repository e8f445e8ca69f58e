-- The edges of a list of nodes, and the nodes that they name.
use Rattle.std.proofs.Common.{◌≡◌, ℕ, zero, suc, ◌+◌, ◌<◌, inl, inr, List, [], ◌∷◌, ◌++◌, append_assoc, length, Option, Some, sym, refl, ap, ◌∙◌, subst, arith}
use Rattle.std.specs.Prelude.{slice_get}
use Rattle.std.specs.Option.{option_and_then}
use Rattle.std.proofs.lemmas.Option.{slice_get_within}
use Rattle.vg_graph.specs.declared.node.Node.{Node}
use Rattle.vg_graph.specs.Node.{IsIn, args_of}
use Rattle.vg_graph.specs.Graph.{places_from, places_of, edges_from, edges_of, operand_at, target_of}
use Rattle.vg_graph.proofs.Gets.{gets-append, In-append_left, In-append_right}

pub length-places : (n k : ℕ) (args : List ℕ) → length (places_from n k args) ≡ length args
length-places n k [] = refl
length-places n k (a ∷ args) = ap suc (length-places n (k + 1) args)

-- the place at a place
pub gets-places : (n k : ℕ) (args : List ℕ) (i : ℕ) → i < length args → slice_get (places_from n k args) i ≡ Some (n, k + i)
gets-places n k [] i below = absurd (omega arith)
gets-places n k (a ∷ args) zero below = let same : k + 0 ≡ k = omega arith in rw same refl
gets-places n k (a ∷ args) (suc i) below = let same : k + suc i ≡ k + 1 + i = omega arith in rw same (gets-places n (k + 1) args i (omega arith))

-- what a place at a place is
pub record IsPlace (n k : ℕ) (args : List ℕ) (i : ℕ) (place : ℕ × ℕ) : Type 0 where
  pub is : place ≡ (n, k + i)
  pub below : i < length args

pub places-gets : (n k : ℕ) (args : List ℕ) (i : ℕ) (place : ℕ × ℕ) → slice_get (places_from n k args) i ≡ Some place → IsPlace n k args i place
places-gets n k args i place at =
    let below : i < length args = rw (← length-places n k args) (slice_get_within (places_from n k args) i place at) in
    let both : Some place ≡ Some (n, k + i) = sym at ∙ gets-places n k args i below in
    record { is = same place (n, k + i) both; below = below }
  where
    same : (p q : ℕ × ℕ) → Some p ≡ Some q → p ≡ q
    same p q h = cc

-- ---- one node more

edges_from-more : (n : ℕ) (nodes : List Node) (node : Node) → edges_from n (nodes ++ node ∷ []) ≡ edges_from n nodes ++ places_of (n + length nodes) node
edges_from-more n [] node =
    let same : n + 0 ≡ n = omega arith in
    rw same (append-nil (places_of n node))
  where
    append-nil : {X : Type 0} (xs : List X) → xs ++ [] ≡ xs
    append-nil [] = refl
    append-nil (x ∷ xs) = ap (λ ys. x ∷ ys) (append-nil xs)
edges_from-more n (x ∷ nodes) node =
    let same : n + length (x ∷ nodes) ≡ n + 1 + length nodes = omega arith in
    rw same (ap (λ (ys : List (ℕ × ℕ)). places_of n x ++ ys) (edges_from-more (n + 1) nodes node) ∙ sym (append_assoc (places_of n x) (edges_from (n + 1) nodes) (places_of (n + 1 + length nodes) node)))

pub edges_of-more : (nodes : List Node) (node : Node) → edges_of (nodes ++ node ∷ []) ≡ edges_of nodes ++ places_of (length nodes) node
edges_of-more nodes node = let same : 0 + length nodes ≡ length nodes = omega arith in edges_from-more 0 nodes node ∙ ap (λ (n : ℕ). edges_of nodes ++ places_of n node) same

-- an edge is a place of an operand of a node
record IsEdge (n : ℕ) (nodes : List Node) (place : ℕ × ℕ) : Type 0 where
  node : Node
  at : ℕ
  number : place.0 ≡ n + at
  stands : slice_get nodes at ≡ Some node
  below : place.1 < length (args_of node)

edges_from-gets : (n : ℕ) (nodes : List Node) (e : ℕ) (place : ℕ × ℕ) → slice_get (edges_from n nodes) e ≡ Some place → IsEdge n nodes place
edges_from-gets n [] e place at = absurd cc
edges_from-gets n (x ∷ nodes) e place at = elim (gets-append (places_of n x) (edges_from (n + 1) nodes) e place at) [
  | inl here ↦
      let found = places-gets n 0 (args_of x) e place here in
      let number : place.0 ≡ n = ap (λ (p : ℕ × ℕ). p.0) found.is in
      let second : place.1 ≡ 0 + e = ap (λ (p : ℕ × ℕ). p.1) found.is in
      let within : e < length (args_of x) = found.below in
      record { node = x; at = 0; number = omega arith; stands = refl; below = omega arith }
  | inr there ↦
      let rest = edges_from-gets (n + 1) nodes there.0 place there.2 in
      let number : place.0 ≡ n + 1 + rest.at = rest.number in
      record { node = rest.node; at = suc rest.at; number = omega arith; stands = rest.stands; below = rest.below }
]

-- the node of an edge, and the place of the operand among its operands
pub record IsEdgeOf (nodes : List Node) (place : ℕ × ℕ) : Type 0 where
  pub node : Node
  pub stands : slice_get nodes place.0 ≡ Some node
  pub below : place.1 < length (args_of node)

pub edge_kept : (nodes : List Node) (e : ℕ) (place : ℕ × ℕ) → slice_get (edges_of nodes) e ≡ Some place → IsEdgeOf nodes place
edge_kept nodes e place at =
    let found = edges_from-gets 0 nodes e place at in
    let number : place.0 ≡ 0 + found.at = found.number in
    let same : place.0 ≡ found.at = omega arith in
    record { node = found.node; stands = subst (λ (m : ℕ). slice_get nodes m ≡ Some found.node) (sym same) found.stands; below = found.below }

-- each operand has an edge
edges_from-has : (n : ℕ) (nodes : List Node) (m k : ℕ) (node : Node) → slice_get nodes m ≡ Some node → k < length (args_of node) → IsIn (edges_from n nodes) (n + m, k)
edges_from-has n [] m k node at below = absurd cc
edges_from-has n (x ∷ nodes) zero k node at below =
    let same : x ≡ node = cc in
    let here = gets-places n 0 (args_of x) k (subst (λ (y : Node). k < length (args_of y)) (sym same) below) in
    let first : n + 0 ≡ n = omega arith in
    let second : 0 + k ≡ k = omega arith in
    In-append_left (places_of n x) (edges_from (n + 1) nodes) (n + 0, k) (k, rw first (here ∙ ap (λ (j : ℕ). Some (n, j)) second))
edges_from-has n (x ∷ nodes) (suc m) k node at below =
    let same : n + suc m ≡ n + 1 + m = omega arith in
    rw same (In-append_right (places_of n x) (edges_from (n + 1) nodes) (n + 1 + m, k) (edges_from-has (n + 1) nodes m k node at below))

pub edge_found : (nodes : List Node) (m k : ℕ) (node : Node) → slice_get nodes m ≡ Some node → k < length (args_of node) → IsIn (edges_of nodes) (m, k)
edge_found nodes m k node at below =
    let same : 0 + m ≡ m = omega arith in
    subst (λ (i : ℕ). IsIn (edges_of nodes) (i, k)) same (edges_from-has 0 nodes m k node at below)

-- the operand at a place of a node
pub operand_is : (nodes : List Node) (m k : ℕ) (node : Node) → slice_get nodes m ≡ Some node → operand_at nodes (m, k) ≡ slice_get (args_of node) k
operand_is nodes m k node at = ap (λ (o : Option Node). option_and_then (λ (x : Node). slice_get (args_of x) k) o) at

pub target_is : (nodes : List Node) (e : ℕ) (place : ℕ × ℕ) → slice_get (edges_of nodes) e ≡ Some place → target_of nodes e ≡ operand_at nodes place
target_is nodes e place at = ap (λ (o : Option (ℕ × ℕ)). option_and_then (operand_at nodes) o) at
