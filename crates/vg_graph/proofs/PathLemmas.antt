-- A way along a graph, from nodes to their operands, never comes to a node again.
use Rattle.std.proofs.Common.{◌≡◌, ℕ, zero, suc, ◌⊎◌, inl, inr, List, [], ◌∷◌, ◌++◌, Some, refl, sym, ap, ◌∙◌, subst}
use Rattle.std.specs.Prelude.{slice_get}
use Rattle.std.proofs.lemmas.Option.{same_Some}
use Rattle.vg_isa.specs.declared.expr.Expr.{Expr}
use Rattle.vg_isa.specs.declared.expr.Expr.TheOpen.{Expr-F}
use Rattle.vg_graph.specs.declared.node.Node.{Node}
use Rattle.vg_graph.specs.Node.{IsIn, args_of, node_of, operands_in}
use Rattle.vg_graph.specs.Tree.{IsOperand, IsTree, Uses, itself, over, through}
use Rattle.vg_graph.proofs.LevelLemmas.{args_of-node}
use Rattle.vg_graph.specs.Order.{IsPath}

module _ (nodes : List Node) where
  -- what uses a node uses its operands
  uses_operand : (n k m : ℕ) → IsOperand nodes k n → Uses nodes n m → Uses nodes k m
  uses_operand n k _ operand (itself m first) = through m n first (itself n operand)
  uses_operand n k _ operand (through m j first rest) = through m j first (uses_operand n k j operand rest)

  -- an operand of a node is one of its level
  operand_in : (n k : ℕ) (x : Expr-F ℕ) → slice_get nodes n ≡ Some (node_of x) → IsOperand nodes k n → IsIn (operands_in x) k
  operand_in n k x at operand =
      let node_is : operand.node ≡ node_of x = same_Some operand.node (node_of x) (sym operand.stands ∙ at) in
      subst (λ (ks : List ℕ). IsIn ks k) (ap args_of node_is ∙ args_of-node x) operand.among

  -- no node that has a tree uses itself
  pub never_itself : (n : ℕ) (e : Expr) → IsTree nodes n e → Uses nodes n n → ⊥
  never_itself _ _ (over n x tree at below) (itself _ operand) = never_itself n (tree n) (below n (operand_in n n x at operand)) (itself n operand)
  never_itself _ _ (over n x tree at below) (through _ k operand rest) =
      never_itself k (tree k) (below k (operand_in n k x at operand)) (uses_operand n k k operand rest)

  -- a way without its last node
  pub path_before : (xs : List ℕ) (n : ℕ) → IsPath nodes (xs ++ n ∷ []) → IsPath nodes xs
  path_before [] n path = tt
  path_before (a ∷ []) n path = tt
  path_before (a ∷ b ∷ xs) n path = (path.0, path_before (b ∷ xs) n path.1)

  -- a way that goes on to an operand of its last node
  pub path_on : (xs : List ℕ) (n k : ℕ) → IsPath nodes (xs ++ n ∷ []) → IsOperand nodes k n → IsPath nodes ((xs ++ n ∷ []) ++ k ∷ [])
  path_on [] n k path operand = (operand, tt)
  path_on (a ∷ []) n k path operand = (path.0, (operand, tt))
  path_on (a ∷ b ∷ xs) n k path operand = (path.0, path_on (b ∷ xs) n k path.1 operand)

  -- each node of a way is the last one, or uses it
  path_uses : (xs : List ℕ) (n m : ℕ) → IsPath nodes (xs ++ n ∷ []) → IsIn (xs ++ n ∷ []) m → (m ≡ n) ⊎ Uses nodes n m
  path_uses [] n m path (zero, at) = inl (sym (same_Some n m at))
  path_uses [] n m path (suc place, at) = absurd cc
  path_uses (a ∷ []) n m path (zero, at) = inr (subst (λ (k : ℕ). Uses nodes n k) (same_Some a m at) (itself a path.0))
  path_uses (a ∷ []) n m path (suc place, at) = path_uses [] n m tt (place, at)
  path_uses (a ∷ b ∷ xs) n m path (zero, at) = elim (path_uses (b ∷ xs) n b path.1 (0, refl)) [
    | inl last ↦ inr (subst (λ (k : ℕ). Uses nodes n k) (same_Some a m at) (itself a (subst (λ (k : ℕ). IsOperand nodes k a) last path.0)))
    | inr uses ↦ inr (subst (λ (k : ℕ). Uses nodes n k) (same_Some a m at) (through a b path.0 uses))
  ]
  path_uses (a ∷ b ∷ xs) n m path (suc place, at) = path_uses (b ∷ xs) n m path.1 (place, at)

  -- an operand of the last node of a way isn't on it
  pub path_new : (xs : List ℕ) (n k : ℕ) (e : Expr) → IsPath nodes (xs ++ n ∷ []) → IsOperand nodes k n → IsTree nodes k e → IsIn (xs ++ n ∷ []) k → ⊥
  path_new xs n k e path operand stands among = elim (path_uses xs n k path among) [
    | inl last ↦ never_itself k e stands (itself k (subst (λ (j : ℕ). IsOperand nodes k j) (sym last) operand))
    | inr uses ↦ never_itself k e stands (uses_operand n k k operand uses)
  ]
