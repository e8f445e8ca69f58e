-- The nodes that a node uses, operands first.
use Rattle.std.proofs.Common.{◌≡◌, ◌≢◌, ℕ, zero, suc, ◌+◌, ◌*◌, ◌<◌, ◌≤◌, ◌⊎◌, inl, inr, Bool, true, false, List, [], ◌∷◌, ◌++◌, length, replicate, set, get_or, Option, Some, None, refl, sym, ap, ◌∙◌, subst, arith, if◌then◌else◌}
use Rattle.std.specs.Prelude.{slice_get, slice_index_or, sum_by}
use Rattle.std.proofs.lemmas.Bool.Decides.{eqb_tells}
use Rattle.std.proofs.lemmas.List.{length-append, length-set}
use Rattle.std.proofs.lemmas.List.Sums.{sum_by-cons}
use Rattle.std.proofs.lemmas.Option.{none-some, slice_get-get_or, slice_get_within, same_Some}
use Rattle.vg_isa.specs.declared.isa.Parts.{Parts}
use Rattle.vg_isa.specs.declared.expr.Expr.{Expr}
use Rattle.vg_isa.specs.declared.expr.Expr.TheOpen.{Expr-F}
use Rattle.vg_graph.specs.declared.node.Node.{Node}
use Rattle.vg_graph.specs.Node.{AllBelow, IsIn, args_of, node_of, operands_in}
use Rattle.vg_graph.specs.Tree.{HaveTrees, IsOperand, IsTree}
use Rattle.vg_graph.specs.Order.{AreTrees, AreWithin, IsBehindOperands, IsListing, IsMarked, IsOnTheWay, IsOrder, IsPath, first_unmarked_in, unmarked}
use Rattle.vg_graph.proofs.Gets.{gets-append_left, gets-pushed, gets-set_other, gets-set_same, In-append, In-append_left, In-append_right, In-one, nil-In, one-In}
use Rattle.vg_graph.proofs.LevelLemmas.{args_of-node}
use Rattle.vg_graph.proofs.PathLemmas.{path_new}
use Rattle.vg_graph.proofs.TreeLemmas.{level_of_tree, tree_within}

-- ---- operands are nodes

-- an operand of a node that has a tree is a node
pub operand_within : (nodes : List Node) (n k : ℕ) (e : Expr) → IsTree nodes n e → IsOperand nodes k n → k < length nodes
operand_within nodes n k e stands operand =
    let l = level_of_tree nodes n e stands in
    let node_is : operand.node ≡ node_of l.level = same_Some operand.node (node_of l.level) (sym operand.stands ∙ l.at) in
    let among : IsIn (operands_in l.level) k = subst (λ (ks : List ℕ). IsIn ks k) (ap args_of node_is ∙ args_of-node l.level) operand.among in
    tree_within nodes k (l.tree k) (l.below k among)

all_below : (bound : ℕ) (ks : List ℕ) → ((k : ℕ) → IsIn ks k → k < bound) → AllBelow bound ks
all_below bound [] each = tt
all_below bound (k ∷ ks) each = (each k (0, refl), all_below bound ks (λ m among. each m (suc among.0, among.1)))

-- the operands of a node are nodes
pub args_within : (nodes : List Node) (n : ℕ) (node : Node) → AreTrees nodes → n < length nodes → slice_get nodes n ≡ Some node → AllBelow (length nodes) (args_of node)
args_within nodes n node trees within at =
    let tree = trees n within in
    all_below (length nodes) (args_of node) (λ k among. operand_within nodes n k tree.0 tree.1 (record { node = node; stands = at; among = among }))

-- nodes that have typed trees have trees
pub are_trees : (d : Parts) (nodes : List Node) → HaveTrees d nodes → AreTrees nodes
are_trees d nodes have n within = ((have n within).tree, (have n within).stands)

-- ---- operands that aren't marked

mark_at : (marks : List Bool) (n : ℕ) → n < length marks → slice_get marks n ≡ Some (slice_index_or marks n false)
mark_at [] n below = absurd (omega arith)
mark_at (b ∷ marks) zero below = refl
mark_at (b ∷ marks) (suc n) below = mark_at marks n (omega arith)

first_none : (marks : List Bool) (ns : List ℕ) → first_unmarked_in marks ns ≡ None → (k : ℕ) → IsIn ns k → slice_index_or marks k false ≡ true
first_none marks [] none k (place, at) = absurd (let h : slice_get {X = ℕ} [] place ≡ Some k = at in cc)
first_none marks (n ∷ ns) none k (place, at) = by (slice_index_or marks n false) refl (first_none marks ns) place at none
  where
    by : (b : Bool) → slice_index_or marks n false ≡ b → (first_unmarked_in marks ns ≡ None → (m : ℕ) → IsIn ns m → slice_index_or marks m false ≡ true) → (place : ℕ) → slice_get (n ∷ ns) place ≡ Some k → (if b then first_unmarked_in marks ns else Some n) ≡ None → slice_index_or marks k false ≡ true
    by true is rest zero at h = let same : n ≡ k = cc in subst (λ (m : ℕ). slice_index_or marks m false ≡ true) same is
    by true is rest (suc place) at h = rest h k (place, at)
    by false is rest place at h = absurd (none-some n (sym h))

first_some : (marks : List Bool) (ns : List ℕ) (k : ℕ) → first_unmarked_in marks ns ≡ Some k → IsIn ns k × (slice_index_or marks k false ≡ false)
first_some marks [] k some = absurd (none-some k some)
first_some marks (n ∷ ns) k some = by (slice_index_or marks n false) refl (first_some marks ns k) some
  where
    by : (b : Bool) → slice_index_or marks n false ≡ b → (first_unmarked_in marks ns ≡ Some k → IsIn ns k × (slice_index_or marks k false ≡ false)) → (if b then first_unmarked_in marks ns else Some n) ≡ Some k → IsIn (n ∷ ns) k × (slice_index_or marks k false ≡ false)
    by true is rest h = let found = rest h in ((suc found.0.0, found.0.1), found.1)
    by false is rest h = let same : n ≡ k = same_Some n k h in ((0, h), subst (λ (m : ℕ). slice_index_or marks m false ≡ false) same is)

-- an operand that isn't marked
pub waits_for : (nodes : List Node) (marks : List Bool) (n : ℕ) (node : Node) (k : ℕ) → AreTrees nodes → length marks ≡ length nodes → n < length nodes → slice_get nodes n ≡ Some node → first_unmarked_in marks (args_of node) ≡ Some k → IsOperand nodes k n × (slice_get marks k ≡ Some false)
waits_for nodes marks n node k trees count within at some =
    let found = first_some marks (args_of node) k some in
    let operand : IsOperand nodes k n = record { node = node; stands = at; among = found.0 } in
    let tree = trees n within in
    let below : k < length marks = subst (λ (c : ℕ). k < c) (sym count) (operand_within nodes n k tree.0 tree.1 operand) in
    (operand, mark_at marks k below ∙ ap Some found.1)

-- no operand waits
pub none_waits : (nodes : List Node) (marks : List Bool) (n : ℕ) (node : Node) → AreTrees nodes → length marks ≡ length nodes → n < length nodes → slice_get nodes n ≡ Some node → first_unmarked_in marks (args_of node) ≡ None → (k : ℕ) → IsIn (args_of node) k → IsMarked marks k
none_waits nodes marks n node trees count within at none k among =
    let tree = trees n within in
    let below : k < length marks = subst (λ (c : ℕ). k < c) (sym count) (operand_within nodes n k tree.0 tree.1 (record { node = node; stands = at; among = among })) in
    mark_at marks k below ∙ ap Some (first_none marks (args_of node) none k among)

-- ---- an order

-- no number is marked at first
pub none_marked : (count k : ℕ) → IsMarked (replicate count false) k → ⊥
none_marked zero k at = none-some true at
none_marked (suc count) zero at = absurd (let h : false ≡ true = same_Some false true at in cc)
none_marked (suc count) (suc k) at = none_marked count k at

-- what is marked stays marked
pub marked_more : (marks : List Bool) (n k : ℕ) → n < length marks → IsMarked marks k → IsMarked (set marks n true) k
marked_more marks n k inside at = elim (eqb_tells k n) [
  | inl (_, same) ↦ subst (λ (m : ℕ). IsMarked (set marks n true) m) (sym same) (gets-set_same marks n true inside)
  | inr (_, differ) ↦ gets-set_other marks n k true differ ∙ at
]

-- what is marked now was marked before, or is the number that was marked
pub marked_before : (marks : List Bool) (n k : ℕ) → IsMarked (set marks n true) k → (k ≡ n) ⊎ IsMarked marks k
marked_before marks n k at = elim (eqb_tells k n) [
  | inl (_, same) ↦ inl same
  | inr (_, differ) ↦ inr (sym (gets-set_other marks n k true differ) ∙ at)
]

behind_more : (nodes : List Node) (order : List ℕ) (n place m : ℕ) → IsBehindOperands nodes order place m → IsBehindOperands nodes (order ++ n ∷ []) place m
behind_more nodes order n place m behind = record {
  within = behind.within;
  operands = λ k operand. let was = behind.operands k operand in (was.0, was.1, gets-append_left order (n ∷ []) was.0 k was.2);
}

behind_last : (nodes : List Node) (order : List ℕ) (placed : List Bool) (n : ℕ) (node : Node) → IsListing nodes order placed → slice_get nodes n ≡ Some node → ((k : ℕ) → IsIn (args_of node) k → IsMarked placed k) → IsBehindOperands nodes (order ++ n ∷ []) (length order) n
behind_last nodes order placed n node listing at all = record {
  within = slice_get_within nodes n node at;
  operands = λ k operand.
      let node_is : operand.node ≡ node = same_Some operand.node node (sym operand.stands ∙ at) in
      let there = listing.listed k (all k (subst (λ (x : Node). IsIn (args_of x) k) node_is operand.among)) in
      (there.0, slice_get_within order there.0 k there.1, gets-append_left order (n ∷ []) there.0 k there.1);
}

-- a node whose operands stand in the order may be put behind them
pub listing_more : (nodes : List Node) (order : List ℕ) (placed : List Bool) (n : ℕ) (node : Node) → IsListing nodes order placed → slice_get nodes n ≡ Some node → ((k : ℕ) → IsIn (args_of node) k → IsMarked placed k) → IsListing nodes (order ++ n ∷ []) (set placed n true)
listing_more nodes order placed n node listing at all = record {
  count = length-set placed n true ∙ listing.count;
  ordered = λ place m there. elim (gets-pushed order n place m there) [
    | inl before ↦ behind_more nodes order n place m (listing.ordered place m before)
    | inr last ↦
        subst (λ (p : ℕ). IsBehindOperands nodes (order ++ n ∷ []) p m) (sym last.0)
        (subst (λ (j : ℕ). IsBehindOperands nodes (order ++ n ∷ []) (length order) j) last.1 (behind_last nodes order placed n node listing at all))
  ];
  listed = λ k marked. elim (marked_before placed n k marked) [
    | inl same ↦ subst (λ (j : ℕ). IsIn (order ++ n ∷ []) j) (sym same) (In-append_right order (n ∷ []) n (In-one n))
    | inr before ↦ In-append_left order (n ∷ []) k (listing.listed k before)
  ];
}

-- ---- the way

-- marking a number leaves fewer that aren't
pub unmarked_less : (marks : List Bool) (k : ℕ) → slice_get marks k ≡ Some false → unmarked (set marks k true) + 1 ≡ unmarked marks
unmarked_less [] k at = absurd cc
unmarked_less (b ∷ marks) zero at = let is : b ≡ false = cc in rw is (first marks)
  where
    first : (bs : List Bool) → unmarked (true ∷ bs) + 1 ≡ unmarked (false ∷ bs)
    first bs =
        let left : unmarked (true ∷ bs) ≡ 0 + unmarked bs = sum_by-cons (λ (b : Bool). if b then 0 else 1) true bs in
        let right : unmarked (false ∷ bs) ≡ 1 + unmarked bs = sum_by-cons (λ (b : Bool). if b then 0 else 1) false bs in
        omega arith
unmarked_less (b ∷ marks) (suc k) at =
    let rest : unmarked (set marks k true) + 1 ≡ unmarked marks = unmarked_less marks k at in
    let left : unmarked (b ∷ set marks k true) ≡ (if b then 0 else 1) + unmarked (set marks k true) = sum_by-cons (λ (b : Bool). if b then 0 else 1) b (set marks k true) in
    let right : unmarked (b ∷ marks) ≡ (if b then 0 else 1) + unmarked marks = sum_by-cons (λ (b : Bool). if b then 0 else 1) b marks in
    omega arith

-- what was on the stack is there still, or was on its top
pub was_on_top : (stack rest : List ℕ) (n m : ℕ) → IsIn stack m → stack ≡ rest ++ n ∷ [] → IsIn rest m ⊎ (n ≡ m)
was_on_top stack rest n m among is = elim (In-append rest (n ∷ []) m (subst (λ (ns : List ℕ). IsIn ns m) is among)) [
  | inl before ↦ inl before
  | inr last ↦ inr (one-In n m last)
]

pub within_popped : (nodes : List Node) (stack rest : List ℕ) (n : ℕ) → AreWithin nodes stack → stack ≡ rest ++ n ∷ [] → AreWithin nodes rest × (n < length nodes)
within_popped nodes stack rest n are is = (
  (λ m among. are m (subst (λ (ns : List ℕ). IsIn ns m) (sym is) (In-append_left rest (n ∷ []) m among))),
  are n (subst (λ (ns : List ℕ). IsIn ns n) (sym is) (In-append_right rest (n ∷ []) n (In-one n))),
)

pub within_pushed : (nodes : List Node) (rest : List ℕ) (n : ℕ) → AreWithin nodes rest → n < length nodes → AreWithin nodes (rest ++ n ∷ [])
within_pushed nodes rest n are below m among = elim (In-append rest (n ∷ []) m among) [
  | inl before ↦ are m before
  | inr last ↦ subst (λ (k : ℕ). k < length nodes) (one-In n m last) below
]

-- the root stands in the order, or is on the stack still
pub found_pushed : (placed : List Bool) (stack rest once twice : List ℕ) (root n k : ℕ) → IsMarked placed root ⊎ IsIn stack root → stack ≡ rest ++ n ∷ [] → once ≡ rest ++ n ∷ [] → twice ≡ once ++ k ∷ [] → IsMarked placed root ⊎ IsIn twice root
found_pushed placed stack rest once twice root n k (inl done) popped first second = inl done
found_pushed placed stack rest once twice root n k (inr among) popped first second =
    inr (subst (λ (ns : List ℕ). IsIn ns root) (sym second) (In-append_left once (k ∷ []) root (subst (λ (ns : List ℕ). IsIn ns root) (popped ∙ sym first) among)))

pub found_popped : (placed : List Bool) (stack rest : List ℕ) (root n : ℕ) → n < length placed → IsMarked placed root ⊎ IsIn stack root → stack ≡ rest ++ n ∷ [] → IsMarked (set placed n true) root ⊎ IsIn rest root
found_popped placed stack rest root n inside (inl done) popped = inl (marked_more placed n root inside done)
found_popped placed stack rest root n inside (inr among) popped = elim (was_on_top stack rest n root among popped) [
  | inl there ↦ inr there
  | inr is ↦ inl (subst (λ (m : ℕ). IsMarked (set placed n true) m) is (gets-set_same placed n true inside))
]

-- the node that is gone into is on the way
pub way_pushed : (placed opened : List Bool) (stack rest once twice : List ℕ) (n k : ℕ) → IsOnTheWay placed opened stack → stack ≡ rest ++ n ∷ [] → once ≡ rest ++ n ∷ [] → twice ≡ once ++ k ∷ [] → IsOnTheWay placed (set opened k true) twice
way_pushed placed opened stack rest once twice n k under popped first second m at = elim (marked_before opened k m at) [
  | inl is ↦ inr (subst (λ (ns : List ℕ). IsIn ns m) (sym second) (subst (λ (j : ℕ). IsIn (once ++ k ∷ []) j) (sym is) (In-append_right once (k ∷ []) k (In-one k))))
  | inr there ↦ found_pushed placed stack rest once twice m n k (under m there) popped first second
]

-- a node that stands in the order is on the way no more
pub way_popped : (placed opened : List Bool) (stack rest : List ℕ) (n : ℕ) → n < length placed → IsOnTheWay placed opened stack → stack ≡ rest ++ n ∷ [] → IsOnTheWay (set placed n true) opened rest
way_popped placed opened stack rest n inside under popped m at = found_popped placed stack rest m n inside (under m at) popped

-- an operand that doesn't stand in the order was never gone into
pub never_opened : (nodes : List Node) (placed opened : List Bool) (stack rest : List ℕ) (n k : ℕ) → AreTrees nodes → k < length nodes → length opened ≡ length nodes → IsOnTheWay placed opened stack → IsPath nodes stack → stack ≡ rest ++ n ∷ [] → IsOperand nodes k n → slice_get placed k ≡ Some false → slice_get opened k ≡ Some false
never_opened nodes placed opened stack rest n k trees within count under path popped operand lacks = by (get_or opened k false) (slice_get-get_or opened k false inside)
  where
    inside : k < length opened
    inside = subst (λ (c : ℕ). k < c) (sym count) within

    never : IsMarked opened k → ⊥
    never at = elim (under k at) [
      | inl done ↦ let h : false ≡ true = same_Some false true (sym lacks ∙ done) in cc
      | inr among ↦ path_new nodes rest n k (trees k within).0 (subst (λ (ns : List ℕ). IsPath nodes ns) popped path) operand (trees k within).1 (subst (λ (ns : List ℕ). IsIn ns k) popped among)
    ]

    by : (b : Bool) → slice_get opened k ≡ Some b → slice_get opened k ≡ Some false
    by true at = absurd (never at)
    by false at = at

-- going into a node leaves less to do
pub less_opened : (opened : List Bool) (stack rest once twice : List ℕ) (n k : ℕ) → slice_get opened k ≡ Some false → stack ≡ rest ++ n ∷ [] → once ≡ rest ++ n ∷ [] → twice ≡ once ++ k ∷ [] → 3 * unmarked (set opened k true) + length twice < 3 * unmarked opened + length stack
less_opened opened stack rest once twice n k was popped first second =
    let fewer : unmarked (set opened k true) + 1 ≡ unmarked opened = unmarked_less opened k was in
    let stack_length : length stack ≡ length rest + 1 = ap length popped ∙ length-append rest (n ∷ []) in
    let once_length : length once ≡ length rest + 1 = ap length first ∙ length-append rest (n ∷ []) in
    let twice_length : length twice ≡ length once + 1 = ap length second ∙ length-append once (k ∷ []) in
    omega arith

-- a node that is put into the order leaves less to do
pub less_stacked : (opened : List Bool) (stack rest : List ℕ) (n : ℕ) → stack ≡ rest ++ n ∷ [] → 3 * unmarked opened + length rest < 3 * unmarked opened + length stack
less_stacked opened stack rest n popped = let stack_length : length stack ≡ length rest + 1 = ap length popped ∙ length-append rest (n ∷ []) in omega arith
