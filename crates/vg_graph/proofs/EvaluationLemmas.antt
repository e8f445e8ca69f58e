-- The operator of a node over constants, which are the values of its operands.
use Rattle.std.proofs.Common.{◌≡◌, ◌≢◌, ℕ, zero, suc, ◌+◌, ◌<◌, ◌≤◌, ◌^◌, ◌⊎◌, inl, inr, Bool, true, ◌&&◌, IsTrue, nat_le, nat_lt, List, [], ◌∷◌, length, set, Option, Some, None, refl, sym, ap, ◌∙◌, subst, arith, rules}
use Rattle.std.specs.Prelude.{slice_get, slice_index_or, IsSome}
use Rattle.std.proofs.lemmas.Bool.{cases_lt}
use Rattle.std.proofs.lemmas.Bool.Decides.{eqb_tells, nat_tests}
use Rattle.std.proofs.lemmas.Option.{same_Some}
use Rattle.vg_bits.specs.BitValue.{BitValue, IsBitValue}
use Rattle.vg_isa.specs.declared.isa.Parts.{Parts}
use Rattle.vg_isa.specs.declared.expr.Expr.{Expr, fold-roll-Expr, map-Expr, roll-Expr}
use Rattle.vg_isa.specs.declared.expr.Expr.TheOpen.{Expr-F}
use Rattle.vg_isa.specs.declared.expr.Expr.TheVariants.{Const, rolls-Const, rolls-Field, rolls-Pc, rolls-Reg, rolls-Mem, rolls-Unary, rolls-Binary, rolls-Cast, rolls-Slice, rolls-Join, rolls-If}
use Rattle.vg_isa.specs.Typing.{Typing, fits, is_typed, is_width, typing_of, typing_step, width_of}
use Rattle.vg_isa.specs.Value.{Reads, value_of, value_step}
use Rattle.vg_graph.specs.declared.node.Node.{Node}
use Rattle.vg_graph.specs.Node.{IsIn, args_of, node_of, operands_in}
use Rattle.vg_graph.specs.Tree.{HaveTrees, IsOperand, IsTree}
use Rattle.vg_graph.specs.Evaluation.{AreBitValues, AreOperandsWorth, IsWorth, constant_at, tree_over, value_in}
use Rattle.vg_graph.proofs.BuildLemmas.{operand_typed}
use Rattle.vg_graph.proofs.LevelLemmas.{args_of-node, fold_level, map_same}
use Rattle.vg_graph.proofs.TreeLemmas.{level_of_tree, tree_unique}

-- the operator of a node over trees is that level of a tree
pub tree_over-level : (at : ℕ → Expr) (x : Expr-F ℕ) → tree_over at (node_of x) ≡ Some (roll-Expr (map-Expr ℕ Expr at x))
tree_over-level at (Expr-F.Const b) = ap Some (sym (rolls-Const b))
tree_over-level at (Expr-F.Field f) = ap Some (sym (rolls-Field f))
tree_over-level at Expr-F.Pc = ap Some (sym rolls-Pc)
tree_over-level at (Expr-F.Reg r None) = ap Some (sym (rolls-Reg r None))
tree_over-level at (Expr-F.Reg r (Some i)) = ap Some (sym (rolls-Reg r (Some (at i))))
tree_over-level at (Expr-F.Mem a bytes) = ap Some (sym (rolls-Mem (at a) bytes))
tree_over-level at (Expr-F.Unary o a) = ap Some (sym (rolls-Unary o (at a)))
tree_over-level at (Expr-F.Binary o a b) = ap Some (sym (rolls-Binary o (at a) (at b)))
tree_over-level at (Expr-F.Cast o width a) = ap Some (sym (rolls-Cast o width (at a)))
tree_over-level at (Expr-F.Slice a high low) = ap Some (sym (rolls-Slice (at a) high low))
tree_over-level at (Expr-F.Join a b) = ap Some (sym (rolls-Join (at a) (at b)))
tree_over-level at (Expr-F.If c a b) = ap Some (sym (rolls-If (at c) (at a) (at b)))

-- a node that has a tree has as many operands as its operator takes
pub tree_over-some : (nodes : List Node) (n : ℕ) (node : Node) (e : Expr) (at : ℕ → Expr) → IsTree nodes n e → slice_get nodes n ≡ Some node → IsSome (tree_over at node)
tree_over-some nodes n node e at stands here =
    let l = level_of_tree nodes n e stands in
    let is : node ≡ node_of l.level = same_Some node (node_of l.level) (sym here ∙ l.at) in
    subst (λ (o : Option Expr). IsSome o) (sym (ap (tree_over at) is ∙ tree_over-level at l.level)) (some (roll-Expr (map-Expr ℕ Expr at l.level)))
  where
    some : (x : Expr) → IsSome (Some x)
    some x = search rules

-- a bit value of a width
value_typed : (b : BitValue) → IsBitValue b → (is_width b.width && fits b.width b.number) ≡ true
value_typed b is =
    let wide : nat_le 1 b.width ≡ true = let h : 0 < b.width = is.wide in grind (arith, nat_tests) in
    let narrow : nat_le b.width 128 ≡ true = let h : b.width ≤ 128 = is.narrow in grind (arith, nat_tests) in
    let below : nat_lt b.number (2 ^ b.width) ≡ true = let h : b.number < 2 ^ b.width = is.below in grind (arith, nat_tests) in
    rw (wide, narrow, below) refl

constant_typing : (d : Parts) (b : BitValue) → IsBitValue b → typing_of d (Const b) ≡ record { width = b.width; is_typed = true }
constant_typing d b is =
    ap (typing_of d) (sym (rolls-Const b)) ∙ fold-roll-Expr Typing (typing_step d) (Expr-F.Const b) ∙ (let t : (is_width b.width && fits b.width b.number) ≡ true = value_typed b is in λ i. record { width = b.width; is_typed = t i })

constant_value : (d : Parts) (b : BitValue) (word : ℕ) (s : Reads) → value_of d (Const b) word s ≡ b
constant_value d b word s = ap (λ (e : Expr). value_of d e word s) (sym (rolls-Const b)) ∙ fold-roll-Expr BitValue (value_step d word s) (Expr-F.Const b)

bits_each : (values : List BitValue) (ns : List ℕ) → AreBitValues values ns → (k : ℕ) → IsIn ns k → IsBitValue (value_in values k)
bits_each values [] all k (place, at) = absurd (let h : slice_get {X = ℕ} [] place ≡ Some k = at in cc)
bits_each values (n ∷ ns) all k (zero, at) = let same : n ≡ k = cc in subst (λ (m : ℕ). IsBitValue (value_in values m)) same all.0
bits_each values (n ∷ ns) all k (suc place, at) = bits_each values ns all.1 k (place, at)

-- what is evaluated for a node has the typing and the value of the tree at it
pub record IsAlikeTo (d : Parts) (word : ℕ) (s : Reads) (e f : Expr) : Type 0 where
  pub typing : typing_of d e ≡ typing_of d f
  pub value : value_of d e word s ≡ value_of d f word s

module _ (d : Parts) (nodes : List Node) (word : ℕ) (s : Reads) (values : List BitValue) where
  constants_alike :
      (x : Expr-F ℕ) (tree : ℕ → Expr)
      → ((k : ℕ) → IsIn (operands_in x) k → IsTree nodes k (tree k))
      → ((k : ℕ) → IsIn (operands_in x) k → IsWorth d nodes word s k (value_in values k))
      → ((k : ℕ) → IsIn (operands_in x) k → IsBitValue (value_in values k))
      → IsTrue (is_typed d (roll-Expr (map-Expr ℕ Expr tree x)))
      → IsAlikeTo d word s (roll-Expr (map-Expr ℕ Expr (constant_at values) x)) (roll-Expr (map-Expr ℕ Expr tree x))
  constants_alike x tree stand worth bits typed = record {
    typing =
        fold_level Typing (typing_step d) x (constant_at values)
        ∙ ap (typing_step d) (map_same Typing x (λ (k : ℕ). typing_of d (constant_at values k)) (λ (k : ℕ). typing_of d (tree k)) typings)
        ∙ sym (fold_level Typing (typing_step d) x tree);
    value =
        fold_level BitValue (value_step d word s) x (constant_at values)
        ∙ ap (value_step d word s) (map_same BitValue x (λ (k : ℕ). value_of d (constant_at values k) word s) (λ (k : ℕ). value_of d (tree k) word s) same_values)
        ∙ sym (fold_level BitValue (value_step d word s) x tree);
  }
    where
      typings : (k : ℕ) → IsIn (operands_in x) k → typing_of d (constant_at values k) ≡ typing_of d (tree k)
      typings k among =
          let w : (value_in values k).width ≡ width_of d (tree k) = (worth k among).width (tree k) (stand k among) in
          let t : true ≡ is_typed d (tree k) = sym (operand_typed d x tree typed k among) in
          let same : record { width = (value_in values k).width; is_typed = true } ≡ typing_of d (tree k) = λ i. record { width = w i; is_typed = t i } in
          constant_typing d (value_in values k) (bits k among) ∙ same

      same_values : (k : ℕ) → IsIn (operands_in x) k → value_of d (constant_at values k) word s ≡ value_of d (tree k) word s
      same_values k among = constant_value d (value_in values k) word s ∙ (worth k among).value (tree k) (stand k among)

  -- the operator of a node over the values of its operands is alike to its tree
  pub over_alike : (n : ℕ) (node : Node) (e : Expr) → HaveTrees d nodes → n < length nodes → slice_get nodes n ≡ Some node → AreOperandsWorth d nodes word s values n → AreBitValues values (args_of node) → tree_over (constant_at values) node ≡ Some e → (f : Expr) → IsTree nodes n f → IsAlikeTo d word s e f
  over_alike n node e have within at worth bits is f stands =
      let has = have n within in
      let l = level_of_tree nodes n has.tree has.stands in
      let node_is : node ≡ node_of l.level = same_Some node (node_of l.level) (sym at ∙ l.at) in
      let args : args_of node ≡ operands_in l.level = ap args_of node_is ∙ args_of-node l.level in
      let e_is : e ≡ roll-Expr (map-Expr ℕ Expr (constant_at values) l.level) =
      same_Some e (roll-Expr (map-Expr ℕ Expr (constant_at values) l.level)) (sym is ∙ ap (tree_over (constant_at values)) node_is ∙ tree_over-level (constant_at values) l.level) in
      let f_is : roll-Expr (map-Expr ℕ Expr l.tree l.level) ≡ f = sym l.is ∙ tree_unique nodes n has.tree f has.stands stands in
      let alike = constants_alike l.level l.tree l.below
      (λ k among. worth k (record { node = node; stands = at; among = subst (λ (ks : List ℕ). IsIn ks k) (sym args) among }))
      (λ k among. bits_each values (args_of node) bits k (subst (λ (ks : List ℕ). IsIn ks k) (sym args) among))
      (subst (λ (t : Expr). IsTrue (is_typed d t)) l.is has.typed) in
      subst (λ (a : Expr). IsAlikeTo d word s a f) (sym e_is) (subst (λ (b : Expr). IsAlikeTo d word s (roll-Expr (map-Expr ℕ Expr (constant_at values) l.level)) b) f_is alike)

  -- so it is typed
  pub over_typed : (n : ℕ) (node : Node) (e : Expr) → HaveTrees d nodes → n < length nodes → slice_get nodes n ≡ Some node → AreOperandsWorth d nodes word s values n → AreBitValues values (args_of node) → tree_over (constant_at values) node ≡ Some e → IsTrue (is_typed d e)
  over_typed n node e have within at worth bits is =
      let has = have n within in
      let alike = over_alike n node e have within at worth bits is has.tree has.stands in
      ap (λ (t : Typing). t.is_typed) alike.typing ∙ has.typed

  -- and what it comes to is the value of the node
  pub over_worth : (n : ℕ) (node : Node) (e : Expr) (b : BitValue) → HaveTrees d nodes → n < length nodes → slice_get nodes n ≡ Some node → AreOperandsWorth d nodes word s values n → AreBitValues values (args_of node) → tree_over (constant_at values) node ≡ Some e → b ≡ value_of d e word s → b.width ≡ width_of d e → IsWorth d nodes word s n b
  over_worth n node e b have within at worth bits is value width = record {
    value = λ f stands. value ∙ (over_alike n node e have within at worth bits is f stands).value;
    width = λ f stands. width ∙ ap (λ (t : Typing). t.width) (over_alike n node e have within at worth bits is f stands).typing;
  }

-- ---- the values that are kept

-- the value that was put in is there
pub value_in-same : (values : List BitValue) (n : ℕ) (b : BitValue) → n < length values → value_in (set values n b) n ≡ b
value_in-same [] n b below = absurd (omega arith)
value_in-same (x ∷ values) zero b below = refl
value_in-same (x ∷ values) (suc n) b below = value_in-same values n b (omega arith)

-- all others are as they were
pub value_in-other : (values : List BitValue) (n k : ℕ) (b : BitValue) → k ≢ n → value_in (set values n b) k ≡ value_in values k
value_in-other [] n k b differ = refl
value_in-other (x ∷ values) zero zero b differ = absurd (differ refl)
value_in-other (x ∷ values) zero (suc k) b differ = refl
value_in-other (x ∷ values) (suc n) zero b differ = refl
value_in-other (x ∷ values) (suc n) (suc k) b differ = value_in-other values n k b (λ same. differ (ap suc same))

-- one node more has its value
pub worth_more :
    (d : Parts) (nodes : List Node) (word : ℕ) (s : Reads) (old new : List BitValue) (order : List ℕ) (place n : ℕ)
    → slice_get order place ≡ Some n
    → ((before k : ℕ) → before < place → slice_get order before ≡ Some k → IsWorth d nodes word s k (value_in old k))
    → IsWorth d nodes word s n (value_in new n)
    → ((k : ℕ) → k ≢ n → value_in new k ≡ value_in old k)
    → (before k : ℕ) → before < place + 1 → slice_get order before ≡ Some k → IsWorth d nodes word s k (value_in new k)
worth_more d nodes word s old new order place n here all now others before k below at = elim (eqb_tells k n) [
  | inl (_, same) ↦ subst (λ (m : ℕ). IsWorth d nodes word s m (value_in new m)) (sym same) now
  | inr (_, differ) ↦ elim (cases_lt before place) [
    | inl earlier ↦ subst (λ (b : BitValue). IsWorth d nodes word s k b) (sym (others k differ)) (all before k earlier at)
    | inr past ↦
        let is : before ≡ place = omega arith in
        absurd (differ (same_Some k n (sym at ∙ ap (slice_get order) is ∙ here)))
  ]
]
