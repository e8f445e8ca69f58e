-- In a graph in normal form, nodes whose trees are alike are one.
use Rattle.std.proofs.Common.{◌≡◌, ℕ, zero, suc, ◌≤◌, inl, inr, Bool, true, false, IsTrue, nat_eq, List, [], ◌∷◌, map, Some, None, refl, sym, ap, ◌∙◌, subst, arith, if◌then◌else◌}
use Rattle.std.specs.Prelude.{slice_get, ◌↔◌}
use Rattle.std.proofs.lemmas.Bool.{cases_Bool}
use Rattle.vg_isa.specs.declared.isa.Parts.{Parts}
use Rattle.vg_isa.specs.declared.expr.Expr.{Expr, map-Expr, out-Expr, out-roll-Expr, roll-Expr}
use Rattle.vg_isa.specs.declared.expr.Expr.TheOpen.{Expr-F}
use Rattle.vg_isa.specs.declared.operator.BinOp.{BinOp}
use Rattle.vg_isa.specs.declared.operator.CastOp.{CastOp}
use Rattle.vg_isa.specs.Accepted.{is_isa}
use Rattle.vg_isa.specs.Typing.{is_typed, width_of}
use Rattle.vg_isa.proofs.Tests.{true-nat_eq}
use Rattle.vg_graph.specs.declared.operands.Operands.{Operands}
use Rattle.vg_graph.specs.declared.operands.Operands.TheVariants.{Zero, One, Two, Three}
use Rattle.vg_graph.specs.declared.operator.Op.{Op}
use Rattle.vg_graph.specs.declared.operator.Op.TheVariants as op
use Rattle.vg_graph.specs.Node.{IsIn, node_of, operands_in}
use Rattle.vg_graph.specs.Tree.{IsTree, over}
use Rattle.vg_graph.specs.Graph.{GraphValue, IsGraph}
use Rattle.vg_graph.specs.Building.{op_in}
use Rattle.vg_graph.specs.Alike.{Alike, commutes, same}
use Rattle.vg_graph.proofs.LevelLemmas.{fold_level, operands_in-map}
use Rattle.vg_graph.proofs.TreeLemmas.{level_of_tree, tree_unique, tree_within}
use Rattle.vg_norm.specs.Normal.{IsInOrder, IsNormal}
use Rattle.vg_norm.specs.NormalTree.{binary_over, cast_over, is_first, normal_step, normal_tree}
use Rattle.vg_norm.proofs.NormalLemmas.{normal_same, normal_width}

-- ---- a node by its operator and its operands

abbrev operands_of_list : List ℕ → Operands
operands_of_list (a ∷ []) = One a
operands_of_list (a ∷ b ∷ []) = Two a b
operands_of_list (a ∷ b ∷ c ∷ []) = Three a b c
operands_of_list _ = Zero

node_parts : (x : Expr-F ℕ) → node_of x ≡ record { op = op_in x; args = operands_of_list (operands_in x) }
node_parts (Expr-F.Const b) = refl
node_parts (Expr-F.Field n) = refl
node_parts Expr-F.Pc = refl
node_parts (Expr-F.Reg r None) = refl
node_parts (Expr-F.Reg r (Some i)) = refl
node_parts (Expr-F.Mem a bytes) = refl
node_parts (Expr-F.Unary o a) = refl
node_parts (Expr-F.Binary o a b) = refl
node_parts (Expr-F.Cast o width a) = refl
node_parts (Expr-F.Slice a high low) = refl
node_parts (Expr-F.Join a b) = refl
node_parts (Expr-F.If c a b) = refl

same_node : (x y : Expr-F ℕ) → op_in x ≡ op_in y → operands_in x ≡ operands_in y → node_of x ≡ node_of y
same_node x y o ops = node_parts x ∙ (λ i. record { op = o i; args = operands_of_list (ops i) }) ∙ sym (node_parts y)

op_in-map : (f : ℕ → Expr) (x : Expr-F ℕ) → op_in (map-Expr ℕ Expr f x) ≡ op_in x
op_in-map f (Expr-F.Const b) = refl
op_in-map f (Expr-F.Field n) = refl
op_in-map f Expr-F.Pc = refl
op_in-map f (Expr-F.Reg r None) = refl
op_in-map f (Expr-F.Reg r (Some i)) = refl
op_in-map f (Expr-F.Mem a bytes) = refl
op_in-map f (Expr-F.Unary o a) = refl
op_in-map f (Expr-F.Binary o a b) = refl
op_in-map f (Expr-F.Cast o width a) = refl
op_in-map f (Expr-F.Slice a high low) = refl
op_in-map f (Expr-F.Join a b) = refl
op_in-map f (Expr-F.If c a b) = refl

-- ---- what the normal form of a level keeps

abbrev commuting : Op → Bool
commuting (op.Binary o) = commutes o
commuting _ = false

-- two operands in their order
abbrev sorted : List Expr → List Expr
sorted (a ∷ b ∷ []) = if is_first a b then a ∷ b ∷ [] else b ∷ a ∷ []
sorted es = es

abbrev arranged : Bool → List Expr → List Expr
arranged c es = if c then sorted es else es

-- the operator stays, and so do the operands, in their order where it commutes
record IsStepOf (x : Expr-F Expr) (e : Expr) : Type 0 where
  op_is : op_in (out-Expr e) ≡ op_in x
  operands_are : operands_in (out-Expr e) ≡ arranged (commuting (op_in x)) (operands_in x)

step_rolled : (x : Expr-F Expr) → commuting (op_in x) ≡ false → IsStepOf x (roll-Expr x)
step_rolled x plain = record {
  op_is = ap (λ (y : Expr-F Expr). op_in y) (out-roll-Expr x);
  operands_are = ap (λ (y : Expr-F Expr). operands_in y) (out-roll-Expr x) ∙ ap (λ (c : Bool). arranged c (operands_in x)) (sym plain);
}

step_binary : (o : BinOp) (a b : Expr) → IsStepOf (Expr-F.Binary o a b) (binary_over o a b)
step_binary o a b = let both_kept = by (commutes o) (is_first a b) in record { op_is = both_kept.0; operands_are = both_kept.1 }
  where
    by : (c first : Bool) → (op_in (out-Expr (if c then (if first then roll-Expr (Expr-F.Binary o a b) else roll-Expr (Expr-F.Binary o b a)) else roll-Expr (Expr-F.Binary o a b))) ≡ op.Binary o) × (operands_in (out-Expr (if c then (if first then roll-Expr (Expr-F.Binary o a b) else roll-Expr (Expr-F.Binary o b a)) else roll-Expr (Expr-F.Binary o a b))) ≡ (if c then (if first then a ∷ b ∷ [] else b ∷ a ∷ []) else a ∷ b ∷ []))
    by true true = (ap (λ (y : Expr-F Expr). op_in y) (out-roll-Expr (Expr-F.Binary o a b)), ap (λ (y : Expr-F Expr). operands_in y) (out-roll-Expr (Expr-F.Binary o a b)))
    by true false = (ap (λ (y : Expr-F Expr). op_in y) (out-roll-Expr (Expr-F.Binary o b a)), ap (λ (y : Expr-F Expr). operands_in y) (out-roll-Expr (Expr-F.Binary o b a)))
    by false first = (ap (λ (y : Expr-F Expr). op_in y) (out-roll-Expr (Expr-F.Binary o a b)), ap (λ (y : Expr-F Expr). operands_in y) (out-roll-Expr (Expr-F.Binary o a b)))

step_cast : (d : Parts) (o : CastOp) (width : ℕ) (a : Expr) → nat_eq width (width_of d a) ≡ false → IsStepOf (Expr-F.Cast o width a) (cast_over d o width a)
step_cast d o width a = by (nat_eq width (width_of d a))
  where
    by : (c : Bool) → c ≡ false → IsStepOf (Expr-F.Cast o width a) (if c then a else roll-Expr (Expr-F.Cast o width a))
    by true is = absurd (let h : true ≡ false = is in cc)
    by false is = step_rolled (Expr-F.Cast o width a) refl

-- no cast that leaves its operand as it is, and no slice from bit 0
abbrev IsBare : Parts → Expr-F Expr → Type 0
IsBare d (Expr-F.Cast o width a) = nat_eq width (width_of d a) ≡ false
IsBare d (Expr-F.Slice a high low) = low ≡ 0 → ⊥
IsBare d _ = Unit {0}

step_bare : (d : Parts) (x : Expr-F Expr) → IsBare d x → IsStepOf x (normal_step d x)
step_bare d (Expr-F.Const b) bare = step_rolled (Expr-F.Const b) refl
step_bare d (Expr-F.Field n) bare = step_rolled (Expr-F.Field n) refl
step_bare d Expr-F.Pc bare = step_rolled Expr-F.Pc refl
step_bare d (Expr-F.Reg r i) bare = step_rolled (Expr-F.Reg r i) refl
step_bare d (Expr-F.Mem a bytes) bare = step_rolled (Expr-F.Mem a bytes) refl
step_bare d (Expr-F.Unary o a) bare = step_rolled (Expr-F.Unary o a) refl
step_bare d (Expr-F.Binary o a b) bare = step_binary o a b
step_bare d (Expr-F.Cast o width a) bare = step_cast d o width a bare
step_bare d (Expr-F.Slice a high zero) bare = absurd (bare refl)
step_bare d (Expr-F.Slice a high (suc low)) bare = step_rolled (Expr-F.Slice a high (suc low)) refl
step_bare d (Expr-F.Join a b) bare = step_rolled (Expr-F.Join a b) refl
step_bare d (Expr-F.If c a b) bare = step_rolled (Expr-F.If c a b) refl

-- ---- operands with the same normal forms

module _ (f g : ℕ → Expr) where
  same_lists : (xs ys : List ℕ) → map f xs ≡ map g ys → ((k j : ℕ) → IsIn xs k → IsIn ys j → f k ≡ g j → k ≡ j) → xs ≡ ys
  same_lists [] [] h one = refl
  same_lists [] (y ∷ ys) h one = absurd cc
  same_lists (x ∷ xs) [] h one = absurd cc
  same_lists (x ∷ xs) (y ∷ ys) h one =
      let first_same : f x ≡ g y = cc in
      let rest_same : map f xs ≡ map g ys = cc in
      let first : x ≡ y = one x y (0, refl) (0, refl) first_same in
      let rest : xs ≡ ys = same_lists xs ys rest_same (λ k j in_x in_y h. one k j (suc in_x.0, in_x.1) (suc in_y.0, in_y.1) h) in
      λ i. first i ∷ rest i

  pair : (a b c d : ℕ) → sorted (map f (a ∷ b ∷ [])) ≡ sorted (map g (c ∷ d ∷ [])) → a ≤ b → c ≤ d → (f a ≡ g c → a ≡ c) → (f a ≡ g d → a ≡ d) → (f b ≡ g c → b ≡ c) → (f b ≡ g d → b ≡ d) → (a ≡ c) × (b ≡ d)
  pair a b c d h ab cd ac ad bc bd = by (is_first (f a) (f b)) (is_first (g c) (g d)) h
    where
      crossed : (f a ≡ g d) → (f b ≡ g c) → (a ≡ c) × (b ≡ d)
      crossed p q = let one : a ≡ d = ad p in let two : b ≡ c = bc q in (omega arith, omega arith)

      by : (p q : Bool) → (if p then f a ∷ f b ∷ [] else f b ∷ f a ∷ []) ≡ (if q then g c ∷ g d ∷ [] else g d ∷ g c ∷ []) → (a ≡ c) × (b ≡ d)
      by true true k = let one : f a ≡ g c = cc in let two : f b ≡ g d = cc in (ac one, bd two)
      by true false k = let one : f a ≡ g d = cc in let two : f b ≡ g c = cc in crossed one two
      by false true k = let one : f b ≡ g c = cc in let two : f a ≡ g d = cc in crossed two one
      by false false k = let one : f b ≡ g d = cc in let two : f a ≡ g c = cc in (ac two, bd one)

-- an operator that commutes has two operands
record HasTwo (x : Expr-F ℕ) : Type 0 where
  left : ℕ
  right : ℕ
  operands : operands_in x ≡ left ∷ right ∷ []
  in_order : IsInOrder x → left ≤ right

has_two : (x : Expr-F ℕ) → commuting (op_in x) ≡ true → HasTwo x
has_two (Expr-F.Const b) h = absurd cc
has_two (Expr-F.Field n) h = absurd cc
has_two Expr-F.Pc h = absurd cc
has_two (Expr-F.Reg r i) h = absurd cc
has_two (Expr-F.Mem a bytes) h = absurd cc
has_two (Expr-F.Unary o a) h = absurd cc
has_two (Expr-F.Binary o a b) h = record { left = a; right = b; operands = refl; in_order = λ ordered. ordered h }
has_two (Expr-F.Cast o width a) h = absurd cc
has_two (Expr-F.Slice a high low) h = absurd cc
has_two (Expr-F.Join a b) h = absurd cc
has_two (Expr-F.If c a b) h = absurd cc

same_operands :
    (f g : ℕ → Expr) (x y : Expr-F ℕ)
    → op_in x ≡ op_in y
    → IsInOrder x
    → IsInOrder y
    → arranged (commuting (op_in x)) (map f (operands_in x)) ≡ arranged (commuting (op_in y)) (map g (operands_in y))
    → ((k j : ℕ) → IsIn (operands_in x) k → IsIn (operands_in y) j → f k ≡ g j → k ≡ j)
    → operands_in x ≡ operands_in y
same_operands f g x y ops x_ordered y_ordered lists one = elim (cases_Bool (commuting (op_in x))) [
  | inl held ↦
      let also : commuting (op_in y) ≡ true = ap commuting (sym ops) ∙ held in
      let p = has_two x held in
      let q = has_two y also in
      let sorts : sorted (map f (operands_in x)) ≡ sorted (map g (operands_in y)) = subst (λ (c : Bool). arranged c (map f (operands_in x)) ≡ sorted (map g (operands_in y))) held (subst (λ (c : Bool). arranged (commuting (op_in x)) (map f (operands_in x)) ≡ arranged c (map g (operands_in y))) also lists) in
      let pairs : sorted (map f (p.left ∷ p.right ∷ [])) ≡ sorted (map g (q.left ∷ q.right ∷ [])) = subst (λ (ks : List ℕ). sorted (map f ks) ≡ sorted (map g (q.left ∷ q.right ∷ []))) p.operands (subst (λ (ks : List ℕ). sorted (map f (operands_in x)) ≡ sorted (map g ks)) q.operands sorts) in
      let in_x : (k : ℕ) → IsIn (p.left ∷ p.right ∷ []) k → IsIn (operands_in x) k = λ k among. subst (λ (ks : List ℕ). IsIn ks k) (sym p.operands) among in
      let in_y : (k : ℕ) → IsIn (q.left ∷ q.right ∷ []) k → IsIn (operands_in y) k = λ k among. subst (λ (ks : List ℕ). IsIn ks k) (sym q.operands) among in
      let are = pair f g p.left p.right q.left q.right pairs (p.in_order x_ordered) (q.in_order y_ordered)
      (one p.left q.left (in_x p.left (0, refl)) (in_y q.left (0, refl)))
      (one p.left q.right (in_x p.left (0, refl)) (in_y q.right (1, refl)))
      (one p.right q.left (in_x p.right (1, refl)) (in_y q.left (0, refl)))
      (one p.right q.right (in_x p.right (1, refl)) (in_y q.right (1, refl))) in
      p.operands ∙ (λ i. are.0 i ∷ are.1 i ∷ []) ∙ sym q.operands
  | inr failed ↦
      let neither : commuting (op_in y) ≡ false = ap commuting (sym ops) ∙ failed in
      same_lists f g (operands_in x) (operands_in y)
      (subst (λ (c : Bool). arranged c (map f (operands_in x)) ≡ map g (operands_in y)) failed (subst (λ (c : Bool). arranged (commuting (op_in x)) (map f (operands_in x)) ≡ arranged c (map g (operands_in y))) neither lists))
      one
]

-- ---- nodes

module _ (g : GraphValue) (accepted : IsTrue (is_isa g.isa)) (graph : IsGraph g) where
  -- a tree at a node is typed
  pub typed_at : (n : ℕ) (e : Expr) → IsTree g.nodes n e → IsTrue (is_typed g.isa e)
  typed_at n e stands =
      let has = graph.trees n (tree_within g.nodes n e stands) in
      subst (λ (f : Expr). IsTrue (is_typed g.isa f)) (tree_unique g.nodes n has.tree e has.stands stands) has.typed

  module _ (normal : IsNormal g) where
    bare_at : (n : ℕ) (x : Expr-F ℕ) (tree : ℕ → Expr) → slice_get g.nodes n ≡ Some (node_of x) → ((k : ℕ) → IsIn (operands_in x) k → IsTree g.nodes k (tree k)) → IsBare g.isa (map-Expr ℕ Expr (λ (k : ℕ). normal_tree g.isa (tree k)) x)
    bare_at n (Expr-F.Const b) tree at below = tt
    bare_at n (Expr-F.Field f) tree at below = tt
    bare_at n Expr-F.Pc tree at below = tt
    bare_at n (Expr-F.Reg r None) tree at below = tt
    bare_at n (Expr-F.Reg r (Some i)) tree at below = tt
    bare_at n (Expr-F.Mem a bytes) tree at below = tt
    bare_at n (Expr-F.Unary o a) tree at below = tt
    bare_at n (Expr-F.Binary o a b) tree at below = tt
    bare_at n (Expr-F.Cast o width a) tree at below = elim (cases_Bool (nat_eq width (width_of g.isa (normal_tree g.isa (tree a))))) [
      | inl held ↦
          let stands : IsTree g.nodes a (tree a) = below a (0, refl) in
          let wide : width ≡ width_of g.isa (tree a) = true-nat_eq width (width_of g.isa (normal_tree g.isa (tree a))) held ∙ normal_width g.isa accepted (tree a) (typed_at a (tree a) stands) in
          absurd (normal.bare n (Expr-F.Cast o width a) at (λ e here. ap (width_of g.isa) (tree_unique g.nodes a e (tree a) here stands) ∙ sym wide))
      | inr failed ↦ failed
    ]
    bare_at n (Expr-F.Slice a high low) tree at below = λ first. normal.bare n (Expr-F.Slice a high low) at first
    bare_at n (Expr-F.Join a b) tree at below = tt
    bare_at n (Expr-F.If c a b) tree at below = tt

    -- nodes whose trees have one normal form are one
    one_node : (m n : ℕ) (e f : Expr) → IsTree g.nodes m e → IsTree g.nodes n f → normal_tree g.isa e ≡ normal_tree g.isa f → m ≡ n
    one_node _ n _ f (over m x tree at below) other h =
        let l = level_of_tree g.nodes n f other in
        let y = l.level in
        let left : ℕ → Expr = λ k. normal_tree g.isa (tree k) in
        let right : ℕ → Expr = λ k. normal_tree g.isa (l.tree k) in
        let p = step_bare g.isa (map-Expr ℕ Expr left x) (bare_at m x tree at below) in
        let q = step_bare g.isa (map-Expr ℕ Expr right y) (bare_at n y l.tree l.at l.below) in
        let steps : normal_step g.isa (map-Expr ℕ Expr left x) ≡ normal_step g.isa (map-Expr ℕ Expr right y) =
        sym (fold_level Expr (normal_step g.isa) x tree) ∙ h ∙ ap (normal_tree g.isa) l.is ∙ fold_level Expr (normal_step g.isa) y l.tree in
        let over_steps : op_in (map-Expr ℕ Expr left x) ≡ op_in (map-Expr ℕ Expr right y) = sym p.op_is ∙ ap (λ (e : Expr). op_in (out-Expr e)) steps ∙ q.op_is in
        let ops : op_in x ≡ op_in y = sym (op_in-map left x) ∙ over_steps ∙ op_in-map right y in
        let lists : arranged (commuting (op_in x)) (map left (operands_in x)) ≡ arranged (commuting (op_in y)) (map right (operands_in y)) =
        (λ i. arranged (commuting (sym (op_in-map left x) i)) (sym (operands_in-map Expr x left) i))
        ∙ sym p.operands_are
        ∙ ap (λ (e : Expr). operands_in (out-Expr e)) steps
        ∙ q.operands_are
        ∙ (λ i. arranged (commuting (op_in-map right y i)) (operands_in-map Expr y right i)) in
        let operands : operands_in x ≡ operands_in y =
        same_operands left right x y ops (normal.ordered m x at) (normal.ordered n y l.at) lists (λ k j in_x in_y is. one_node k j (tree k) (l.tree j) (below k in_x) (l.below j in_y) is) in
        normal.shared m n (node_of x) at (l.at ∙ ap Some (sym (same_node x y ops operands)))

    -- trees at nodes are alike exactly where the nodes are one
    pub alike_one : (m n : ℕ) (e f : Expr) → IsTree g.nodes m e → IsTree g.nodes n f → Alike g.isa e f ↔ (m ≡ n)
    alike_one m n e f at_m at_n = (
      (λ alike. one_node m n e f at_m at_n (normal_same g.isa accepted e f alike (typed_at m e at_m))),
      (λ is. subst (λ (t : Expr). Alike g.isa e t) (tree_unique g.nodes n e f (subst (λ (k : ℕ). IsTree g.nodes k e) is at_m) at_n) (same e)),
    )
