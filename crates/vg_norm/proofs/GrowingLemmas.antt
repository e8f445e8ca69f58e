-- A graph in normal form that grows.
use Rattle.std.proofs.Common.{◌≡◌, ℕ, zero, suc, ◌+◌, ◌<◌, ◌≤◌, ◌⊎◌, inl, inr, Bool, true, IsTrue, ◌&&◌, nat_le, List, [], ◌∷◌, ◌++◌, length, Some, None, refl, sym, ap, ◌∙◌, subst, arith}
use Rattle.std.specs.Prelude.{slice_get, slice_index_or}
use Rattle.std.proofs.lemmas.List.{length-append}
use Rattle.std.proofs.lemmas.Option.{slice_get_within, same_Some}
use Rattle.std.proofs.lemmas.Bool.Decides.{nat_tests}
use Rattle.vg_isa.specs.declared.isa.Parts.{Parts}
use Rattle.vg_isa.specs.declared.expr.Expr.{Expr, fold-roll-Expr, map-Expr, roll-Expr}
use Rattle.vg_isa.specs.declared.expr.Expr.TheOpen.{Expr-F}
use Rattle.vg_isa.specs.declared.operator.BinOp.{BinOp}
use Rattle.vg_isa.specs.declared.operator.CastOp.{CastOp}
use Rattle.vg_isa.specs.declared.operator.CastOp.TheVariants.{Cut}
use Rattle.vg_isa.specs.Typing.{Typing, is_typed, typing_of, typing_step, width_of}
use Rattle.vg_isa.proofs.Tests.{both, true-nat_lt}
use Rattle.vg_graph.specs.declared.node.Node.{Node}
use Rattle.vg_graph.specs.Node.{AllBelow, IsIn, args_of, node_of, operands_in}
use Rattle.vg_graph.specs.Tree.{HaveTrees, IsTree}
use Rattle.vg_graph.specs.Graph.{GraphValue, IsAdded, IsFit, IsGraph}
use Rattle.vg_graph.specs.Building.{Extends}
use Rattle.vg_graph.specs.Alike.{Alike, commutes, same, chained, swapped, cast, slice}
use Rattle.vg_graph.proofs.BuildLemmas.{added_at, added_extends}
use Rattle.vg_graph.proofs.Gets.{gets-pushed}
use Rattle.vg_graph.proofs.LevelLemmas.{args_of-node, fold_level, map_same, node_of-same}
use Rattle.vg_graph.proofs.TreeLemmas.{below_each, forest, level_of_tree, tree_stays, tree_unique, tree_within}
use Rattle.vg_norm.specs.Width.{node_typing, typed_as}
use Rattle.vg_norm.specs.Normal.{IsIdle, IsNormal}
use Rattle.vg_norm.specs.Growing.{AreWidths, HasNodeWidth, IsBareNode, IsOrderedNode, StandBelow, StandsFor}
use Rattle.vg_norm.proofs.AlikeLemmas.{alike_typed, opened_typing}

-- ---- trees in a graph that grew

-- a tree at a node that was there is the one that stood there
pub tree_back : (d : Parts) (nodes more : List Node) (n : ℕ) (e : Expr) → HaveTrees d nodes → n < length nodes → IsTree (nodes ++ more) n e → IsTree nodes n e
tree_back d nodes more n e have below stands =
    let before = have n below in
    subst (λ (f : Expr). IsTree nodes n f) (tree_unique (nodes ++ more) n before.tree e (tree_stays nodes more n before.tree before.stands) stands) before.stands

pub tree_extends : (g h : GraphValue) (n : ℕ) (e : Expr) → Extends g h → IsTree g.nodes n e → IsTree h.nodes n e
tree_extends g h n e more stands = subst (λ (ns : List Node). IsTree ns n e) (sym more.nodes) (tree_stays g.nodes more.more n e stands)

pub tree_was : (g h : GraphValue) (n : ℕ) (e : Expr) → Extends g h → HaveTrees g.isa g.nodes → n < length g.nodes → IsTree h.nodes n e → IsTree g.nodes n e
tree_was g h n e more have below stands = tree_back g.isa g.nodes more.more n e have below (subst (λ (ns : List Node). IsTree ns n e) more.nodes stands)

-- ---- nodes that fit

-- what a node that fits has for one level
pub record Fits (g : GraphValue) (x : Expr-F ℕ) : Type 0 where
  pub within : (k : ℕ) → IsIn (operands_in x) k → k < length g.nodes
  pub typed : (tree : ℕ → Expr) → StandBelow g.nodes x tree → IsTrue (is_typed g.isa (roll-Expr (map-Expr ℕ Expr tree x)))

pub fits : (g : GraphValue) (node : Node) (x : Expr-F ℕ) → IsFit g node → node ≡ node_of x → Fits g x
fits g node x fit is =
    let one : fit.level ≡ x = node_of-same fit.level x (sym fit.is ∙ is) in
    record {
      within = λ k among. below_each (length g.nodes) (args_of node) fit.within k (subst (λ (ks : List ℕ). IsIn ks k) (sym (ap args_of is ∙ args_of-node x)) among);
      typed = subst (λ (y : Expr-F ℕ). (tree : ℕ → Expr) → StandBelow g.nodes y tree → IsTrue (is_typed g.isa (roll-Expr (map-Expr ℕ Expr tree y)))) one fit.typed;
    }

-- a level of a graph over trees of a graph that grew
below_was : (g h : GraphValue) (x : Expr-F ℕ) (tree : ℕ → Expr) → Extends g h → HaveTrees g.isa g.nodes → ((k : ℕ) → IsIn (operands_in x) k → k < length g.nodes) → StandBelow h.nodes x tree → StandBelow g.nodes x tree
below_was g h x tree more have within stand k among = tree_was g h k (tree k) more have (within k among) (stand k among)

-- ---- widths

-- the typing of a level over operands of known widths
typing_known : (d : Parts) (widths : List ℕ) (x : Expr-F ℕ) → node_typing d widths (node_of x).op (node_of x).args ≡ typing_step d (map-Expr ℕ Typing (λ (k : ℕ). typed_as (slice_index_or widths k 0)) x)
typing_known d widths (Expr-F.Const b) = refl
typing_known d widths (Expr-F.Field f) = refl
typing_known d widths Expr-F.Pc = refl
typing_known d widths (Expr-F.Reg r None) = refl
typing_known d widths (Expr-F.Reg r (Some i)) = refl
typing_known d widths (Expr-F.Mem a bytes) = refl
typing_known d widths (Expr-F.Unary o a) = refl
typing_known d widths (Expr-F.Binary o a b) = refl
typing_known d widths (Expr-F.Cast o width a) = refl
typing_known d widths (Expr-F.Slice a high low) = refl
typing_known d widths (Expr-F.Join a b) = refl
typing_known d widths (Expr-F.If c a b) = refl

index_get : (xs : List ℕ) (n : ℕ) → n < length xs → slice_get xs n ≡ Some (slice_index_or xs n 0)
index_get [] n below = absurd (omega arith)
index_get (x ∷ xs) zero below = refl
index_get (x ∷ xs) (suc n) below = index_get xs n (omega arith)

-- the width of the tree at a node
pub width_at : (g : GraphValue) (widths : List ℕ) (n : ℕ) (e : Expr) → AreWidths g widths → IsTree g.nodes n e → width_of g.isa e ≡ slice_index_or widths n 0
width_at g widths n e are stands =
    let below : n < length widths = subst (λ (k : ℕ). n < k) (sym are.all) (tree_within g.nodes n e stands) in
    are.each n (slice_index_or widths n 0) (index_get widths n below) e stands

-- the typing of the tree at a node
typing_at : (g : GraphValue) (widths : List ℕ) (n : ℕ) (e : Expr) → HaveTrees g.isa g.nodes → AreWidths g widths → IsTree g.nodes n e → typing_of g.isa e ≡ typed_as (slice_index_or widths n 0)
typing_at g widths n e have are stands =
    let has = have n (tree_within g.nodes n e stands) in
    let typed : IsTrue (is_typed g.isa e) = subst (λ (f : Expr). IsTrue (is_typed g.isa f)) (tree_unique g.nodes n has.tree e has.stands stands) has.typed in
    let width : width_of g.isa e ≡ slice_index_or widths n 0 = width_at g widths n e are stands in
    λ i. record { width = width i; is_typed = typed i }

-- the typing of the tree of a node
typing_over : (g : GraphValue) (widths : List ℕ) (x : Expr-F ℕ) (tree : ℕ → Expr) → HaveTrees g.isa g.nodes → AreWidths g widths → StandBelow g.nodes x tree → typing_of g.isa (roll-Expr (map-Expr ℕ Expr tree x)) ≡ node_typing g.isa widths (node_of x).op (node_of x).args
typing_over g widths x tree have are stand =
    fold_level Typing (typing_step g.isa) x tree
    ∙ ap (typing_step g.isa) (map_same Typing x (λ (k : ℕ). typing_of g.isa (tree k)) (λ (k : ℕ). typed_as (slice_index_or widths k 0)) (λ k among. typing_at g widths k (tree k) have are (stand k among)))
    ∙ sym (typing_known g.isa widths x)

-- a node that fits is typed
pub node_typed : (g : GraphValue) (widths : List ℕ) (node : Node) → IsGraph g → AreWidths g widths → IsFit g node → IsTrue (node_typing g.isa widths node.op node.args).is_typed
node_typed g widths node graph are fit =
    let f = fits g node fit.level fit fit.is in
    let all = forest g.isa g.nodes graph.trees in
    let stand : StandBelow g.nodes fit.level all.tree = λ k among. all.stands k (f.within k among) in
    subst (λ (m : Node). IsTrue (node_typing g.isa widths m.op m.args).is_typed) (sym fit.is)
    (subst (λ (t : Typing). IsTrue t.is_typed) (typing_over g widths fit.level all.tree graph.trees are stand) (f.typed all.tree stand))

-- the operands of a node that fits have widths
pub operands_within : (g : GraphValue) (widths : List ℕ) (node : Node) → AreWidths g widths → IsFit g node → AllBelow (length widths) (args_of node)
operands_within g widths node are fit = subst (λ (k : ℕ). AllBelow k (args_of node)) (sym are.all) fit.within

-- the width of the node is that of its tree
pub node_width_is : (g : GraphValue) (widths : List ℕ) (node : Node) (w : ℕ) → IsGraph g → AreWidths g widths → w ≡ (node_typing g.isa widths node.op node.args).width → HasNodeWidth g node w
node_width_is g widths node w graph are is level tree node_is stand =
    ap (λ (t : Typing). t.width) (typing_over g widths level tree graph.trees are stand)
    ∙ ap (λ (m : Node). (node_typing g.isa widths m.op m.args).width) (sym node_is)
    ∙ sym is

-- ---- a node more

idle_was : (g h : GraphValue) (x : Expr-F ℕ) → Extends g h → IsIdle h x → IsIdle g x
idle_was g h (Expr-F.Cast o width a) more idle = λ e stands. subst (λ (d : Parts). width_of d e ≡ width) more.isa (idle e (tree_extends g h a e more stands))
idle_was g h (Expr-F.Slice a high low) more idle = idle
idle_was g h (Expr-F.Const b) more idle = absurd idle
idle_was g h (Expr-F.Field n) more idle = absurd idle
idle_was g h Expr-F.Pc more idle = absurd idle
idle_was g h (Expr-F.Reg r i) more idle = absurd idle
idle_was g h (Expr-F.Mem a bytes) more idle = absurd idle
idle_was g h (Expr-F.Unary o a) more idle = absurd idle
idle_was g h (Expr-F.Binary o a b) more idle = absurd idle
idle_was g h (Expr-F.Join a b) more idle = absurd idle
idle_was g h (Expr-F.If c a b) more idle = absurd idle

-- a node of the graph was there, or is the one that was asked for
node_was : (g h : GraphValue) (node : Node) (n m : ℕ) (other : Node) → IsAdded g h node n → slice_get h.nodes m ≡ Some other → (slice_get g.nodes m ≡ Some other) ⊎ (node ≡ other)
node_was g h node n m other (inl there) at = inl (subst (λ (x : GraphValue). slice_get x.nodes m ≡ Some other) there.same at)
node_was g h node n m other (inr is) at = elim (gets-pushed g.nodes node m other (subst (λ (x : GraphValue). slice_get x.nodes m ≡ Some other) is.graph at)) [
  | inl before ↦ inl before
  | inr last ↦ inr last.1
]

-- a bare node in its order leaves the graph in normal form
pub normal_added : (g h : GraphValue) (node : Node) (n : ℕ) → IsNormal g → IsAdded g h node n → IsBareNode g node → IsOrderedNode node → IsNormal h
normal_added g h node n normal is bare ordered =
    let more = added_extends g h node n is in
    record {
      shared = more.shared normal.shared;
      bare = λ m x at idle. elim (node_was g h node n m (node_of x) is at) [
        | inl before ↦ normal.bare m x before (idle_was g h x more idle)
        | inr same_node ↦ bare x same_node (idle_was g h x more idle)
      ];
      ordered = λ m x at. elim (node_was g h node n m (node_of x) is at) [
        | inl before ↦ normal.ordered m x before
        | inr same_node ↦ ordered x same_node
      ];
    }

-- the tree at the node that was asked for stands over the operands as they stood
pub put_stands : (g h : GraphValue) (node : Node) (n : ℕ) → IsGraph g → IsFit g node → IsAdded g h node n → StandsFor g node h n
put_stands g h node n graph fit is =
    let at = added_at g h node n is in
    let more = added_extends g h node n is in
    record {
      within = slice_get_within h.nodes n node at;
      alike = λ level tree f node_is stand there.
          let l = level_of_tree h.nodes n f there in
          let one : l.level ≡ level = node_of-same l.level level (sym (same_Some node (node_of l.level) (sym at ∙ l.at)) ∙ node_is) in
          let trees : map-Expr ℕ Expr tree level ≡ map-Expr ℕ Expr l.tree level =
          map_same Expr level tree l.tree (λ k among. tree_unique h.nodes k (tree k) (l.tree k) (tree_extends g h k (tree k) more (stand k among)) (l.below k (subst (λ (y : Expr-F ℕ). IsIn (operands_in y) k) (sym one) among))) in
          let f_is : roll-Expr (map-Expr ℕ Expr tree level) ≡ f = ap roll-Expr (trees ∙ ap (λ (y : Expr-F ℕ). map-Expr ℕ Expr l.tree y) (sym one)) ∙ sym l.is in
          subst (λ (t : Expr). Alike g.isa (roll-Expr (map-Expr ℕ Expr tree level)) t) f_is (same (roll-Expr (map-Expr ℕ Expr tree level)));
    }

-- the widths with that of one node more
pub widths_added : (g h : GraphValue) (node : Node) (widths : List ℕ) (w n : ℕ) → IsGraph g → IsFit g node → AreWidths g widths → HasNodeWidth g node w → IsAdded g h node n → n ≡ length widths → AreWidths h (widths ++ w ∷ [])
widths_added g h node widths w n graph fit are width (inl there) last =
    let below : n < length g.nodes = slice_get_within g.nodes n node there.found in
    let all : length widths ≡ length g.nodes = are.all in
    absurd (omega arith)
widths_added g h node widths w n graph fit are width (inr is) last =
    let added_is : IsAdded g h node n = inr is in
    let more = added_extends g h node n added_is in
    let f = fits g node fit.level fit fit.is in
    record {
      all = length-append widths (w ∷ []) ∙ ap (λ (k : ℕ). k + 1) are.all ∙ sym (length-append g.nodes (node ∷ [])) ∙ sym (ap (λ (x : GraphValue). length x.nodes) is.graph);
      each = λ m v at e stands. elim (gets-pushed widths w m v at) [
        | inl before ↦
            let below : m < length g.nodes = subst (λ (k : ℕ). m < k) are.all (slice_get_within widths m v before) in
            ap (λ (d : Parts). width_of d e) more.isa ∙ are.each m v before e (tree_was g h m e more graph.trees below stands)
        | inr new ↦
            let here : m ≡ n = new.0 ∙ sym last in
            let l = level_of_tree h.nodes m e stands in
            let node_is : node ≡ node_of l.level = same_Some node (node_of l.level) (sym (added_at g h node n added_is) ∙ subst (λ (k : ℕ). slice_get h.nodes k ≡ Some (node_of l.level)) here l.at) in
            let k = fits g node l.level fit node_is in
            ap (λ (d : Parts). width_of d e) more.isa
            ∙ ap (width_of g.isa) l.is
            ∙ width l.level l.tree node_is (below_was g h l.level l.tree more graph.trees k.within l.below)
            ∙ new.1
      ];
    }

-- the node was there
pub widths_same : (g h : GraphValue) (node : Node) (widths : List ℕ) (n : ℕ) → AreWidths g widths → IsAdded g h node n → (n ≡ length widths → ⊥) → AreWidths h widths
widths_same g h node widths n are (inl there) differ = subst (λ (x : GraphValue). AreWidths x widths) (sym there.same) are
widths_same g h node widths n are (inr is) differ = absurd (differ (is.number ∙ sym are.all))

-- ---- casts, slices and operands in their order

-- a node that fits stands over trees
pub stood : (g : GraphValue) (x : Expr-F ℕ) → IsGraph g → Fits g x → (tree : ℕ → Expr) × StandBelow g.nodes x tree
stood g x graph f = let all = forest g.isa g.nodes graph.trees in (all.tree, λ k among. all.stands k (f.within k among))

-- a cast that leaves its operand as it is stands for that
pub idle_stands : (g : GraphValue) (widths : List ℕ) (o : CastOp) (width a : ℕ) → AreWidths g widths → IsFit g (node_of (Expr-F.Cast o width a)) → slice_index_or widths a 0 ≡ width → StandsFor g (node_of (Expr-F.Cast o width a)) g a
idle_stands g widths o width a are fit is =
    let f = fits g (node_of (Expr-F.Cast o width a)) (Expr-F.Cast o width a) fit refl in
    record {
      within = f.within a (0, refl);
      alike = λ level tree t node_is stand there.
          let one : Expr-F.Cast o width a ≡ level = node_of-same (Expr-F.Cast o width a) level node_is in
          let stand_cast : StandBelow g.nodes (Expr-F.Cast o width a) tree = subst (λ (y : Expr-F ℕ). StandBelow g.nodes y tree) (sym one) stand in
          let tree_is : tree a ≡ t = tree_unique g.nodes a (tree a) t (stand_cast a (0, refl)) there in
          let w : width ≡ width_of g.isa (tree a) = sym is ∙ sym (width_at g widths a (tree a) are (stand_cast a (0, refl))) in
          subst (λ (y : Expr-F ℕ). Alike g.isa (roll-Expr (map-Expr ℕ Expr tree y)) t) one
          (subst (λ (u : Expr). Alike g.isa (roll-Expr (Expr-F.Cast o width (tree a))) u) tree_is (cast o width (tree a) w (f.typed tree stand_cast)));
    }

-- a cast to another width is none that leaves its operand as it is
pub cast_bare : (g : GraphValue) (widths : List ℕ) (o : CastOp) (width a : ℕ) → IsGraph g → AreWidths g widths → IsFit g (node_of (Expr-F.Cast o width a)) → (slice_index_or widths a 0 ≡ width → ⊥) → IsBareNode g (node_of (Expr-F.Cast o width a))
cast_bare g widths o width a graph are fit differ x node_is idle =
    let f = fits g (node_of (Expr-F.Cast o width a)) (Expr-F.Cast o width a) fit refl in
    let has = graph.trees a (f.within a (0, refl)) in
    let here : IsIdle g (Expr-F.Cast o width a) = subst (λ (y : Expr-F ℕ). IsIdle g y) (sym (node_of-same (Expr-F.Cast o width a) x node_is)) idle in
    differ (sym (width_at g widths a has.tree are has.stands) ∙ here has.tree has.stands)

-- a node of one level has what each of its levels has
pub of_level : (P : Expr-F ℕ → Type 0) (x : Expr-F ℕ) → P x → (y : Expr-F ℕ) → node_of x ≡ node_of y → P y
of_level P x h y is = subst P (node_of-same x y is) h

-- a slice from bit 0 of a value of at most 128 bits fits as a cast
pub slice_fits : (g : GraphValue) (widths : List ℕ) (high a : ℕ) → IsGraph g → AreWidths g widths → IsFit g (node_of (Expr-F.Slice a high 0)) → slice_index_or widths a 0 ≤ 128 → IsFit g (node_of (Expr-F.Cast Cut (high + 1) a))
slice_fits g widths high a graph are fit most =
    let f = fits g (node_of (Expr-F.Slice a high 0)) (Expr-F.Slice a high 0) fit refl in
    record {
      level = Expr-F.Cast Cut (high + 1) a;
      is = refl;
      within = fit.within;
      typed = λ tree stand.
          let h = opened_typing g.isa (Expr-F.Slice (tree a) high 0) (f.typed tree stand) in
          let a_typed = (both _ _ (both _ _ h).0).0 in
          let below : high < width_of g.isa (tree a) = true-nat_lt high (width_of g.isa (tree a)) (both _ _ h).1 in
          let w : width_of g.isa (tree a) ≡ slice_index_or widths a 0 = width_at g widths a (tree a) are (stand a (0, refl)) in
          subst (λ (t : Typing). IsTrue t.is_typed) (sym (fold-roll-Expr Typing (typing_step g.isa) (Expr-F.Cast Cut (high + 1) (tree a))))
          (joined (is_typed g.isa (tree a)) (nat_le 1 (high + 1)) (nat_le (high + 1) 128) (nat_le (high + 1) (width_of g.isa (tree a))) a_typed (le-true 1 (high + 1) (omega arith)) (le-true (high + 1) 128 (omega arith)) (le-true (high + 1) (width_of g.isa (tree a)) (omega arith)));
    }
  where
    joined : (p q r s : Bool) → p ≡ true → q ≡ true → r ≡ true → s ≡ true → (p && (q && r) && s) ≡ true
    joined p q r s a b c e = rw (a, b, c, e) refl

    le-true : (m n : ℕ) → m ≤ n → nat_le m n ≡ true
    le-true m n h = grind (arith, nat_tests)

-- the bits of a slice are within its operand
pub slice_within : (g : GraphValue) (widths : List ℕ) (high low a : ℕ) → IsGraph g → AreWidths g widths → IsFit g (node_of (Expr-F.Slice a high low)) → high < slice_index_or widths a 0
slice_within g widths high low a graph are fit =
    let f = fits g (node_of (Expr-F.Slice a high low)) (Expr-F.Slice a high low) fit refl in
    let s = stood g (Expr-F.Slice a high low) graph f in
    let h = opened_typing g.isa (Expr-F.Slice (s.0 a) high low) (f.typed s.0 s.1) in
    let below : high < width_of g.isa (s.0 a) = true-nat_lt high (width_of g.isa (s.0 a)) (both _ _ h).1 in
    subst (λ (w : ℕ). high < w) (width_at g widths a (s.0 a) are (s.1 a (0, refl))) below

-- what stands for the cast stands for the slice
pub slice_stands : (g h : GraphValue) (high a n : ℕ) → IsFit g (node_of (Expr-F.Slice a high 0)) → IsFit g (node_of (Expr-F.Cast Cut (high + 1) a)) → StandsFor g (node_of (Expr-F.Cast Cut (high + 1) a)) h n → StandsFor g (node_of (Expr-F.Slice a high 0)) h n
slice_stands g h high a n fit cast_fit stands =
    let f = fits g (node_of (Expr-F.Slice a high 0)) (Expr-F.Slice a high 0) fit refl in
    let k = fits g (node_of (Expr-F.Cast Cut (high + 1) a)) (Expr-F.Cast Cut (high + 1) a) cast_fit refl in
    record {
      within = stands.within;
      alike = λ level tree t node_is stand there.
          let one : Expr-F.Slice a high 0 ≡ level = node_of-same (Expr-F.Slice a high 0) level node_is in
          let stand_slice : StandBelow g.nodes (Expr-F.Slice a high 0) tree = subst (λ (y : Expr-F ℕ). StandBelow g.nodes y tree) (sym one) stand in
          subst (λ (y : Expr-F ℕ). Alike g.isa (roll-Expr (map-Expr ℕ Expr tree y)) t) one
          (chained (roll-Expr (Expr-F.Slice (tree a) high 0)) (roll-Expr (Expr-F.Cast Cut (high + 1) (tree a))) t
          (slice (tree a) high (f.typed tree stand_slice) (k.typed tree stand_slice))
          (stands.alike (Expr-F.Cast Cut (high + 1) a) tree t refl stand_slice there));
    }

-- operands that may stand in either order fit in the other one
pub turned_fits : (g : GraphValue) (o : BinOp) (a b : ℕ) → IsTrue (commutes o) → IsFit g (node_of (Expr-F.Binary o a b)) → IsFit g (node_of (Expr-F.Binary o b a))
turned_fits g o a b commuting fit =
    let f = fits g (node_of (Expr-F.Binary o a b)) (Expr-F.Binary o a b) fit refl in
    record {
      level = Expr-F.Binary o b a;
      is = refl;
      within = (fit.within.1.0, (fit.within.0, tt));
      typed = λ tree stand.
          let typed : IsTrue (is_typed g.isa (roll-Expr (Expr-F.Binary o (tree a) (tree b)))) = f.typed tree (turned_below a b tree stand) in
          alike_typed g.isa (roll-Expr (Expr-F.Binary o (tree a) (tree b))) (roll-Expr (Expr-F.Binary o (tree b) (tree a))) (swapped o (tree a) (tree b) commuting typed) typed;
    }
  where
    turned_below : (a b : ℕ) (tree : ℕ → Expr) → StandBelow g.nodes (Expr-F.Binary o b a) tree → StandBelow g.nodes (Expr-F.Binary o a b) tree
    turned_below a b tree stand k (zero, at) = stand k (1, at)
    turned_below a b tree stand k (suc zero, at) = stand k (0, at)
    turned_below a b tree stand k (suc (suc place), at) = stand k (suc (suc place), at)

-- what stands for the operands in one order stands for them in the other
pub turned_stands : (g h : GraphValue) (o : BinOp) (a b n : ℕ) → IsTrue (commutes o) → IsFit g (node_of (Expr-F.Binary o a b)) → StandsFor g (node_of (Expr-F.Binary o b a)) h n → StandsFor g (node_of (Expr-F.Binary o a b)) h n
turned_stands g h o a b n commuting fit stands =
    let f = fits g (node_of (Expr-F.Binary o a b)) (Expr-F.Binary o a b) fit refl in
    record {
      within = stands.within;
      alike = λ level tree t node_is stand there.
          let one : Expr-F.Binary o a b ≡ level = node_of-same (Expr-F.Binary o a b) level node_is in
          let stand_binary : StandBelow g.nodes (Expr-F.Binary o a b) tree = subst (λ (y : Expr-F ℕ). StandBelow g.nodes y tree) (sym one) stand in
          subst (λ (y : Expr-F ℕ). Alike g.isa (roll-Expr (map-Expr ℕ Expr tree y)) t) one
          (chained (roll-Expr (Expr-F.Binary o (tree a) (tree b))) (roll-Expr (Expr-F.Binary o (tree b) (tree a))) t
          (swapped o (tree a) (tree b) commuting (f.typed tree stand_binary))
          (stands.alike (Expr-F.Binary o b a) tree t refl (turned_below tree stand_binary) there));
    }
  where
    turned_below : (tree : ℕ → Expr) → StandBelow g.nodes (Expr-F.Binary o a b) tree → StandBelow g.nodes (Expr-F.Binary o b a) tree
    turned_below tree stand k (zero, at) = stand k (1, at)
    turned_below tree stand k (suc zero, at) = stand k (0, at)
    turned_below tree stand k (suc (suc place), at) = stand k (suc (suc place), at)
