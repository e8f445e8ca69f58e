-- The images of nodes in a graph in normal form.
use Rattle.std.proofs.Common.{◌≡◌, ℕ, zero, suc, ◌+◌, ◌*◌, ◌<◌, ◌⊎◌, inl, inr, Bool, true, false, IsTrue, List, [], ◌∷◌, ◌++◌, length, map, replicate, set, get_or, Option, Some, None, refl, sym, ap, ◌∙◌, subst, arith}
use Rattle.std.specs.Prelude.{slice_get}
use Rattle.std.proofs.lemmas.Bool.Decides.{eqb_tells}
use Rattle.std.proofs.lemmas.List.{length-append, length-set}
use Rattle.std.proofs.lemmas.Option.{none-some, slice_get-get_or, slice_get_within, same_Some}
use Rattle.vg_isa.specs.declared.isa.Parts.{Parts}
use Rattle.vg_isa.specs.declared.expr.Expr.{Expr, map-Expr, roll-Expr}
use Rattle.vg_isa.specs.declared.expr.Expr.TheOpen.{Expr-F}
use Rattle.vg_isa.specs.Typing.{is_typed}
use Rattle.vg_graph.specs.declared.operands.Operands.{Operands}
use Rattle.vg_graph.specs.declared.operands.Operands.TheVariants.{Zero, One, Two, Three}
use Rattle.vg_graph.specs.declared.node.Node.{Node}
use Rattle.vg_graph.specs.Node.{AllBelow, IsIn, args_of, node_of, numbers_of, operands_in}
use Rattle.vg_graph.specs.Tree.{HaveTrees, IsOperand, IsTree}
use Rattle.vg_graph.specs.Graph.{GraphValue, IsFit, IsGraph}
use Rattle.vg_graph.specs.Building.{Extends}
use Rattle.vg_graph.specs.Alike.{Alike, chained, same as alike_same, within as alike_within}
use Rattle.vg_graph.proofs.Gets.{gets-set_other, gets-set_same, In-append, In-append_left, In-append_right, In-one, nil-In, one-In}
use Rattle.vg_graph.proofs.BehaviourLemmas.{Extends_itself}
use Rattle.vg_graph.proofs.BuildLemmas.{Extends-trans}
use Rattle.vg_graph.proofs.LevelLemmas.{args_of-node, map_map, node_of-same, operands_in-map}
use Rattle.vg_graph.specs.Order.{IsPath, unmarked}
use Rattle.vg_graph.proofs.OrderLemmas.{unmarked_less, was_on_top}
use Rattle.vg_graph.proofs.PathLemmas.{path_new}
use Rattle.vg_graph.proofs.TreeLemmas.{below_each, forest, level_of_tree, tree_stays, tree_within}
use Rattle.vg_norm.specs.declared.growing.Growing.{Growing}
use Rattle.vg_norm.specs.declared.visit.Visit.{Visit}
use Rattle.vg_norm.specs.Growing.{IsGrowing, StandBelow, StandsFor}
use Rattle.vg_norm.specs.Images.{AreImages, AreNodes, HasImage, HasMoreImages, IsDone, IsOverImages, IsUnderWay, IsVisit, IsWalk}
use Rattle.vg_norm.proofs.AlikeLemmas.{alike_typed}
use Rattle.vg_norm.proofs.NormalLemmas.{alike3, at3}
use Rattle.vg_norm.proofs.GrowingLemmas.{tree_was}

-- ---- a level over the images of its operands

number_in : Option (Option ℕ) → ℕ
number_in (Some (Some j)) = j
number_in (Some None) = 0
number_in None = 0

-- the image of a node; 0 where it has none
image_of : List (Option ℕ) → ℕ → ℕ
image_of images k = number_in (slice_get images k)

image_is : (images : List (Option ℕ)) (k j : ℕ) → slice_get images k ≡ Some (Some j) → image_of images k ≡ j
unfolding image_of number_in
image_is images k j at = ap number_in at

images_map : (images : List (Option ℕ)) (ks js : List ℕ) → AreImages images ks js → js ≡ map (image_of images) ks
images_map images [] [] are = refl
images_map images (k ∷ ks) (j ∷ js) are =
    let first : j ≡ image_of images k = sym (image_is images k j are.0) in
    let rest : js ≡ map (image_of images) ks = images_map images ks js are.1 in
    λ i. first i ∷ rest i
images_map images (k ∷ ks) [] are = absurd are
images_map images [] (j ∷ js) are = absurd are

images_each : (images : List (Option ℕ)) (ks js : List ℕ) → AreImages images ks js → (k : ℕ) → IsIn ks k → slice_get images k ≡ Some (Some (image_of images k))
images_each images [] js are k (place, at) = absurd (let h : slice_get {X = ℕ} [] place ≡ Some k = at in cc)
images_each images (n ∷ ks) [] are k among = absurd are
images_each images (n ∷ ks) (j ∷ js) are k (zero, at) =
    let same : n ≡ k = cc in
    let here : slice_get images n ≡ Some (Some (image_of images n)) = are.0 ∙ ap (λ (i : ℕ). Some (Some i)) (sym (image_is images n j are.0)) in
    subst (λ (m : ℕ). slice_get images m ≡ Some (Some (image_of images m))) same here
images_each images (n ∷ ks) (j ∷ js) are k (suc place, at) = images_each images ks js are.1 k (place, at)

abbrev operands_of_list : List ℕ → Operands
operands_of_list (a ∷ []) = One a
operands_of_list (a ∷ b ∷ []) = Two a b
operands_of_list (a ∷ b ∷ c ∷ []) = Three a b c
operands_of_list _ = Zero

list_operands : (a : Operands) → operands_of_list (numbers_of a) ≡ a
list_operands Zero = refl
list_operands (One a) = refl
list_operands (Two a b) = refl
list_operands (Three a b c) = refl

op_kept : (f : ℕ → ℕ) (x : Expr-F ℕ) → (node_of (map-Expr ℕ ℕ f x)).op ≡ (node_of x).op
op_kept f (Expr-F.Const b) = refl
op_kept f (Expr-F.Field n) = refl
op_kept f Expr-F.Pc = refl
op_kept f (Expr-F.Reg r None) = refl
op_kept f (Expr-F.Reg r (Some i)) = refl
op_kept f (Expr-F.Mem a bytes) = refl
op_kept f (Expr-F.Unary o a) = refl
op_kept f (Expr-F.Binary o a b) = refl
op_kept f (Expr-F.Cast o width a) = refl
op_kept f (Expr-F.Slice a high low) = refl
op_kept f (Expr-F.Join a b) = refl
op_kept f (Expr-F.If c a b) = refl

-- the node over images is that of the level over them
over_level : (images : List (Option ℕ)) (x : Expr-F ℕ) (new : Node) → IsOverImages images (node_of x) new → new ≡ node_of (map-Expr ℕ ℕ (image_of images) x)
over_level images x new is =
    let y : Expr-F ℕ = map-Expr ℕ ℕ (image_of images) x in
    let o : new.op ≡ (node_of (map-Expr ℕ ℕ (image_of images) x)).op = is.op ∙ sym (op_kept (image_of images) x) in
    let lists : args_of new ≡ args_of (node_of (map-Expr ℕ ℕ (image_of images) x)) =
    images_map images (args_of (node_of x)) (args_of new) is.args
    ∙ ap (map (image_of images)) (args_of-node x)
    ∙ sym (operands_in-map ℕ x (image_of images))
    ∙ sym (args_of-node (map-Expr ℕ ℕ (image_of images) x)) in
    let operands : new.args ≡ (node_of (map-Expr ℕ ℕ (image_of images) x)).args = sym (list_operands new.args) ∙ ap operands_of_list lists ∙ list_operands (node_of (map-Expr ℕ ℕ (image_of images) x)).args in
    λ i. record { op = o i; args = operands i }

-- one operator over operands that are alike
within_operands : (d : Parts) (x : Expr-F ℕ) (a b : ℕ → Expr) → ((k : ℕ) → IsIn (operands_in x) k → Alike d (a k) (b k)) → Alike d (roll-Expr (map-Expr ℕ Expr a x)) (roll-Expr (map-Expr ℕ Expr b x))
unfolding at3
within_operands d (Expr-F.Const c) a b h = alike_same (roll-Expr (Expr-F.Const c))
within_operands d (Expr-F.Field n) a b h = alike_same (roll-Expr (Expr-F.Field n))
within_operands d Expr-F.Pc a b h = alike_same (roll-Expr Expr-F.Pc)
within_operands d (Expr-F.Reg r None) a b h = alike_same (roll-Expr (Expr-F.Reg r None))
within_operands d (Expr-F.Reg r (Some i)) a b h = let one = h i (0, refl) in alike_within (Expr-F.Reg r (Some 0)) (at3 (a i) (a i) (a i)) (at3 (b i) (b i) (b i)) (alike3 d (a i) (a i) (a i) (b i) (b i) (b i) one one one)
within_operands d (Expr-F.Mem i bytes) a b h = let one = h i (0, refl) in alike_within (Expr-F.Mem 0 bytes) (at3 (a i) (a i) (a i)) (at3 (b i) (b i) (b i)) (alike3 d (a i) (a i) (a i) (b i) (b i) (b i) one one one)
within_operands d (Expr-F.Unary o i) a b h = let one = h i (0, refl) in alike_within (Expr-F.Unary o 0) (at3 (a i) (a i) (a i)) (at3 (b i) (b i) (b i)) (alike3 d (a i) (a i) (a i) (b i) (b i) (b i) one one one)
within_operands d (Expr-F.Binary o i j) a b h = let one = h i (0, refl) in let two = h j (1, refl) in alike_within (Expr-F.Binary o 0 1) (at3 (a i) (a j) (a j)) (at3 (b i) (b j) (b j)) (alike3 d (a i) (a j) (a j) (b i) (b j) (b j) one two two)
within_operands d (Expr-F.Cast o width i) a b h = let one = h i (0, refl) in alike_within (Expr-F.Cast o width 0) (at3 (a i) (a i) (a i)) (at3 (b i) (b i) (b i)) (alike3 d (a i) (a i) (a i) (b i) (b i) (b i) one one one)
within_operands d (Expr-F.Slice i high low) a b h = let one = h i (0, refl) in alike_within (Expr-F.Slice 0 high low) (at3 (a i) (a i) (a i)) (at3 (b i) (b i) (b i)) (alike3 d (a i) (a i) (a i) (b i) (b i) (b i) one one one)
within_operands d (Expr-F.Join i j) a b h = let one = h i (0, refl) in let two = h j (1, refl) in alike_within (Expr-F.Join 0 1) (at3 (a i) (a j) (a j)) (at3 (b i) (b j) (b j)) (alike3 d (a i) (a j) (a j) (b i) (b j) (b j) one two two)
within_operands d (Expr-F.If i j k) a b h = let one = h i (0, refl) in let two = h j (1, refl) in let three = h k (2, refl) in alike_within (Expr-F.If 0 1 2) (at3 (a i) (a j) (a k)) (at3 (b i) (b j) (b k)) (alike3 d (a i) (a j) (a k) (b i) (b j) (b k) one two three)

-- ---- images

-- an image stays one in a graph that grew
pub image_extends : (g h i : GraphValue) (n j : ℕ) → HaveTrees h.isa h.nodes → Extends h i → HasImage g n h j → HasImage g n i j
image_extends g h i n j have more image = record {
  within = tree_within i.nodes j (have j image.within).tree (subst (λ (ns : List Node). IsTree ns j (have j image.within).tree) (sym more.nodes) (stays h.nodes more.more j (have j image.within).tree (have j image.within).stands));
  alike = λ e f here there. image.alike e f here (tree_was h i j f more have image.within there);
}
  where
    stays : (nodes more : List Node) (n : ℕ) (e : Expr) → IsTree nodes n e → IsTree (nodes ++ more) n e
    stays = tree_stays

module _ (g h : GraphValue) (images : List (Option ℕ)) (each : (k j : ℕ) → slice_get images k ≡ Some (Some j) → HasImage g k h j) where
  image_at : (x : Expr-F ℕ) (new : Node) → IsOverImages images (node_of x) new → (k : ℕ) → IsIn (operands_in x) k → HasImage g k h (image_of images k)
  image_at x new is k among = each k (image_of images k) (images_each images (args_of (node_of x)) (args_of new) is.args k (subst (λ (ks : List ℕ). IsIn ks k) (sym (args_of-node x)) among))

  -- a tree over a level is alike to the trees at the images over it
  level_image : (x : Expr-F ℕ) (new : Node) (a b : ℕ → Expr) → IsOverImages images (node_of x) new → StandBelow g.nodes x a → StandBelow h.nodes (map-Expr ℕ ℕ (image_of images) x) b → Alike g.isa (roll-Expr (map-Expr ℕ Expr a x)) (roll-Expr (map-Expr ℕ Expr b (map-Expr ℕ ℕ (image_of images) x)))
  level_image x new a b is a_stand b_stand =
      subst (λ (y : Expr-F Expr). Alike g.isa (roll-Expr (map-Expr ℕ Expr a x)) (roll-Expr y)) (sym (map_map ℕ Expr x (image_of images) b))
      (within_operands g.isa x a (λ (k : ℕ). b (image_of images k)) (λ k among.
      (image_at x new is k among).alike (a k) (b (image_of images k)) (a_stand k among)
      (b_stand (image_of images k) (subst (λ (ks : List ℕ). IsIn ks (image_of images k)) (sym (operands_in-map ℕ x (image_of images))) (mapped k (operands_in x) among)))))
    where
      mapped : (k : ℕ) (ks : List ℕ) → IsIn ks k → IsIn (map (image_of images) ks) (image_of images k)
      mapped k [] (place, at) = absurd (let nothing : slice_get {X = ℕ} [] place ≡ Some k = at in cc)
      mapped k (n ∷ ks) (zero, at) = let same : n ≡ k = cc in (0, ap (λ (m : ℕ). Some (image_of images m)) same)
      mapped k (n ∷ ks) (suc place, at) = let rest = mapped k ks (place, at) in (suc rest.0, rest.1)

  images_below : (ks js : List ℕ) → AreImages images ks js → AllBelow (length h.nodes) js
  images_below [] [] are = tt
  images_below (k ∷ ks) (j ∷ js) are = ((each k j are.0).within, images_below ks js are.1)
  images_below (k ∷ ks) [] are = absurd are
  images_below [] (j ∷ js) are = absurd are

  -- the node over images fits
  pub image_fits : (n : ℕ) (x : Expr-F ℕ) (new : Node) → IsGraph g → h.isa ≡ g.isa → slice_get g.nodes n ≡ Some (node_of x) → IsOverImages images (node_of x) new → IsFit h new
  image_fits n x new graph isa at is =
      let has = graph.trees n (slice_get_within g.nodes n (node_of x) at) in
      let l = level_of_tree g.nodes n has.tree has.stands in
      let one : l.level ≡ x = node_of-same l.level x (same_Some (node_of l.level) (node_of x) (sym l.at ∙ at)) in
      let stand : StandBelow g.nodes x l.tree = subst (λ (y : Expr-F ℕ). StandBelow g.nodes y l.tree) one l.below in
      let e_is : has.tree ≡ roll-Expr (map-Expr ℕ Expr l.tree x) = l.is ∙ ap (λ (y : Expr-F ℕ). roll-Expr (map-Expr ℕ Expr l.tree y)) one in
      let e_typed : IsTrue (is_typed g.isa (roll-Expr (map-Expr ℕ Expr l.tree x))) = subst (λ (e : Expr). IsTrue (is_typed g.isa e)) e_is has.typed in
      record {
        level = map-Expr ℕ ℕ (image_of images) x;
        is = over_level images x new is;
        within = images_below (args_of (node_of x)) (args_of new) is.args;
        typed = λ tree stands.
            subst (λ (d : Parts). IsTrue (is_typed d (roll-Expr (map-Expr ℕ Expr tree (map-Expr ℕ ℕ (image_of images) x))))) (sym isa)
            (alike_typed g.isa (roll-Expr (map-Expr ℕ Expr l.tree x)) (roll-Expr (map-Expr ℕ Expr tree (map-Expr ℕ ℕ (image_of images) x))) (level_image x new l.tree tree is stand stands) e_typed);
      }

  -- what stands for the node over images is the image of the node
  pub image_made : (n : ℕ) (x : Expr-F ℕ) (new : Node) (i : GraphValue) (j : ℕ) → IsGraph h → h.isa ≡ g.isa → slice_get g.nodes n ≡ Some (node_of x) → IsOverImages images (node_of x) new → StandsFor h new i j → HasImage g n i j
  image_made n x new i j graph isa at is stands = record {
    within = stands.within;
    alike = λ e f here there.
        let l = level_of_tree g.nodes n e here in
        let one : l.level ≡ x = node_of-same l.level x (same_Some (node_of l.level) (node_of x) (sym l.at ∙ at)) in
        let stand : StandBelow g.nodes x l.tree = subst (λ (y : Expr-F ℕ). StandBelow g.nodes y l.tree) one l.below in
        let e_is : e ≡ roll-Expr (map-Expr ℕ Expr l.tree x) = l.is ∙ ap (λ (y : Expr-F ℕ). roll-Expr (map-Expr ℕ Expr l.tree y)) one in
        let all = forest h.isa h.nodes graph.trees in
        let y : Expr-F ℕ = map-Expr ℕ ℕ (image_of images) x in
        let below : AllBelow (length h.nodes) (args_of new) = images_below (args_of (node_of x)) (args_of new) is.args in
        let within : (k : ℕ) → IsIn (operands_in (map-Expr ℕ ℕ (image_of images) x)) k → k < length h.nodes = λ k among.
        below_each (length h.nodes) (args_of new) below k (subst (λ (ks : List ℕ). IsIn ks k) (sym (ap args_of (over_level images x new is) ∙ args_of-node (map-Expr ℕ ℕ (image_of images) x))) among) in
        let stands_new : StandBelow h.nodes (map-Expr ℕ ℕ (image_of images) x) all.tree = λ k among. all.stands k (within k among) in
        let made : Alike g.isa (roll-Expr (map-Expr ℕ Expr all.tree (map-Expr ℕ ℕ (image_of images) x))) f =
        subst (λ (d : Parts). Alike d (roll-Expr (map-Expr ℕ Expr all.tree (map-Expr ℕ ℕ (image_of images) x))) f) isa
        (stands.alike (map-Expr ℕ ℕ (image_of images) x) all.tree f (over_level images x new is) stands_new there) in
        subst (λ (t : Expr). Alike g.isa t f) (sym e_is)
        (chained (roll-Expr (map-Expr ℕ Expr l.tree x)) (roll-Expr (map-Expr ℕ Expr all.tree (map-Expr ℕ ℕ (image_of images) x))) f (level_image x new l.tree all.tree is stand stands_new) made);
  }

-- ---- a visit

-- the level of a node of a graph
pub level_at : (g : GraphValue) (n : ℕ) (node : Node) → IsGraph g → slice_get g.nodes n ≡ Some node → (x : Expr-F ℕ) × (node ≡ node_of x)
level_at g n node graph at =
    let has = graph.trees n (slice_get_within g.nodes n node at) in
    let l = level_of_tree g.nodes n has.tree has.stands in
    (l.level, same_Some node (node_of l.level) (sym at ∙ l.at))

-- the operands of a node are nodes
pub operands_below : (g : GraphValue) (n : ℕ) (node : Node) → IsGraph g → slice_get g.nodes n ≡ Some node → AllBelow (length g.nodes) (args_of node)
operands_below g n node graph at =
    let has = graph.trees n (slice_get_within g.nodes n node at) in
    let l = level_of_tree g.nodes n has.tree has.stands in
    let node_is : node ≡ node_of l.level = same_Some node (node_of l.level) (sym at ∙ l.at) in
    all_below (args_of node) (λ k among. tree_within g.nodes k (l.tree k) (l.below k (subst (λ (ks : List ℕ). IsIn ks k) (ap args_of node_is ∙ args_of-node l.level) among)))
  where
    all_below : (ks : List ℕ) → ((k : ℕ) → IsIn ks k → k < length g.nodes) → AllBelow (length g.nodes) ks
    all_below [] each = tt
    all_below (k ∷ ks) each = (each k (0, refl), all_below ks (λ m among. each m (suc among.0, among.1)))

-- an operand is a node
pub operand_below : (g : GraphValue) (n k : ℕ) → IsGraph g → IsOperand g.nodes k n → k < length g.nodes
operand_below g n k graph is = below_each (length g.nodes) (args_of is.node) (operands_below g n is.node graph is.stands) k is.among

pub node_fits : (g : GraphValue) (v : Visit) (n : ℕ) (node new : Node) → IsGraph g → IsWalk g v → slice_get g.nodes n ≡ Some node → IsOverImages v.images.items node new → IsFit v.fresh.graph new
node_fits g v n node new graph visit at is =
    let x = level_at g n node graph at in
    image_fits g v.fresh.graph v.images.items visit.each n x.0 new graph visit.isa (at ∙ ap Some x.1) (subst (λ (m : Node). IsOverImages v.images.items m new) x.1 is)

-- the visit with the image of one node more
pub visit_advanced :
    (g : GraphValue) (v w : Visit) (n j : ℕ) (node new : Node)
    → IsGraph g
    → IsWalk g v
    → slice_get g.nodes n ≡ Some node
    → IsOverImages v.images.items node new
    → IsGrowing w.fresh
    → Extends v.fresh.graph w.fresh.graph
    → StandsFor v.fresh.graph new w.fresh.graph j
    → w.images.items ≡ set v.images.items n (Some j)
    → w.opened.items ≡ v.opened.items
    → IsWalk g w
visit_advanced g v w n j node new graph visit at is growing more stands images opened =
    let x = level_at g n node graph at in
    let made : HasImage g n w.fresh.graph j = image_made g v.fresh.graph v.images.items visit.each n x.0 new w.fresh.graph j visit.growing.graph visit.isa (at ∙ ap Some x.1) (subst (λ (m : Node). IsOverImages v.images.items m new) x.1 is) stands in
    let within : n < length v.images.items = subst (λ (c : ℕ). n < c) (sym visit.images) (slice_get_within g.nodes n node at) in
    record {
      growing = growing;
      isa = more.isa ∙ visit.isa;
      images = ap length images ∙ length-set v.images.items n (Some j) ∙ visit.images;
      open_nodes = ap length opened ∙ visit.open_nodes;
      each = λ k i found. elim (eqb_tells k n) [
        | inl (_, same) ↦
            let here : slice_get (set v.images.items n (Some j)) n ≡ Some (Some i) = subst (λ (m : ℕ). slice_get (set v.images.items n (Some j)) m ≡ Some (Some i)) same (subst (λ (xs : List (Option ℕ)). slice_get xs k ≡ Some (Some i)) images found) in
            let i_is : Some j ≡ Some i = same_Some (Some j) (Some i) (sym (gets-set_same v.images.items n (Some j) within) ∙ here) in
            subst (λ (m : ℕ). HasImage g m w.fresh.graph i) (sym same) (subst (λ (m : ℕ). HasImage g n w.fresh.graph m) (same_Some j i i_is) made)
        | inr (_, differ) ↦
            let there : slice_get v.images.items k ≡ Some (Some i) = sym (gets-set_other v.images.items n k (Some j) differ) ∙ subst (λ (xs : List (Option ℕ)). slice_get xs k ≡ Some (Some i)) images found in
            image_extends g v.fresh.graph w.fresh.graph k i visit.growing.graph.trees more (visit.each k i there)
      ];
    }

-- images stay
pub more_advanced : (v w : Visit) (n j : ℕ) → n < length v.images.items → Extends v.fresh.graph w.fresh.graph → w.images.items ≡ set v.images.items n (Some j) → HasMoreImages v w
more_advanced v w n j inside more images = record {
  extends = more;
  stay = λ m done. elim (eqb_tells m n) [
    | inl (_, same) ↦ (j, ap (λ (xs : List (Option ℕ)). slice_get xs m) images ∙ subst (λ (k : ℕ). slice_get (set v.images.items n (Some j)) k ≡ Some (Some j)) (sym same) (gets-set_same v.images.items n (Some j) inside))
    | inr (_, differ) ↦ (done.0, ap (λ (xs : List (Option ℕ)). slice_get xs m) images ∙ gets-set_other v.images.items n m (Some j) differ ∙ done.1)
  ];
}

pub more_itself : (v : Visit) → HasMoreImages v v
more_itself v = record { extends = Extends_itself v.fresh.graph; stay = λ m done. done }

pub more_trans : (u v w : Visit) → HasMoreImages u v → HasMoreImages v w → HasMoreImages u w
more_trans u v w a b = record { extends = Extends-trans u.fresh.graph v.fresh.graph w.fresh.graph a.extends b.extends; stay = λ m done. b.stay m (a.stay m done) }

-- nodes on the stack
pub nodes_popped : (g : GraphValue) (stack rest : List ℕ) (n : ℕ) → AreNodes g stack → stack ≡ rest ++ n ∷ [] → AreNodes g rest × (n < length g.nodes)
nodes_popped g stack rest n are is = (
  (λ m among. are m (subst (λ (ns : List ℕ). IsIn ns m) (sym is) (In-append_left rest (n ∷ []) m among))),
  are n (subst (λ (ns : List ℕ). IsIn ns n) (sym is) (In-append_right rest (n ∷ []) n (In-one n))),
)

pub nodes_pushed : (g : GraphValue) (rest : List ℕ) (n : ℕ) → AreNodes g rest → n < length g.nodes → AreNodes g (rest ++ n ∷ [])
nodes_pushed g rest n are below m among = elim (In-append rest (n ∷ []) m among) [
  | inl before ↦ are m before
  | inr last ↦ subst (λ (k : ℕ). k < length g.nodes) (one-In n m last) below
]

-- no node has an image at first
pub none_found : (count k j : ℕ) → slice_get (replicate count None) k ≡ Some (Some j) → ⊥
none_found zero k j at = none-some (Some j) at
none_found (suc count) zero j at = none-some j (same_Some None (Some j) at)
none_found (suc count) (suc k) j at = none_found count k j at

-- the image that is read at a node that has one
pub image_read : (images : List (Option ℕ)) (n j : ℕ) (read : Option ℕ) → read ≡ get_or images n read → slice_get images n ≡ Some (Some j) → read ≡ Some j
image_read images n j read is at =
    let below : n < length images = slice_get_within images n (Some j) at in
    is ∙ same_Some (get_or images n read) (Some j) (sym (slice_get-get_or images n read below) ∙ at)

-- where an image is read, the node has it
pub read_image : (images : List (Option ℕ)) (n j : ℕ) (read : Option ℕ) → n < length images → read ≡ get_or images n read → read ≡ Some j → slice_get images n ≡ Some (Some j)
read_image images n j read below is at = slice_get-get_or images n read below ∙ ap Some (sym is ∙ at)

-- a node is gone into
pub visit_entered : (g : GraphValue) (v w : Visit) (k : ℕ) → IsWalk g v → w.fresh ≡ v.fresh → w.images ≡ v.images → w.opened.items ≡ set v.opened.items k true → IsWalk g w
visit_entered g v w k visit fresh images opened = record {
  growing = subst IsGrowing (sym fresh) visit.growing;
  isa = ap (λ (f : Growing). f.graph.isa) fresh ∙ visit.isa;
  images = ap (λ xs. length xs.items) images ∙ visit.images;
  open_nodes = ap length opened ∙ length-set v.opened.items k true ∙ visit.open_nodes;
  each = λ n j at. subst (λ (f : Growing). HasImage g n f.graph j) (sym fresh) (visit.each n j (ap (λ xs. slice_get xs.items n) (sym images) ∙ at));
}

pub more_entered : (v w : Visit) → w.fresh ≡ v.fresh → w.images ≡ v.images → HasMoreImages v w
more_entered v w fresh images = record {
  extends = subst (λ (f : Growing). Extends v.fresh.graph f.graph) (sym fresh) (Extends_itself v.fresh.graph);
  stay = λ m done. (done.0, ap (λ xs. slice_get xs.items m) images ∙ done.1);
}

-- the root has its image, or is on the stack still
pub found_pushed : (v w : Visit) (stack rest once twice : List ℕ) (root n k : ℕ) → HasMoreImages v w → IsDone v.images.items root ⊎ IsIn stack root → stack ≡ rest ++ n ∷ [] → once ≡ rest ++ n ∷ [] → twice ≡ once ++ k ∷ [] → IsDone w.images.items root ⊎ IsIn twice root
found_pushed v w stack rest once twice root n k more (inl done) popped first second = inl (more.stay root done)
found_pushed v w stack rest once twice root n k more (inr among) popped first second =
    inr (subst (λ (ns : List ℕ). IsIn ns root) (sym second) (In-append_left once (k ∷ []) root (subst (λ (ns : List ℕ). IsIn ns root) (popped ∙ sym first) among)))

pub found_popped : (v w : Visit) (stack rest : List ℕ) (root n : ℕ) → HasMoreImages v w → IsDone v.images.items root ⊎ IsIn stack root → stack ≡ rest ++ n ∷ [] → IsDone w.images.items n → IsDone w.images.items root ⊎ IsIn rest root
found_popped v w stack rest root n more (inl done) popped now = inl (more.stay root done)
found_popped v w stack rest root n more (inr among) popped now = elim (was_on_top stack rest n root among popped) [
  | inl there ↦ inr there
  | inr is ↦ inl (subst (λ (m : ℕ). IsDone w.images.items m) is now)
]

-- going into a node leaves less to do
pub less_left : (opened advanced entered : List Bool) (stack rest once twice : List ℕ) (n k : ℕ) → advanced ≡ opened → slice_get advanced k ≡ Some false → entered ≡ set advanced k true → stack ≡ rest ++ n ∷ [] → once ≡ rest ++ n ∷ [] → twice ≡ once ++ k ∷ [] → 3 * unmarked entered + length twice < 3 * unmarked opened + length stack
less_left opened advanced entered stack rest once twice n k same_opened was entering popped first second =
    let fewer : unmarked entered + 1 ≡ unmarked opened = ap (λ (bs : List Bool). unmarked bs + 1) entering ∙ unmarked_less advanced k was ∙ ap unmarked same_opened in
    let stack_length : length stack ≡ length rest + 1 = ap length popped ∙ length-append rest (n ∷ []) in
    let once_length : length once ≡ length rest + 1 = ap length first ∙ length-append rest (n ∷ []) in
    let twice_length : length twice ≡ length once + 1 = ap length second ∙ length-append once (k ∷ []) in
    omega arith

-- a node that has its image leaves less to do
pub less_stacked : (opened advanced : List Bool) (stack rest : List ℕ) (n : ℕ) → advanced ≡ opened → stack ≡ rest ++ n ∷ [] → 3 * unmarked advanced + length rest < 3 * unmarked opened + length stack
less_stacked opened advanced stack rest n same_opened popped =
    let fewer : unmarked advanced ≡ unmarked opened = ap unmarked same_opened in
    let stack_length : length stack ≡ length rest + 1 = ap length popped ∙ length-append rest (n ∷ []) in
    omega arith

-- what has no image has none
pub not_done : (images : List (Option ℕ)) (k : ℕ) → slice_get images k ≡ Some None → IsDone images k → ⊥
not_done images k at done = none-some done.0 (same_Some None (Some done.0) (sym at ∙ done.1))

-- a visit, where each node that was gone into has its image
pub walk_of : (g : GraphValue) (v : Visit) → IsVisit g v → IsWalk g v
walk_of g v visit = record { growing = visit.growing; isa = visit.isa; images = visit.images; open_nodes = visit.open_nodes; each = visit.each }

pub visit_of : (g : GraphValue) (v : Visit) (stack : List ℕ) → IsWalk g v → IsUnderWay v stack → stack ≡ [] → IsVisit g v
visit_of g v stack walk under empty = record {
  growing = walk.growing;
  isa = walk.isa;
  images = walk.images;
  open_nodes = walk.open_nodes;
  each = walk.each;
  settled = λ k opened. elim (under k opened) [
    | inl done ↦ done
    | inr among ↦ absurd (nil-In k (subst (λ (ns : List ℕ). IsIn ns k) empty among))
  ];
}

-- the node that is gone into is on the way
pub under_pushed : (v a w : Visit) (stack rest once twice : List ℕ) (n k : ℕ) → k < length a.opened.items → HasMoreImages v w → IsUnderWay v stack → a.opened.items ≡ v.opened.items → w.opened.items ≡ set a.opened.items k true → stack ≡ rest ++ n ∷ [] → once ≡ rest ++ n ∷ [] → twice ≡ once ++ k ∷ [] → IsUnderWay w twice
under_pushed v a w stack rest once twice n k inside more under opened entering popped first second m at = elim (eqb_tells m k) [
  | inl (_, is) ↦ inr (subst (λ (ns : List ℕ). IsIn ns m) (sym second) (subst (λ (j : ℕ). IsIn (once ++ k ∷ []) j) (sym is) (In-append_right once (k ∷ []) k (In-one k))))
  | inr (_, differ) ↦
      let there : slice_get v.opened.items m ≡ Some true = ap (λ (bs : List Bool). slice_get bs m) (sym opened) ∙ sym (gets-set_other a.opened.items k m true differ) ∙ ap (λ (bs : List Bool). slice_get bs m) (sym entering) ∙ at in
      elim (under m there) [
        | inl done ↦ inl (more.stay m done)
        | inr among ↦ inr (subst (λ (ns : List ℕ). IsIn ns m) (sym second) (In-append_left once (k ∷ []) m (subst (λ (ns : List ℕ). IsIn ns m) (popped ∙ sym first) among)))
      ]
]

-- a node that has its image is on the way no more
pub under_popped : (v w : Visit) (stack rest : List ℕ) (n : ℕ) → HasMoreImages v w → IsUnderWay v stack → w.opened.items ≡ v.opened.items → stack ≡ rest ++ n ∷ [] → IsDone w.images.items n → IsUnderWay w rest
under_popped v w stack rest n more under opened popped now m at = found_popped v w stack rest m n more (under m (ap (λ (bs : List Bool). slice_get bs m) (sym opened) ∙ at)) popped now

-- an operand without an image was never gone into
pub never_opened : (g : GraphValue) (v a : Visit) (stack rest : List ℕ) (n k : ℕ) → IsGraph g → IsWalk g a → HasMoreImages v a → IsUnderWay v stack → IsPath g.nodes stack → a.opened.items ≡ v.opened.items → stack ≡ rest ++ n ∷ [] → IsOperand g.nodes k n → slice_get a.images.items k ≡ Some None → slice_get a.opened.items k ≡ Some false
never_opened g v a stack rest n k graph walk more under path opened popped operand lacks = by (get_or a.opened.items k false) (slice_get-get_or a.opened.items k false inside)
  where
    inside : k < length a.opened.items
    inside = subst (λ (count : ℕ). k < count) (sym walk.open_nodes) (operand_below g n k graph operand)

    never : slice_get a.opened.items k ≡ Some true → ⊥
    never at = elim (under k (ap (λ (bs : List Bool). slice_get bs k) (sym opened) ∙ at)) [
      | inl done ↦ not_done a.images.items k lacks (more.stay k done)
      | inr among ↦
          let has = graph.trees k (operand_below g n k graph operand) in
          path_new g.nodes rest n k has.tree (subst (λ (ns : List ℕ). IsPath g.nodes ns) popped path) operand has.stands (subst (λ (ns : List ℕ). IsIn ns k) popped among)
    ]

    by : (b : Bool) → slice_get a.opened.items k ≡ Some b → slice_get a.opened.items k ≡ Some false
    by true at = absurd (never at)
    by false at = at
