-- The roots of a graph and of its normal form.
use Rattle.std.proofs.Common.{◌≡◌, ℕ, zero, suc, ◌<◌, IsTrue, List, [], ◌∷◌, ◌++◌, length, Option, Some, None, refl, sym, ap, ◌∙◌, subst}
use Rattle.std.specs.Prelude.{slice_get, ◌↔◌}
use Rattle.std.specs.Option.{option_map, option_and_then}
use Rattle.std.proofs.lemmas.Option.{none-some, same_Some}
use Rattle.vg_isa.specs.declared.isa.Parts.{Parts}
use Rattle.vg_isa.specs.declared.expr.Expr.{Expr}
use Rattle.vg_isa.specs.declared.expr.Expr.TheOpen.{Expr-F}
use Rattle.vg_isa.specs.Accepted.{is_isa}
use Rattle.vg_isa.specs.Value.{value_of}
use Rattle.vg_graph.specs.declared.root.Root.{Root}
use Rattle.vg_graph.specs.declared.root.Root.TheVariants.{Guard, At, Value, NextGuard, NextValue}
use Rattle.vg_graph.specs.declared.roots.Roots.{Roots}
use Rattle.vg_graph.specs.declared.roots.WriteRoots.{WriteRoots}
use Rattle.vg_graph.specs.declared.roots.NextRoots.{NextRoots}
use Rattle.vg_graph.specs.Tree.{HaveTrees, IsTree}
use Rattle.vg_graph.specs.Graph.{GraphValue, IsGraph, root_of}
use Rattle.vg_graph.specs.Building.{Extends}
use Rattle.vg_graph.specs.Alike.{Alike, turned, chained}
use Rattle.vg_norm.specs.Normal.{AreAlike, HasOneRoot, HasSameTrees, IsIdle, IsNormal, KeepsValues}
use Rattle.vg_norm.specs.Images.{AreWriteImages, HasImageAt, IsNextImage, IsNextWithin, IsPartWithin, IsWriteImage, IsWriteWithin}
use Rattle.vg_norm.proofs.AlikeLemmas.{alike_value}
use Rattle.vg_norm.proofs.OneNodeLemmas.{alike_one, typed_at}
use Rattle.vg_norm.proofs.VisitLemmas.{image_extends}

-- ---- images stay in a graph that grew

pub at_extends : (g h i : GraphValue) (n j : Option ℕ) → HaveTrees h.isa h.nodes → Extends h i → HasImageAt g n h j → HasImageAt g n i j
at_extends g h i (Some n) (Some j) have more image = image_extends g h i n j have more image
at_extends g h i None None have more image = tt
at_extends g h i (Some n) None have more image = absurd image
at_extends g h i None (Some j) have more image = absurd image

pub writes_extend : (g h i : GraphValue) (ws vs : List WriteRoots) → HaveTrees h.isa h.nodes → Extends h i → AreWriteImages g ws h vs → AreWriteImages g ws i vs
writes_extend g h i [] [] have more are = tt
writes_extend g h i (w ∷ ws) (v ∷ vs) have more are = (
  record {
    guard = image_extends g h i w.guard v.guard have more are.0.guard;
    at = at_extends g h i w.at v.at have more are.0.at;
    value = image_extends g h i w.value v.value have more are.0.value;
  },
  writes_extend g h i ws vs have more are.1,
)
writes_extend g h i (w ∷ ws) [] have more are = absurd are
writes_extend g h i [] (v ∷ vs) have more are = absurd are

pub writes_more : (g h : GraphValue) (ws vs : List WriteRoots) (w v : WriteRoots) → AreWriteImages g ws h vs → IsWriteImage g w h v → AreWriteImages g (ws ++ w ∷ []) h (vs ++ v ∷ [])
writes_more g h [] [] w v are image = (image, tt)
writes_more g h (x ∷ ws) (y ∷ vs) w v are image = (are.0, writes_more g h ws vs w v are.1 image)
writes_more g h (x ∷ ws) [] w v are image = absurd are
writes_more g h [] (y ∷ vs) w v are image = absurd are

-- ---- the parts are nodes of the graph

module _ (g : GraphValue) (graph : IsGraph g) where
  part_within : (o : Option ℕ) → ((n : ℕ) → o ≡ Some n → n < length g.nodes) → IsPartWithin g o
  part_within None each = tt
  part_within (Some n) each = each n refl

  pub write_within : (k : ℕ) (w : WriteRoots) → slice_get g.roots.writes k ≡ Some w → IsWriteWithin g w
  write_within k w at = record {
    guard = graph.roots (Guard k) w.guard (ap (λ (o : Option WriteRoots). option_map (λ (x : WriteRoots). x.guard) o) at);
    at = part_within w.at (λ n is. graph.roots (At k) n (ap (λ (o : Option WriteRoots). option_and_then (λ (x : WriteRoots). x.at) o) at ∙ is));
    value = graph.roots (Value k) w.value (ap (λ (o : Option WriteRoots). option_map (λ (x : WriteRoots). x.value) o) at);
  }

  pub next_within : IsNextWithin g g.roots.next
  next_within = of g.roots.next refl
    where
      of : (o : Option NextRoots) → g.roots.next ≡ o → IsNextWithin g o
      of None is = tt
      of (Some n) is = (
        graph.roots NextGuard n.guard (ap (λ (o : Option NextRoots). option_map (λ (x : NextRoots). x.guard) o) is),
        graph.roots NextValue n.value (ap (λ (o : Option NextRoots). option_map (λ (x : NextRoots). x.value) o) is),
      )

-- ---- the roots

guard_images : (g h : GraphValue) (k : ℕ) (ws vs : List WriteRoots) → AreWriteImages g ws h vs → HasImageAt g (option_map (λ (w : WriteRoots). w.guard) (slice_get ws k)) h (option_map (λ (w : WriteRoots). w.guard) (slice_get vs k))
guard_images g h k [] [] are = tt
guard_images g h zero (w ∷ ws) (v ∷ vs) are = are.0.guard
guard_images g h (suc k) (w ∷ ws) (v ∷ vs) are = guard_images g h k ws vs are.1
guard_images g h k (w ∷ ws) [] are = absurd are
guard_images g h k [] (v ∷ vs) are = absurd are

at_images : (g h : GraphValue) (k : ℕ) (ws vs : List WriteRoots) → AreWriteImages g ws h vs → HasImageAt g (option_and_then (λ (w : WriteRoots). w.at) (slice_get ws k)) h (option_and_then (λ (w : WriteRoots). w.at) (slice_get vs k))
at_images g h k [] [] are = tt
at_images g h zero (w ∷ ws) (v ∷ vs) are = are.0.at
at_images g h (suc k) (w ∷ ws) (v ∷ vs) are = at_images g h k ws vs are.1
at_images g h k (w ∷ ws) [] are = absurd are
at_images g h k [] (v ∷ vs) are = absurd are

value_images : (g h : GraphValue) (k : ℕ) (ws vs : List WriteRoots) → AreWriteImages g ws h vs → HasImageAt g (option_map (λ (w : WriteRoots). w.value) (slice_get ws k)) h (option_map (λ (w : WriteRoots). w.value) (slice_get vs k))
value_images g h k [] [] are = tt
value_images g h zero (w ∷ ws) (v ∷ vs) are = are.0.value
value_images g h (suc k) (w ∷ ws) (v ∷ vs) are = value_images g h k ws vs are.1
value_images g h k (w ∷ ws) [] are = absurd are
value_images g h k [] (v ∷ vs) are = absurd are

next_guard_image : (g h : GraphValue) (n m : Option NextRoots) → IsNextImage g n h m → HasImageAt g (option_map (λ (x : NextRoots). x.guard) n) h (option_map (λ (x : NextRoots). x.guard) m)
next_guard_image g h None None is = tt
next_guard_image g h (Some n) (Some m) is = is.0
next_guard_image g h (Some n) None is = absurd is
next_guard_image g h None (Some m) is = absurd is

next_value_image : (g h : GraphValue) (n m : Option NextRoots) → IsNextImage g n h m → HasImageAt g (option_map (λ (x : NextRoots). x.value) n) h (option_map (λ (x : NextRoots). x.value) m)
next_value_image g h None None is = tt
next_value_image g h (Some n) (Some m) is = is.1
next_value_image g h (Some n) None is = absurd is
next_value_image g h None (Some m) is = absurd is

-- each part has its image
pub part_images : (g h : GraphValue) (old new : Roots) → AreWriteImages g old.writes h new.writes → IsNextImage g old.next h new.next → (r : Root) → HasImageAt g (root_of old r) h (root_of new r)
part_images g h old new writes next (Guard k) = guard_images g h k old.writes new.writes writes
part_images g h old new writes next (At k) = at_images g h k old.writes new.writes writes
part_images g h old new writes next (Value k) = value_images g h k old.writes new.writes writes
part_images g h old new writes next NextGuard = next_guard_image g h old.next new.next next
part_images g h old new writes next NextValue = next_value_image g h old.next new.next next

-- an image is a node
pub image_within : (g h : GraphValue) (o p : Option ℕ) (n : ℕ) → HasImageAt g o h p → p ≡ Some n → n < length h.nodes
image_within g h (Some m) (Some j) n image is = subst (λ (k : ℕ). k < length h.nodes) (same_Some j n is) image.within
image_within g h o None n image is = absurd (none-some n is)
image_within g h None (Some j) n image is = absurd image

-- the trees at a node and at its image are alike
pub image_alike : (g h : GraphValue) (roots : Roots) (o p : Option ℕ) → HasImageAt g o h p → AreAlike g o (record h { roots = roots }) p
image_alike g h roots (Some m) (Some j) image = image.alike
image_alike g h roots None None image = tt
image_alike g h roots (Some m) None image = absurd image
image_alike g h roots None (Some j) image = absurd image

-- ---- other roots

idle_rooted : (h : GraphValue) (roots : Roots) (x : Expr-F ℕ) → IsIdle (record h { roots = roots }) x → IsIdle h x
idle_rooted h roots (Expr-F.Cast o width a) idle = idle
idle_rooted h roots (Expr-F.Slice a high low) idle = idle
idle_rooted h roots (Expr-F.Const b) idle = absurd idle
idle_rooted h roots (Expr-F.Field n) idle = absurd idle
idle_rooted h roots Expr-F.Pc idle = absurd idle
idle_rooted h roots (Expr-F.Reg r i) idle = absurd idle
idle_rooted h roots (Expr-F.Mem a bytes) idle = absurd idle
idle_rooted h roots (Expr-F.Unary o a) idle = absurd idle
idle_rooted h roots (Expr-F.Binary o a b) idle = absurd idle
idle_rooted h roots (Expr-F.Join a b) idle = absurd idle
idle_rooted h roots (Expr-F.If c a b) idle = absurd idle

-- the normal form doesn't hang on the roots
pub normal_rooted : (h : GraphValue) (roots : Roots) → IsNormal h → IsNormal (record h { roots = roots })
normal_rooted h roots normal = record {
  shared = normal.shared;
  bare = λ n x at idle. normal.bare n x at (idle_rooted h roots x idle);
  ordered = normal.ordered;
}

-- ---- what the normal form keeps

record HasAlike (g h : GraphValue) (r : Root) (m : ℕ) : Type 0 where
  node : ℕ
  is : root_of h.roots r ≡ Some node
  alike : (e f : Expr) → IsTree g.nodes m e → IsTree h.nodes node f → Alike g.isa e f

has_alike : (g h : GraphValue) (r : Root) (m : ℕ) → HasSameTrees g h → root_of g.roots r ≡ Some m → HasAlike g h r m
has_alike g h r m same_trees at = of (root_of h.roots r) refl (subst (λ (o : Option ℕ). AreAlike g o h (root_of h.roots r)) at (same_trees r))
  where
    of : (o : Option ℕ) → root_of h.roots r ≡ o → AreAlike g (Some m) h o → HasAlike g h r m
    of (Some n) is are = record { node = n; is = is; alike = are }
    of None is are = absurd are

-- roots keep their values
pub keeps_values : (g h : GraphValue) → IsTrue (is_isa g.isa) → IsGraph g → h.isa ≡ g.isa → HasSameTrees g h → KeepsValues g h
keeps_values g h accepted graph isa same_trees r m n word s at_m at_n lawful e f e_stands f_stands =
    let a = has_alike g h r m same_trees at_m in
    let one : a.node ≡ n = same_Some a.node n (sym a.is ∙ at_n) in
    let alike : Alike g.isa e f = a.alike e f e_stands (subst (λ (k : ℕ). IsTree h.nodes k f) (sym one) f_stands) in
    alike_value g.isa word s accepted lawful e f alike (typed_at g accepted graph m e e_stands) ∙ ap (λ (d : Parts). value_of d f word s) (sym isa)

-- two roots are one node exactly where their trees were alike
pub one_root : (g h : GraphValue) → IsTrue (is_isa g.isa) → IsGraph h → IsNormal h → h.isa ≡ g.isa → HasSameTrees g h → HasOneRoot g h
one_root g h accepted graph normal isa same_trees r q m n e f at_r at_q at_m at_n =
    let a = has_alike g h r m same_trees at_r in
    let b = has_alike g h q n same_trees at_q in
    let s = graph.trees a.node (graph.roots r a.node a.is) in
    let t = graph.trees b.node (graph.roots q b.node b.is) in
    let left : Alike g.isa e s.tree = a.alike e s.tree at_m s.stands in
    let right : Alike g.isa f t.tree = b.alike f t.tree at_n t.stands in
    let h_accepted : IsTrue (is_isa h.isa) = subst (λ (d : Parts). IsTrue (is_isa d)) (sym isa) accepted in
    let exact : Alike h.isa s.tree t.tree ↔ (a.node ≡ b.node) = alike_one h h_accepted graph normal a.node b.node s.tree t.tree s.stands t.stands in (
      (λ alike.
          let over : Alike g.isa s.tree t.tree = chained s.tree e t.tree (turned e s.tree left) (chained e f t.tree alike right) in
          a.is ∙ ap Some (exact.0 (subst (λ (d : Parts). Alike d s.tree t.tree) (sym isa) over)) ∙ sym b.is),
      (λ one.
          let nodes : a.node ≡ b.node = same_Some a.node b.node (sym a.is ∙ one ∙ b.is) in
          let over : Alike g.isa s.tree t.tree = subst (λ (d : Parts). Alike d s.tree t.tree) isa (exact.1 nodes) in
          chained e s.tree f left (chained s.tree t.tree f over (turned f t.tree right))),
    )
