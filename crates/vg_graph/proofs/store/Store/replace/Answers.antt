use Rattle.std.proofs.Common.{◌≡◌, ℕ, ◌+◌, ◌<◌, List, map, length, Option, Some, None, refl, sym, ap, ◌∙◌, subst}
use Rattle.std.specs.Prelude.{slice_get}
use Rattle.vg_list.specs.NodeLists.{NodeLists, IsLinked}
use Rattle.vg_graph.specs.Graph.{edges_of, users_at}
use Rattle.vg_graph.specs.Replaced.{moved_lists, renamed_node}
use Rattle.vg_graph.specs.Walk.{IsOnce, left_at, left_from}
use Rattle.vg_graph.proofs.StoreLemmas.{store_below}
use Rattle.vg_graph.proofs.Walking.{left_shrinks}
use Rattle.vg_graph.proofs.RetargetLemmas.{AreLeft, AreLeft-first, AreLeft-on, AreLeft-none, NameEither, NameEither-first, NameEither-on, edges_of-retargeted, renamed-on, renamed_plain, store_replaced}
use Rattle.vg_graph.proofs.store.Store.replace.Goals as goal

pub loop-current-init : goal.loop-current-init
loop-current-init c =
    let s = c.args.self.now in
    record {
      edges = c.requires.store.edges;
      edges_same = refl;
      users = refl;
      indexed = c.requires.store.indexed;
      renamed = refl;
      once = λ n i j at_i at_j. (c.first-current.ensures.disjoint n c.args.old i c.args.old j at_i at_j).1;
      either = NameEither-first s.nodes.items s.users.lists c.args.old c.args.new c.requires.store.exact;
      walk = (0, c.first-current.ensures.node, AreLeft-first s.nodes.items s.users.lists c.args.old c.requires.store.exact);
    }

pub retarget-requires-clause-edge : goal.retarget-requires-clause-edge
retarget-requires-clause-edge c =
    let inv = c.loop-current.invariant in
    let at : slice_get (users_at c.loop-current.self.users.lists c.args.old) inv.walk.0 ≡ Some c.in-Some.e = sym inv.walk.1 ∙ c.in-Some.is in
    let linked : IsLinked c.args.self.now.users c.in-Some.e = subst (λ (u : NodeLists). IsLinked u c.in-Some.e) inv.users (c.args.old, inv.walk.0, at) in
    let below : c.in-Some.e < length c.args.self.now.edges.items = store_below c.args.self.now c.requires.store c.in-Some.e linked in
    subst (λ (es : List (ℕ × ℕ)). c.in-Some.e < length es) (sym inv.edges_same) below

pub loop-current-smaller : goal.loop-current-smaller
loop-current-smaller c =
    let inv = c.loop-current.invariant in
    let old = c.args.old in
    let e = c.in-Some.e in
    let here = c.loop-current.self.users in
    let now = c.retarget.new.self.users in
    let same : now ≡ here = c.retarget.ensures.users in
    let at : slice_get (users_at here.lists old) inv.walk.0 ≡ Some e = sym inv.walk.1 ∙ c.in-Some.is in
    let at_now : slice_get (users_at now.lists old) inv.walk.0 ≡ Some e = subst (λ (u : NodeLists). slice_get (users_at u.lists old) inv.walk.0 ≡ Some e) (sym same) at in
    let once_now : IsOnce (users_at now.lists old) = subst (λ (u : NodeLists). IsOnce (users_at u.lists old)) (sym same) inv.once in
    let less : left_at (users_at now.lists old) c.next-current.result < left_from e (users_at now.lists old) =
    left_shrinks e inv.walk.0 (users_at now.lists old) c.next-current.result once_now at_now (c.next-current.ensures.node old inv.walk.0 at_now) in
    subst (λ (o : Option ℕ). left_at (users_at now.lists old) c.next-current.result < left_at (users_at here.lists old) o) (sym c.in-Some.is)
    (subst (λ (u : NodeLists). left_at (users_at now.lists old) c.next-current.result < left_from e (users_at u.lists old)) same less)

pub loop-current-preserved : goal.loop-current-preserved
loop-current-preserved c =
    let inv = c.loop-current.invariant in
    let old = c.args.old in
    let new = c.args.new in
    let e = c.in-Some.e in
    let nodes = c.loop-current.self.nodes.items in
    let next = c.retarget.new.self.nodes.items in
    let here = c.loop-current.self.users in
    let now = c.retarget.new.self.users in
    let xs = users_at here.lists old in
    let same : now ≡ here = c.retarget.ensures.users in
    let place = inv.walk.0 in
    let at : slice_get xs place ≡ Some e = sym inv.walk.1 ∙ c.in-Some.is in
    let at_now : slice_get (users_at now.lists old) place ≡ Some e = subst (λ (u : NodeLists). slice_get (users_at u.lists old) place ≡ Some e) (sym same) at in
    let done = c.retarget.ensures.nodes in
    let edge : slice_get (edges_of nodes) e ≡ Some (done.0.0, done.0.1) = subst (λ (es : List (ℕ × ℕ)). slice_get es e ≡ Some done.0) inv.edges done.1 in
    record {
      edges = c.retarget.ensures.edges ∙ inv.edges ∙ sym (edges_of-retargeted nodes next done.0.0 done.0.1 new done.2);
      edges_same = c.retarget.ensures.edges ∙ inv.edges_same;
      users = same ∙ inv.users;
      indexed = c.retarget.ensures.indexed;
      renamed = renamed-on nodes next done.0.0 done.0.1 old new done.2 e place xs edge at inv.either ∙ inv.renamed;
      once = subst (λ (u : NodeLists). IsOnce (users_at u.lists old)) (sym same) inv.once;
      either = subst (λ (u : NodeLists). NameEither next old new (users_at u.lists old)) (sym same) (NameEither-on nodes next done.0.0 done.0.1 old new done.2 e place xs edge at inv.either);
      walk = (
        place + 1,
        c.next-current.ensures.node old place at_now,
        subst (λ (u : NodeLists). AreLeft next old (users_at u.lists old) (place + 1)) (sym same) (AreLeft-on nodes next done.0.0 done.0.1 old new done.2 e place xs edge at c.requires.differ inv.walk.2),
      );
    }

pub returns-clause-nodes : goal.returns-clause-nodes
returns-clause-nodes c =
    let inv = c.loop-current.invariant in
    let xs = users_at c.loop-current.self.users.lists c.args.old in
    let ends : None ≡ slice_get xs inv.walk.0 = sym c.in_default.is ∙ inv.walk.1 in
    sym (renamed_plain c.args.old c.args.new c.loop-current.self.nodes.items (AreLeft-none c.loop-current.self.nodes.items c.args.old xs inv.walk.0 inv.walk.2 ends)) ∙ inv.renamed

pub returns-clause-store : goal.returns-clause-store
returns-clause-store c =
    let inv = c.loop-current.invariant in
    let xs = users_at c.loop-current.self.users.lists c.args.old in
    let ends : None ≡ slice_get xs inv.walk.0 = sym c.in_default.is ∙ inv.walk.1 in
    let nodes : c.loop-current.self.nodes.items ≡ map (renamed_node c.args.old c.args.new) c.args.self.now.nodes.items =
    sym (renamed_plain c.args.old c.args.new c.loop-current.self.nodes.items (AreLeft-none c.loop-current.self.nodes.items c.args.old xs inv.walk.0 inv.walk.2 ends)) ∙ inv.renamed in
    store_replaced c.args.self.now (record { nodes = c.loop-current.self.nodes; edges = c.loop-current.self.edges; users = c.splice.new.self; table = c.loop-current.self.table; alloc = c.loop-current.self.alloc })
    c.args.old c.args.new c.requires.store c.requires.source c.requires.target c.requires.differ nodes inv.edges_same
    (c.splice.ensures ∙ ap (λ (u : NodeLists). record u { lists = moved_lists c.args.old c.args.new u.lists }) inv.users) inv.indexed
