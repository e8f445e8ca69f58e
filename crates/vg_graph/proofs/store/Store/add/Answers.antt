use Rattle.std.proofs.Common.{◌≡◌, ℕ, ◌∷◌, ◌++◌, [], length, sym, ◌∙◌, ap, subst, List, inl, inr, refl}
use Rattle.std.specs.Prelude.{slice_get}
use Rattle.vg_graph.specs.declared.node.Node.{Node}
use Rattle.vg_graph.specs.Node.{args_of}
use Rattle.vg_graph.specs.Graph.{AreExact, edges_of, with_users}
use Rattle.vg_graph.proofs.StoreLemmas.{store_exact}
use Rattle.vg_graph.proofs.store.Store.add.Goals as goal

pub append-requires-clause-exact : goal.append-requires-clause-exact
append-requires-clause-exact c =
    let old = c.args.self.now in
    let node = c.args.node.now in
    subst (λ (ns : List Node). AreExact (ns ++ node ∷ []) (with_users c.make_room.new.self.users.lists (length (edges_of ns)) (args_of node))) (sym c.make_room.ensures.nodes)
    (subst (λ (us : List (List ℕ)). AreExact (old.nodes.items ++ node ∷ []) (with_users us (length (edges_of old.nodes.items)) (args_of node))) (sym c.in_ok-make_room.ensures.users) (store_exact old node c.requires.store c.requires.targets))

pub returns-clause-ok : goal.returns-clause-ok
returns-clause-ok c =
    let old = c.args.self.now in
    let node = c.args.node.now in
    let nodes : c.append.new.self.nodes.items ≡ old.nodes.items ++ node ∷ [] = c.append.ensures.nodes ∙ ap (λ (ns : List Node). ns ++ node ∷ []) c.make_room.ensures.nodes in
    let number : c.append.result ≡ length old.nodes.items = c.append.ensures.number ∙ ap (λ (ns : List Node). length ns) c.make_room.ensures.nodes in
    let users : c.append.new.self.users.lists ≡ with_users (old.users.lists ++ [] ∷ []) (length (edges_of old.nodes.items)) (args_of node) =
    c.append.ensures.users ∙ ap (λ (ns : List Node). with_users c.make_room.new.self.users.lists (length (edges_of ns)) (args_of node)) c.make_room.ensures.nodes
    ∙ ap (λ (us : List (List ℕ)). with_users us (length (edges_of old.nodes.items)) (args_of node)) c.in_ok-make_room.ensures.users in
    inr (record {
      absent = λ m at. c.in_default.ensures m (ap (λ (ns : List Node). slice_get ns m) c.as_slice.ensures.value ∙ at);
      number = number;
      nodes = nodes;
      users = users;
    })

pub returns-in-Some-clause-ok : goal.returns-in-Some-clause-ok
returns-in-Some-clause-ok c = inl (record {
  found = ap (λ (ns : List Node). slice_get ns c.in-Some.n) (sym c.as_slice.ensures.value) ∙ c.in-Some.ensures;
  same = record { nodes = refl; users = refl };
})
