use Rattle.std.proofs.Common.{◌≡◌, ◌∙◌, subst, refl, ap, ℕ, ◌+◌, ◌<◌, ◌≤◌, ◌++◌, [], length, replicate, arith, List, rules}
use Rattle.vg_graph.specs.declared.node.Node.{Node}
use Rattle.std.specs.Prelude.{vec_len, vec_capacity}
use Rattle.vg_graph.specs.Node.{args_of}
use Rattle.vg_graph.specs.Table.{IsIndexed}
use Rattle.vg_graph.proofs.StoreLemmas.{on_err, store_roomy, store_same}
use Rattle.std.proofs.lemmas.Result.{on_ok_weaker, on_err_weaker}
use Rattle.vg_graph.proofs.store.Store.make_room.Goals as goal

pub returns-in_err-reserve-clause-store : goal.returns-in_err-reserve-clause-store
returns-in_err-reserve-clause-store c = on_err _ (store_same c.args.self.now _ c.requires.store (search rules) (search rules) (search rules) (search rules))

pub returns-in_err-reserve-2-clause-store : goal.returns-in_err-reserve-2-clause-store
returns-in_err-reserve-2-clause-store c = on_err _ (store_same c.args.self.now _ c.requires.store (search rules) (search rules) (search rules) (search rules))

pub returns-in_err-grow-clause-store : goal.returns-in_err-grow-clause-store
returns-in_err-grow-clause-store c =
    let slice : c.as_slice.result.now ≡ c.args.self.now.nodes.items = search rules in
    on_err _ (store_same c.args.self.now (record { nodes = c.reserve.new.self; edges = c.reserve-2.new.self; users = c.args.self.now.users; table = c.grow.new.self; alloc = c.args.self.now.alloc }) c.requires.store (search rules) (search rules) refl (subst (λ (ns : List Node). IsIndexed ns c.grow.new.self) slice c.grow.ensures.indexed))

pub returns-clause-roomy : goal.returns-clause-roomy
returns-clause-roomy c =
    let old = c.args.self.now in
    let nodes : c.reserve.new.self.items ≡ old.nodes.items = search rules in
    let edges : c.reserve-2.new.self.items ≡ old.edges.items = search rules in
    let slice : c.as_slice.result.now ≡ old.nodes.items = search rules in
    on_ok_weaker c.grow-2.result
    (λ is. store_roomy old (record { nodes = c.reserve.new.self; edges = c.reserve-2.new.self; users = c.grow-2.new.self; table = c.grow.new.self; alloc = old.alloc }) c.args.node.now c.requires.store
    nodes edges (is ∙ ap (λ (k : ℕ). record { nodes = old.users.nodes + k; lists = old.users.lists ++ replicate 1 [] }) c.count-count.ensures)
    (subst (λ (ns : List Node). IsIndexed ns c.grow.new.self) slice c.in_ok-grow.ensures.indexed)
    (subst (λ (ns : List Node). length ns < c.grow.new.self.room) slice c.in_ok-grow.ensures.room)
    (let room : vec_len c.reserve.new.self + 1 ≤ vec_capacity c.reserve.new.self = c.in_ok-reserve.ensures.ok in omega arith)
    (let room : vec_len c.reserve-2.new.self + c.count-count.result ≤ vec_capacity c.reserve-2.new.self = c.in_ok-reserve-2.ensures.ok in let count : c.count-count.result ≡ length (args_of c.args.node.now) = c.count-count.ensures in omega arith))
    c.grow-2.ensures.ok

pub returns-clause-store : goal.returns-clause-store
returns-clause-store c =
    let old = c.args.self.now in
    let nodes : c.reserve.new.self.items ≡ old.nodes.items = search rules in
    let edges : c.reserve-2.new.self.items ≡ old.edges.items = search rules in
    let slice : c.as_slice.result.now ≡ old.nodes.items = search rules in
    on_err_weaker c.grow-2.result
    (λ is. store_same old (record { nodes = c.reserve.new.self; edges = c.reserve-2.new.self; users = c.grow-2.new.self; table = c.grow.new.self; alloc = old.alloc }) c.requires.store
    nodes edges is (subst (λ (ns : List Node). IsIndexed ns c.grow.new.self) slice c.in_ok-grow.ensures.indexed))
    c.grow-2.ensures.err
