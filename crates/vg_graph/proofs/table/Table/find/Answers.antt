use Rattle.std.proofs.Common.{◌≡◌, ℕ, ◌+◌, ◌<◌, Some, None, length, refl, sym, ap, ◌∙◌, arith, rules}
use Rattle.std.specs.Prelude.{slice_get}
use Rattle.std.proofs.lemmas.Option.{slice_get_read}
use Rattle.vg_list.specs.NodeLists.{nodes_of}
use Rattle.vg_graph.specs.declared.node.Node.{Node}
use Rattle.vg_graph.specs.Hashing.{bucket_of}
use Rattle.vg_graph.proofs.Walking.{left_shrinks, passed}
use Rattle.vg_graph.proofs.TableLemmas.{passes}
use Rattle.vg_graph.proofs.table.Table.find.Goals as goal

pub loop-current-init : goal.loop-current-init
loop-current-init c = (0, c.first-current.ensures.node ∙ ap (λ (b : ℕ). slice_get (nodes_of c.args.self.now.buckets b) 0) c.bucket.ensures.bucket, λ n i j at_i at_j. (c.first-current.ensures.disjoint n (bucket_of c.args.self.now.room c.args.node.now) i (bucket_of c.args.self.now.room c.args.node.now) j at_i at_j).1, λ i n below. absurd (omega arith))

pub bounds-nodes-n : goal.bounds-nodes-n
bounds-nodes-n c =
    let bucket = bucket_of c.args.self.now.room c.args.node.now in
    let walk = c.loop-current.invariant in
    c.requires.within c.in-Some.n (bucket, walk.0, sym walk.1 ∙ c.in-Some.is)

pub returns-then-is_same : goal.returns-then-is_same
returns-then-is_same c =
    let same : c.index-nodes-n.result ≡ c.args.node.now = search rules in
    let bucket = bucket_of c.args.self.now.room c.args.node.now in
    let walk = c.loop-current.invariant in
    let below : c.in-Some.n < length c.args.nodes.now = c.requires.within c.in-Some.n (bucket, walk.0, sym walk.1 ∙ c.in-Some.is) in
    slice_get_read c.args.nodes.now (length c.args.nodes.now) c.in-Some.n c.index-nodes-n.result refl below c.index-nodes-n.is ∙ ap (λ (x : Node). Some x) same

pub loop-current-smaller : goal.loop-current-smaller
loop-current-smaller c =
    let bucket = bucket_of c.args.self.now.room c.args.node.now in
    let xs = nodes_of c.args.self.now.buckets bucket in
    let walk = c.loop-current.invariant in
    rw c.in-Some.is (left_shrinks c.in-Some.n walk.0 xs c.next-current.result walk.2 (sym walk.1 ∙ c.in-Some.is) (c.next-current.ensures.node bucket walk.0 (sym walk.1 ∙ c.in-Some.is)))

pub loop-current-preserved : goal.loop-current-preserved
loop-current-preserved c =
    let bucket = bucket_of c.args.self.now.room c.args.node.now in
    let xs = nodes_of c.args.self.now.buckets bucket in
    let walk = c.loop-current.invariant in
    let at : slice_get xs walk.0 ≡ Some c.in-Some.n = sym walk.1 ∙ c.in-Some.is in
    let differ : ¬ (c.index-nodes-n.result ≡ c.args.node.now) = search rules in
    let below : c.in-Some.n < length c.args.nodes.now = c.requires.within c.in-Some.n (bucket, walk.0, at) in
    let here : slice_get c.args.nodes.now c.in-Some.n ≡ Some c.index-nodes-n.result = slice_get_read c.args.nodes.now (length c.args.nodes.now) c.in-Some.n c.index-nodes-n.result refl below c.index-nodes-n.is in
    (walk.0 + 1, c.next-current.ensures.node bucket walk.0 at, walk.2, passes c.args.nodes.now c.args.node.now xs walk.0 c.in-Some.n c.index-nodes-n.result at here differ walk.3)

pub returns : goal.returns
returns c = λ m at.
    let bucket = bucket_of c.args.self.now.room c.args.node.now in
    let xs = nodes_of c.args.self.now.buckets bucket in
    let walk = c.loop-current.invariant in
    let has = c.requires.placed m c.args.node.now at in
    let ends : None ≡ slice_get xs walk.0 = sym c.in_default.is ∙ walk.1 in
    walk.3 has.0 m (passed xs walk.0 has.0 m ends has.1) has.1 at
