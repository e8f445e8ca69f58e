use Rattle.std.proofs.Common.{◌≤◌, length, take, refl, arith, subst, ◌+◌, sym}
use Rattle.std.proofs.lemmas.List.{length-take-le, take_all}
use Rattle.vg_graph.specs.declared.node.Node.{Node}
use Rattle.vg_graph.specs.Table.{IsIndexed, put_in}
use Rattle.vg_graph.proofs.TableLemmas.{IsIndexed-none, IsIndexed-more, not_linked}
use Rattle.vg_graph.proofs.table.Table.of.Goals as goal

pub loop-n-init : goal.loop-n-init
loop-n-init c = record { indexed = IsIndexed-none c.args.room _ c.requires.some (λ i. record { buckets = c.in_ok-new.ensures i; room = c.args.room }); room = refl }

pub insert-requires-clause-room : goal.insert-requires-clause-room
insert-requires-clause-room c = c.loop-n.invariant.indexed.has_room

pub insert-requires-clause-within : goal.insert-requires-clause-within
insert-requires-clause-within c = rw c.loop-n.invariant.room (omega arith)

pub insert-requires-clause-free : goal.insert-requires-clause-free
insert-requires-clause-free c = not_linked (take c.loop-n.n c.args.nodes.now) c.loop-n.table c.loop-n.n c.loop-n.invariant.indexed (omega (arith, length-take-le c.loop-n.n c.args.nodes.now (omega arith)))

pub loop-n-preserved : goal.loop-n-preserved
loop-n-preserved c =
    let nodes = c.args.nodes.now in
    let room : length nodes ≤ c.loop-n.table.room = rw c.loop-n.invariant.room c.requires.fits in
    rw c.insert.ensures (record {
      indexed =
          subst (λ (x : Node). IsIndexed (take (c.loop-n.n + 1) nodes) (put_in c.loop-n.table c.loop-n.n x)) (sym c.index-nodes-n.is)
          (IsIndexed-more nodes c.loop-n.table c.loop-n.n c.index-nodes-n.result c.loop-n-test.true room c.loop-n.invariant.indexed);
      room = c.loop-n.invariant.room;
    })

pub returns-clause-indexed : goal.returns-clause-indexed
returns-clause-indexed c = subst (λ xs. IsIndexed xs c.loop-n.table) (take_all c.loop-n.n c.args.nodes.now (omega arith)) c.loop-n.invariant.indexed

pub returns-clause-room : goal.returns-clause-room
returns-clause-room c = c.loop-n.invariant.room
