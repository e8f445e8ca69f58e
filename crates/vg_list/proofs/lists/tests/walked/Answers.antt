use Rattle.vg_list.proofs.Walks.{IsWalk_goes_on, IsWalk_ends, IsAt_from_IsWalk, AllPairs-nodes_of}
use Rattle.vg_list.proofs.lists.tests.walked.Goals as goal

pub loop-current-preserved : goal.loop-current-preserved
loop-current-preserved c =
    let all = c.args.lists.now in
    let seen = c.loop-current.seen.items in
    let walk = rw c.in-Some.is at c.loop-current.invariant in
    let at = IsAt_from_IsWalk all c.args.list seen c.in-Some.node walk in
    rw c.in_ok-push.ensures.items (
    IsWalk_goes_on all c.args.list seen c.in-Some.node c.next-current.result walk (c.next-current.ensures.node c.args.list _ at)
    )

pub returns-clause-in_order : goal.returns-clause-in_order
returns-clause-in_order c = IsWalk_ends c.args.lists.now c.args.list c.loop-current.seen.items (rw c.in_default.is at c.loop-current.invariant)

pub returns-clause-once : goal.returns-clause-once
returns-clause-once c =
    let all = IsWalk_ends c.args.lists.now c.args.list c.loop-current.seen.items (rw c.in_default.is at c.loop-current.invariant) in
    rw all (AllPairs-nodes_of c.args.lists.now c.args.list c.first-current.ensures.disjoint)
