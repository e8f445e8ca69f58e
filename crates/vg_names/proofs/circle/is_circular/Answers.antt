use Rattle.std.proofs.Common.{◌≡◌, ◌<◌, [], length, ap, sym, subst, ◌∙◌, rules, arith}
use Rattle.std.proofs.lemmas.Grind.{common_steps}
use Rattle.vg_names.specs.Graph.{uses_at}
use Rattle.vg_names.proofs.Counts.{written_back}
use Rattle.vg_names.proofs.CircleLemmas.{IsWalk, walk_within, walk_back, walk_turn, walk_done, meet_bound}
use Rattle.vg_names.proofs.circle.is_circular.Goals as goal
use Rattle.vg_names.proofs.SearchLemmas.{read_uses}

pub offset_bounds-graph-current : goal.offset_bounds-graph-current
offset_bounds-graph-current c =
    let lt : c.in-Some.current < length c.args.graph.now = walk_within _ _ _ _ _ _ c.loop-current.invariant c.in-Some.ensures.items in
    search rules

pub bounds-graph-current : goal.bounds-graph-current
bounds-graph-current c = walk_within _ _ _ _ _ _ c.loop-current.invariant c.in-Some.ensures.items

pub meet-requires : goal.meet-requires
meet-requires c =
    let lt = walk_within _ _ _ _ _ _ c.loop-current.invariant c.in-Some.ensures.items in
    let same = read_uses c.args.graph.now c.in-Some.current c.index-graph-current.result c.as_slice.result.now c.as_slice.ensures c.index-graph-current.is lt in
    meet_bound (uses_at c.args.graph.now c.in-Some.current) c.as_slice.result.now (length c.args.graph.now) (length c.deref_mut.result.now) same (c.requires.closed c.in-Some.current [] lt)
    (ap length c.deref_mut.ensures.value ∙ c.loop-current.invariant.marked)

pub returns-then-branch-clause-yes : goal.returns-then-branch-clause-yes
returns-then-branch-clause-yes c = λ _.
    let lt = walk_within _ _ _ _ _ _ c.loop-current.invariant c.in-Some.ensures.items in
    let same = read_uses c.args.graph.now c.in-Some.current c.index-graph-current.result c.as_slice.result.now c.as_slice.ensures c.index-graph-current.is lt in
    walk_back _ _ _ _ _ _ c.loop-current.invariant c.in-Some.ensures.items c.as_slice.result.now same (c.in_ok-meet.ensures.found c.if-branch.true)

pub loop-current-preserved : goal.loop-current-preserved
loop-current-preserved c =
    let lt = walk_within _ _ _ _ _ _ c.loop-current.invariant c.in-Some.ensures.items in
    let same = read_uses c.args.graph.now c.in-Some.current c.index-graph-current.result c.as_slice.result.now c.as_slice.ensures c.index-graph-current.is lt in
    let kept : length c.meet.new.seen ≡ length c.deref_mut.result.now = search rules in
    let room : c.loop-current.seen.len ≡ length c.loop-current.seen.items = omega (arith, c.loop-current.seen.ok.0) in
    let no = c.if-branch.false in
    let e = c.in_ok-meet.ensures in
    subst (λ l. IsWalk c.args.graph.now c.args.node l c.meet.new.work.items)
    (sym (written_back c.meet.new.seen c.loop-current.seen.items c.loop-current.seen.len (kept ∙ ap length c.deref_mut.ensures.value) room))
    (walk_turn c.args.graph.now c.args.node c.loop-current.seen.items c.loop-current.work.items c.pop.new.self.items c.in-Some.current c.loop-current.invariant c.in-Some.ensures.items
    c.as_slice.result.now c.deref_mut.result.now c.meet.new.seen c.meet.new.work.items c.requires.closed same c.deref_mut.ensures.value
    kept (e.met no) e.seen (e.noted no) (e.kept no) (e.added no))

pub returns-clause-no : goal.returns-clause-no
returns-clause-no c = λ _ way.
    let empty : c.loop-current.work.items ≡ [] = first_of (search rules, grind (arith, common_steps)) in
    walk_done c.args.graph.now c.args.node c.loop-current.seen.items c.loop-current.work.items c.loop-current.invariant empty way
