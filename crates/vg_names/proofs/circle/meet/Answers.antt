use Rattle.std.proofs.Common.{◌≡◌, ◌≢◌, ◌<◌, ◌++◌, [], ◌∷◌, true, false, length, get_or, subst, sym, rules}
use Rattle.vg_names.specs.Search.{seen_at}
use Rattle.vg_names.proofs.CircleLemmas.{turn_new, turn_seen}
use Rattle.vg_names.proofs.circle.meet.Goals as goal
use Rattle.vg_names.proofs.circle.meet.Goals.{then-not-seen-used+in_ok-push, else-not-seen-used}

pub loop-used-preserved : goal.loop-used-preserved
loop-used-preserved c =
    let i = c.loop-used.used-index in
    let lt : c.loop-used.used-index < length c.args.uses.now = search rules in
    let other : get_or c.args.uses.now c.loop-used.used-index 0 ≢ c.args.sought = search rules in
    let within : get_or c.args.uses.now c.loop-used.used-index 0 < length c.loop-used.seen = subst (λ n. get_or c.args.uses.now c.loop-used.used-index 0 < n) (sym c.loop-used.invariant.marked) (c.requires c.loop-used.used-index 0 lt) in
    elim c.if-not-seen-used.branch [
      | then-not-seen-used+in_ok-push w ↦
          (let fresh : seen_at c.loop-used.seen (get_or c.args.uses.now c.loop-used.used-index 0) ≡ false = search rules in
          let more : c.if-not-seen-used.work.items ≡ c.loop-used.work.items ++ get_or c.args.uses.now c.loop-used.used-index 0 ∷ [] = cc (w.work-is, w.in_ok-push.ensures.items) in
          turn_new c.args.sought c.args.uses.now c.args.seen.now c.args.work.now.items i c.loop-used.seen c.if-not-seen-used.seen c.loop-used.work.items c.if-not-seen-used.work.items lt c.loop-used.invariant other within fresh w.seen-is more)
      | else-not-seen-used w ↦
          (let met : seen_at c.loop-used.seen (get_or c.args.uses.now c.loop-used.used-index 0) ≡ true = search rules in
          let same : c.if-not-seen-used.work.items ≡ c.loop-used.work.items = cc (w.work-is) in
          turn_seen c.args.sought c.args.uses.now c.args.seen.now c.args.work.now.items i c.loop-used.seen c.if-not-seen-used.seen c.loop-used.work.items c.if-not-seen-used.work.items lt c.loop-used.invariant other met w.seen-is same)
    ]
