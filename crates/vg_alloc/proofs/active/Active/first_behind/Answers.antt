-- The member that was passed ends by the place.
use Rattle.std.proofs.Common.{◌≡◌, ◌≤◌, Some, sym, ◌∙◌, rules}
use Rattle.std.specs.Prelude.{slice_get}
use Rattle.vg_alloc.specs.Ends.{end_of}
use Rattle.vg_alloc.specs.Active.{members}
use Rattle.vg_alloc.proofs.Members.{EndsBy-more}
use Rattle.vg_alloc.proofs.active.Active.first_behind.Goals as goal

pub loop-passed-preserved : goal.loop-passed-preserved
loop-passed-preserved c =
    let xs = members c.args.self.now in
    let at : slice_get xs c.loop-passed._passed ≡ Some c.in_ok-member.member = sym c.loop-passed.invariant.stands ∙ c.in_ok-member.was in
    let by : end_of c.args.intervals.now c.in_ok-member.member ≤ c.args.place = search rules in
    record {
      stands = c.next-current.ensures.node 0 c.loop-passed._passed at;
      front = EndsBy-more c.args.intervals.now c.args.place xs c.loop-passed._passed c.in_ok-member.member at by c.loop-passed.invariant.front;
    }
