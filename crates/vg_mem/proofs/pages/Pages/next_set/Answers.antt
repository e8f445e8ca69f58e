use Rattle.std.proofs.Common.{arith, ℕ, subst, Some, None}
use Rattle.std.specs.Prelude.{slice_index}
use Rattle.vg_mem.specs.Bytes.{IsNextSet}
use Rattle.vg_mem.specs.Pages.{bytes_of}
use Rattle.vg_mem.proofs.Scans.{ended, found, passed, zero_before}
use Rattle.vg_mem.proofs.Writes.{page_there}
use Rattle.vg_mem.proofs.pages.Pages.next_set.Goals as goal

pub returns-in-Some-next_set : goal.returns-in-Some-next_set
returns-in-Some-next_set c =
    found (bytes_of c.args.self.now.pages.items) c.args.from c.in-Some.next c.in-Some-next_set.at c.index.result.now.bytes
    (zero_before c.args.self.now.pages.items c.args.from c.loop-next.number c.in-Some.next c.loop-next.invariant.zero c.in-Some.ensures.value.2)
    (page_there c.args.self.now.pages.items c.in-Some.place c.in-Some.next c.index.result.now c.in-Some.ensures.value.1 c.in-Some.ensures.within c.index.ensures)
    (omega (arith, c.loop-next.invariant.order, c.in-Some.ensures.value.0)) c.in-Some-next_set.ensures.within
    (subst (λ (offset : ℕ). IsNextSet (slice_index c.index.result.now.bytes) offset (Some c.in-Some-next_set.at)) c.saturating_sub-offset.ensures c.in-Some-next_set.ensures.value)

pub loop-next-preserved : goal.loop-next-preserved
loop-next-preserved c =
    record {
      order = omega (arith, c.loop-next.invariant.order, c.in-Some.ensures.value.0);
      bound = omega (arith, c.in-Some.ensures.number);
      zero = passed (bytes_of c.args.self.now.pages.items) c.args.from c.in-Some.next c.index.result.now.bytes
          (zero_before c.args.self.now.pages.items c.args.from c.loop-next.number c.in-Some.next c.loop-next.invariant.zero c.in-Some.ensures.value.2)
          (page_there c.args.self.now.pages.items c.in-Some.place c.in-Some.next c.index.result.now c.in-Some.ensures.value.1 c.in-Some.ensures.within c.index.ensures)
          (subst (λ (offset : ℕ). IsNextSet (slice_index c.index.result.now.bytes) offset None) c.saturating_sub-offset.ensures c.in_default-next_set.ensures.value);
    }

pub returns : goal.returns
returns c = ended c.args.self.now.pages.items c.args.from c.loop-next.number c.loop-next.invariant.zero c.in_default.ensures.value
