use Rattle.std.proofs.Common.{ap, sym, subst, ◌∙◌, IsTrue, ◌-◌}
use Rattle.std.specs.Ordering.{nat_cmp}
use Rattle.std.specs.FinSet.{FinSet, contains}
use Rattle.vg_mem.specs.Pages.{pages_of}
use Rattle.vg_mem.proofs.Rooms.{pages_from_keeps}
use Rattle.vg_mem.proofs.pages.Pages.take_all.Goals as goal

pub returns-in_err-take-clause-kept : goal.returns-in_err-take-clause-kept
returns-in_err-take-clause-kept c = λ page there.
    subst (λ (s : FinSet nat_cmp). IsTrue (contains s page)) (sym (ap pages_of c.in_err-take.ensures.err ∙ c.loop-number.invariant.pages))
    (pages_from_keeps c.args.first (c.loop-number.number - c.args.first) (pages_of c.args.self.now.pages.items) page there)

pub returns-clause-kept : goal.returns-clause-kept
returns-clause-kept c = λ page there.
    subst (λ (s : FinSet nat_cmp). IsTrue (contains s page)) (sym c.loop-number.invariant.pages)
    (pages_from_keeps c.args.first (c.loop-number.number - c.args.first) (pages_of c.args.self.now.pages.items) page there)
