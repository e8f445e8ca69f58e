-- Each rule is asked behind those before it.
use Rattle.std.proofs.Common.{◌≡◌, Some, None, sym, ◌∙◌, rules}
use Rattle.vg_names.specs.Duplicate.{duplicates}
use Rattle.vg_names.specs.First.{first_of}
use Rattle.vg_names.specs.Unknown.{unknowns}
use Rattle.vg_whole.specs.Overflow.{overflows}
use Rattle.vg_whole.specs.Worths.{constants_of}
use Rattle.vg_inline.specs.InPlace.{excesses}
use Rattle.vg_names.specs.Cycle.{cycles}
use Rattle.vg_const.proofs.Broken.{nothing_first, duplicate, unknown, cyclic, overflow, limit, accepted}
use Rattle.vg_const.proofs.folding.known.Goals as goal

pub returns-in-Some-clause-fault : goal.returns-in-Some-clause-fault
returns-in-Some-clause-fault c = duplicate c.args.d.now c.in-Some.at (sym c.in_ok-at.ensures ∙ c.in-Some.is)

pub returns-in-Some-2-clause-fault : goal.returns-in-Some-2-clause-fault
returns-in-Some-2-clause-fault c = unknown c.args.d.now (sym c.in_ok-at.ensures ∙ c.in_default.is) c.in-Some-2.at (sym c.in_ok-at-2.ensures ∙ c.in-Some-2.is)

pub returns-in-Err-clause-fault : goal.returns-in-Err-clause-fault
returns-in-Err-clause-fault c =
    let cycle : first_of (cycles c.args.d.now.items) ≡ Some c.in-Err.at = search rules in
    cyclic c.args.d.now (sym c.in_ok-at.ensures ∙ c.in_default.is) (sym c.in_ok-at-2.ensures ∙ c.in_default-2.is) c.in-Err.at cycle

pub worths-requires-clause-distinct : goal.worths-requires-clause-distinct
worths-requires-clause-distinct c = nothing_first (duplicates c.args.d.now) (sym c.in_ok-at.ensures ∙ c.in_default.is)

pub work_out_aliases-requires-clause-distinct : goal.work_out_aliases-requires-clause-distinct
work_out_aliases-requires-clause-distinct c = nothing_first (duplicates c.args.d.now) (sym c.in_ok-at.ensures ∙ c.in_default.is)

pub work_out_bodies-requires-clause-distinct : goal.work_out_bodies-requires-clause-distinct
work_out_bodies-requires-clause-distinct c = nothing_first (duplicates c.args.d.now) (sym c.in_ok-at.ensures ∙ c.in_default.is)

pub returns-in-Some-overflow-clause-fault : goal.returns-in-Some-overflow-clause-fault
returns-in-Some-overflow-clause-fault c =
    let no_cycle : first_of (cycles c.args.d.now.items) ≡ None = search rules in
    let at : first_of (overflows c.args.d.now (constants_of c.args.d.now.items)) ≡ Some c.in-Some-overflow.at = search rules in
    overflow c.args.d.now (sym c.in_ok-at.ensures ∙ c.in_default.is) (sym c.in_ok-at-2.ensures ∙ c.in_default-2.is) no_cycle c.in-Some-overflow.at at

pub returns-in-Some-excess-clause-fault : goal.returns-in-Some-excess-clause-fault
returns-in-Some-excess-clause-fault c =
    let no_cycle : first_of (cycles c.args.d.now.items) ≡ None = search rules in
    let no_overflow : first_of (overflows c.args.d.now (constants_of c.args.d.now.items)) ≡ None = search rules in
    let at : first_of (excesses c.args.d.now.items) ≡ Some c.in-Some-excess.at = search rules in
    limit c.args.d.now (sym c.in_ok-at.ensures ∙ c.in_default.is) (sym c.in_ok-at-2.ensures ∙ c.in_default-2.is) no_cycle no_overflow c.in-Some-excess.at at

pub returns-clause-accepted : goal.returns-clause-accepted
returns-clause-accepted c =
    let no_cycle : first_of (cycles c.args.d.now.items) ≡ None = search rules in
    let no_overflow : first_of (overflows c.args.d.now (constants_of c.args.d.now.items)) ≡ None = search rules in
    let no_excess : first_of (excesses c.args.d.now.items) ≡ None = search rules in
    accepted c.args.d.now (sym c.in_ok-at.ensures ∙ c.in_default.is) (sym c.in_ok-at-2.ensures ∙ c.in_default-2.is) no_cycle no_overflow no_excess
