use Rattle.std.proofs.Common.{◌≡◌, ◌≢◌, get_or, rules, arith}
use Rattle.std.proofs.lemmas.Grind.{common_steps}
use Rattle.vg_names.specs.declared.mark.Mark.TheVariants.{Open}
use Rattle.vg_names.specs.Search.{mark_at}
use Rattle.vg_names.proofs.SearchLemmas.{turn_done, turn_done_less, turn_open, turn_open_less, turn_circular, used_within}
use Rattle.vg_names.proofs.search.search.Goals as goal

pub loop-step-smaller-in-Continue-branch-2 : goal.loop-step-smaller-in-Continue-branch-2
loop-step-smaller-in-Continue-branch-2 c =
    turn_done_less _ _ _ _ _ _ _ _ c.loop-step.invariant c.in-Some.ensures.items c.index-graph-step.result c.as_slice-uses.result.now c.as_slice-uses.ensures c.index-graph-step.is

pub loop-step-preserved-in-Continue-branch-2 : goal.loop-step-preserved-in-Continue-branch-2
loop-step-preserved-in-Continue-branch-2 c =
    turn_done _ _ _ _ _ _ _ _ c.loop-step.invariant c.in-Some.ensures.items c.index-graph-step.result c.as_slice-uses.result.now c.as_slice-uses.ensures c.index-graph-step.is
    c.push-in-None.new.self.items c.in_ok-push-in-None.ensures.items c.in-None.ensures.passed

pub loop-step-smaller : goal.loop-step-smaller
loop-step-smaller c =
    let at = c.in-Some-next_use.at in
    let used = get_or c.as_slice-uses.result.now c.in-Some-next_use.at 0 in
    let not_open : mark_at c.loop-step.marks (get_or c.as_slice-uses.result.now c.in-Some-next_use.at 0) ≢ Open = first_of (search rules, grind (arith, common_steps)) in
    turn_open_less _ _ _ _ _ _ _ _ c.loop-step.invariant c.in-Some.ensures.items c.index-graph-step.result c.as_slice-uses.result.now c.as_slice-uses.ensures c.index-graph-step.is
    c.requires.closed at c.in-Some-next_use.ensures.within _ (first_of (cc, search rules, grind (arith, common_steps))) c.in-Some-next_use.ensures.not_done not_open

pub loop-step-preserved : goal.loop-step-preserved
loop-step-preserved c =
    let not_open : mark_at c.loop-step.marks (get_or c.as_slice-uses.result.now c.in-Some-next_use.at 0) ≢ Open = first_of (search rules, grind (arith, common_steps)) in
    turn_open _ _ _ _ _ _ _ _ c.loop-step.invariant c.in-Some.ensures.items c.index-graph-step.result c.as_slice-uses.result.now c.as_slice-uses.ensures c.index-graph-step.is
    c.requires.closed c.in-Some-next_use.at c.in-Some-next_use.ensures.within _ (first_of (cc, search rules, grind (arith, common_steps))) c.in-Some-next_use.ensures.not_done not_open c.in-Some-next_use.ensures.passed

pub returns-in-Open-clause-within : goal.returns-in-Open-clause-within
returns-in-Open-clause-within c =
    used_within _ _ _ _ _ _ _ _ c.loop-step.invariant c.in-Some.ensures.items c.index-graph-step.result c.as_slice-uses.result.now c.as_slice-uses.ensures c.index-graph-step.is
    c.requires.closed c.in-Some-next_use.at c.in-Some-next_use.ensures.within

pub returns-in-Open-clause-circular : goal.returns-in-Open-clause-circular
returns-in-Open-clause-circular c =
    let is_open : mark_at c.loop-step.marks (get_or c.as_slice-uses.result.now c.in-Some-next_use.at 0) ≡ Open = first_of (search rules, grind (arith, common_steps)) in
    turn_circular _ _ _ _ _ _ _ _ c.loop-step.invariant c.in-Some.ensures.items c.index-graph-step.result c.as_slice-uses.result.now c.as_slice-uses.ensures c.index-graph-step.is
    c.requires.closed c.in-Some-next_use.at c.in-Some-next_use.ensures.within is_open
