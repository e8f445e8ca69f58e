use Rattle.std.proofs.Common.{◌≡◌, List, Option, length, get_or, replicate, Some, sym, ap, subst, ◌∙◌, arith, rules}
use Rattle.std.proofs.lemmas.List.{length-set, length-replicate}
use Rattle.vg_ast.specs.declared.item.Item.{Item}
use Rattle.vg_names.proofs.Working.{Worked, worked_start, worked_step, worked_end, order_within}
use Rattle.vg_whole.specs.Worths.{constants_by}
use Rattle.vg_inline.specs.declared.kept.Kept.{Kept}
use Rattle.vg_inline.specs.Context.{aliases_by, bodies_as}
use Rattle.vg_inline.specs.Inline.{bodies_of, body_step}
use Rattle.vg_inline.specs.Kept.{keeping_as, kept_missing}
use Rattle.vg_inline.proofs.Steps.{body_is_step}
use Rattle.vg_inline.proofs.bodies.bodies_kept.Goals as goal

pub loop-number-init : goal.loop-number-init
loop-number-init c =
    let all = c.args.table.now.items.now in
    let constants = constants_by c.args.table.now.items.now c.args.worths.now in
    let aliases = aliases_by c.args.table.now.items.now c.args.aliases.now in
    let plain : c.in_ok-bodies.bodies ≡ replicate (length c.args.table.now.items.now) (kept_missing c.args.keep) = c.in_ok-bodies.ensures in
    record {
      within = order_within c.args.description.now all c.args.order.now c.requires.items c.requires.order;
      one_each = ap (λ (l : List (Option Kept)). length l) plain ∙ length-replicate (length all) (kept_missing c.args.keep);
      worked = subst (λ (l : List (Option Kept)). Worked (Option Kept) (kept_missing c.args.keep) (body_step (keeping_as c.args.keep) all constants aliases) (body_is_step (Option Kept) (keeping_as c.args.keep) all constants aliases) c.args.table.now.items.now l c.args.order.now) (sym plain)
          (worked_start (Option Kept) (kept_missing c.args.keep) (body_step (keeping_as c.args.keep) all constants aliases) (body_is_step (Option Kept) (keeping_as c.args.keep) all constants aliases) c.args.description.now all c.args.order.now c.requires.items c.requires.order);
    }

pub loop-number-preserved : goal.loop-number-preserved
loop-number-preserved c =
    let all = c.args.table.now.items.now in
    let constants = constants_by c.args.table.now.items.now c.args.worths.now in
    let aliases = aliases_by c.args.table.now.items.now c.args.aliases.now in
    let read : c.in_ok-body.body ≡ body_step (keeping_as c.args.keep) all constants aliases (bodies_as c.args.keep c.args.table.now.items.now c.as_slice.result.now) (Some (get_or c.args.table.now.items.now (get_or c.args.order.now c.loop-number.number-index 0) c.index-table-number.result)) =
    c.in_ok-body.ensures in
    let same : c.as_slice.result.now ≡ c.loop-number.bodies = search rules in
    rw c.set.ensures (record {
      within = c.loop-number.invariant.within;
      one_each = length-set c.loop-number.bodies (get_or c.args.order.now c.loop-number.number-index 0) c.in_ok-body.body ∙ c.loop-number.invariant.one_each;
      worked = worked_step (Option Kept) (kept_missing c.args.keep) (body_step (keeping_as c.args.keep) all constants aliases) (body_is_step (Option Kept) (keeping_as c.args.keep) all constants aliases) c.args.description.now all c.args.order.now c.loop-number.bodies c.loop-number.number-index c.index-table-number.result c.in_ok-body.body
          c.requires.items c.requires.distinct c.requires.order c.loop-number.invariant.within c.loop-number.invariant.worked c.loop-number-test.true
          (subst (λ (l : List (Option Kept)). c.in_ok-body.body ≡ body_step (keeping_as c.args.keep) all constants aliases (bodies_as c.args.keep c.args.table.now.items.now l) (Some (get_or c.args.table.now.items.now (get_or c.args.order.now c.loop-number.number-index 0) c.index-table-number.result))) same read);
    })

pub returns : goal.returns
returns c =
    let all = c.args.table.now.items.now in
    let constants = constants_by c.args.table.now.items.now c.args.worths.now in
    let aliases = aliases_by c.args.table.now.items.now c.args.aliases.now in
    let made : bodies_as c.args.keep c.args.table.now.items.now c.loop-number.bodies ≡ bodies_of (keeping_as c.args.keep) c.args.table.now.items.now constants aliases =
    worked_end (Option Kept) (kept_missing c.args.keep) (body_step (keeping_as c.args.keep) all constants aliases) (body_is_step (Option Kept) (keeping_as c.args.keep) all constants aliases) c.args.description.now c.args.table.now.items.now c.args.order.now c.loop-number.bodies c.loop-number.number-index c.requires.items c.requires.distinct c.requires.order c.loop-number.invariant.worked (λ l. omega arith) in
    subst (λ (all : List Item). bodies_as c.args.keep all c.loop-number.bodies ≡ bodies_of (keeping_as c.args.keep) all (constants_by all c.args.worths.now) (aliases_by all c.args.aliases.now)) c.requires.items made
