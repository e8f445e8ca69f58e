use Rattle.std.proofs.Common.{◌≡◌, List, length, get_or, replicate, Some, sym, ap, subst, ◌∙◌, arith}
use Rattle.std.proofs.lemmas.List.{length-set, length-replicate}
use Rattle.vg_ast.specs.declared.item.Item.{Item}
use Rattle.vg_names.proofs.Working.{Worked, worked_start, worked_step, worked_end, order_within, plain_list}
use Rattle.vg_whole.specs.declared.worth.Worth.{Worth}
use Rattle.vg_whole.specs.declared.worth.Worth.TheVariants as worths
use Rattle.vg_whole.specs.Whole.{constant_whole}
use Rattle.vg_whole.specs.Worths.{constants_by, constants_of, AreWorths}
use Rattle.vg_whole.proofs.Constants.{constants_step}
use Rattle.vg_whole.proofs.working.worths.Goals as goal

pub loop-number-init : goal.loop-number-init
loop-number-init c =
    let all = c.args.table.now.items.now in
    let typed : c.in_ok-worths.worths.items ≡ replicate (length c.args.table.now.items.now) worths.Typed = c.in_ok-worths.ensures.items_if_clones_equal (λ y h. h) in
    record {
      within = order_within c.args.description.now all c.args.order.now c.requires.items c.requires.order;
      one_each = ap (λ (l : List Worth). length l) typed ∙ length-replicate (length all) worths.Typed;
      worked = subst (λ (l : List Worth). Worked Worth worths.Typed constant_whole constants_step c.args.table.now.items.now l c.args.order.now) (sym typed)
          (worked_start Worth worths.Typed constant_whole constants_step c.args.description.now all c.args.order.now c.requires.items c.requires.order);
    }

pub loop-number-preserved : goal.loop-number-preserved
loop-number-preserved c =
    let all = c.args.table.now.items.now in
    let read : c.worth_of_item.result ≡ constant_whole (constants_by c.args.table.now.items.now c.deref.result.now) (Some (get_or c.args.table.now.items.now (get_or c.args.order.now c.loop-number.number-index 0) c.index-table-number.result)) =
    c.worth_of_item.ensures in
    let same : c.deref.result.now ≡ c.loop-number.worths.items = c.deref.ensures.value in
    record {
      within = c.loop-number.invariant.within;
      one_each = length-set c.loop-number.worths.items (get_or c.args.order.now c.loop-number.number-index 0) c.worth_of_item.result ∙ c.loop-number.invariant.one_each;
      worked = worked_step Worth worths.Typed constant_whole constants_step c.args.description.now all c.args.order.now c.loop-number.worths.items c.loop-number.number-index c.index-table-number.result c.worth_of_item.result
          c.requires.items c.requires.distinct c.requires.order c.loop-number.invariant.within c.loop-number.invariant.worked c.loop-number-test.true
          (subst (λ (l : List Worth). c.worth_of_item.result ≡ constant_whole (constants_by c.args.table.now.items.now l) (Some (get_or c.args.table.now.items.now (get_or c.args.order.now c.loop-number.number-index 0) c.index-table-number.result))) same read);
    }

pub returns : goal.returns
returns c =
    let made : constants_by c.args.table.now.items.now c.loop-number.worths.items ≡ constants_of c.args.table.now.items.now =
    worked_end Worth worths.Typed constant_whole constants_step c.args.description.now c.args.table.now.items.now c.args.order.now c.loop-number.worths.items c.loop-number.number-index c.requires.items c.requires.distinct c.requires.order c.loop-number.invariant.worked (λ l. omega arith) in
    subst (λ (l : List Worth). AreWorths c.args.description.now.items l) (sym c.from_vec.ensures)
    (subst (λ (all : List Item). AreWorths all c.loop-number.worths.items) c.requires.items made)
