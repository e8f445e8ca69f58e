use Rattle.std.proofs.Common.{◌≡◌, List, length, get_or, replicate, Some, sym, ap, subst, ◌∙◌, arith}
use Rattle.std.proofs.lemmas.List.{length-set, length-replicate}
use Rattle.vg_ast.specs.declared.item.Item.{Item}
use Rattle.vg_names.proofs.Working.{Worked, worked_start, worked_step, worked_end, order_within}
use Rattle.vg_whole.specs.Worths.{constants_by}
use Rattle.vg_inline.specs.declared.declared.Declared.{Declared}
use Rattle.vg_inline.specs.declared.declared.Declared.TheVariants as type
use Rattle.vg_inline.specs.Types.{alias_step, aliases_of}
use Rattle.vg_inline.specs.Context.{aliases_by}
use Rattle.vg_inline.proofs.Steps.{alias_is_step}
use Rattle.vg_inline.proofs.aliases.work_out_aliases.Goals as goal

pub loop-number-init : goal.loop-number-init
loop-number-init c =
    let all = c.args.table.now.items.now in
    let constants = constants_by c.args.table.now.items.now c.args.worths.now in
    let plain : c.in_ok-aliases.aliases.items ≡ replicate (length c.args.table.now.items.now) type.Bool = c.in_ok-aliases.ensures.items_if_clones_equal (λ y h. h) in
    record {
      within = order_within c.args.description.now all c.args.order.now c.requires.items c.requires.order;
      one_each = ap (λ (l : List Declared). length l) plain ∙ length-replicate (length all) type.Bool;
      worked = subst (λ (l : List Declared). Worked Declared type.Bool (alias_step constants) (alias_is_step constants) c.args.table.now.items.now l c.args.order.now) (sym plain)
          (worked_start Declared type.Bool (alias_step constants) (alias_is_step constants) c.args.description.now all c.args.order.now c.requires.items c.requires.order);
    }

pub loop-number-preserved : goal.loop-number-preserved
loop-number-preserved c =
    let all = c.args.table.now.items.now in
    let constants = constants_by c.args.table.now.items.now c.args.worths.now in
    let read : c.alias_of_item.result ≡ alias_step constants (aliases_by c.args.table.now.items.now c.deref.result.now) (Some (get_or c.args.table.now.items.now (get_or c.args.order.now c.loop-number.number-index 0) c.index-table-number.result)) =
    c.alias_of_item.ensures in
    let same : c.deref.result.now ≡ c.loop-number.aliases.items = c.deref.ensures.value in
    record {
      within = c.loop-number.invariant.within;
      one_each = length-set c.loop-number.aliases.items (get_or c.args.order.now c.loop-number.number-index 0) c.alias_of_item.result ∙ c.loop-number.invariant.one_each;
      worked = worked_step Declared type.Bool (alias_step constants) (alias_is_step constants) c.args.description.now all c.args.order.now c.loop-number.aliases.items c.loop-number.number-index c.index-table-number.result c.alias_of_item.result
          c.requires.items c.requires.distinct c.requires.order c.loop-number.invariant.within c.loop-number.invariant.worked c.loop-number-test.true
          (subst (λ (l : List Declared). c.alias_of_item.result ≡ alias_step constants (aliases_by c.args.table.now.items.now l) (Some (get_or c.args.table.now.items.now (get_or c.args.order.now c.loop-number.number-index 0) c.index-table-number.result))) same read);
    }

pub returns : goal.returns
returns c =
    let constants = constants_by c.args.table.now.items.now c.args.worths.now in
    let made : aliases_by c.args.table.now.items.now c.loop-number.aliases.items ≡ aliases_of c.args.table.now.items.now constants =
    worked_end Declared type.Bool (alias_step constants) (alias_is_step constants) c.args.description.now c.args.table.now.items.now c.args.order.now c.loop-number.aliases.items c.loop-number.number-index c.requires.items c.requires.distinct c.requires.order c.loop-number.invariant.worked (λ l. omega arith) in
    subst (λ (l : List Declared). aliases_by c.args.description.now.items l ≡ aliases_of c.args.description.now.items (constants_by c.args.description.now.items c.args.worths.now)) (sym c.from_vec.ensures)
    (subst (λ (all : List Item). aliases_by all c.loop-number.aliases.items ≡ aliases_of all (constants_by all c.args.worths.now)) c.requires.items made)
