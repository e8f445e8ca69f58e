use Rattle.std.proofs.Common.{◌≡◌, ◌<◌, ◌++◌, [], ◌∷◌, true, false, length, get_or, is_some, rules, arith}
use Rattle.std.proofs.lemmas.Grind.{common_steps}
use Rattle.vg_names.proofs.OrderLemmas.{kept_more, kept_same, replaced_read}
use Rattle.vg_names.proofs.ordering.replaced_items.Goals as goal
use Rattle.vg_names.proofs.ordering.replaced_items.Goals.{then-is_some+in_ok-push, else-is_some}

pub loop-number-preserved : goal.loop-number-preserved
loop-number-preserved c =
    let i = c.loop-number.number-index in
    let all = c.args.items.now in
    let order = c.args.order.now in
    let lt : c.loop-number.number-index < length c.args.order.now = c.loop-number-test.true in
    let within : get_or c.args.order.now c.loop-number.number-index 0 < length c.args.items.now = c.requires c.loop-number.number-index 0 lt in
    elim c.if-is_some.branch [
      | then-is_some+in_ok-push w ↦
          (let shown : is_some c.replaced_name.result ≡ true = first_of (search rules, grind (arith, common_steps)) in
          let more : c.if-is_some.replaced ≡ c.loop-number.replaced ++ get_or c.args.order.now c.loop-number.number-index 0 ∷ [] = first_of (cc (w.replaced-is, w.in_ok-push.ensures.ok), search rules) in
          kept_more all order c.loop-number.replaced c.if-is_some.replaced i lt c.loop-number.invariant
          (replaced_read all (get_or c.args.order.now c.loop-number.number-index 0) c.index-items-number.result c.replaced_name.result true within c.index-items-number.is c.replaced_name.ensures shown) more)
      | else-is_some w ↦
          (let hidden : is_some c.replaced_name.result ≡ false = first_of (search rules, grind (arith, common_steps)) in
          kept_same all order c.loop-number.replaced c.if-is_some.replaced i lt c.loop-number.invariant
          (replaced_read all (get_or c.args.order.now c.loop-number.number-index 0) c.index-items-number.result c.replaced_name.result false within c.index-items-number.is c.replaced_name.ensures hidden) w.replaced-is)
    ]
