-- What is found on the sides of a conditional.
use Rattle.std.proofs.Common.{◌≡◌, ◌≤◌, length, Option, Some, None, sym, ◌∙◌, arith}
use Rattle.std.proofs.Math.Path.{subst}
use Rattle.vg_tree.specs.Access.{writing}
use Rattle.vg_tree.specs.Frame.{frame_in}
use Rattle.vg_access.specs.Given.{writes_in}
use Rattle.vg_access.specs.Follows.{Follows}
use Rattle.vg_access.proofs.Sides.{found_nowhere, found_other_side, other_longer}
use Rattle.vg_access.proofs.Writings.{writing_sides}
use Rattle.vg_access.proofs.second_write.+effect.Goals as goal

pub second_write-returns-in-Some-3 : goal.second_write-returns-in-Some-3
second_write-returns-in-Some-3 t c =
    let cut : c.len-before.result ≡ length c.args.path.now.items = grind arith in
    let aside : c.len-aside.result ≡ length c.args.others.now.items = grind arith in
    let frame = frame_in c.args.frame.now in
    let first = c.get-in-Some.result.now in
    let second = c.get-in-Some-2.result.now in
    let path = c.args.path.now.items in
    let others = c.args.others.now.items in
    let path_after = writes_in c.second_write-in-Some-2.new.path.items in
    let others_after = writes_in c.second_write-in-Some-2.new.others.items in
    subst (λ w. Follows w (writes_in path) (writes_in others) (Some c.in-Some-3.at) path_after others_after)
    (sym (writing_sides frame c.args.effect.now c.in-If.condition_at c.in-If.condition c.in-If.then c.in-Some.otherwise first second c.in-If.otherwise c.in-If.is c.in-Some.is c.get-in-Some.ensures c.get-in-Some-2.ensures))
    (found_other_side (writing frame first) (writing frame second) c.len-before.result c.len-aside.result path others c.second_write-in-Some.new.path.items c.second_write-in-Some.new.others.items c.in_ok-at-in-Some.field-0
    cut aside c.in_ok-at-in-Some.ensures c.in_default.is
    c.move_tail.new.from.items c.move_tail.new.to.items c.in_ok-move_tail-in-Some.ensures.front c.in_ok-move_tail-in-Some.ensures.tail
    c.in_ok-at-in-Some-2.field-0 c.second_write-in-Some-2.new.path.items c.second_write-in-Some-2.new.others.items c.in_ok-at-in-Some-2.ensures
    c.in-Some-3.at path_after others_after c.in-Some-3.is)

pub second_write-put_back-requires-clause-before : goal.second_write-put_back-requires-clause-before
second_write-put_back-requires-clause-before t c =
    let cut : c.len-before.result ≡ length c.args.path.now.items = grind arith in
    let aside : c.len-aside.result ≡ length c.args.others.now.items = grind arith in
    let frame = frame_in c.args.frame.now in
    other_longer (writing frame c.get-in-Some.result.now) (writing frame c.get-in-Some-2.result.now) c.len-before.result c.len-aside.result c.args.path.now.items c.args.others.now.items
    c.second_write-in-Some.new.path.items c.second_write-in-Some.new.others.items c.in_ok-at-in-Some.field-0
    cut aside c.in_ok-at-in-Some.ensures c.in_default.is
    c.move_tail.new.from.items c.move_tail.new.to.items c.in_ok-move_tail-in-Some.ensures.front c.in_ok-move_tail-in-Some.ensures.tail
    c.in_ok-at-in-Some-2.field-0 c.second_write-in-Some-2.new.path.items c.second_write-in-Some-2.new.others.items c.in_ok-at-in-Some-2.ensures c.in_default-2.is

pub second_write-returns-in_ok-put_back-in-Some : goal.second_write-returns-in_ok-put_back-in-Some
second_write-returns-in_ok-put_back-in-Some t c =
    let cut : c.len-before.result ≡ length c.args.path.now.items = grind arith in
    let aside : c.len-aside.result ≡ length c.args.others.now.items = grind arith in
    let frame = frame_in c.args.frame.now in
    let first = c.get-in-Some.result.now in
    let second = c.get-in-Some-2.result.now in
    let path = c.args.path.now.items in
    let others = c.args.others.now.items in
    subst (λ w. Follows w (writes_in path) (writes_in others) None (writes_in c.put_back.new.path.items) (writes_in c.put_back.new.others.items))
    (sym (writing_sides frame c.args.effect.now c.in-If.condition_at c.in-If.condition c.in-If.then c.in-Some.otherwise first second c.in-If.otherwise c.in-If.is c.in-Some.is c.get-in-Some.ensures c.get-in-Some-2.ensures))
    (found_nowhere (writing frame first) (writing frame second) c.len-before.result c.len-aside.result path others c.second_write-in-Some.new.path.items c.second_write-in-Some.new.others.items c.in_ok-at-in-Some.field-0
    cut aside c.in_ok-at-in-Some.ensures c.in_default.is
    c.move_tail.new.from.items c.move_tail.new.to.items c.in_ok-move_tail-in-Some.ensures.front c.in_ok-move_tail-in-Some.ensures.tail
    c.in_ok-at-in-Some-2.field-0 c.second_write-in-Some-2.new.path.items c.second_write-in-Some-2.new.others.items c.in_ok-at-in-Some-2.ensures c.in_default-2.is
    c.put_back.new.path.items c.put_back.new.others.items c.in_ok-put_back-in-Some.ensures.path c.in_ok-put_back-in-Some.ensures.others)
