use Rattle.std.proofs.Common.{◌≡◌, subst}
use Rattle.std.specs.Prelude.{IfOk}
use Rattle.vg_tree.specs.declared.made.Made.{Made}
use Rattle.vg_tree.specs.Frame.{frame_in}
use Rattle.vg_tree.proofs.MadeLemmas.{made_two, made_three, made_more}
use Rattle.vg_tree.proofs.making.+make.Goals as goal

pub returns-in_ok-b-in-len2 : goal.returns-in_ok-b-in-len2
returns-in_ok-b-in-len2 t c =
    subst (λ (m : Made). IfOk c.over_two.result (λ it. it ≡ m))
    (made_two (frame_in c.args.frame.now) c.args.tree.now c.as_slice.result.now c.a-item-then-this-lt3.result c.b-item.result c.in_ok-a-in-len2.a c.in_ok-b-in-len2.b
    c.as_slice.ensures c.in-len2.len_at_least c.in-len2.len_below c.a-item-then-this-lt3.is c.b-item.is c.in_ok-a-in-len2.ensures c.in_ok-b-in-len2.ensures)
    c.over_two.ensures

pub returns-in_ok-b-in-len3 : goal.returns-in_ok-b-in-len3
returns-in_ok-b-in-len3 t c =
    subst (λ (m : Made). IfOk c.over_three.result (λ it. it ≡ m))
    (made_three (frame_in c.args.frame.now) c.args.tree.now c.as_slice.result.now c.c-item.result c.a-item-then-this-lt4.result c.b-item-then-this-lt4.result
    c.in_ok-c-in-len3.c c.in_ok-a-in-len3.a c.in_ok-b-in-len3.b
    c.as_slice.ensures c.in-len3.len_at_least c.in-len3.len_below c.c-item.is c.a-item-then-this-lt4.is c.b-item-then-this-lt4.is c.in_ok-c-in-len3.ensures c.in_ok-a-in-len3.ensures c.in_ok-b-in-len3.ensures)
    c.over_three.ensures

pub returns-in_default : goal.returns-in_default
returns-in_default t c = subst (λ (m : Made). IfOk c.nothing.result (λ it. it ≡ m)) (made_more (frame_in c.args.frame.now) c.args.tree.now c.as_slice.result.now c.as_slice.ensures c.in_default.len_at_least) c.nothing.ensures
