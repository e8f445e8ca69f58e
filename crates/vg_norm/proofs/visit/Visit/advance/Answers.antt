use Rattle.std.proofs.Common.{ℕ, ◌<◌, List, Option, Some, length, refl, sym, ap, ◌∙◌, subst}
use Rattle.std.specs.Vec.{with_item}
use Rattle.vg_graph.specs.Node.{AllBelow, args_of}
use Rattle.vg_graph.proofs.Gets.{gets-set_same}
use Rattle.vg_norm.specs.declared.visit.Visit.{Visit}
use Rattle.vg_norm.specs.Images.{IsOverImages}
use Rattle.vg_norm.proofs.VisitLemmas.{more_advanced, node_fits, operands_below, visit_advanced}
use Rattle.vg_norm.proofs.visit.Visit.advance.Goals as goal

pub next_step-requires : goal.next_step-requires
next_step-requires c =
    subst (λ (count : ℕ). AllBelow count (args_of c.node.result.now)) (sym (ap length c.as_slice.ensures.value ∙ c.requires.visit.images))
    (operands_below c.args.g.now c.args.n c.node.result.now c.requires.graph c.node.ensures)

pub add-requires-clause-fit : goal.add-requires-clause-fit
add-requires-clause-fit c =
    let v = c.args.self.now in
    let over : IsOverImages v.images.items c.node.result.now c.in-Ready.node = subst (λ (images : List (Option ℕ)). IsOverImages images c.node.result.now c.in-Ready.node) c.as_slice.ensures.value c.in-Ready.ensures in
    node_fits c.args.g.now v c.args.n c.node.result.now c.in-Ready.node c.requires.graph c.requires.visit c.node.ensures over

pub returns-in_ok-j-in-Ready-clause-visit : goal.returns-in_ok-j-in-Ready-clause-visit
returns-in_ok-j-in-Ready-clause-visit c =
    let v = c.args.self.now in
    let n = c.args.n in
    let j = c.in_ok-j-in-Ready.j in
    let w : Visit = record { fresh = c.add.new.self; images = with_item v.images n (Some j); opened = v.opened } in
    let over : IsOverImages v.images.items c.node.result.now c.in-Ready.node = subst (λ (images : List (Option ℕ)). IsOverImages images c.node.result.now c.in-Ready.node) c.as_slice.ensures.value c.in-Ready.ensures in
    visit_advanced c.args.g.now v w n j c.node.result.now c.in-Ready.node c.requires.graph c.requires.visit c.node.ensures over
    c.in_ok-j-in-Ready.ensures.growing c.in_ok-j-in-Ready.ensures.extends c.in_ok-j-in-Ready.ensures.stands refl refl

pub returns-in_ok-j-in-Ready-clause-more : goal.returns-in_ok-j-in-Ready-clause-more
returns-in_ok-j-in-Ready-clause-more c =
    let v = c.args.self.now in
    let n = c.args.n in
    let j = c.in_ok-j-in-Ready.j in
    let w : Visit = record { fresh = c.add.new.self; images = with_item v.images n (Some j); opened = v.opened } in
    let inside : n < length v.images.items = subst (λ (count : ℕ). n < count) (sym c.requires.visit.images) c.requires.within in
    more_advanced v w n j inside c.in_ok-j-in-Ready.ensures.extends refl

pub returns-in_ok-j-in-Ready-clause-advanced : goal.returns-in_ok-j-in-Ready-clause-advanced
returns-in_ok-j-in-Ready-clause-advanced c =
    let v = c.args.self.now in
    let inside : c.args.n < length v.images.items = subst (λ (count : ℕ). c.args.n < count) (sym c.requires.visit.images) c.requires.within in
    (c.in_ok-j-in-Ready.j, gets-set_same v.images.items c.args.n (Some c.in_ok-j-in-Ready.j) inside)
