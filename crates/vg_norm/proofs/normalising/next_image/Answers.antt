use Rattle.std.proofs.Common.{Option, Some, sym, subst}
use Rattle.vg_graph.specs.declared.roots.NextRoots.{NextRoots}
use Rattle.vg_norm.specs.Images.{IsNextImage}
use Rattle.vg_norm.proofs.VisitLemmas.{image_extends}
use Rattle.vg_norm.proofs.normalising.next_image.Goals as goal

pub returns-in_ok-value-in-Some-clause-image : goal.returns-in_ok-value-in-Some-clause-image
returns-in_ok-value-in-Some-clause-image c =
    let g = c.args.g.now in
    let h = c.image.new.self.fresh.graph in
    let i = c.image-in-Some.new.self.fresh.graph in
    let first = c.in_ok-guard-in-Some in
    let second = c.in_ok-value-in-Some in
    subst (λ (next : Option NextRoots). IsNextImage g next i (Some (record { guard = first.guard; value = second.value }))) (sym c.in-Some.is)
    (image_extends g h i c.in-Some.roots.guard first.guard first.ensures.visit.growing.graph.trees second.ensures.more.extends first.ensures.image, second.ensures.image)
