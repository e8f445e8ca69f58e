use Rattle.std.proofs.Common.{◌≡◌, sym, ap, ◌∙◌, subst}
use Rattle.vg_graph.specs.Graph.{GraphValue, root_of}
use Rattle.vg_norm.specs.Normal.{HasSameTrees, IsNormal}
use Rattle.vg_norm.proofs.RootLemmas.{image_alike, keeps_values, normal_rooted, one_root}
use Rattle.vg_norm.proofs.normalising.normalised.Goals as goal

pub returns-clause-normal : goal.returns-clause-normal
returns-clause-normal c =
    subst (λ (h : GraphValue). IsNormal h) (sym c.set_roots.ensures)
    (normal_rooted c.root_images.new.visit.fresh.graph c.in_ok-roots.roots c.in_ok-roots.ensures.visit.growing.normal)

pub returns-clause-same : goal.returns-clause-same
returns-clause-same c =
    let g = c.args.g.now in
    let h = c.root_images.new.visit.fresh.graph in
    let roots = c.in_ok-roots.roots in
    subst (λ (new : GraphValue). HasSameTrees g new) (sym c.set_roots.ensures)
    (λ r. image_alike g h roots (root_of g.roots r) (root_of roots r) (c.in_ok-roots.ensures.images r))

pub returns-clause-values : goal.returns-clause-values
returns-clause-values c =
    let g = c.args.g.now in
    let h = c.root_images.new.visit.fresh.graph in
    let roots = c.in_ok-roots.roots in
    let isa : c.set_roots.new.self.isa ≡ g.isa = ap (λ (new : GraphValue). new.isa) c.set_roots.ensures ∙ c.in_ok-roots.ensures.visit.isa in
    let same_trees : HasSameTrees g c.set_roots.new.self =
    subst (λ (new : GraphValue). HasSameTrees g new) (sym c.set_roots.ensures)
    (λ r. image_alike g h roots (root_of g.roots r) (root_of roots r) (c.in_ok-roots.ensures.images r)) in
    keeps_values g c.set_roots.new.self c.told.ensures.accepted c.told.ensures.graph isa same_trees

pub returns-clause-exact : goal.returns-clause-exact
returns-clause-exact c =
    let g = c.args.g.now in
    let h = c.root_images.new.visit.fresh.graph in
    let roots = c.in_ok-roots.roots in
    let isa : c.set_roots.new.self.isa ≡ g.isa = ap (λ (new : GraphValue). new.isa) c.set_roots.ensures ∙ c.in_ok-roots.ensures.visit.isa in
    let same_trees : HasSameTrees g c.set_roots.new.self =
    subst (λ (new : GraphValue). HasSameTrees g new) (sym c.set_roots.ensures)
    (λ r. image_alike g h roots (root_of g.roots r) (root_of roots r) (c.in_ok-roots.ensures.images r)) in
    let normal : IsNormal c.set_roots.new.self = subst (λ (new : GraphValue). IsNormal new) (sym c.set_roots.ensures) (normal_rooted h roots c.in_ok-roots.ensures.visit.growing.normal) in
    one_root g c.set_roots.new.self c.told.ensures.accepted c.told-2.ensures.graph normal isa same_trees
