use Rattle.vg_norm.proofs.RootLemmas.{at_extends}
use Rattle.vg_norm.proofs.VisitLemmas.{image_extends, more_trans}
use Rattle.vg_norm.proofs.normalising.write_image.Goals as goal

pub returns-clause-more : goal.returns-clause-more
returns-clause-more c =
    let later = more_trans c.image.new.self c.image_at.new.visit c.image-2.new.self c.in_ok-at.ensures.more c.in_ok-value.ensures.more in
    more_trans c.args.visit.now c.image.new.self c.image-2.new.self c.in_ok-guard.ensures.more later

pub returns-clause-image : goal.returns-clause-image
returns-clause-image c =
    let g = c.args.g.now in
    let w = c.args.write in
    let h1 = c.image.new.self.fresh.graph in
    let h2 = c.image_at.new.visit.fresh.graph in
    let h3 = c.image-2.new.self.fresh.graph in
    let later = more_trans c.image.new.self c.image_at.new.visit c.image-2.new.self c.in_ok-at.ensures.more c.in_ok-value.ensures.more in
    record {
      guard = image_extends g h1 h3 w.guard c.in_ok-guard.guard c.in_ok-guard.ensures.visit.growing.graph.trees later.extends c.in_ok-guard.ensures.image;
      at = at_extends g h2 h3 w.at c.in_ok-at.at c.in_ok-at.ensures.visit.growing.graph.trees c.in_ok-value.ensures.more.extends c.in_ok-at.ensures.image;
      value = c.in_ok-value.ensures.image;
    }
