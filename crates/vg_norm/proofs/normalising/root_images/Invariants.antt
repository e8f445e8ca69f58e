use Rattle.std.proofs.Common.{take}
use Rattle.vg_norm.specs.Images.{AreWriteImages, IsVisit}
use Rattle.vg_norm.proofs.normalising.root_images.Given as goal

abbrev pub invariant-loop-write : goal.invariant-loop-write
invariant-loop-write l = record {
  visit : IsVisit l.g l.visit;
  images : AreWriteImages l.g (take l.write-index l.g.roots.writes) l.visit.fresh.graph l.writes.items;
}
