use Rattle.std.proofs.Common.{◌≡◌, ◌+◌, List, [], ◌∷◌, ◌++◌, take, get_or, Some, None, sym, ap, ◌∙◌, subst}
use Rattle.std.specs.Prelude.{slice_get}
use Rattle.std.proofs.lemmas.List.{take_all, take_more}
use Rattle.std.proofs.lemmas.Option.{slice_get-get_or}
use Rattle.vg_graph.specs.declared.roots.Roots.{Roots}
use Rattle.vg_graph.specs.declared.roots.WriteRoots.{WriteRoots}
use Rattle.vg_norm.specs.Images.{AreWriteImages, IsNextImage, IsNextWithin}
use Rattle.vg_norm.proofs.RootLemmas.{next_within, part_images, write_within, writes_extend, writes_more}
use Rattle.vg_norm.proofs.normalising.root_images.Goals as goal

pub write_image-requires-clause-within : goal.write_image-requires-clause-within
write_image-requires-clause-within c =
    let g = c.args.g.now in
    let i = c.loop-write.write-index in
    let xs = c.as_slice-write-items.result.now in
    let none : WriteRoots = record { guard = 0; at = None; value = 0 } in
    let writes : xs ≡ g.roots.writes = c.as_slice-write-items.ensures ∙ ap (λ (r : Roots). r.writes) c.roots-roots.ensures.roots in
    let at : slice_get g.roots.writes i ≡ Some (get_or xs i none) = ap (λ (ys : List WriteRoots). slice_get ys i) (sym writes) ∙ slice_get-get_or xs i none c.loop-write-test.true in
    write_within g c.roots-roots.ensures.graph i (get_or xs i none) at

pub loop-write-preserved : goal.loop-write-preserved
loop-write-preserved c =
    let g = c.args.g.now in
    let i = c.loop-write.write-index in
    let xs = c.as_slice-write-items.result.now in
    let none : WriteRoots = record { guard = 0; at = None; value = 0 } in
    let item : WriteRoots = get_or xs i none in
    let h1 = c.loop-write.visit.fresh.graph in
    let h2 = c.write_image.new.visit.fresh.graph in
    let done = c.loop-write.writes.items in
    let writes : xs ≡ g.roots.writes = c.as_slice-write-items.ensures ∙ ap (λ (r : Roots). r.writes) c.roots-roots.ensures.roots in
    let step : take (i + 1) xs ≡ take i xs ++ get_or xs i none ∷ [] = take_more xs i none c.loop-write-test.true in
    let before : AreWriteImages g (take i xs) h1 done = subst (λ (ys : List WriteRoots). AreWriteImages g (take i ys) h1 done) (sym writes) c.loop-write.invariant.images in
    let now : AreWriteImages g (take i xs ++ get_or xs i none ∷ []) h2 (done ++ c.in_ok-image.image ∷ []) =
    writes_more g h2 (take i xs) done (get_or xs i none) c.in_ok-image.image
    (writes_extend g h1 h2 (take i xs) done c.loop-write.invariant.visit.growing.graph.trees c.in_ok-image.ensures.more.extends before) c.in_ok-image.ensures.image in
    record {
      visit = c.in_ok-image.ensures.visit;
      images =
          subst (λ (ys : List WriteRoots). AreWriteImages g (take (i + 1) ys) h2 c.push.new.self.items) writes
          (subst (λ (ys : List WriteRoots). AreWriteImages g ys h2 c.push.new.self.items) (sym step)
          (subst (λ (zs : List WriteRoots). AreWriteImages g (take i xs ++ get_or xs i none ∷ []) h2 zs) (sym c.in_ok-push.ensures.items) now));
    }

pub next_image-requires-clause-within : goal.next_image-requires-clause-within
next_image-requires-clause-within c =
    subst (λ (r : Roots). IsNextWithin c.args.g.now r.next) (sym c.roots-roots.ensures.roots) (next_within c.args.g.now c.roots-roots.ensures.graph)

pub returns-clause-images : goal.returns-clause-images
returns-clause-images c =
    let g = c.args.g.now in
    let i = c.loop-write.write-index in
    let xs = c.as_slice-write-items.result.now in
    let h1 = c.loop-write.visit.fresh.graph in
    let h2 = c.next_image.new.visit.fresh.graph in
    let done = c.loop-write.writes.items in
    let writes : xs ≡ g.roots.writes = c.as_slice-write-items.ensures ∙ ap (λ (r : Roots). r.writes) c.roots-roots.ensures.roots in
    let all : take i xs ≡ xs = take_all i xs c.loop-write-test.false in
    let whole : take i g.roots.writes ≡ g.roots.writes = subst (λ (ys : List WriteRoots). take i ys ≡ ys) writes all in
    let before : AreWriteImages g g.roots.writes h1 done = subst (λ (ys : List WriteRoots). AreWriteImages g ys h1 done) whole c.loop-write.invariant.images in
    let now : AreWriteImages g g.roots.writes h2 done = writes_extend g h1 h2 g.roots.writes done c.loop-write.invariant.visit.growing.graph.trees c.in_ok-next.ensures.more.extends before in
    part_images g h2 g.roots (record { writes = c.from_vec.result; next = c.in_ok-next.next })
    (subst (λ (zs : List WriteRoots). AreWriteImages g g.roots.writes h2 zs) (sym c.from_vec.ensures) now)
    (subst (λ (r : Roots). IsNextImage g r.next h2 c.in_ok-next.next) c.roots-roots.ensures.roots c.in_ok-next.ensures.image)
