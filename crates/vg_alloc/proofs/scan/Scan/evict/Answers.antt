-- The value that ends last leaves its register.
use Rattle.std.proofs.Common.{◌≡◌, ◌<◌, ◌+◌, ◌-◌, ◌∷◌, ◌++◌, [], ℕ, List, length, take, set, sym, ap, ◌∙◌, subst, arith}
use Rattle.std.specs.Prelude.{count_by}
use Rattle.std.specs.List.Sorted.{IsNonDecreasingBy}
use Rattle.vg_goal.specs.declared.place.Place.{Place}
use Rattle.vg_goal.specs.declared.place.Place.TheVariants.{Slot}
use Rattle.vg_alloc.specs.declared.scan.Scan.{Scan}
use Rattle.vg_alloc.specs.Allocation.{is_saved}
use Rattle.vg_alloc.specs.Ends.{end_of}
use Rattle.vg_alloc.specs.Active.{members, IsKept}
use Rattle.vg_alloc.specs.Steps.{start_at}
use Rattle.vg_alloc.proofs.Registers.{Fits-evicted}
use Rattle.vg_alloc.proofs.Taking.{count-evicted}
use Rattle.vg_alloc.proofs.Sound.{sorted_front}
use Rattle.vg_alloc.proofs.scan.Scan.evict.Goals as goal

pub release-requires-clause-register : goal.release-requires-clause-register
release-requires-clause-register c =
    let s = c.args.self.now in
    (c.requires.fitting.fits.members c.args.last (length (members s.active) - 1, c.requires.last)).1

pub returns-clause-fitting : goal.returns-clause-fitting
returns-clause-fitting c =
    let work = c.args.work.now in
    let number = c.args.number in
    let s = c.args.self.now in
    let t = c.release.new.self in
    let now = start_at work number in
    let f = c.args.last in
    let fits = c.requires.fitting.fits in
    let rest = c.remove_last.new.self in
    let facts = fits.members f (length (members s.active) - 1, c.requires.last) in
    let is : members s.active ≡ members rest ++ f ∷ [] = c.remove_last.ensures.members in
    let sorted : IsNonDecreasingBy (end_of work.intervals.now) (members rest) = sorted_front (end_of work.intervals.now) (members rest) f (subst (IsNonDecreasingBy (end_of work.intervals.now)) is fits.sorted) in
    let freed : t.free.items ≡ s.free.items ++ facts.1.0 ∷ [] = c.in_ok-release.ensures.free facts.1.0 facts.1.1 in
    let then = Fits-evicted work.intervals.now work.saved now (take number work.arrivals.now) s.places.items (members s.active) s.free.items s.used fits f facts.1.0 (members rest) is c.remove_last.ensures.gone sorted facts.1.1 in
    let places : t.places.items ≡ s.places.items = ap (λ (x : Scan). x.places.items) c.release.ensures.rest in
    let active : t.active ≡ rest = ap (λ (x : Scan). x.active) c.release.ensures.rest in
    let used : t.used ≡ s.used = ap (λ (x : Scan). x.used) c.release.ensures.rest in
    record {
      kept = subst (IsKept (length work.intervals.now)) (sym active) (subst (λ (n : ℕ). IsKept n rest) c.requires.fitting.kept.nodes c.remove_last.ensures.kept);
      fits = rw (places, ap members active, freed, used) then;
    }

pub returns-clause-registers : goal.returns-clause-registers
returns-clause-registers c =
    let s = c.args.self.now in
    let t = c.release.new.self in
    let f = c.args.last in
    let fits = c.requires.fitting.fits in
    let facts = fits.members f (length (members s.active) - 1, c.requires.last) in
    let lengths = fits.lengths in
    let a = facts.0 in
    let below : f < length s.places.items = omega arith in
    let places : t.places.items ≡ s.places.items = ap (λ (x : Scan). x.places.items) c.release.ensures.rest in
    ap (λ (xs : List Place). count_by is_saved (set xs f (Slot (f + 2))) + 1) places ∙ count-evicted s.places.items f facts.1.0 (f + 2) below facts.1.1
