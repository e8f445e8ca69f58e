-- The value of the arrival gets a register that no value holds.
use Rattle.std.proofs.Common.{◌≡◌, ◌<◌, ◌+◌, ℕ, List, length, take, set, sym, refl, ap, ◌∙◌, subst, arith, rules}
use Rattle.std.specs.Prelude.{slice_get, count_by}
use Rattle.vg_goal.specs.declared.place.Place.{Place}
use Rattle.vg_goal.specs.declared.place.Place.TheVariants.{Saved}
use Rattle.vg_goal.proofs.Lists.{some_same}
use Rattle.vg_alloc.specs.declared.active.Active.{Active}
use Rattle.vg_alloc.specs.declared.arrival.Arrival.{Arrival}
use Rattle.vg_alloc.specs.declared.scan.Scan.{Scan}
use Rattle.vg_alloc.specs.Allocation.{is_saved}
use Rattle.vg_alloc.specs.Ends.{end_of}
use Rattle.vg_alloc.specs.Active.{members, IsKept, InsertsAt}
use Rattle.vg_alloc.specs.Scan.{Fits}
use Rattle.vg_alloc.specs.Steps.{start_at}
use Rattle.vg_alloc.proofs.Registers.{Fits-kept}
use Rattle.vg_alloc.proofs.Taking.{arrival, arrival-at, arrival-facts, seen-more, unplaced, absent, IsTaken-from_Takes, count-kept}
use Rattle.vg_alloc.proofs.scan.Scan.keep.Goals as goal

-- what taking a register leaves
same_places : (s t : Scan) → t ≡ record s { free = t.free; used = t.used } → t.places.items ≡ s.places.items
same_places s t is = ap (λ (x : Scan). x.places.items) is

same_active : (s t : Scan) → t ≡ record s { free = t.free; used = t.used } → t.active ≡ s.active
same_active s t is = ap (λ (x : Scan). x.active) is

pub index_mut-requires : goal.index_mut-requires
index_mut-requires c =
    let work = c.args.work.now in
    let s = c.args.self.now in
    let t = c.take_register-register.new.self in
    let facts = arrival-facts work c.args.number c.requires.number c.requires.work in
    let lengths = c.requires.fitting.fits.lengths in
    let same = ap (λ (xs : List Place). length xs) (same_places s t c.take_register-register.ensures.rest) in
    let below : (arrival work c.args.number c.requires.number c.requires.work).value < length t.places.items = let a = facts.0 in omega arith in
    search rules

pub insert-requires-clause-value : goal.insert-requires-clause-value
insert-requires-clause-value c =
    let work = c.args.work.now in
    let s = c.args.self.now in
    let t = c.take_register-register.new.self in
    let facts = arrival-facts work c.args.number c.requires.number c.requires.work in
    let nodes : t.active.lists.nodes ≡ length work.intervals.now = ap (λ (a : Active). a.lists.nodes) (same_active s t c.take_register-register.ensures.rest) ∙ c.requires.fitting.kept.nodes in
    let a = facts.0 in
    omega arith

pub insert-requires-clause-absent : goal.insert-requires-clause-absent
insert-requires-clause-absent c =
    let work = c.args.work.now in
    let s = c.args.self.now in
    let t = c.take_register-register.new.self in
    let now = start_at work c.args.number in
    λ k at. absent work c.args.number c.requires.number c.requires.work now now s.places.items (members s.active) s.free.items s.used c.requires.fitting.fits (k, ap (λ (a : Active). slice_get (members a) k) (sym (same_active s t c.take_register-register.ensures.rest)) ∙ at)

pub insert-requires-clause-within : goal.insert-requires-clause-within
insert-requires-clause-within c =
    let s = c.args.self.now in
    let t = c.take_register-register.new.self in
    λ k value at. (c.requires.fitting.fits.members value (k, ap (λ (a : Active). slice_get (members a) k) (sym (same_active s t c.take_register-register.ensures.rest)) ∙ at)).0

inserted : (c : goal.After-insert) → InsertsAt (end_of c.args.work.now.intervals.now) (arrival c.args.work.now c.args.number c.requires.number c.requires.work).value (members c.args.self.now.active) (members c.insert.new.self)
inserted c =
    let work = c.args.work.now in
    let s = c.args.self.now in
    let t = c.take_register-register.new.self in
    subst (λ (a : Active). InsertsAt (end_of work.intervals.now) (arrival work c.args.number c.requires.number c.requires.work).value (members a) (members c.insert.new.self)) (same_active s t c.take_register-register.ensures.rest) c.insert.ensures.place

pub returns-clause-fitting : goal.returns-clause-fitting
returns-clause-fitting c =
    let work = c.args.work.now in
    let number = c.args.number in
    let s = c.args.self.now in
    let t = c.take_register-register.new.self in
    let now = start_at work number in
    let x = arrival work number c.requires.number c.requires.work in
    let facts = arrival-facts work number c.requires.number c.requires.work in
    let r = c.take_register-register.result in
    let fits = c.requires.fitting.fits in
    let taken = IsTaken-from_Takes work.intervals.now work.saved now (take number work.arrivals.now) s.places.items (members s.active) s.free.items s.used fits c.requires.room t.free.items t.used r c.take_register-register.ensures.taken in
    let slot = unplaced work number c.requires.number c.requires.work now now s.places.items (members s.active) s.free.items s.used fits in
    let then = Fits-kept work.intervals.now work.saved now (take number work.arrivals.now) s.places.items (members s.active) s.free.items s.used fits x facts.0 facts.1 refl facts.2 slot r t.free.items t.used taken.more taken.few taken.register taken.left taken.part taken.once taken.room (members c.insert.new.self) (inserted c) in
    let nodes : t.active.lists.nodes ≡ length work.intervals.now = ap (λ (a : Active). a.lists.nodes) (same_active s t c.take_register-register.ensures.rest) ∙ c.requires.fitting.kept.nodes in
    record {
      kept = subst (λ (n : ℕ). IsKept n c.insert.new.self) nodes c.insert.ensures.kept;
      fits =
          subst (λ (places : List Place). Fits work.intervals.now work.saved now now (take (number + 1) work.arrivals.now) (set places x.value (Saved r)) (members c.insert.new.self) t.free.items t.used) (sym (same_places s t c.take_register-register.ensures.rest)) (
          subst (λ (seen : List Arrival). Fits work.intervals.now work.saved now now seen (set s.places.items x.value (Saved r)) (members c.insert.new.self) t.free.items t.used) (sym (seen-more work number c.requires.number c.requires.work)) then
          );
    }

pub returns-clause-registers : goal.returns-clause-registers
returns-clause-registers c =
    let work = c.args.work.now in
    let number = c.args.number in
    let s = c.args.self.now in
    let t = c.take_register-register.new.self in
    let now = start_at work number in
    let x = arrival work number c.requires.number c.requires.work in
    let fits = c.requires.fitting.fits in
    let slot = unplaced work number c.requires.number c.requires.work now now s.places.items (members s.active) s.free.items s.used fits in
    let lengths = fits.lengths in
    let a = (arrival-facts work number c.requires.number c.requires.work).0 in
    let below : x.value < length s.places.items = omega arith in
    ap (λ (places : List Place). count_by is_saved (set places x.value (Saved c.take_register-register.result))) (same_places s t c.take_register-register.ensures.rest)
    ∙ count-kept s.places.items x.value c.take_register-register.result (x.value + 2) below slot

pub returns-clause-active : goal.returns-clause-active
returns-clause-active c =
    let work = c.args.work.now in
    λ other at.
    let same : arrival work c.args.number c.requires.number c.requires.work ≡ other = some_same (arrival work c.args.number c.requires.number c.requires.work) other (sym (arrival-at work c.args.number c.requires.number c.requires.work) ∙ at) in
    subst (λ (a : Arrival). InsertsAt (end_of work.intervals.now) a.value (members c.args.self.now.active) (members c.insert.new.self)) same (inserted c)
