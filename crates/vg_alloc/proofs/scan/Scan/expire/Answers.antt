-- A value that has ended leaves the active ones, and what is left hasn't ended.
use Rattle.std.proofs.Common.{◌≡◌, ◌<◌, ◌≤◌, ◌-◌, ◌∷◌, ◌++◌, [], ℕ, List, Some, None, take, sym, refl, subst, arith, rules}
use Rattle.std.specs.Prelude.{slice_get, count_by}
use Rattle.std.specs.List.Sorted.{IsNonDecreasingBy}
use Rattle.vg_alloc.specs.Allocation.{is_saved}
use Rattle.vg_alloc.specs.Ends.{end_of}
use Rattle.vg_alloc.specs.Active.{members, IsKept}
use Rattle.vg_alloc.specs.Scan.{IsAmong, Fits}
use Rattle.vg_alloc.specs.Steps.{start_at, IsSound}
use Rattle.vg_alloc.proofs.Registers.{Fits-expired}
use Rattle.vg_alloc.proofs.Best.{IsBest-expired}
use Rattle.vg_alloc.proofs.Taking.{start-later}
use Rattle.vg_alloc.proofs.Sound.{sorted_rest, first_least, none_first, IsSound-later, IsSound-now}
use Rattle.vg_alloc.proofs.scan.Scan.expire.Goals as goal

pub loop-value-init : goal.loop-value-init
loop-value-init c =
    let work = c.args.work.now in
    record {
      sound = IsSound-later work c.args.number (start_at work (c.args.number - 1)) (start_at work c.args.number) c.args.self.now (start-later work c.args.number c.requires.number c.requires.work) c.requires.sound;
      starts = refl;
    }

pub bounds-work-value : goal.bounds-work-value
bounds-work-value c =
    let s = c.loop-value.self in
    let first : slice_get (members s.active) 0 ≡ Some c.in-Some.value = search rules in
    (c.loop-value.invariant.sound.fitting.fits.members c.in-Some.value (0, first)).0

pub returns-then-work-value : goal.returns-then-work-value
returns-then-work-value c =
    let work = c.args.work.now in
    let s = c.loop-value.self in
    let now = start_at work c.args.number in
    let first : slice_get (members s.active) 0 ≡ Some c.in-Some.value = search rules in
    let later : now ≤ end_of work.intervals.now c.in-Some.value = search rules in
    let left : (v : ℕ) → IsAmong (members s.active) v → now ≤ end_of work.intervals.now v = λ v among.
    let least = first_least (end_of work.intervals.now) (members s.active) c.in-Some.value v c.loop-value.invariant.sound.fitting.fits.sorted first among in
    omega arith in
    IsSound-now work c.args.number (start_at work (c.args.number - 1)) now s left c.loop-value.invariant.sound

pub returns : goal.returns
returns c =
    let work = c.args.work.now in
    let s = c.loop-value.self in
    let now = start_at work c.args.number in
    let first : slice_get (members s.active) 0 ≡ None = search rules in
    IsSound-now work c.args.number (start_at work (c.args.number - 1)) now s (λ v among. absurd (none_first (members s.active) v first among)) c.loop-value.invariant.sound

pub loop-value-preserved : goal.loop-value-preserved
loop-value-preserved c =
    let work = c.args.work.now in
    let s = c.loop-value.self in
    let past = start_at work (c.args.number - 1) in
    let now = start_at work c.args.number in
    let v = c.in-Some.value in
    let sound = c.loop-value.invariant.sound in
    let seen = take c.args.number work.arrivals.now in
    let first : slice_get (members s.active) 0 ≡ Some v = search rules in
    let facts = sound.fitting.fits.members v (0, first) in
    let rest = c.remove_first.new.self in
    let is : members s.active ≡ v ∷ members rest = c.remove_first.ensures.members in
    let over : end_of work.intervals.now v < now = search rules in
    let sorted : IsNonDecreasingBy (end_of work.intervals.now) (members rest) = sorted_rest (end_of work.intervals.now) v (members rest) (subst (IsNonDecreasingBy (end_of work.intervals.now)) is sound.fitting.fits.sorted) in
    let freed : c.release.new.self.free.items ≡ s.free.items ++ facts.1.0 ∷ [] = search rules in
    let fits = Fits-expired work.intervals.now work.saved past now seen s.places.items (members s.active) s.free.items s.used sound.fitting.fits v facts.1.0 (members rest) is c.remove_first.ensures.gone sorted facts.1.1 over in
    record {
      sound = subst (IsSound work c.args.number past now) (sym c.release.ensures.rest) (record {
        fitting = record {
          kept = subst (λ (n : ℕ). IsKept n rest) sound.fitting.kept.nodes c.remove_first.ensures.kept;
          fits = subst (λ (free : List ℕ). Fits work.intervals.now work.saved past now seen s.places.items (members rest) free s.used) (sym freed) fits;
        };
        best = IsBest-expired work.intervals.now work.saved now work.arrivals.now seen (count_by is_saved s.places.items) (members s.active) sound.best v (members rest) is over;
      });
      starts = c.loop-value.invariant.starts;
    }
