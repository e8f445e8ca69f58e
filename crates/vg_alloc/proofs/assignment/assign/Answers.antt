-- The scan goes over all arrivals.
use Rattle.std.proofs.Common.{◌≡◌, ◌≤◌, ◌+◌, ◌-◌, ℕ, List, [], length, take, sym, ap, subst, arith, rules}
use Rattle.std.specs.List.{All}
use Rattle.std.specs.List.Sorted.{IsPermutation, IsNonDecreasingBy}
use Rattle.std.specs.Prelude.{count_by}
use Rattle.std.proofs.lemmas.List.{take_all}
use Rattle.vg_goal.specs.Intervals.{Interval}
use Rattle.vg_goal.specs.Slots.{slots}
use Rattle.vg_alloc.specs.declared.arrival.Arrival.{Arrival}
use Rattle.vg_alloc.specs.declared.work.Work.{Work}
use Rattle.vg_alloc.specs.Allocation.{is_saved, IsAllocation}
use Rattle.vg_alloc.specs.Active.{members, IsKept}
use Rattle.vg_alloc.specs.Arrivals.{arrivals_from}
use Rattle.vg_alloc.specs.Scan.{Fits, IsBest}
use Rattle.vg_alloc.specs.Steps.{start_at, IsSound}
use Rattle.vg_alloc.proofs.Start.{AreArrivals-sorted, Fits-start, IsBest-start}
use Rattle.vg_alloc.proofs.Whole.{IsAllocation-whole}
use Rattle.vg_alloc.proofs.assignment.assign.Goals as goal

pub loop-number-init : goal.loop-number-init
loop-number-init c =
    let work : Work = record { intervals = c.as_slice-pairs.result; arrivals = c.as_slice.result; saved = c.args.saved } in
    let pairs : work.intervals.now ≡ c.args.intervals.now.pairs.items = c.as_slice-pairs.ensures.value in
    let all : work.arrivals.now ≡ c.in_ok-arrivals.arrivals.items = c.as_slice.ensures.value in
    let permutation : IsPermutation (arrivals_from work.intervals.now) work.arrivals.now = subst (IsPermutation (arrivals_from work.intervals.now)) (sym all) c.in_ok-arrivals.ensures.values in
    let sorted : IsNonDecreasingBy (λ (a : Arrival). a.first) work.arrivals.now = subst (IsNonDecreasingBy (λ (a : Arrival). a.first)) (sym all) c.in_ok-arrivals.ensures.sorted in
    let order : All (λ (interval : Interval). interval.0 ≤ interval.1) work.intervals.now = subst (All (λ (interval : Interval). interval.0 ≤ interval.1)) (sym pairs) c.requires.order in
    let count : length work.intervals.now ≡ length c.args.intervals.now.pairs.items = ap (λ (xs : List Interval). length xs) pairs in
    let small = c.requires.count in
    let scan = c.in_ok-scan.scan in
    let now = start_at work 0 in
    let values : c.in_ok-scan.scan.places.items ≡ slots (length work.intervals.now) = search rules in
    let kept : IsKept (length work.intervals.now) scan.active = search rules in
    let active : members scan.active ≡ [] = c.in_ok-scan.ensures.active in
    let free : scan.free.items ≡ [] = c.in_ok-scan.ensures.free in
    let used : scan.used ≡ 0 = c.in_ok-scan.ensures.used in
    record {
      arranged = record {
        arrivals = AreArrivals-sorted work.intervals.now work.arrivals.now permutation order sorted;
        small = omega arith;
        registers = search rules;
      };
      sound = record {
        fitting = record { kept = kept; fits = rw (values, active, free, used) (Fits-start work.intervals.now work.saved now) };
        best = rw active (IsBest-start work.intervals.now work.saved now work.arrivals.now (count_by is_saved scan.places.items));
      };
    }

pub loop-number-preserved : goal.loop-number-preserved
loop-number-preserved c =
    let work : Work = record { intervals = c.as_slice-pairs.result; arrivals = c.as_slice.result; saved = c.args.saved } in
    let number = c.loop-number.number in
    let back : number + 1 - 1 ≡ number = omega arith in
    record {
      arranged = c.loop-number.invariant.arranged;
      sound = subst (λ (n : ℕ). IsSound work (number + 1) (start_at work n) (start_at work n) c.arrive.new.self) (sym back) c.in_ok-arrive.ensures;
    }

pub returns : goal.returns
returns c =
    let work : Work = record { intervals = c.as_slice-pairs.result; arrivals = c.as_slice.result; saved = c.args.saved } in
    let scan = c.loop-number.scan in
    let number = c.loop-number.number in
    let sound = c.loop-number.invariant.sound in
    let past = start_at work (number - 1) in
    let pairs : work.intervals.now ≡ c.args.intervals.now.pairs.items = c.as_slice-pairs.ensures.value in
    let all : work.arrivals.now ≡ c.in_ok-arrivals.arrivals.items = c.as_slice.ensures.value in
    let permutation : IsPermutation (arrivals_from work.intervals.now) work.arrivals.now = subst (IsPermutation (arrivals_from work.intervals.now)) (sym all) c.in_ok-arrivals.ensures.values in
    let end : length work.arrivals.now ≤ number = search rules in
    let seen : take number work.arrivals.now ≡ work.arrivals.now = take_all number work.arrivals.now end in
    let fits : Fits work.intervals.now work.saved past past work.arrivals.now scan.places.items (members scan.active) scan.free.items scan.used = subst (λ (xs : List Arrival). Fits work.intervals.now work.saved past past xs scan.places.items (members scan.active) scan.free.items scan.used) seen sound.fitting.fits in
    let best : IsBest work.intervals.now work.saved past work.arrivals.now work.arrivals.now (count_by is_saved scan.places.items) (members scan.active) = subst (λ (xs : List Arrival). IsBest work.intervals.now work.saved past work.arrivals.now xs (count_by is_saved scan.places.items) (members scan.active)) seen sound.best in
    subst (λ (xs : List Interval). IsAllocation xs c.args.saved scan.places.items) pairs (
    IsAllocation-whole work.intervals.now work.saved past work.arrivals.now scan.places.items (members scan.active) scan.free.items scan.used permutation fits best
    )
