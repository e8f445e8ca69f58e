-- One more value, and the order of the sort.
use Rattle.std.proofs.Common.{◌≡◌, ◌∷◌, ◌++◌, [], List, sym, ap, ◌∙◌, zero-add, rules}
use Rattle.std.proofs.lemmas.List.FromFn.{map-range_with_len_more}
use Rattle.std.proofs.lemmas.List.Sorted.{IsNonDecreasingBy-from_sort_by_key}
use Rattle.vg_alloc.specs.declared.arrival.Arrival.{Arrival}
use Rattle.vg_alloc.specs.Arrivals.{arrival_at}
use Rattle.vg_alloc.proofs.assignment.arrivals_of.Goals as goal

pub loop-value-preserved : goal.loop-value-preserved
loop-value-preserved c =
    let intervals = c.args.intervals.now in
    let value = c.loop-value.value in
    let pushed : c.push.new.self.items ≡ c.loop-value.arrivals.items ++ arrival_at intervals value ∷ [] = search rules in
    pushed
    ∙ ap (λ (xs : List Arrival). xs ++ arrival_at intervals value ∷ []) c.loop-value.invariant
    ∙ sym (map-range_with_len_more (arrival_at intervals) 0 value value (zero-add value))

pub returns-clause-sorted : goal.returns-clause-sorted
returns-clause-sorted c = IsNonDecreasingBy-from_sort_by_key (λ (a : Arrival). a.first) c.sort_by_key.new.self.items c.in_ok-sort_by_key.ensures.sorted (λ a r q k. search rules)
