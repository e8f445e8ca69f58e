-- What the calls of lists make of the values that are active.
use Rattle.std.proofs.Common.{◌≡◌, ℕ, zero, suc, ◌+◌, ◌<◌, ◌≤◌, inl, inr, List, [], ◌∷◌, ◌++◌, length, map, set, get_or, Some, sym, refl, ap, ◌∙◌, subst, arith}
use Rattle.std.specs.Prelude.{slice_get, insert, remove}
use Rattle.std.specs.List.Sorted.{IsNonDecreasingBy}
use Rattle.std.proofs.lemmas.Option.{none-some, slice_get_within, get_or_from_slice_get}
use Rattle.std.proofs.lemmas.List.{get_or-set_same, nil_from_length}
use Rattle.std.proofs.lemmas.Bool.Decides.{eqb_tells}
use Rattle.std.proofs.lemmas.List.Edits.{insert_end}
use Rattle.vg_goal.proofs.Lists.{some_same}
use Rattle.vg_goal.specs.Intervals.{Interval}
use Rattle.vg_list.specs.NodeLists.{NodeLists, nodes_of, without}
use Rattle.vg_list.proofs.Places.{get_or-map_lists}
use Rattle.vg_list.proofs.Linked.{Has-from_without}
use Rattle.vg_alloc.specs.Ends.{end_of, EndsBy}
use Rattle.vg_alloc.specs.Active.{Lacks, InsertsAt}

-- list 0 after a change of it
pub nodes-set : (lists : List (List ℕ)) (xs : List ℕ) → length lists ≡ 1 → get_or (set lists 0 xs) 0 [] ≡ xs
nodes-set lists xs one = get_or-set_same lists 0 xs [] (let below : 0 < length lists = omega arith in below)

-- a node that was unlinked is gone
pub Lacks-unlinked : (old new : NodeLists) (node : ℕ) → new ≡ record { nodes = old.nodes; lists = map (without node) old.lists } → Lacks (nodes_of new 0) node
Lacks-unlinked old new node is k at =
    let now : nodes_of new 0 ≡ without node (nodes_of old 0) = ap (λ (l : NodeLists). nodes_of l 0) is ∙ get_or-map_lists (without node) refl old.lists 0 in
    (Has-from_without node (nodes_of old 0) node (k, ap (λ (xs : List ℕ). slice_get xs k) (sym now) ∙ at)).1 refl

-- the last one is taken out
pub remove_end : (xs : List ℕ) (k x : ℕ) → k + 1 ≡ length xs → slice_get xs k ≡ Some x → xs ≡ remove xs k ++ x ∷ []
remove_end [] k x last h = absurd (none-some x h)
remove_end (y ∷ ys) zero x last h =
    let none : ys ≡ [] = nil_from_length ys (omega arith) in
    let same : y ≡ x = some_same y x h in
    ap (λ (zs : List ℕ). y ∷ zs) none ∙ ap (λ (z : ℕ). z ∷ []) same ∙ ap (λ (zs : List ℕ). zs ++ x ∷ []) (sym none)
remove_end (y ∷ ys) (suc k) x last h = ap (λ (zs : List ℕ). y ∷ zs) (remove_end ys k x (omega arith) h)

-- one more ends by the place
pub EndsBy-more : (intervals : List Interval) (place : ℕ) (xs : List ℕ) (k member : ℕ) → slice_get xs k ≡ Some member → end_of intervals member ≤ place → EndsBy intervals place xs k → EndsBy intervals place xs (k + 1)
EndsBy-more intervals place xs k member at here before j below within = elim (eqb_tells j k) [
  | inl (_, same) ↦ subst (λ (v : ℕ). end_of intervals v ≤ place) (sym (ap (λ (n : ℕ). get_or xs n 0) same ∙ get_or_from_slice_get xs k member 0 at)) here
  | inr (_, differ) ↦ before j (omega arith) within
]

-- a value is put before the first one that ends behind its end
pub InsertsAt-before : (intervals : List Interval) (value at : ℕ) (xs : List ℕ) (k : ℕ) → IsNonDecreasingBy (end_of intervals) xs → slice_get xs k ≡ Some at → EndsBy intervals (end_of intervals value) xs k → end_of intervals value < end_of intervals at
    → InsertsAt (end_of intervals) value xs (insert xs k value)
InsertsAt-before intervals value at xs k sorted here front behind = record {
  place = k;
  within = let below = slice_get_within xs k at here in omega arith;
  is = refl;
  front = front;
  back = λ j from below.
      let up = sorted k j 0 from below in
      let same : end_of intervals (get_or xs k 0) ≡ end_of intervals at = ap (end_of intervals) (get_or_from_slice_get xs k at 0 here) in
      omega arith;
}

-- a value that ends last goes to the end
pub InsertsAt-end : (intervals : List Interval) (value : ℕ) (xs : List ℕ) → EndsBy intervals (end_of intervals value) xs (length xs) → InsertsAt (end_of intervals) value xs (xs ++ value ∷ [])
InsertsAt-end intervals value xs front = record {
  place = length xs;
  within = omega arith;
  is = sym (insert_end xs value);
  front = λ k below within. front k below within;
  back = λ k from below. absurd (omega arith);
}
