-- What a loop over `first` and `next` needs: how a walk begins, goes on and ends.
use Rattle.std.proofs.Common.{◌≡◌, ◌≢◌, ℕ, ◌+◌, ◌<◌, inl, inr, List, [], ◌∷◌, ◌++◌, length, take, get_or, Option, Some, None, sym, refl, ap, ◌∙◌, arith}
use Rattle.std.specs.Prelude.{slice_get, AllPairs}
use Rattle.std.proofs.lemmas.Bool.{cases_lt}
use Rattle.std.proofs.lemmas.List.{take_more, take_all, length_push}
use Rattle.std.proofs.lemmas.Option.{slice_get-get_or, slice_get_within, get_or_from_slice_get, none-some}
use Rattle.vg_list.specs.NodeLists.{NodeLists, nodes_of, IsAt, IsLinked, IsDisjoint}
use Rattle.vg_list.specs.Walk.{IsWalk}

module _ (all : NodeLists) (list : ℕ) where
  -- the walk begins at what `first` gives
  pub IsWalk_begins : (first : Option ℕ) → first ≡ slice_get (nodes_of all list) 0 → IsWalk all list [] first
  IsWalk_begins first is = record { in_order = refl; stands = is }

  -- the node that the walk stands at is in the list, behind those that were seen
  pub IsAt_from_IsWalk : (seen : List ℕ) (node : ℕ) → IsWalk all list seen (Some node) → IsAt all list (length seen) node
  IsAt_from_IsWalk seen node walk = sym walk.stands

  pub IsLinked_from_IsWalk : (seen : List ℕ) (node : ℕ) → IsWalk all list seen (Some node) → IsLinked all node
  IsLinked_from_IsWalk seen node walk = (list, length seen, sym walk.stands)

  -- there are nodes left
  pub IsWalk_shorter : (seen : List ℕ) (node : ℕ) → IsWalk all list seen (Some node) → length seen < length (nodes_of all list)
  IsWalk_shorter seen node walk = slice_get_within (nodes_of all list) (length seen) node (sym walk.stands)

  -- the walk goes on to what `next` gives
  pub IsWalk_goes_on : (seen : List ℕ) (node : ℕ) (next : Option ℕ) → IsWalk all list seen (Some node) → next ≡ slice_get (nodes_of all list) (length seen + 1) → IsWalk all list (seen ++ node ∷ []) next
  IsWalk_goes_on seen node next walk is =
      let xs = nodes_of all list in
      let here : get_or xs (length seen) node ≡ node = get_or_from_slice_get xs (length seen) node node (sym walk.stands) in
      let longer = length_push seen node in
      record {
        in_order =
            ap (λ (ys : List ℕ). ys ++ node ∷ []) walk.in_order
            ∙ ap (λ (n : ℕ). take (length seen) xs ++ n ∷ []) (sym here)
            ∙ sym (take_more xs (length seen) node (IsWalk_shorter seen node walk))
            ∙ ap (λ (n : ℕ). take n xs) (sym longer);
        stands = is ∙ ap (λ (n : ℕ). slice_get xs n) (sym longer);
      }

  -- at the end the walk has seen the list
  pub IsWalk_ends : (seen : List ℕ) → IsWalk all list seen None → seen ≡ nodes_of all list
  IsWalk_ends seen walk =
      let xs = nodes_of all list in
      elim (cases_lt (length seen) (length xs)) [
        | inl below ↦ absurd (none-some (get_or xs (length seen) 0) (walk.stands ∙ slice_get-get_or xs (length seen) 0 below))
        | inr over ↦ walk.in_order ∙ take_all (length seen) xs over
      ]

  -- a list has each of its nodes once
  pub AllPairs-nodes_of : IsDisjoint all → AllPairs (λ a b. a ≢ b) (nodes_of all list)
  AllPairs-nodes_of disjoint = λ i j d before below same.
      let xs = nodes_of all list in
      let twice = disjoint (get_or xs j d) list i list j (slice_get-get_or xs i d (omega arith) ∙ ap (λ (n : ℕ). Some n) same) (slice_get-get_or xs j d below) in
      let equal : i ≡ j = twice.1 in
      omega arith
