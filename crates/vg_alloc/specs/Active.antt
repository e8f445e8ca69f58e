-- The values that are active, in the order of their ends.
use Rattle.std.specs.Prelude.{◌≡◌, ℕ, ◌-◌, ◌<◌, ◌≤◌, List, length, insert, slice_get, slice_index, Option, Some}
use Rattle.vg_list.specs.NodeLists.{nodes_of}
use Rattle.vg_alloc.specs.declared.active.Active.{Active}

-- the values in the list, in order
abbrev pub members : Active → List ℕ
members a = nodes_of a.lists 0

-- the last element
abbrev pub last_of : List ℕ → Option ℕ
last_of xs = slice_get xs (length xs - 1)

-- the value isn't in the list
abbrev pub Lacks : List ℕ → ℕ → Type 0
Lacks xs value = (k : ℕ) → slice_get xs k ≡ Some value → ⊥

-- there is one list, of some of so many values, and its length and its last node are known
pub record IsKept (values : ℕ) (a : Active) : Type 0 where
  pub one : length a.lists.lists ≡ 1
  pub nodes : a.lists.nodes ≡ values
  pub counted : a.count ≡ length (members a)
  pub ends : a.last ≡ last_of (members a)

-- the value was put behind those that end no later, and before the others
pub record InsertsAt (end : ℕ → ℕ) (value : ℕ) (old new : List ℕ) : Type 0 where
  pub place : ℕ
  pub within : place ≤ length old
  pub is : new ≡ insert old place value
  pub front : (k : ℕ) → k < place → k < length old → end (slice_index old k) ≤ end value
  pub back : (k : ℕ) → place ≤ k → k < length old → end value ≤ end (slice_index old k)
