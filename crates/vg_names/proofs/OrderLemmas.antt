-- What the graph of the items asks for, and what its answers say of a description.
use Rattle.std.proofs.Common.{◌≡◌, ℕ, zero, suc, ◌+◌, ◌<◌, Bool, true, false, cond, List, [], ◌∷◌, ◌++◌, length, get_or, take, append-nil, is_some, Option, Some, None, refl, sym, ap, subst, ◌∙◌, arith, true≢false, if◌then◌else◌}
use Rattle.std.specs.Prelude.{slice_get}
use Rattle.std.specs.List.{All, filter}
use Rattle.std.specs.Option.{option_copied}
use Rattle.std.specs.Borrow.{Bor}
use Rattle.std.proofs.lemmas.List.{length-map, take_more}
use Rattle.std.proofs.lemmas.List.Elements.{filter-append, All-from_get_or, All-map, All-weaker, Contains-get_or}
use Rattle.vg_ast.specs.declared.name.Name.{Name}
use Rattle.vg_ast.specs.declared.item.Item.{Item}
use Rattle.vg_ast.specs.declared.desc.Desc.{Desc}
use Rattle.vg_names.specs.Definition.{Text, definition_of, defines}
use Rattle.vg_names.specs.Duplicate.{duplicates}
use Rattle.vg_names.specs.Table.{number_from}
use Rattle.vg_names.specs.Uses.{uses_of}
use Rattle.vg_names.specs.Cyclic.{replaced_name, has_name, is_replaced, IsOrder, IsFirstCyclic}
use Rattle.vg_names.specs.Graph.{IsClosed, IsSorting, IsFirstCircular}
use Rattle.vg_names.specs.Numbers.{number_named, numbers_of, with_numbers, graph_of}
use Rattle.vg_names.proofs.Lookups.{name_of_use, numbers_behind}
use Rattle.vg_names.proofs.Lift.{is_replaced_at, first_cyclic, circular_replaced}
use Rattle.vg_names.proofs.LiftOrder.{sorted_order}

number_within : (all : List Item) (s : ℕ) (text : Text) (k : ℕ) → number_from s all text ≡ Some k → k < s + length all
number_within [] s text k e = absurd (cc)
number_within (item ∷ more) s text k e = by (defines text (definition_of item)) (number_within more (s + 1) text k) e
  where
    by : (b : Bool) → (number_from (s + 1) more text ≡ Some k → k < (s + 1) + length more) → (if b then Some s else number_from (s + 1) more text) ≡ Some k → k < s + suc (length more)
    by true again h = let same : s ≡ k = cc in omega arith
    by false again h = let rest : k < (s + 1) + length more = again h in omega arith

numbers_within : (all : List Item) (names : List Text) → All (λ (k : ℕ). k < length all) (numbers_of (number_named all) names)
numbers_within all names = All-from_get_or (λ (k : ℕ). k < length all) (numbers_of (number_named all) names) 0
    (λ i l. let met = name_of_use (number_named all) names (get_or (numbers_of (number_named all) names) i 0) (Contains-get_or (numbers_of (number_named all) names) i 0 l) in
    let lt = number_within all 0 met.0 (get_or (numbers_of (number_named all) names) i 0) met.2 in
    omega (arith, lt))

-- each number of the graph is that of an item
pub closed_graph : (all : List Item) (graph : List (List ℕ)) → graph ≡ graph_of all → IsClosed graph
closed_graph all graph e = subst IsClosed (sym e)
    (All-map (λ (uses : List ℕ). All (λ (used : ℕ). used < length (graph_of all)) uses) (λ (item : Item). with_numbers (number_named all) [] (uses_of item)) all
    (λ k d l. within (uses_of (get_or all k d))))
  where
    within : (names : List Text) → All (λ (used : ℕ). used < length (graph_of all)) (with_numbers (number_named all) [] names)
    within names = subst (All (λ (used : ℕ). used < length (graph_of all))) (sym (numbers_behind (number_named all) names))
        (subst (λ (n : ℕ). All (λ (used : ℕ). used < n) (numbers_of (number_named all) names)) (sym (length-map all (λ (item : Item). with_numbers (number_named all) [] (uses_of item)))) (numbers_within all names))

node_item : (all : List Item) (graph : List (List ℕ)) (k : ℕ) → graph ≡ graph_of all → k < length graph → k < length all
node_item all graph k e l = subst (λ (n : ℕ). k < n) (ap length e ∙ length-map all (λ (item : Item). with_numbers (number_named all) [] (uses_of item))) l

pub order_within : (all : List Item) (graph : List (List ℕ)) (order : List ℕ) → graph ≡ graph_of all → IsSorting graph order → All (λ (k : ℕ). k < length all) order
order_within all graph order e h = All-weaker (λ (k : ℕ). k < length graph) (λ (k : ℕ). k < length all) (λ k l. node_item all graph k e l) order h.within

pub order_of_items : (d : Desc) (all : List Item) (graph : List (List ℕ)) (order replaced : List ℕ) → duplicates d ≡ [] → all ≡ d.items → graph ≡ graph_of all → IsSorting graph order
    → replaced ≡ filter (λ (number : ℕ). is_replaced (slice_get all number)) order → IsOrder d.items replaced
order_of_items d all graph order replaced distinct same e h r =
    subst (IsOrder d.items) (sym (r ∙ ap (λ (l : List Item). filter (λ (number : ℕ). is_replaced (slice_get l number)) order) same))
    (sorted_order d order distinct (subst (λ (g : List (List ℕ)). IsSorting g order) (e ∙ ap graph_of same) h))

pub circular_within : (all : List Item) (graph : List (List ℕ)) (k : ℕ) → graph ≡ graph_of all → IsFirstCircular graph k → k < length all
circular_within all graph k e h = node_item all graph k e h.within

read_at : (all : List Item) (k : ℕ) (item : Item) → k < length all → item ≡ get_or all k item → slice_get all k ≡ Some item
read_at [] k item l e = absurd (omega arith)
read_at (x ∷ xs) zero item l e = ap (λ (i : Item). Some i) (sym e)
read_at (x ∷ xs) (suc k) item l e = let h : k < length xs = omega arith in read_at xs k item h e

-- what uses itself has a name
pub circular_named : (all : List Item) (graph : List (List ℕ)) (k : ℕ) (item : Item) → graph ≡ graph_of all → IsFirstCircular graph k → item ≡ get_or all k item → replaced_name item ≡ None → ⊥
circular_named all graph k item e h read unnamed =
    let at = read_at all k item (circular_within all graph k e h) read in
    true≢false (sym (circular_replaced all k (subst (λ (g : List (List ℕ)). IsFirstCircular g k) e h)) ∙ ap is_replaced at ∙ ap has_name unnamed)

pub cyclic_item : (d : Desc) (all : List Item) (graph : List (List ℕ)) (k : ℕ) (item : Item) (name : Name) → duplicates d ≡ [] → all ≡ d.items → graph ≡ graph_of all → IsFirstCircular graph k → item ≡ get_or all k item → replaced_name item ≡ Some name
    → IsFirstCyclic d.items name.at
cyclic_item d all graph k item name distinct same e h read named =
    let at = read_at all k item (circular_within all graph k e h) read in
    first_cyclic d k item name distinct (subst (λ (g : List (List ℕ)). IsFirstCircular g k) (e ∙ ap graph_of same) h) (ap (λ (l : List Item). slice_get l k) (sym same) ∙ at) named

module _ (all : List Item) (order kept new : List ℕ) (i : ℕ) (lt : i < length order) (h : kept ≡ filter (is_replaced_at all) (take i order)) where
  abbrev front : List ℕ
  front = filter (is_replaced_at all) (take i order)

  more : filter (is_replaced_at all) (take (i + 1) order) ≡ front ++ cond (is_replaced_at all (get_or order i 0)) (get_or order i 0 ∷ []) []
  more = ap (filter (is_replaced_at all)) (take_more order i 0 lt) ∙ filter-append (is_replaced_at all) (take i order) (get_or order i 0 ∷ [])

  pub kept_more : is_replaced_at all (get_or order i 0) ≡ true → new ≡ kept ++ get_or order i 0 ∷ [] → new ≡ filter (is_replaced_at all) (take (i + 1) order)
  kept_more is e =
      e ∙ ap (λ (l : List ℕ). l ++ get_or order i 0 ∷ []) h
      ∙ sym (more ∙ ap (λ (b : Bool). front ++ cond b (get_or order i 0 ∷ []) []) is)

  pub kept_same : is_replaced_at all (get_or order i 0) ≡ false → new ≡ kept → new ≡ filter (is_replaced_at all) (take (i + 1) order)
  kept_same other e = e ∙ h ∙ sym (more ∙ ap (λ (b : Bool). front ++ cond b (get_or order i 0 ∷ []) []) other ∙ append-nil front)

named_item : (o : Option (Bor Name)) → has_name (option_copied o) ≡ is_some o
named_item None = refl
named_item (Some name) = refl

-- whether the item of a number is put in place of its name
pub replaced_read : (all : List Item) (k : ℕ) (item : Item) (o : Option (Bor Name)) (b : Bool) → k < length all → item ≡ get_or all k item → option_copied o ≡ replaced_name item → is_some o ≡ b → is_replaced_at all k ≡ b
replaced_read all k item o b lt read named e =
    ap is_replaced (read_at all k item lt read) ∙ sym (ap has_name named) ∙ named_item o ∙ e
