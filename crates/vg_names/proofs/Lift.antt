-- From the graph of the items to the items.
use Rattle.std.proofs.Common.{◌≡◌, ℕ, zero, suc, ◌<◌, Bool, true, List, [], ◌∷◌, ◌++◌, Option, Some, None, refl, sym, ap, subst, ◌∙◌, arith}
use Rattle.std.specs.Prelude.{slice_get}
use Rattle.std.specs.List.{Contains}
use Rattle.vg_ast.specs.declared.name.Name.{Name}
use Rattle.vg_ast.specs.declared.item.Item.{Item}
use Rattle.vg_ast.specs.declared.desc.Desc.{Desc}
use Rattle.vg_names.specs.Definition.{Text}
use Rattle.vg_names.specs.Duplicate.{duplicates}
use Rattle.vg_names.specs.Uses.{uses_of}
use Rattle.vg_names.specs.Cyclic.{replaced_name, is_replaced, Uses, Reaches, directly as reaches_directly, through as reaches_through, IsCyclic, NoneIsCyclic, IsFirstCyclic}
use Rattle.vg_names.specs.Graph.{uses_at, Leads, directly, through, IsFirstCircular}
use Rattle.vg_names.specs.Numbers.{number_named, graph_of}
use Rattle.vg_names.proofs.Nodes.{none}
use Rattle.vg_names.proofs.Lookups.{item_of_number, number_of_replaced, replaced_defined, text_of_number, item_of_replaced, no_uses, uses_of_node, name_of_use, use_of_name, user_replaced}
use Rattle.vg_names.proofs.Distinct.{own_number}

abbrev pub is_replaced_at : List Item → ℕ → Bool
is_replaced_at all k = is_replaced (slice_get all k)

-- a node that uses something is replaced
pub node_replaced : (all : List Item) (i j : ℕ) → Contains (uses_at (graph_of all) i) j → is_replaced_at all i ≡ true
node_replaced all i j c = by (slice_get all i) refl
  where
    by : (o : Option Item) → slice_get all i ≡ o → is_replaced o ≡ true
    by None e = absurd (none j (subst (λ (l : List ℕ). Contains l j) (no_uses all i e) c))
    by (Some item) e =
        let met = name_of_use (number_named all) (uses_of item) j (subst (λ (l : List ℕ). Contains l j) (uses_of_node all i item e) c) in
        user_replaced item met.0 met.1

leads_replaced : (all : List Item) {i j : ℕ} → Leads (graph_of all) i j → is_replaced_at all i ≡ true
leads_replaced all {i} {j} (directly c) = node_replaced all i j c
leads_replaced all {i} {j} (through {j = k} c way) = node_replaced all i k c

-- one use of an item, as one of its node
use_down : (all : List Item) (a b : Text) (i : ℕ) → Uses all a b → number_named all a ≡ Some i → (j : ℕ) × (number_named all b ≡ Some j) × Contains (uses_at (graph_of all) i) j
use_down all a b i u e =
    let n = number_of_replaced all b u.replaced in
    let at : slice_get all i ≡ Some u.user = item_of_number all a i e ∙ u.found in
    (n.0, n.1, subst (λ (l : List ℕ). Contains l n.0) (sym (uses_of_node all i u.user at)) (use_of_name (number_named all) (uses_of u.user) b n.0 u.used n.1))

use_up : (all : List Item) (a : Text) (i j : ℕ) → number_named all a ≡ Some i → Contains (uses_at (graph_of all) i) j → is_replaced_at all j ≡ true → (b : Text) × (number_named all b ≡ Some j) × Uses all a b
use_up all a i j e c r =
    let user = item_of_replaced (slice_get all i) (node_replaced all i j c) in
    let met = name_of_use (number_named all) (uses_of user.0) j (subst (λ (l : List ℕ). Contains l j) (uses_of_node all i user.0 user.2) c) in (
      met.0,
      met.2,
      record {
        user = user.0;
        found = sym (item_of_number all a i e) ∙ user.2;
        used = met.1;
        replaced = ap is_replaced (sym (item_of_number all met.0 j met.2)) ∙ r;
      },
    )

reaches_down : {all : List Item} {a b : Text} (i : ℕ) → Reaches all a b → number_named all a ≡ Some i → (j : ℕ) × (number_named all b ≡ Some j) × Leads (graph_of all) i j
reaches_down {all} {a} {b} i (reaches_directly u) e = let d = use_down all a b i u e in (d.0, d.1, directly d.2)
reaches_down {all} {a} {b} i (reaches_through {b = m} u way) e =
    let d = use_down all a m i u e in
    let rest = reaches_down d.0 way d.1 in
    (rest.0, rest.1, through d.2 rest.2)

leads_up : (all : List Item) {i j : ℕ} (a : Text) → Leads (graph_of all) i j → number_named all a ≡ Some i → is_replaced_at all j ≡ true → (b : Text) × (number_named all b ≡ Some j) × Reaches all a b
leads_up all {i} {j} a (directly c) e r = let u = use_up all a i j e c r in (u.0, u.1, reaches_directly u.2)
leads_up all {i} {j} a (through {j = k} c way) e r =
    let u = use_up all a i k e c (leads_replaced all way) in
    let rest = leads_up all u.0 way u.1 r in
    (rest.0, rest.1, reaches_through u.2 rest.2)

pub some_same : (i j : ℕ) (o : Option ℕ) → o ≡ Some i → o ≡ Some j → i ≡ j
some_same i j o a b = cc

-- an item that uses itself has a node that does
cyclic_down : (d : Desc) (k : ℕ) (item : Item) → duplicates d ≡ [] → slice_get d.items k ≡ Some item → IsCyclic d.items item → Leads (graph_of d.items) k k
cyclic_down d k item distinct at h =
    let defined = replaced_defined item h.0 h.1 in
    let own = own_number d k item h.0 defined.0 distinct at defined.1 in
    let way = reaches_down k h.2 own in
    subst (Leads (graph_of d.items) k) (some_same way.0 k (number_named d.items h.0.text) way.1 own) way.2

cyclic_up : (d : Desc) (k : ℕ) (item : Item) (name : Name) → duplicates d ≡ [] → slice_get d.items k ≡ Some item → replaced_name item ≡ Some name → Leads (graph_of d.items) k k → Reaches d.items name.text name.text
cyclic_up d k item name distinct at named way =
    let defined = replaced_defined item name named in
    let own = own_number d k item name defined.0 distinct at defined.1 in
    let up = leads_up d.items name.text way own (leads_replaced d.items way) in
    subst (Reaches d.items name.text) (sym (text_of_number d.items up.0 k item name up.1 at named)) up.2

abbrev AllOf : (Item → Type 0) → List Item → Type 0
AllOf P [] = Unit {0}
AllOf P (x ∷ xs) = P x × AllOf P xs

-- a list in front of a place, and what is behind it
split : (P : Item → Type 0) (all : List Item) (k : ℕ) (item : Item) → ((j : ℕ) (x : Item) → j < k → slice_get all j ≡ Some x → P x) → slice_get all k ≡ Some item → (front : List Item) × (behind : List Item) × (all ≡ front ++ item ∷ behind) × AllOf P front
split P [] k item h e = absurd (cc)
split P (first ∷ more) zero item h e = let same : first ≡ item = cc in ([], more, ap (λ (x : Item). x ∷ more) same, tt)
split P (first ∷ more) (suc k) item h e =
    let rest = split P more k item (λ j x l at. h (suc j) x (omega arith) at) e in
    (first ∷ rest.0, rest.1, ap (λ (l : List Item). first ∷ l) rest.2, (h zero first (omega arith) refl, rest.3))

none_cyclic : (all front : List Item) → AllOf (λ (x : Item). ¬ IsCyclic all x) front → NoneIsCyclic all front
none_cyclic all [] h = tt
none_cyclic all (x ∷ xs) h = (h.0, none_cyclic all xs h.1)

-- the first node that uses itself is that of the first item that does
pub first_cyclic : (d : Desc) (k : ℕ) (item : Item) (name : Name) → duplicates d ≡ [] → IsFirstCircular (graph_of d.items) k → slice_get d.items k ≡ Some item → replaced_name item ≡ Some name → IsFirstCyclic d.items name.at
first_cyclic d k item name distinct h at named =
    let parts = split (λ (x : Item). ¬ IsCyclic d.items x) d.items k item (λ j x l there cyclic. h.first j l (cyclic_down d j x distinct there cyclic)) at in (
      parts.0,
      item,
      parts.1,
      name,
      parts.2,
      none_cyclic d.items parts.0 parts.3,
      named,
      refl,
      cyclic_up d k item name distinct at named h.circular,
    )

pub circular_replaced : (all : List Item) (k : ℕ) → IsFirstCircular (graph_of all) k → is_replaced_at all k ≡ true
circular_replaced all k h = leads_replaced all h.circular
