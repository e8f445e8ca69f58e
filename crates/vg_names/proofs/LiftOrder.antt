-- From an order of the nodes to one of the items.
use Rattle.std.proofs.Common.{◌≡◌, ℕ, zero, suc, ◌<◌, inl, inr, Bool, true, false, cond, ◌||◌, not, List, [], ◌∷◌, ◌++◌, Option, Some, None, refl, sym, ap, subst, ◌∙◌, true≢false, if◌then◌else◌}
use Rattle.std.specs.Prelude.{slice_get}
use Rattle.std.specs.List.{All, Contains, filter, list_all}
use Rattle.std.specs.Str.{bytes_eq}
use Rattle.std.proofs.lemmas.List.{length-map}
use Rattle.std.proofs.lemmas.List.Elements.{All-contains, Contains-append_left, Contains-append_right, Contains-append_cases, Contains-push}
use Rattle.std.proofs.lemmas.Bool.{and_from}
use Rattle.std.proofs.lemmas.Option.{slice_get_within}
use Rattle.vg_ast.specs.declared.name.Name.{Name}
use Rattle.vg_ast.specs.declared.item.Item.{Item}
use Rattle.vg_ast.specs.declared.desc.Desc.{Desc}
use Rattle.vg_names.specs.Definition.{Text, item_named, is_among}
use Rattle.vg_names.specs.Duplicate.{duplicates}
use Rattle.vg_names.proofs.Texts.{same_text, among_first, among_right, all_of_each}
use Rattle.vg_names.specs.Uses.{uses_of}
use Rattle.vg_names.specs.Cyclic.{replaced_name, is_replaced, has_name, text_of_name, text_of, names_of, is_before, is_fresh, may_follow, is_order_behind, replaced_names, IsOrder}
use Rattle.vg_names.specs.Graph.{uses_at, IsBehind, IsSorting}
use Rattle.vg_names.specs.Numbers.{number_named, with_numbers, graph_of}
use Rattle.vg_names.proofs.Nodes.{none, only}
use Rattle.vg_names.proofs.Lookups.{item_of_number, number_of_replaced, replaced_defined, text_of_number, item_of_replaced, uses_of_node, use_of_name}
use Rattle.vg_names.proofs.Distinct.{own_number}
use Rattle.vg_names.proofs.Lift.{is_replaced_at, some_same}

-- the names of what stands in front of a list of nodes
abbrev Covers : List Item → List ℕ → List Text → Type 0
Covers all front names = (j : ℕ) → Contains front j → (text : Text) → number_named all text ≡ Some j → is_replaced_at all j ≡ true → is_among text names ≡ true

-- what a node uses stands in front
before : (all : List Item) (front : List ℕ) (names : List Text) (k : ℕ) (item : Item) → Covers all front names → slice_get all k ≡ Some item → All (Contains front) (uses_at (graph_of all) k)
    → list_all (is_before all names) (uses_of item) ≡ true
before all front names k item covers at uses = all_of_each (is_before all names) (uses_of item) (λ text among. by text among (is_replaced (item_named all text)) refl)
  where
    by : (text : Text) → is_among text (uses_of item) ≡ true → (r : Bool) → is_replaced (item_named all text) ≡ r → (not r || is_among text names) ≡ true
    by text among false e = refl
    by text among true e =
        let n = number_of_replaced all text e in
        let c : Contains (uses_at (graph_of all) k) n.0 = subst (λ (l : List ℕ). Contains l n.0) (sym (uses_of_node all k item at)) (use_of_name (number_named all) (uses_of item) text n.0 among n.1) in
        covers n.0 (All-contains (Contains front) (uses_at (graph_of all) k) n.0 uses c) text n.1 (ap is_replaced (item_of_number all text n.0 n.1) ∙ e)

covers_more : (all : List Item) (front : List ℕ) (names : List Text) (k : ℕ) (item : Item) (name : Name) → Covers all front names → slice_get all k ≡ Some item → replaced_name item ≡ Some name → Covers all (k ∷ front) (name.text ∷ names)
covers_more all front names k item name covers at named j c text e r = elim (Contains-append_cases (k ∷ []) front j c) [
  | inl a ↦ (let same : number_named all text ≡ Some k = e ∙ ap (λ (i : ℕ). Some i) (sym (only k j a)) in
      subst (λ (t : Text). is_among t (name.text ∷ names) ≡ true) (text_of_number all text k item name same at named) (among_first name.text names))
  | inr b ↦ among_right text (name.text ∷ []) names (covers j b text e r)
]

covers_same : (all : List Item) (front : List ℕ) (names : List Text) (k : ℕ) → Covers all front names → is_replaced_at all k ≡ false → Covers all (k ∷ front) names
covers_same all front names k covers other j c text e r = elim (Contains-append_cases (k ∷ []) front j c)
    [ inl a ↦ absurd (true≢false (sym r ∙ ap (is_replaced_at all) (sym (only k j a)) ∙ other)) | inr b ↦ covers j b text e r ]

-- each name in front is that of a node in front
abbrev Stems : List Item → List ℕ → List Text → Type 0
Stems all front names = (text : Text) → is_among text names ≡ true → (j : ℕ) × Contains front j × (number_named all text ≡ Some j)

stems_more : (all : List Item) (front : List ℕ) (names : List Text) (k : ℕ) (name : Name) → Stems all front names → number_named all name.text ≡ Some k → Stems all (k ∷ front) (name.text ∷ names)
stems_more all front names k name stems own text among = by (bytes_eq name.text text) refl among
  where
    by : (b : Bool) → bytes_eq name.text text ≡ b → (if b then true else is_among text names) ≡ true → (j : ℕ) × Contains (k ∷ front) j × (number_named all text ≡ Some j)
    by true e h = (k, Contains-append_left (k ∷ []) front k (Contains-push [] k), ap (number_named all) (sym (same_text name.text text e)) ∙ own)
    by false e h = let s = stems text h in (s.0, Contains-append_right (k ∷ []) front s.0 s.1, s.2)

stems_same : (all : List Item) (front : List ℕ) (names : List Text) (k : ℕ) → Stems all front names → Stems all (k ∷ front) names
stems_same all front names k stems text among = let s = stems text among in (s.0, Contains-append_right (k ∷ []) front s.0 s.1, s.2)

-- the name of a node that doesn't stand in front doesn't either
fresh : (all : List Item) (front : List ℕ) (names : List Text) (k : ℕ) (name : Name) → Stems all front names → number_named all name.text ≡ Some k → ¬ Contains front k → not (is_among name.text names) ≡ true
fresh all front names k name stems own apart = by (is_among name.text names) refl
  where
    by : (b : Bool) → is_among name.text names ≡ b → not b ≡ true
    by false e = refl
    by true e =
        let s = stems name.text e in
        absurd (apart (subst (Contains front) (some_same s.0 k (number_named all name.text) s.2 own) s.1))

-- each item has the number of its name
abbrev Owns : List Item → Type 0
Owns all = (k : ℕ) (item : Item) (name : Name) → slice_get all k ≡ Some item → replaced_name item ≡ Some name → number_named all name.text ≡ Some k

-- the nodes that are replaced, in their order
order_behind : (all : List Item) (order front : List ℕ) (names : List Text) → Owns all → Covers all front names → Stems all front names → IsBehind (graph_of all) front order → is_order_behind all names (filter (is_replaced_at all) order) ≡ true
order_behind all [] front names owns covers stems h = refl
order_behind all (k ∷ ks) front names owns covers stems h = by (is_replaced_at all k) (λ f ns. order_behind all ks f ns owns) refl
  where
    by : (r : Bool) → ((f : List ℕ) (ns : List Text) → Covers all f ns → Stems all f ns → IsBehind (graph_of all) f ks → is_order_behind all ns (filter (is_replaced_at all) ks) ≡ true)
        → is_replaced_at all k ≡ r → is_order_behind all names (cond r (k ∷ filter (is_replaced_at all) ks) (filter (is_replaced_at all) ks)) ≡ true
    by false again e = again (k ∷ front) names (covers_same all front names k covers e) (stems_same all front names k stems) h.2
    by true again e =
        let i = item_of_replaced (slice_get all k) e in
        let named : text_of_name (replaced_name i.0) ≡ i.1.text ∷ [] = ap text_of_name i.3 in
        let texts : text_of (slice_get all k) ≡ i.1.text ∷ [] = ap text_of i.2 ∙ named in
        let own = owns k i.0 i.1 i.2 i.3 in
        let rest = again (k ∷ front) (i.1.text ∷ names) (covers_more all front names k i.0 i.1 covers i.2 i.3) (stems_more all front names k i.1 stems own) h.2 in
        and_from (may_follow all names (slice_get all k)) (is_order_behind all (text_of (slice_get all k) ++ names) (filter (is_replaced_at all) ks))
        (ap (may_follow all names) i.2
        ∙ and_from (is_fresh names (replaced_name i.0)) (list_all (is_before all names) (uses_of i.0))
        (ap (is_fresh names) i.3 ∙ fresh all front names k i.1 stems own h.0)
        (before all front names k i.0 covers i.2 h.1))
        (ap (λ (l : List Text). is_order_behind all (l ++ names) (filter (is_replaced_at all) ks)) texts ∙ rest)

filtered : (p : ℕ → Bool) (xs : List ℕ) (k : ℕ) → Contains xs k → p k ≡ true → Contains (filter p xs) k
filtered p [] k c e = absurd (none k c)
filtered p (x ∷ xs) k c e = elim (Contains-append_cases (x ∷ []) xs k c) [
  | inl a ↦ subst (λ (b : Bool). Contains (cond b (x ∷ filter p xs) (filter p xs)) k) (sym (ap p (only x k a) ∙ e)) (Contains-append_left (x ∷ []) (filter p xs) k (subst (Contains (x ∷ [])) (only x k a) (Contains-push [] x)))
  | inr b ↦ by (p x) (filtered p xs k b e)
]
  where
    by : (t : Bool) → Contains (filter p xs) k → Contains (cond t (x ∷ filter p xs) (filter p xs)) k
    by true b = Contains-append_right (x ∷ []) (filter p xs) k b
    by false b = b

named_in : (all : List Item) (ks : List ℕ) (k : ℕ) (item : Item) (name : Name) → Contains ks k → slice_get all k ≡ Some item → replaced_name item ≡ Some name → is_among name.text (names_of all ks) ≡ true
named_in all [] k item name c at named = absurd (none k c)
named_in all (first ∷ ks) k item name c at named = elim (Contains-append_cases (first ∷ []) ks k c) [
  | inl a ↦ (let texts : text_of (slice_get all first) ≡ name.text ∷ [] = ap (λ (i : ℕ). text_of (slice_get all i)) (only first k a) ∙ ap text_of at ∙ ap text_of_name named in
      ap (λ (l : List Text). is_among name.text (l ++ names_of all ks)) texts ∙ among_first name.text (names_of all ks))
  | inr b ↦ among_right name.text (text_of (slice_get all first)) (names_of all ks) (named_in all ks k item name b at named)
]

-- each name of an item passes a test that those of its places pass
each_name : (test : Text → Bool) (all : List Item) → ((k : ℕ) (item : Item) (name : Name) → slice_get all k ≡ Some item → replaced_name item ≡ Some name → test name.text ≡ true) → list_all test (replaced_names all) ≡ true
each_name test [] h = refl
each_name test (item ∷ more) h = by (replaced_name item) (each_name test more (λ k x name at named. h (suc k) x name at named)) refl
  where
    by : (o : Option Name) → list_all test (replaced_names more) ≡ true → replaced_name item ≡ o → list_all test (text_of_name o ++ replaced_names more) ≡ true
    by None rest e = rest
    by (Some name) rest e = and_from (test name.text) (list_all test (replaced_names more)) (h zero item name refl e) rest

pub sorted_order : (d : Desc) (order : List ℕ) → duplicates d ≡ [] → IsSorting (graph_of d.items) order → IsOrder d.items (filter (is_replaced_at d.items) order)
sorted_order d order distinct h =
    let all = d.items in
    let owns : Owns d.items = λ k item name at named. let m = replaced_defined item name named in own_number d k item name m.0 distinct at m.1 in
    let kept = filter (is_replaced_at all) order in
    record {
      behind = order_behind all order [] [] owns (λ j c text e r. absurd (none j c)) (λ text among. absurd (true≢false (sym among))) h.behind;
      complete = each_name (λ (text : Text). is_among text (names_of all kept)) all
          (λ k item name at named.
          named_in all kept k item name
          (filtered (is_replaced_at all) order k (h.complete k (subst (λ (n : ℕ). k < n) (sym (length-map all (λ (item : Item). with_numbers (number_named all) [] (uses_of item)))) (slice_get_within all k item at))) (ap is_replaced at ∙ ap has_name named))
          at named);
    }
