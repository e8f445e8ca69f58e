-- What uses itself through items of some names is what reaches itself.
use Rattle.std.proofs.Common.{◌≡◌, ℕ, inl, inr, Bool, true, false, ◌&&◌, ◌||◌, List, [], ◌∷◌, ◌++◌, Option, Some, None, refl, sym, ap, subst, ◌∙◌, true≢false, if◌then◌else◌}
use Rattle.std.specs.Str.{bytes_eq}
use Rattle.std.proofs.lemmas.Bool.{and_parts, and_from}
use Rattle.vg_ast.specs.declared.name.Name.{Name}
use Rattle.vg_ast.specs.declared.item.Item.{Item}
use Rattle.vg_ast.specs.declared.desc.Desc.{Desc}
use Rattle.vg_names.specs.Definition.{Text, item_named, is_among, definition_of, defines}
use Rattle.vg_names.specs.Duplicate.{duplicates}
use Rattle.vg_names.specs.First.{first_of}
use Rattle.vg_names.specs.Unknown.{in_each}
use Rattle.vg_names.proofs.Texts.{same_text}
use Rattle.vg_names.specs.Uses.{uses_of}
use Rattle.vg_names.specs.Cyclic.{replaced_name, has_name, is_replaced, Uses, Reaches, directly, through, IsCyclic, NoneIsCyclic, IsFirstCyclic, replaced_names, IsOrder}
use Rattle.vg_names.proofs.Ordered.{replaced_among}
use Rattle.vg_names.specs.Cycle.{names_used, uses_directly, uses_through, name_cycle, item_cycle, cycles}
use Rattle.vg_const.proofs.Cycles.{none_reaches_itself}

or_cases : (P : Type 0) (x y : Bool) → (x ≡ true → P) → (y ≡ true → P) → (x || y) ≡ true → P
or_cases P true y f g e = f refl
or_cases P false y f g e = g e

or_left : (x y : Bool) → x ≡ true → (x || y) ≡ true
or_left true y e = refl
or_left false y e = absurd (true≢false (sym e))

or_right : (x y : Bool) → y ≡ true → (x || y) ≡ true
or_right true y e = refl
or_right false y e = e

module _ (all : List Item) where
  -- one use
  use_of : (a b : Text) → uses_directly all a b ≡ true → Uses all a b
  use_of a b e = by (item_named all a) refl parts.0 parts.1
    where
      parts : (is_among b (names_used (item_named all a)) ≡ true) × (is_replaced (item_named all b) ≡ true)
      parts = and_parts (is_among b (names_used (item_named all a))) (is_replaced (item_named all b)) e

      by : (o : Option Item) → item_named all a ≡ o → is_among b (names_used o) ≡ true → is_replaced (item_named all b) ≡ true → Uses all a b
      by None found among replaced = absurd (true≢false (sym among))
      by (Some item) found among replaced = record { user = item; found = found; used = among; replaced = replaced }

  of_use : (a b : Text) → Uses all a b → uses_directly all a b ≡ true
  of_use a b u = and_from (is_among b (names_used (item_named all a))) (is_replaced (item_named all b)) (ap (λ (o : Option Item). is_among b (names_used o)) u.found ∙ u.used) u.replaced

  behind : {a b c : Text} → Reaches all a b → Reaches all b c → Reaches all a c
  behind (directly u) more = through u more
  behind (through u way) more = through u (behind way more)

  reaches : (middles : List Text) (a b : Text) → uses_through all middles a b ≡ true → Reaches all a b
  reaches [] a b e = directly (use_of a b e)
  reaches (middle ∷ more) a b e =
      or_cases (Reaches all a b) (uses_through all more a b) (uses_through all more a middle && uses_through all more middle b) (reaches more a b)
      (λ both. (let parts = and_parts (uses_through all more a middle) (uses_through all more middle b) both in behind (reaches more a middle parts.0) (reaches more middle b parts.1))) e

  -- one use is one through any items
  one_use : (middles : List Text) (a b : Text) → uses_directly all a b ≡ true → uses_through all middles a b ≡ true
  one_use [] a b e = e
  one_use (middle ∷ more) a b e = or_left (uses_through all more a b) (uses_through all more a middle && uses_through all more middle b) (one_use more a b e)

  -- one use in front
  in_front : (middles : List Text) (a x b : Text) → uses_directly all a x ≡ true → is_among x middles ≡ true → uses_through all middles x b ≡ true → uses_through all middles a b ≡ true
  in_front [] a x b u among e = absurd (true≢false (sym among))
  in_front (middle ∷ more) a x b u among e = by (λ y h way. in_front more a x y u h way) (bytes_eq middle x) refl among
    where
      from_middle : uses_through all (middle ∷ more) middle b ≡ true → uses_through all more middle b ≡ true
      from_middle h = or_cases (uses_through all more middle b ≡ true) (uses_through all more middle b) (uses_through all more middle middle && uses_through all more middle b) (λ g. g) (λ both. (and_parts (uses_through all more middle middle) (uses_through all more middle b) both).1) h

      by : ((y : Text) → is_among x more ≡ true → uses_through all more x y ≡ true → uses_through all more a y ≡ true) → (t : Bool) → bytes_eq middle x ≡ t → (if t then true else is_among x more) ≡ true → uses_through all (middle ∷ more) a b ≡ true
      by again true same h =
          let is : middle ≡ x = same_text middle x same in
          or_right (uses_through all more a b) (uses_through all more a middle && uses_through all more middle b)
          (and_from (uses_through all more a middle) (uses_through all more middle b) (one_use more a middle (subst (λ (y : Text). uses_directly all a y ≡ true) (sym is) u))
          (from_middle (subst (λ (y : Text). uses_through all (middle ∷ more) y b ≡ true) (sym is) e)))
      by again false other h =
          or_cases (uses_through all (middle ∷ more) a b ≡ true) (uses_through all more x b) (uses_through all more x middle && uses_through all more middle b)
          (λ way. or_left (uses_through all more a b) (uses_through all more a middle && uses_through all more middle b) (again b h way))
          (λ both. (let parts = and_parts (uses_through all more x middle) (uses_through all more middle b) both in
          or_right (uses_through all more a b) (uses_through all more a middle && uses_through all more middle b)
          (and_from (uses_through all more a middle) (uses_through all more middle b) (again middle h parts.0) parts.1))) e

  reached : {a b : Text} → Reaches all a b → uses_through all (replaced_names all) a b ≡ true
  reached {a} {b} (directly u) = one_use (replaced_names all) a b (of_use a b u)
  reached {a} {b} (through {b = x} u way) = in_front (replaced_names all) a x b (of_use a x u) (replaced_among all x u.replaced) (reached way)

  no_cycle : (item : Item) → ((name : Name) → replaced_name item ≡ Some name → Reaches all name.text name.text → ⊥) → item_cycle all item ≡ []
  no_cycle item none = by (replaced_name item) refl
    where
      test : (name : Name) → replaced_name item ≡ Some name → (t : Bool) → uses_through all (replaced_names all) name.text name.text ≡ t → (if t then name.at ∷ [] else []) ≡ []
      test name named true e = absurd (none name named (reaches (replaced_names all) name.text name.text e))
      test name named false e = refl

      by : (o : Option Name) → replaced_name item ≡ o → name_cycle all o ≡ []
      by None named = refl
      by (Some name) named = test name named (uses_through all (replaced_names all) name.text name.text) refl

  a_cycle : (item : Item) (name : Name) → replaced_name item ≡ Some name → Reaches all name.text name.text → item_cycle all item ≡ name.at ∷ []
  a_cycle item name named way = ap (name_cycle all) named ∙ ap (λ (t : Bool). if t then name.at ∷ [] else []) (reached way)

  none_in_front : (front behind : List Item) → NoneIsCyclic all front → in_each (item_cycle all) (front ++ behind) ≡ in_each (item_cycle all) behind
  none_in_front [] behind h = refl
  none_in_front (item ∷ front) behind h =
      ap (λ (l : List ℕ). l ++ in_each (item_cycle all) (front ++ behind)) (no_cycle item (λ name named way. h.0 (name, named, way))) ∙ none_in_front front behind h.1

  pub first_cycle : (at : ℕ) → IsFirstCyclic all at → first_of (cycles all) ≡ Some at
  first_cycle at (front, item, more, name, split, none, named, place, way) =
      ap (λ (l : List Item). first_of (in_each (item_cycle all) l)) split
      ∙ ap first_of (none_in_front front (item ∷ more) none)
      ∙ ap (λ (l : List ℕ). first_of (l ++ in_each (item_cycle all) more)) (a_cycle item name named way)
      ∙ ap (λ (n : ℕ). Some n) (sym place)

-- where there is an order there is no cycle
pub acyclic : (d : Desc) (order : List ℕ) → duplicates d ≡ [] → IsOrder d.items order → first_of (cycles d.items) ≡ None
acyclic d order distinct is = ap first_of (none d.items)
  where
    none : (more : List Item) → in_each (item_cycle d.items) more ≡ []
    none [] = refl
    none (item ∷ more) =
        ap (λ (l : List ℕ). l ++ in_each (item_cycle d.items) more) (no_cycle d.items item (λ name named way. none_reaches_itself d order name.text distinct is way)) ∙ none more
