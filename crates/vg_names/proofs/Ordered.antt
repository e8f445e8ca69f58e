-- What holds of an item where it holds of all that the item uses, holds of all items that stand in an order.
use Rattle.std.proofs.Common.{◌≡◌, ℕ, suc, ◌+◌, ◌<◌, ◌≤◌, inl, inr, Bool, true, false, ◌&&◌, ◌||◌, not, List, [], ◌∷◌, ◌++◌, length, drop, Option, Some, None, refl, sym, ap, ◌∙◌, arith, true≢false, if◌then◌else◌}
use Rattle.std.specs.Prelude.{slice_get}
use Rattle.std.specs.List.{list_all}
use Rattle.std.proofs.lemmas.Bool.{and_parts, cases_lt}
use Rattle.std.proofs.lemmas.List.{drop_all}
use Rattle.vg_ast.specs.declared.name.Name.{Name}
use Rattle.vg_ast.specs.declared.desc.Desc.{Desc}
use Rattle.vg_ast.specs.declared.item.Item.{Item}
use Rattle.vg_names.specs.Definition.{Text, item_named, is_among, definition_of, defines}
use Rattle.vg_names.specs.Duplicate.{duplicates}
use Rattle.vg_names.proofs.Texts.{same_text, among_first, among_one, among_left, among_right, among_cases, each_of}
use Rattle.vg_names.specs.Uses.{uses_of}
use Rattle.vg_names.specs.Numbers.{number_named}
use Rattle.vg_names.specs.Cyclic.{replaced_name, has_name, is_replaced, text_of_name, text_of, names_of, is_before, is_fresh, may_follow, is_order_behind, replaced_names, IsOrder}
use Rattle.vg_names.proofs.Lookups.{item_of_number, replaced_defined}
use Rattle.vg_names.proofs.Distinct.{own_number}

-- the name of an item that is put in place is among the names of all such
pub replaced_among : (all : List Item) (text : Text) → is_replaced (item_named all text) ≡ true → is_among text (replaced_names all) ≡ true
replaced_among [] text e = absurd (true≢false (sym e))
replaced_among (item ∷ more) text e = by (defines text (definition_of item)) refl (replaced_among more text) e
  where
    own : (o : Option Name) → replaced_name item ≡ o → defines text (definition_of item) ≡ true → has_name o ≡ true → is_among text (text_of_name o) ≡ true
    own None r d h = absurd (true≢false (sym h))
    own (Some name) r d h =
        let m = replaced_defined item name r in
        let same : name.text ≡ text = same_text name.text text (sym (ap (defines text) m.1) ∙ d) in
        ap (λ (t : Text). is_among text (t ∷ [])) same ∙ among_first text []

    by : (b : Bool) → defines text (definition_of item) ≡ b → (is_replaced (item_named more text) ≡ true → is_among text (replaced_names more) ≡ true)
        → is_replaced (if b then Some item else item_named more text) ≡ true → is_among text (text_of_name (replaced_name item) ++ replaced_names more) ≡ true
    by true d again h = among_left text (text_of_name (replaced_name item)) (replaced_names more) (own (replaced_name item) refl d h)
    by false d again h = among_right text (text_of_name (replaced_name item)) (replaced_names more) (again h)

-- it is also among the names in an order
pub replaced_ordered : (all : List Item) (order : List ℕ) → IsOrder all order → (text : Text) → is_replaced (item_named all text) ≡ true → is_among text (names_of all order) ≡ true
replaced_ordered all order is text replaced = each_of (λ t. is_among t (names_of all order)) (replaced_names all) is.complete text (replaced_among all text replaced)

-- what is before and put in place stands in front
pub before_front : (all : List Item) (front : List Text) (text : Text) → is_before all front text ≡ true → is_replaced (item_named all text) ≡ true → is_among text front ≡ true
before_front all front text b r = sym (ap (λ (x : Bool). not x || is_among text front) r) ∙ b

-- what an item uses stands in front of it
pub used_before : (all : List Item) (front : List Text) (item : Item) (text : Text) → may_follow all front (Some item) ≡ true → is_among text (uses_of item) ≡ true → is_replaced (item_named all text) ≡ true → is_among text front ≡ true
used_before all front item text follows used r =
    before_front all front text (each_of (is_before all front) (uses_of item) (and_parts (is_fresh front (replaced_name item)) (list_all (is_before all front) (uses_of item)) follows).1 text used) r

-- an item has the number of its name, and is the item of it
pub own_named : (d : Desc) (k : ℕ) (item : Item) (text : Text) → duplicates d ≡ [] → slice_get d.items k ≡ Some item → is_among text (text_of (Some item)) ≡ true → number_named d.items text ≡ Some k
own_named d k item text distinct at among = by (replaced_name item) refl among
  where
    by : (o : Option Name) → replaced_name item ≡ o → is_among text (text_of_name o) ≡ true → number_named d.items text ≡ Some k
    by None r e = absurd (true≢false (sym e))
    by (Some name) r e =
        let m = replaced_defined item name r in
        ap (number_named d.items) (sym (among_one name.text text e)) ∙ own_number d k item name m.0 distinct at m.1

pub own_item : (d : Desc) (k : ℕ) (item : Item) (text : Text) → duplicates d ≡ [] → slice_get d.items k ≡ Some item → is_among text (text_of (Some item)) ≡ true → item_named d.items text ≡ Some item
own_item d k item text distinct at among = sym (item_of_number d.items text k (own_named d k item text distinct at among)) ∙ at

-- behind the last of an order
pub nothing_left : (order : List ℕ) (i : ℕ) → (i < length order → ⊥) → drop i order ≡ []
nothing_left order i h = elim (cases_lt i (length order)) [ inl lt ↦ absurd (h lt) | inr ge ↦ drop_all i order ge ]

-- P n holds of what stands in the order before number n
module _ (d : Desc) (distinct : duplicates d ≡ []) (P : ℕ → Text → Type 0) (later : (a b : ℕ) (text : Text) → a ≤ b → P a text → P b text) (next : (n : ℕ) (item : Item) (text : Text) → item_named d.items text ≡ Some item → ((used : Text) → is_among used (uses_of item) ≡ true → is_replaced (item_named d.items used) ≡ true → P n used) → P (suc n) text) where
  item_next : (n : ℕ) (front : List Text) (k : ℕ) (item : Item) (text : Text) → slice_get d.items k ≡ Some item → may_follow d.items front (Some item) ≡ true
      → ((t : Text) → is_among t front ≡ true → P n t) → is_among text (text_of (Some item)) ≡ true → P (suc n) text
  item_next n front k item text at follows known among =
      next n item text (own_item d k item text distinct at among) (λ used e replaced. known used (used_before d.items front item used follows e replaced))

  along : (front : List Text) (rest : List ℕ) (n : ℕ) → is_order_behind d.items front rest ≡ true → ((t : Text) → is_among t front ≡ true → P n t)
      → (text : Text) → (is_among text front ≡ true → P (n + length rest) text) × (is_among text (names_of d.items rest) ≡ true → P (n + length rest) text)
  along front [] n behind known text = (λ e. later n (n + 0) text (omega arith) (known text e), λ e. absurd (true≢false (sym e)))
  along front (k ∷ rest) n behind known text = by (λ names m follows before. along names rest m follows before text) (slice_get d.items k) refl behind
    where
      by : ((names : List Text) (m : ℕ) → is_order_behind d.items names rest ≡ true → ((t : Text) → is_among t names ≡ true → P m t)
          → (is_among text names ≡ true → P (m + length rest) text) × (is_among text (names_of d.items rest) ≡ true → P (m + length rest) text))
          → (o : Option Item) → slice_get d.items k ≡ o → (may_follow d.items front o && is_order_behind d.items (text_of o ++ front) rest) ≡ true
          → (is_among text front ≡ true → P (n + suc (length rest)) text) × (is_among text (text_of o ++ names_of d.items rest) ≡ true → P (n + suc (length rest)) text)
      by after None at h = absurd (true≢false (sym h))
      by after (Some item) at h =
          let parts = and_parts (may_follow d.items front (Some item)) (is_order_behind d.items (text_of (Some item) ++ front) rest) h in
          let front_known : (t : Text) → is_among t (text_of (Some item) ++ front) ≡ true → P (suc n) t =
          λ t. among_cases (P (suc n) t) t (text_of (Some item)) front (item_next n front k item t at parts.0 known) (λ e. later n (suc n) t (omega arith) (known t e)) in
          let again = after (text_of (Some item) ++ front) (suc n) parts.1 front_known in
          let le : suc n + length rest ≤ n + suc (length rest) = omega arith in (
            λ e. later (suc n + length rest) (n + suc (length rest)) text le (again.0 (among_right text (text_of (Some item)) front e)),
            among_cases (P (n + suc (length rest)) text) text (text_of (Some item)) (names_of d.items rest)
                (λ e. later (suc n + length rest) (n + suc (length rest)) text le (again.0 (among_left text (text_of (Some item)) front e)))
                (λ e. later (suc n + length rest) (n + suc (length rest)) text le (again.1 e)),
          )

  pub ordered : (order : List ℕ) → IsOrder d.items order → (text : Text) → is_replaced (item_named d.items text) ≡ true → P (length order) text
  ordered order is text replaced =
      later (0 + length order) (length order) text (omega arith)
      ((along [] order 0 is.behind (λ t h. absurd (true≢false (sym h))) text).1
      (replaced_ordered d.items order is text replaced))
