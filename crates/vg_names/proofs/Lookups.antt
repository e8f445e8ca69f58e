-- The numbers of names, and the items that have them.
use Rattle.std.proofs.Common.{◌≡◌, ℕ, zero, suc, inl, inr, Bool, true, false, List, [], ◌∷◌, map, get_or, Option, Some, None, refl, sym, ap, subst, ◌∙◌, true≢false, if◌then◌else◌}
use Rattle.std.specs.Prelude.{slice_get}
use Rattle.std.specs.List.{Contains}
use Rattle.std.specs.Option.{option_to_list}
use Rattle.std.specs.Str.{bytes_eq}
use Rattle.std.proofs.lemmas.List.Elements.{Contains-append_left, Contains-append_right, Contains-append_cases, Contains-push}
use Rattle.vg_ast.specs.declared.name.Name.{Name}
use Rattle.vg_ast.specs.declared.item.Item.{Item}
use Rattle.vg_ast.specs.declared.item.Item.TheVariants as items
use Rattle.vg_names.specs.declared.meaning.Meaning.{Meaning}
use Rattle.vg_names.specs.declared.meaning.Meaning.TheVariants as meanings
use Rattle.vg_names.specs.Definition.{Text, definition_of, defines, item_named, is_among}
use Rattle.vg_names.proofs.Texts.{same_text, own_text}
use Rattle.vg_names.proofs.InnerLemmas.{numbered_item, unnumbered_item}
use Rattle.vg_names.specs.Uses.{uses_of}
use Rattle.vg_names.specs.Cyclic.{replaced_name, has_name, is_replaced}
use Rattle.vg_names.specs.Graph.{uses_at}
use Rattle.vg_names.specs.Numbers.{number_named, numbers_of, with_numbers, graph_of}
use Rattle.vg_names.proofs.Nodes.{none, only}

-- a number is that of the item of the name
pub item_of_number : (all : List Item) (text : Text) (k : ℕ) → number_named all text ≡ Some k → slice_get all k ≡ item_named all text
item_of_number all text k e = numbered_item all text k (sym e)

pub number_of_replaced : (all : List Item) (text : Text) → is_replaced (item_named all text) ≡ true → (k : ℕ) × (number_named all text ≡ Some k)
number_of_replaced all text e = by (number_named all text) refl
  where
    by : (o : Option ℕ) → number_named all text ≡ o → (k : ℕ) × (number_named all text ≡ Some k)
    by (Some k) h = (k, h)
    by None h = absurd (true≢false (sym e ∙ ap is_replaced (sym (unnumbered_item all text (sym h)))))

-- the item of a name defines it
pub named_defines : (all : List Item) (text : Text) (item : Item) → item_named all text ≡ Some item → defines text (definition_of item) ≡ true
named_defines [] text item e = absurd (cc)
named_defines (first ∷ more) text item e = by (defines text (definition_of first)) (named_defines more text item) refl e
  where
    by : (b : Bool) → (item_named more text ≡ Some item → defines text (definition_of item) ≡ true) → defines text (definition_of first) ≡ b → (if b then Some first else item_named more text) ≡ Some item → defines text (definition_of item) ≡ true
    by true again d h = let same : first ≡ item = cc in ap (λ (i : Item). defines text (definition_of i)) (sym same) ∙ d
    by false again d h = again h

-- what is put in place of its name is defined by it
pub replaced_defined : (item : Item) (name : Name) → replaced_name item ≡ Some name → (m : Meaning) × (definition_of item ≡ Some (name, m))
replaced_defined (items.Constant at n value) name e = let same : n ≡ name = cc in (meanings.Constant, ap (λ (x : Name). Some (x, meanings.Constant)) same)
replaced_defined (items.Using at n meaning) name e = let same : n ≡ name = cc in (meanings.Alias, ap (λ (x : Name). Some (x, meanings.Alias)) same)
replaced_defined (items.Function at n parameters result body) name e = let same : n ≡ name = cc in (meanings.Function, ap (λ (x : Name). Some (x, meanings.Function)) same)
replaced_defined (items.ProgramCounter at n declared) name e = absurd (cc)
replaced_defined (items.Memory at n address cell) name e = absurd (cc)
replaced_defined (items.Register at n declared) name e = absurd (cc)
replaced_defined (items.RegisterFile at n index declared fixed) name e = absurd (cc)
replaced_defined (items.Format at n declared fields) name e = absurd (cc)
replaced_defined (items.Instruction at n format behaviour) name e = absurd (cc)
replaced_defined (items.Encoding at n fixes) name e = absurd (cc)
replaced_defined (items.Assembly at n parts) name e = absurd (cc)

-- the name of a number is that of its item
pub text_of_number : (all : List Item) (text : Text) (k : ℕ) (item : Item) (name : Name) → number_named all text ≡ Some k → slice_get all k ≡ Some item → replaced_name item ≡ Some name → name.text ≡ text
text_of_number all text k item name e at named =
    let d : defines text (definition_of item) ≡ true = named_defines all text item (sym (item_of_number all text k e) ∙ at) in
    let m = replaced_defined item name named in
    same_text name.text text (sym (ap (defines text) m.1) ∙ d)

-- which name a replaced item has
pub name_of_replaced : (item : Item) → has_name (replaced_name item) ≡ true → (name : Name) × (replaced_name item ≡ Some name)
name_of_replaced item e = by (replaced_name item) refl e
  where
    by : (o : Option Name) → replaced_name item ≡ o → has_name o ≡ true → (name : Name) × (replaced_name item ≡ Some name)
    by None h r = absurd (true≢false (sym r))
    by (Some name) h r = (name, h)

pub item_of_replaced : (o : Option Item) → is_replaced o ≡ true → (item : Item) × (name : Name) × (o ≡ Some item) × (replaced_name item ≡ Some name)
item_of_replaced None e = absurd (true≢false (sym e))
item_of_replaced (Some item) e = let n = name_of_replaced item e in (item, n.0, refl, n.1)

-- the list at a place of a mapped list
pub mapped_at : {X : Type 0} (f : X → List ℕ) (xs : List X) (k : ℕ) (x : X) → slice_get xs k ≡ Some x → get_or (map f xs) k [] ≡ f x
mapped_at f [] k x e = absurd (cc)
mapped_at f (y ∷ ys) zero x e = let same : y ≡ x = cc in ap f same
mapped_at f (y ∷ ys) (suc k) x e = mapped_at f ys k x e

pub mapped_past : {X : Type 0} (f : X → List ℕ) (xs : List X) (k : ℕ) → slice_get xs k ≡ None → get_or (map f xs) k [] ≡ []
mapped_past f [] k e = refl
mapped_past f (y ∷ ys) zero e = absurd (cc)
mapped_past f (y ∷ ys) (suc k) e = mapped_past f ys k e

pub numbers_behind : (number : Text → Option ℕ) (names : List Text) → with_numbers number [] names ≡ numbers_of number names
unfolding with_numbers
numbers_behind number names = refl

pub uses_of_node : (all : List Item) (k : ℕ) (item : Item) → slice_get all k ≡ Some item → uses_at (graph_of all) k ≡ numbers_of (number_named all) (uses_of item)
uses_of_node all k item e = mapped_at (λ (x : Item). with_numbers (number_named all) [] (uses_of x)) all k item e ∙ numbers_behind (number_named all) (uses_of item)

-- a number among those of names is that of one of them
pub name_of_use : (number : Text → Option ℕ) (names : List Text) (j : ℕ) → Contains (numbers_of number names) j → (text : Text) × (is_among text names ≡ true) × (number text ≡ Some j)
name_of_use number [] j c = absurd (none j c)
name_of_use number (first ∷ more) j c = elim (Contains-append_cases (option_to_list (number first)) (numbers_of number more) j c) [
  | inl a ↦ (first, ap (λ (b : Bool). if b then true else is_among first more) (own_text first), by (number first) a)
  | inr b ↦ (let rest = name_of_use number more j b in (rest.0, kept (bytes_eq first rest.0) (is_among rest.0 more) rest.1, rest.2))
]
  where
    by : (o : Option ℕ) → Contains (option_to_list o) j → o ≡ Some j
    by None a = absurd (none j a)
    by (Some k) a = ap (λ (n : ℕ). Some n) (only k j a)

    kept : (a b : Bool) → b ≡ true → (if a then true else b) ≡ true
    kept true b h = refl
    kept false b h = h

pub use_of_name : (number : Text → Option ℕ) (names : List Text) (text : Text) (j : ℕ) → is_among text names ≡ true → number text ≡ Some j → Contains (numbers_of number names) j
use_of_name number [] text j among e = absurd (true≢false (sym among))
use_of_name number (first ∷ more) text j among e = by (bytes_eq first text) (λ h. use_of_name number more text j h e) refl among
  where
    by : (b : Bool) → (is_among text more ≡ true → Contains (numbers_of number more) j) → bytes_eq first text ≡ b → (if b then true else is_among text more) ≡ true → Contains (numbers_of number (first ∷ more)) j
    by true again same h =
        let o : number first ≡ Some j = ap number (same_text first text same) ∙ e in
        Contains-append_left (option_to_list (number first)) (numbers_of number more) j (subst (λ (x : Option ℕ). Contains (option_to_list x) j) (sym o) (Contains-push [] j))
    by false again other h = Contains-append_right (option_to_list (number first)) (numbers_of number more) j (again h)

-- an item that uses something is replaced
pub user_replaced : (item : Item) (text : Text) → is_among text (uses_of item) ≡ true → has_name (replaced_name item) ≡ true
user_replaced (items.Constant at n value) text e = refl
user_replaced (items.Using at n meaning) text e = refl
user_replaced (items.Function at n parameters result body) text e = refl
user_replaced (items.ProgramCounter at n declared) text e = absurd (true≢false (sym e))
user_replaced (items.Memory at n address cell) text e = absurd (true≢false (sym e))
user_replaced (items.Register at n declared) text e = absurd (true≢false (sym e))
user_replaced (items.RegisterFile at n index declared fixed) text e = absurd (true≢false (sym e))
user_replaced (items.Format at n declared fields) text e = absurd (true≢false (sym e))
user_replaced (items.Instruction at n format behaviour) text e = absurd (true≢false (sym e))
user_replaced (items.Encoding at n fixes) text e = absurd (true≢false (sym e))
user_replaced (items.Assembly at n parts) text e = absurd (true≢false (sym e))

pub no_uses : (all : List Item) (k : ℕ) → slice_get all k ≡ None → uses_at (graph_of all) k ≡ []
no_uses all k e = mapped_past (λ (x : Item). with_numbers (number_named all) [] (uses_of x)) all k e
