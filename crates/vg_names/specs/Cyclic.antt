-- Constants, aliases and functions that use themselves, directly or through others; and an order in which none uses one
-- behind it.
use Rattle.std.specs.Prelude.{◌≡◌, ℕ, Bool, true, false, IsTrue, List, [], ◌∷◌, ◌++◌, Option, Some, None, slice_get, not, ◌&&◌, ◌||◌}
use Rattle.std.specs.List.{list_all}
use Rattle.vg_ast.specs.declared.name.Name.{Name}
use Rattle.vg_ast.specs.declared.item.Item.{Item}
use Rattle.vg_ast.specs.declared.item.Item.TheVariants as items
use Rattle.vg_names.specs.Definition.{Text, item_named, is_among}
use Rattle.vg_names.specs.Uses.{uses_of}

-- the name that is put in place of what it stands for: that of a constant, an alias or a function
abbrev pub replaced_name : Item → Option Name
replaced_name (items.Constant at name value) = Some name
replaced_name (items.Using at name meaning) = Some name
replaced_name (items.Function at name parameters result body) = Some name
replaced_name _ = None

abbrev pub has_name : Option Name → Bool
has_name None = false
has_name (Some name) = true

abbrev pub is_replaced : Option Item → Bool
is_replaced None = false
is_replaced (Some item) = has_name (replaced_name item)

-- the item of one name uses that of another, among all items
pub record Uses (all : List Item) (a b : Text) : Type 0 where
  pub user : Item
  pub found : item_named all a ≡ Some user
  pub used : IsTrue (is_among b (uses_of user))
  pub replaced : IsTrue (is_replaced (item_named all b))

-- directly or through others
pub data Reaches (all : List Item) : Text → Text → Type 0 where
  directly : {a b : Text} → Uses all a b → Reaches all a b
  through : {a b c : Text} → Uses all a b → Reaches all b c → Reaches all a c

abbrev pub IsCyclic : List Item → Item → Type 0
IsCyclic all item = (name : Name) × (replaced_name item ≡ Some name) × Reaches all name.text name.text

abbrev pub NoneIsCyclic : List Item → List Item → Type 0
NoneIsCyclic all [] = Unit {0}
NoneIsCyclic all (item ∷ more) = (¬ IsCyclic all item) × NoneIsCyclic all more

-- the first item, in the order of the text, that uses itself has its name at this place
abbrev pub IsFirstCyclic : List Item → ℕ → Type 0
IsFirstCyclic all at = (front : List Item) × (item : Item) × (behind : List Item) × (name : Name)
    × (all ≡ front ++ item ∷ behind) × NoneIsCyclic all front × (replaced_name item ≡ Some name) × (at ≡ name.at)
    × Reaches all name.text name.text

-- An order of items by their numbers: each constant, alias and function stands in it, once, behind all that it uses.

abbrev pub text_of_name : Option Name → List Text
text_of_name None = []
text_of_name (Some name) = name.text ∷ []

-- the name of an item that is put in place, if it is one
abbrev pub text_of : Option Item → List Text
text_of None = []
text_of (Some item) = text_of_name (replaced_name item)

-- the names of the items of these numbers
abbrev pub names_of : List Item → List ℕ → List Text
names_of all [] = []
names_of all (k ∷ ks) = text_of (slice_get all k) ++ names_of all ks

abbrev pub is_before : List Item → List Text → Text → Bool
is_before all front text = not (is_replaced (item_named all text)) || is_among text front

abbrev pub is_fresh : List Text → Option Name → Bool
is_fresh front None = false
is_fresh front (Some name) = not (is_among name.text front)

-- an item is put in place of a name that doesn't stand in front, and what it uses does
abbrev pub may_follow : List Item → List Text → Option Item → Bool
may_follow all front None = false
may_follow all front (Some item) = is_fresh front (replaced_name item) && list_all (is_before all front) (uses_of item)

-- each stands once, behind what it uses, where these names stand in front
abbrev pub is_order_behind : List Item → List Text → List ℕ → Bool
is_order_behind all front [] = true
is_order_behind all front (k ∷ ks) = may_follow all front (slice_get all k) && is_order_behind all (text_of (slice_get all k) ++ front) ks

-- the names of all items that are put in place
abbrev pub replaced_names : List Item → List Text
replaced_names [] = []
replaced_names (item ∷ more) = text_of (Some item) ++ replaced_names more

pub record IsOrder (all : List Item) (order : List ℕ) : Type 0 where
  pub behind : IsTrue (is_order_behind all [] order)
  pub complete : IsTrue (list_all (λ text. is_among text (names_of all order)) (replaced_names all))
