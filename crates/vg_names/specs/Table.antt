-- What a table of the names of items has: the number of the first item that defines a name, and what stands inside of
-- items, each name under its scope.
use Rattle.std.specs.Prelude.{◌≡◌, ℕ, ◌+◌, Bool, ◌||◌, List, [], ◌∷◌, ◌++◌, map, Option, Some, None, if◌then◌else◌}
use Rattle.std.specs.List.{list_any}
use Rattle.std.specs.Borrow.{Bor}
use Rattle.std.specs.Str.{bytes_eq}
use Rattle.indexmap.specs.IndexMap.{IndexMap, get_by}
use Rattle.vg_ast.specs.declared.name.Name.{Name}
use Rattle.vg_ast.specs.declared.item.Item.{Item}
use Rattle.vg_ast.specs.declared.item.Item.TheVariants as items
use Rattle.vg_ast.specs.declared.field.Field.{Field}
use Rattle.vg_ast.specs.declared.parameter.Parameter.{Parameter}
use Rattle.vg_names.specs.declared.scope.Scope.TheVariants as scopes
use Rattle.vg_names.specs.Definition.{Text, definition_of, defines}
use Rattle.vg_names.specs.Met.{Key, same_key}

-- the number of the first item that defines a name, where the items have the numbers from k on
abbrev pub number_from : ℕ → List Item → Text → Option ℕ
number_from k [] text = None
number_from k (item ∷ items) text = if defines text (definition_of item) then Some k else number_from (k + 1) items text

-- a look-up in a map of names
abbrev pub found_at : {X S : Type 0} → IndexMap (Bor Text) X S → Text → Option X
found_at found text = get_by (λ (k : Bor Text). bytes_eq text k.now) found

-- the names inside of the item of number k that are asked for, each under its scope; an encoding is one of the whole
abbrev pub inside : ℕ → Item → List Key
inside k (items.Function at name parameters result body) = map (λ (parameter : Parameter). (scopes.Parameters k, parameter.name.text)) parameters
inside k (items.Format at name declared fields) = map (λ (field : Field). (scopes.Fields k, field.name.text)) fields
inside k (items.Encoding at name fixes) = (scopes.Encodings, name.text) ∷ []
inside k _ = []

-- those of items from number k on
abbrev pub inside_from : ℕ → List Item → List Key
inside_from k [] = []
inside_from k (item ∷ items) = inside k item ++ inside_from (k + 1) items

abbrev pub has : List Key → Key → Bool
has keys key = list_any (same_key key) keys

-- a set got these keys
pub record Adds (old more new : List Key) : Type 0 where
  pub has_both : (key : Key) → has new key ≡ (has old key || has more key)

-- the name that an item defines
abbrev pub defined_name : {X : Type 0} → Option (Name × X) → Option Name
defined_name None = None
defined_name (Some definition) = Some definition.0

-- the parameters of a function
abbrev pub parameters_of : Option Item → List Text
parameters_of (Some (items.Function at name parameters result body)) = map (λ (parameter : Parameter). parameter.name.text) parameters
parameters_of _ = []

-- the format that an item names
abbrev pub format_named : Item → Option Name
format_named (items.Instruction at name format behaviour) = Some format
format_named _ = None
