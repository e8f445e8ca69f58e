-- The names that are in scope where the names of an item are followed.
use Rattle.std.specs.Prelude.{◌≡◌, List, [], ◌∷◌, map}
use Rattle.std.specs.Str.{bytes_eq}
use Rattle.std.specs.Borrow.{Bor}
use Rattle.indexmap.specs.IndexSet.{IndexSet, contains_by}
use Rattle.vg_ast.specs.declared.parameter.Parameter.{Parameter}
use Rattle.vg_names.specs.Definition.{Text, is_among}

abbrev pub parameter_texts : List Parameter → List Text
parameter_texts parameters = map (λ (parameter : Parameter). parameter.name.text) parameters

-- a set has the names of these parameters
abbrev pub HasNames : {S : Type 0} → IndexSet (Bor Text) S → List Parameter → Type 0
HasNames names parameters = (text : Text) → contains_by (λ (name : Bor Text). bytes_eq text name.now) names ≡ is_among text (parameter_texts parameters)

-- the inner names: those that are bound, the last first, and then others
abbrev pub inner_of : List (Bor Text) → List Text → List Text
inner_of [] others = others
inner_of (name ∷ names) others = inner_of names (name.now ∷ others)
