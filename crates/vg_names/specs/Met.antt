-- The claims that were met, as scopes with the characters of names, and the first claim that repeats one.
use Rattle.std.specs.Prelude.{ℕ, Bool, ◌&&◌, List, [], ◌∷◌, ◌++◌, map, Option, Some, None, if◌then◌else◌}
use Rattle.std.specs.Str.{bytes_eq}
use Rattle.std.specs.List.{list_any}
use Rattle.std.specs.Borrow.{Bor}
use Rattle.indexmap.specs.IndexSet.{IndexSet}
use Rattle.vg_ast.specs.declared.name.Name.{Name}
use Rattle.vg_names.specs.declared.scope.Scope.{Scope}
use Rattle.vg_names.specs.Definition.{Text}
use Rattle.vg_names.specs.Duplicate.{Claim, same_scope, is_single}

-- what a claim takes in its scope: its name, or all of a scope of which one thing may stand
abbrev pub key_text : Scope → Name → Text
key_text scope name = if is_single scope then [] else name.text

abbrev pub Key : Type 0
Key = Scope × Text

abbrev pub key_of : Claim → Key
key_of c = (c.scope, key_text c.scope c.name)

abbrev pub same_key : Key → Key → Bool
same_key a b = same_scope a.0 b.0 && bytes_eq a.1 b.1

-- the keys of a set, without where their names lie
abbrev pub keys_met : {S : Type 0} → IndexSet (Scope × Bor Text) S → List Key
keys_met met = map (λ (k : Scope × Bor Text). (k.0, k.1.now)) met.keys

-- the place of a claim, where its key was met before
abbrev pub repeat_at : List Key → Claim → Option ℕ
repeat_at met c = if list_any (same_key (key_of c)) met then Some c.name.at else None

-- the place of the first of the claims whose key was met before, or that repeats one of them
abbrev pub first_repeat : List Key → List Claim → Option ℕ
first_repeat met [] = None
first_repeat met (c ∷ cs) = if list_any (same_key (key_of c)) met then Some c.name.at else first_repeat (met ++ key_of c ∷ []) cs

-- the names of a place that may have one
abbrev pub names_in : Option Name → List Name
names_in None = []
names_in (Some name) = name ∷ []
