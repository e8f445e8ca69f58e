-- The names that were met, by their characters.
use Rattle.std.specs.Prelude.{List, map}
use Rattle.std.specs.Borrow.{Bor}
use Rattle.indexmap.specs.IndexSet.{IndexSet}
use Rattle.vg_names.specs.Definition.{Text}

-- the texts of a set, without where they lie
abbrev pub texts_in : {S : Type 0} → IndexSet (Bor Text) S → List Text
texts_in met = map (λ (text : Bor Text). text.now) met.keys
