-- Going in steps from one to another.
use Rattle.std.specs.Prelude.{Bool, ◌&&◌, ◌||◌, List, [], ◌∷◌}

module _ {A : Type 0} (step : A → A → Bool) where
  -- one or more steps lead from one to another; between them they come to these alone, in any order
  abbrev pub leads : List A → A → A → Bool
  leads [] a b = step a b
  leads (c ∷ cs) a b = leads cs a b || (leads cs a c && leads cs c b)
