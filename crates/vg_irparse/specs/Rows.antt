-- A table of the code, with what its references point to.
use Rattle.std.specs.Prelude.{ℕ, List, map}
use denote.Ref.{Bor}

abbrev pub rows : {X : Type 0} → List (Bor (List ℕ) × X) → List (List ℕ × X)
rows {X} table = map (λ (e : Bor (List ℕ) × X). (e.0.now, e.1)) table

abbrev pub texts : List (Bor (List ℕ)) → List (List ℕ)
texts table = map (λ (e : Bor (List ℕ)). e.now) table
