-- The places at which types and ranges are broken, each list in the order of the text.
use Rattle.std.specs.Prelude.{ℕ, List, [], ◌∷◌, ◌++◌, Option, Some, None}
use Rattle.vg_type.specs.declared.value_type.ValueType.{ValueType}
use Rattle.vg_type.specs.Judged.{Judged, unfit, unlike, number_widths}

pub record Faults : Type 0 where
  pub widths : List ℕ
  pub ranges : List ℕ

abbrev pub no_faults : Faults
no_faults = record { widths = []; ranges = [] }

-- of what stands before and of what stands behind it
abbrev pub both : Faults → Faults → Faults
both front behind = record { widths = front.widths ++ behind.widths; ranges = front.ranges ++ behind.ranges }

-- those of the parts of a list
abbrev pub of_each : {X : Type 0} → (X → Faults) → List X → Faults
of_each faults [] = no_faults
of_each faults (x ∷ xs) = both (faults x) (of_each faults xs)

abbrev pub of_any : {X : Type 0} → (X → Faults) → Option X → Faults
of_any faults None = no_faults
of_any faults (Some x) = faults x

-- those in an expression
abbrev pub in_expression : Judged → Faults
in_expression j = record { widths = j.widths; ranges = j.ranges }

-- an expression at a place of this type: it has the type, or is a whole number that fits it
abbrev pub at_type : Option ValueType → Judged → Faults
at_type t j = record { widths = j.widths ++ unlike t j; ranges = j.ranges ++ unfit t j }

-- an expression at a place for a whole number
abbrev pub at_number : Judged → Faults
at_number j = record { widths = number_widths j; ranges = j.ranges }
