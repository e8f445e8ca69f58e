-- What is found of an expression: where it begins, what it is, and the places in it, in the order of the text, at which
-- types and ranges are broken.
--
-- Types are broken at the first token of the smallest expression that has no type. That isn't asked of an expression in
-- which a range is broken, nor of one whose parts have no type: there the part is at fault.
use Rattle.std.specs.Prelude.{ℕ, Bool, true, false, ◌&&◌, ◌||◌, List, [], ◌∷◌, ◌++◌, length, nat_eq, Option, Some, None, if◌then◌else◌}
use Rattle.vg_type.specs.declared.value_type.ValueType.{ValueType}
use Rattle.vg_type.specs.declared.sort.Sort.{Sort}
use Rattle.vg_type.specs.declared.sort.Sort.TheVariants as sorts
use Rattle.vg_type.specs.ValueType.{fits, is_untyped, may_be}

pub record Judged : Type 0 where
  pub start : ℕ
  pub sort : Sort
  pub widths : List ℕ
  pub ranges : List ℕ

-- an expression at which nothing can be broken
abbrev pub sound : ℕ → Sort → Judged
sound start sort = record { start = start; sort = sort; widths = []; ranges = [] }

-- it has this type, unless it is blocked by a part without a type, or a range is broken in it
abbrev pub settled_sort : Bool → List ℕ → Option ValueType → Sort
settled_sort true ranges t = sorts.Untyped
settled_sort false (at ∷ more) t = sorts.Untyped
settled_sort false [] None = sorts.Untyped
settled_sort false [] (Some t) = sorts.Typed t

-- its own place, where it has no type
abbrev pub untyped_at : ℕ → Bool → List ℕ → Option ValueType → List ℕ
untyped_at start true ranges t = []
untyped_at start false (at ∷ more) t = []
untyped_at start false [] (Some t) = []
untyped_at start false [] None = start ∷ []

-- An expression that begins there and has this type, if it has one: with the places at which types are broken in its
-- parts, and all places at which ranges are broken in it.
abbrev pub settled : ℕ → Bool → List ℕ → List ℕ → Option ValueType → Judged
settled start blocked widths ranges t =
    record { start = start; sort = settled_sort blocked ranges t; widths = untyped_at start blocked ranges t ++ widths; ranges = ranges }

-- a place, where a test holds
abbrev pub told : Bool → ℕ → List ℕ
told test at = if test then at ∷ [] else []

-- ---- places with a type

abbrev pub number_unfit : ValueType → ℕ → Sort → List ℕ
number_unfit t at (sorts.Whole n) = if fits n t then [] else at ∷ []
number_unfit t at _ = []

abbrev pub unfit_at : Option ValueType → ℕ → Sort → List ℕ
unfit_at None at sort = []
unfit_at (Some t) at sort = number_unfit t at sort

-- the first token of a whole number that doesn't fit the type that it takes
abbrev pub unfit : Option ValueType → Judged → List ℕ
unfit t j = unfit_at t j.start j.sort

abbrev pub type_unlike : ValueType → ℕ → Sort → List ℕ
type_unlike t at sorts.Untyped = []
type_unlike t at sort = if may_be t sort then [] else at ∷ []

abbrev pub unlike_at : Option ValueType → ℕ → Sort → List ℕ
unlike_at None at sort = []
unlike_at (Some t) at sort = type_unlike t at sort

-- the first token of an expression that has another type than its place
abbrev pub unlike : Option ValueType → Judged → List ℕ
unlike t j = unlike_at t j.start j.sort

-- ---- places for whole numbers

abbrev pub type_found : ℕ → Sort → List ℕ
type_found at (sorts.Typed t) = at ∷ []
type_found at _ = []

-- the first token of an expression with a type, where a whole number is asked for, behind what is broken in it
abbrev pub number_widths : Judged → List ℕ
number_widths j = j.widths ++ type_found j.start j.sort

-- ---- arguments

abbrev pub is_any_untyped : List Judged → Bool
is_any_untyped [] = false
is_any_untyped (j ∷ more) = is_untyped j.sort || is_any_untyped more

abbrev pub all_widths : List Judged → List ℕ
all_widths [] = []
all_widths (j ∷ more) = j.widths ++ all_widths more

-- the places at which ranges are broken in arguments, where each takes the type of its parameter
abbrev pub argument_ranges : List (Option ValueType) → List Judged → List ℕ
argument_ranges (t ∷ ts) (j ∷ more) = j.ranges ++ unfit t j ++ argument_ranges ts more
argument_ranges [] (j ∷ more) = j.ranges ++ argument_ranges [] more
argument_ranges ts [] = []

abbrev pub is_argument : Option ValueType → Sort → Bool
is_argument None sort = false
is_argument (Some t) sort = may_be t sort

-- as many arguments as parameters, each of its parameter's type
abbrev pub are_arguments : List (Option ValueType) → List Judged → Bool
are_arguments [] [] = true
are_arguments (t ∷ ts) (j ∷ more) = is_argument t j.sort && are_arguments ts more
are_arguments _ _ = false

-- arguments take types where there are as many as parameters
abbrev pub types_for : List (Option ValueType) → List Judged → List (Option ValueType)
types_for ts arguments = if nat_eq (length ts) (length arguments) then ts else []
