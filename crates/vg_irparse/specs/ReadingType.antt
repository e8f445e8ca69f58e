-- Reading types from the front of a list of lexemes. The reader of a type in another is a parameter.
use Rattle.std.specs.Prelude.{ℕ, zero, suc, ◌+◌, ◌<◌, Bool, true, false, if◌then◌else◌, List, [], ◌∷◌, ◌++◌, length, codes, Option, Some, None}
use Rattle.std.specs.Str.{bytes_eq}
use Rattle.vg_ir.specs.declared.spot.Spot.{Spot}
use Rattle.vg_ir.specs.declared.ty.Ty.{Ty}
use Rattle.vg_ir.specs.declared.ty.Ty.TheVariants as ty
use Rattle.vg_ir.specs.declared.ty.TypeAt.{TypeAt}
use Rattle.vg_irparse.specs.declared.role.Role.{Role}
use Rattle.vg_irparse.specs.declared.role.Role.TheVariants as roles
use Rattle.vg_irparse.specs.declared.role.Wanted.{Wanted}
use Rattle.vg_irparse.specs.declared.part.Part.{Part}
use Rattle.vg_irparse.specs.Placed.{Placed}
use Rattle.vg_irparse.specs.Text.{is_local, digits_value, name_bytes, name_of, spot}
use Rattle.vg_irparse.specs.Words.{entry_of, integer_words}
use Rattle.vg_irparse.specs.Grammar.{is_length}
use Rattle.vg_irparse.specs.Answer.{Answer, reads, leaves, too_deep, ◌>>=◌}
use Rattle.vg_irparse.specs.Taking.{fixed_at, separator_at}

-- a place where this is wanted, not behind a type
abbrev pub wanted : Role → Wanted
wanted r = record { role = r; behind_type = false }

-- a place behind a type
abbrev pub behind_type : Wanted
behind_type = record { role = roles.Plain; behind_type = true }

-- a type of one lexeme
abbrev pub simple_by : Option ℕ → List ℕ → Option Ty
simple_by (Some width) text = Some (ty.Int width)
simple_by None text =
    if bytes_eq text (codes "ptr") then Some ty.Ptr
    else (if is_local text then Some (ty.Named (name_of (name_bytes text))) else None)

abbrev pub simple_type : List ℕ → Option Ty
simple_type text = simple_by (entry_of integer_words text) text

-- a number of elements
abbrev pub length_at : List Placed → Answer (ℕ × List Placed)
length_at [] = leaves 0 (wanted roles.Plain)
length_at (t ∷ ts) = if is_length t.text then reads (digits_value t.text, ts) else leaves (length ts + 1) (wanted roles.Plain)

-- what reads a type where this is wanted
abbrev pub Reader : Type 0
Reader = Wanted → List Placed → Answer (Part × List Placed)

-- behind a `[`
unfoldable pub array_at : Reader → List Placed → Answer (Part × List Placed)
array_at read ts = do
  count ← length_at ts
  by ← fixed_at (codes "x") (wanted roles.Plain) count.1
  element ← read (wanted roles.AnyType) by.1
  closing ← fixed_at (codes "]") behind_type element.1
  reads (record { ty = ty.Array count.0 element.0.ty; leaves = element.0.leaves }, closing.1)

-- a field, and whether it is the last one
unfoldable pub field_at : Reader → List Placed → Answer ((Part × Bool) × List Placed)
field_at read ts = do
  field ← read (wanted roles.AnyType) ts
  behind ← separator_at (codes "}") behind_type field.1
  reads ((field.0, behind.0), behind.1)

-- The fields of a structure from one that must come on, up to the `}` behind them: these types, with integers, `ptr`s and names
-- there, are read in front. The fuel is at least the number of lexemes.
unfoldable pub fields_at : ℕ → Reader → List Ty → List Spot → List Placed → Answer (Part × List Placed)
fields_at zero read types spots ts = too_deep
fields_at (suc fuel) read types spots ts =
    field_at read ts >>= λ field.
    if field.0.1 then reads (record { ty = ty.Struct (types ++ field.0.0.ty ∷ []); leaves = spots ++ field.0.0.leaves }, field.1)
    else fields_at fuel read (types ++ field.0.0.ty ∷ []) (spots ++ field.0.0.leaves) field.1

-- a type with parts, of which the first lexeme is this
unfoldable pub bracketed_at : Reader → Wanted → Placed → List Placed → Answer (Part × List Placed)
bracketed_at read w t ts =
    if bytes_eq t.text (codes "[") then array_at read ts
    else (if bytes_eq t.text (codes "{") then fields_at (length ts) read [] [] ts else leaves (length ts + 1) w)

-- a type that begins with this lexeme, or one with parts
abbrev pub part_by : Option Ty → Reader → Wanted → Placed → List Placed → Answer (Part × List Placed)
part_by (Some t) read w first ts = reads (record { ty = t; leaves = spot first.at ∷ [] }, ts)
part_by None read w first ts = bracketed_at read w first ts

-- a type with at most so many brackets in one another
unfoldable pub part_within : ℕ → Reader
part_within zero w ts = too_deep
part_within (suc fuel) w [] = leaves 0 w
part_within (suc fuel) w (t ∷ ts) = part_by (simple_type t.text) (part_within fuel) w t ts

-- the greatest number of brackets in one another
abbrev pub most_brackets : ℕ
most_brackets = 1000

-- a type with its place
abbrev pub placed_type : ℕ → Part × List Placed → TypeAt × List Placed
placed_type at p = (record { ty = p.0.ty; at = spot at; leaves = p.0.leaves }, p.1)

abbrev pub type_by : Option Ty → Wanted → Placed → List Placed → Answer (TypeAt × List Placed)
type_by (Some t) w first ts = reads (record { ty = t; at = spot first.at; leaves = [] }, ts)
type_by None w first ts = bracketed_at (part_within most_brackets) w first ts >>= λ p. reads (placed_type first.at p)

-- a type of any kind
abbrev pub type_at : Wanted → List Placed → Answer (TypeAt × List Placed)
type_at w [] = leaves 0 w
type_at w (t ∷ ts) = type_by (simple_type t.text) w t ts
