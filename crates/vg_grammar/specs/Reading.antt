-- What a text reads as: an instruction with values for its fields.
use Rattle.std.specs.Prelude.{◌≡◌, ℕ, ◌^◌, Bool, true, false, ◌&&◌, nat_eq, nat_lt, IsSome, IsTrue, List, [], ◌∷◌, Some, slice_get}
use Rattle.std.specs.List.{list_all}
use Rattle.std.specs.Option.{option_map_or}
use Rattle.vg_bits.specs.BitValue.{BitValue}
use Rattle.vg_isa.specs.declared.format.FieldDecl.{FieldDecl}
use Rattle.vg_isa.specs.declared.format.Format.{Format}
use Rattle.vg_isa.specs.declared.ids.FieldId.{FieldId}
use Rattle.vg_isa.specs.declared.instr.Instr.{Instr}
use Rattle.vg_isa.specs.declared.isa.Parts.{Parts}
use Rattle.vg_isa.specs.Declaration.{bits_of}
use Rattle.vg_grammar.specs.Lexeme.{lexemes}
use Rattle.vg_grammar.specs.Line.{value_of, line_of}

-- an instruction by its number, and the values of the fields of its format, in their order
pub record Reading : Type 0 where
  pub instr : ℕ
  pub values : List ℕ

-- the fields of an instruction's format
abbrev pub fields_of : Parts → Instr → List FieldDecl
fields_of d instr = option_map_or (λ (format : Format). format.fields) (slice_get d.formats instr.format.0) []

-- there is a value for each field, and it fits
abbrev pub fit_each : List FieldDecl → List ℕ → Bool
fit_each [] [] = true
fit_each [] (value ∷ values) = false
fit_each (field ∷ fields) [] = false
fit_each (field ∷ fields) (value ∷ values) = nat_lt value (2 ^ bits_of field.ranges) && fit_each fields values

-- the fields that the encoding fixes have its values
abbrev pub are_fixed : List (FieldId × BitValue) → List ℕ → Bool
are_fixed fixed values = list_all (λ (fix : FieldId × BitValue). nat_eq (value_of values fix.0) fix.1.number) fixed

-- the values are those of a word of the instruction
abbrev pub are_values : Parts → Instr → List ℕ → Bool
are_values d instr values = fit_each (fields_of d instr) values && are_fixed instr.fixed values

-- The text reads as an instruction with values: it has the lexemes of its line.
pub record Reads (d : Parts) (text : List ℕ) (r : Reading) : Type 0 where
  pub instr : Instr
  pub is_there : slice_get d.instrs r.instr ≡ Some instr
  pub has_line : IsSome instr.template
  pub values : IsTrue (are_values d instr r.values)
  pub same : lexemes text ≡ lexemes (line_of d instr r.values)
