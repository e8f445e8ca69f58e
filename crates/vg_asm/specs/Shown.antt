-- What is shown of a word: its line of assembly.
use Rattle.std.specs.Prelude.{ℕ, List, Option, codes, if◌then◌else◌, is_some, map, slice_get}
use Rattle.std.specs.Option.{option_and_then, option_map}
use Rattle.vg_isa.specs.declared.format.FieldDecl.{FieldDecl}
use Rattle.vg_isa.specs.declared.instr.Instr.{Instr}
use Rattle.vg_isa.specs.declared.isa.Parts.{Parts}
use Rattle.vg_isa.specs.Declaration.{bits_in}
use Rattle.vg_format.specs.Matching.{decoded}
use Rattle.vg_grammar.specs.Line.{line_of}
use Rattle.vg_grammar.specs.Reading.{fields_of}

-- the values that the fields of an instruction's format have in a word, in their order
abbrev pub values_in : Parts → Instr → ℕ → List ℕ
values_in d instr word = map (λ (field : FieldDecl). bits_in field.ranges word) (fields_of d instr)

-- a word of an instruction is shown as the line of the instruction with the word's values for its fields, and as `-`
-- where the instruction has no template
abbrev pub shown_as : Parts → ℕ → Instr → List ℕ
shown_as d word instr = if is_some instr.template then line_of d instr (values_in d instr word) else codes "-"

-- the instruction that a word is; None where it matches none
abbrev pub instr_of : Parts → ℕ → Option Instr
instr_of d word = option_and_then (λ k. slice_get d.instrs k) (decoded d word)

-- What is shown of a word: None exactly where it matches no instruction.
abbrev pub shown : Parts → ℕ → Option (List ℕ)
shown d word = option_map (shown_as d word) (instr_of d word)
