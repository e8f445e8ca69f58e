-- What the items of a description define.
use Rattle.std.specs.Prelude.{ℕ, Bool, true, false, List, [], ◌∷◌, map, Option, Some, None, if◌then◌else◌}
use Rattle.std.specs.Str.{bytes_eq}
use Rattle.vg_ast.specs.declared.name.Name.{Name}
use Rattle.vg_ast.specs.declared.item.Item.{Item}
use Rattle.vg_ast.specs.declared.item.Item.TheVariants as items
use Rattle.vg_ast.specs.declared.field.Field.{Field}
use Rattle.vg_names.specs.declared.meaning.Meaning.{Meaning}
use Rattle.vg_names.specs.declared.meaning.Meaning.TheVariants as meanings

-- the characters of a name
abbrev pub Text : Type 0
Text = List ℕ

-- what an item defines: a name and what it stands for. An encoding and an assembly use the name of an instruction.
abbrev pub definition_of : Item → Option (Name × Meaning)
definition_of (items.Constant at name value) = Some (name, meanings.Constant)
definition_of (items.Using at name meaning) = Some (name, meanings.Alias)
definition_of (items.Function at name parameters result body) = Some (name, meanings.Function)
definition_of (items.ProgramCounter at name declared) = Some (name, meanings.ProgramCounter)
definition_of (items.Memory at name address cell) = Some (name, meanings.Memory)
definition_of (items.Register at name declared) = Some (name, meanings.Register)
definition_of (items.RegisterFile at name index declared zero) = Some (name, meanings.RegisterFile)
definition_of (items.Format at name declared fields) = Some (name, meanings.Format)
definition_of (items.Instruction at name format behaviour) = Some (name, meanings.Instruction)
definition_of (items.Encoding at name fixes) = None
definition_of (items.Assembly at name parts) = None

abbrev pub defines : Text → Option (Name × Meaning) → Bool
defines text None = false
defines text (Some definition) = bytes_eq definition.0.text text

-- the first item that defines a name
abbrev pub item_named : List Item → Text → Option Item
item_named [] text = None
item_named (item ∷ items) text = if defines text (definition_of item) then Some item else item_named items text

abbrev pub meaning_of : Option (Name × Meaning) → Option Meaning
meaning_of None = None
meaning_of (Some definition) = Some definition.1

-- what a name stands for among the items
abbrev pub meaning_in : List Item → Text → Option Meaning
meaning_in [] text = None
meaning_in (item ∷ items) text = if defines text (definition_of item) then meaning_of (definition_of item) else meaning_in items text

-- the fields of a format
abbrev pub fields_of_format : Option Item → List Text
fields_of_format (Some (items.Format at name declared fields)) = map (λ (field : Field). field.name.text) fields
fields_of_format _ = []

abbrev pub fields_of_instruction : List Item → Option Item → List Text
fields_of_instruction all (Some (items.Instruction at name format behaviour)) = fields_of_format (item_named all format.text)
fields_of_instruction all _ = []

-- the fields of the format of an instruction, none where the items define neither
abbrev pub fields_of : List Item → Text → List Text
fields_of all instruction = fields_of_instruction all (item_named all instruction)

-- whether a name is among these
abbrev pub is_among : Text → List Text → Bool
is_among text [] = false
is_among text (t ∷ ts) = if bytes_eq t text then true else is_among text ts
