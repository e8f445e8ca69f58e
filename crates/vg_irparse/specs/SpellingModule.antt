-- The lexemes that the concrete tree of a block, a function, a global or a module spells, with others behind them: a line for
-- each alternative of the grammar.
use Rattle.std.specs.Prelude.{ℕ, true, List, [], ◌∷◌, codes, Option, Some, None}
use Rattle.vg_irparse.specs.Placed.{Placed, Mark, plain, any_type, value_type, Slot, free, word, marked, fixed, last_of_type}
use Rattle.vg_irparse.specs.Spelling.{spelled_type, spelled_more_types, spelled_initial, spelled_result, spelled_list, spelled_row, spelled_optional, spelled_free, spelled_word, spelled_attributes, spelled_function_attributes, spelled_align}
use Rattle.vg_irparse.specs.SpellingInstruction.{spelled_instruction, spelled_terminator, spelled_phi, spelled_paired}
use Rattle.vg_irparse.specs.ConcreteModule.{BlockName, BodyTree, EntryTree, BlockTree, ParameterTree, FunctionTree, GlobalTree, StructureTree, ItemTree, source_filename, target, attributes, metadata_line, declaration_line, structure_item, global_item, function_item, ModuleTree}

abbrev pub spelled_block_name : BlockName → List Slot → List Slot
spelled_block_name n ts = free plain n.name ∷ word (codes ":") n.colon ∷ ts

abbrev pub spelled_body : BodyTree → List Slot → List Slot
spelled_body b ts =
    spelled_list (spelled_paired spelled_phi) b.phis (spelled_list (spelled_paired spelled_instruction) b.instructions (spelled_paired spelled_terminator b.terminator ts))

abbrev pub spelled_entry : EntryTree → List Slot → List Slot
spelled_entry e ts = spelled_optional spelled_block_name e.name (spelled_body e.body ts)

abbrev pub spelled_block : BlockTree → List Slot → List Slot
spelled_block b ts = spelled_block_name b.name (spelled_body b.body ts)

abbrev pub spelled_parameter : ParameterTree → List Slot → List Slot
spelled_parameter p ts = spelled_type value_type p.ty (spelled_attributes p.attributes (spelled_optional spelled_free p.name ts))

-- define .. @name ( parameters )
abbrev pub spelled_signature : FunctionTree → List Slot → List Slot
spelled_signature f ts =
    word (codes "define") f.at ∷ spelled_optional spelled_free f.linkage (spelled_word (codes "dso_local") f.dso_local (spelled_optional spelled_free f.convention
    (spelled_attributes f.attributes (spelled_result f.gives (free plain f.name
    ∷ word (codes "(") f.opening ∷ spelled_optional (spelled_row spelled_parameter) f.parameters (word (codes ")") f.closing ∷ ts))))))

abbrev pub spelled_function : FunctionTree → List Slot → List Slot
spelled_function f ts =
    spelled_signature f (spelled_optional spelled_free f.address (spelled_function_attributes f.function_attributes (word (codes "{") f.body_opening
    ∷ spelled_entry f.entry (spelled_list spelled_block f.blocks (word (codes "}") f.body_closing ∷ ts)))))

abbrev pub spelled_global : GlobalTree → List Slot → List Slot
spelled_global g ts =
    free plain g.name ∷ word (codes "=") g.equal ∷ spelled_optional spelled_free g.linkage (spelled_word (codes "dso_local") g.dso_local (spelled_optional spelled_free g.address
    (free plain g.kind ∷ spelled_type any_type g.ty (spelled_initial g.initial (spelled_optional spelled_align g.align ts)))))

abbrev pub spelled_structure : StructureTree → List Slot → List Slot
spelled_structure s ts =
    free plain s.name ∷ word (codes "=") s.equal ∷ word (codes "type") s.word ∷ fixed any_type (codes "{") s.opening
    ∷ spelled_type any_type s.first (spelled_more_types s.more (last_of_type plain (marked (codes "}") s.closing) ∷ ts))

abbrev pub spelled_item : ItemTree → List Slot → List Slot
spelled_item (source_filename at equal text) ts = word (codes "source_filename") at ∷ word (codes "=") equal ∷ free plain text ∷ ts
spelled_item (target at kind equal text) ts = word (codes "target") at ∷ free plain kind ∷ word (codes "=") equal ∷ free plain text ∷ ts
spelled_item (attributes at name equal opening inner closing) ts =
    word (codes "attributes") at ∷ free plain name ∷ word (codes "=") equal ∷ word (codes "{") opening ∷ spelled_list spelled_free inner (word (codes "}") closing ∷ ts)
spelled_item (metadata_line at inner) ts = word (codes "!") (record { at = at; fresh = true }) ∷ spelled_list spelled_free inner ts
spelled_item (declaration_line at inner) ts = word (codes "declare") at ∷ spelled_list spelled_free inner ts
spelled_item (structure_item s) ts = spelled_structure s ts
spelled_item (global_item g) ts = spelled_global g ts
spelled_item (function_item f) ts = spelled_function f ts

-- the lexemes of a module
abbrev pub spelled_module : ModuleTree → List Slot
spelled_module m = spelled_list spelled_item m []
