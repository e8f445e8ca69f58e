-- The grammar: which concrete trees of modules are of it.
use Rattle.std.specs.Prelude.{ℕ, Bool, true, false, not, ◌&&◌, ◌||◌, List, [], ◌∷◌, codes, Option}
use Rattle.std.specs.Option.{option_map_or}
use Rattle.std.specs.List.{list_all, list_any}
use Rattle.vg_irlex.specs.Lexing.{are_digits, is_quoted}
use Rattle.vg_irparse.specs.Placed.{Placed, Slot}
use Rattle.vg_irparse.specs.Text.{is_local, is_global, is_label, is_group, is_any}
use Rattle.vg_irparse.specs.Words.{is_one_of, entry_of, linkage_words, convention_words, address_words, target_words}
use Rattle.vg_irparse.specs.Concrete.{TypeTree, InitialTree}
use Rattle.vg_irparse.specs.Grammar.{is_text, is_optional, is_row, is_type, are_more_types, is_value_type, is_result, is_initial_at, are_within, is_attribute, is_function_attribute, is_align}
use Rattle.vg_irparse.specs.ConcreteInstruction.{InstructionTree, Paired}
use Rattle.vg_irparse.specs.GrammarInstruction.{is_phi, is_instruction, is_alloca, is_terminator, is_paired}
use Rattle.vg_irparse.specs.ConcreteModule.{BlockName, BodyTree, EntryTree, BlockTree, ParameterTree, FunctionTree, GlobalTree, StructureTree, ItemTree, source_filename, target, attributes, metadata_line, declaration_line, structure_item, global_item, function_item, ModuleTree}
use Rattle.vg_irparse.specs.SpellingModule.{spelled_module}
use Rattle.vg_irparse.specs.Spelling.{spelled_list}

abbrev pub is_block_name : BlockName → Bool
is_block_name n = is_label n.name.text

abbrev pub is_body : BodyTree → Bool
is_body b = (list_all (is_paired is_phi) b.phis && list_all (is_paired is_instruction) b.instructions) && is_paired is_terminator b.terminator

-- an `alloca` stands in the entry block alone
abbrev pub has_no_alloca : BodyTree → Bool
has_no_alloca b = not (list_any (λ (i : Paired InstructionTree). is_alloca i.body) b.instructions)

abbrev pub is_entry : EntryTree → Bool
is_entry e = is_optional is_block_name e.name && is_body e.body

abbrev pub is_block : BlockTree → Bool
is_block b = (is_block_name b.name && is_body b.body) && has_no_alloca b.body

abbrev pub is_parameter : ParameterTree → Bool
is_parameter p = (is_value_type p.ty && list_all is_attribute p.attributes) && is_optional (is_text is_local) p.name

abbrev pub is_linkage : Option Placed → Bool
is_linkage l = is_optional (λ (w : Placed). option_map_or (λ _. true) (entry_of linkage_words w.text) false) l

abbrev pub is_signature : FunctionTree → Bool
is_signature f =
    (is_linkage f.linkage && is_optional (is_text (is_one_of convention_words)) f.convention)
    && ((list_all is_attribute f.attributes && is_result f.gives) && (is_global f.name.text && is_optional (is_row is_parameter) f.parameters))

abbrev pub is_function : FunctionTree → Bool
is_function f =
    (is_signature f && (is_optional (is_text (is_one_of address_words)) f.address && list_all is_function_attribute f.function_attributes))
    && (is_entry f.entry && list_all is_block f.blocks)

abbrev pub kind_words : List (List ℕ)
kind_words = codes "global" ∷ codes "constant" ∷ []

abbrev pub is_global_item : GlobalTree → Bool
is_global_item g =
    (is_global g.name.text && (is_linkage g.linkage && is_optional (is_text (is_one_of address_words)) g.address))
    && ((is_one_of kind_words g.kind.text && is_type g.ty) && (is_initial_at g.ty g.initial && is_optional is_align g.align))

abbrev pub is_structure : StructureTree → Bool
is_structure s = is_local s.name.text && (is_type s.first && are_more_types s.more)

-- the lexemes that go on a line: none is the first on its line
abbrev pub are_of_line : List Placed → Bool
are_of_line inner = list_all (λ (l : Placed). is_any l.text && not l.fresh) inner

abbrev pub is_item : ItemTree → Bool
is_item (source_filename at equal text) = is_quoted text.text
is_item (target at kind equal text) = is_one_of target_words kind.text && is_quoted text.text
is_item (attributes at name equal opening inner closing) = is_group name.text && are_within (codes "}") inner
is_item (metadata_line at inner) = are_of_line inner
is_item (declaration_line at inner) = are_of_line inner
is_item (structure_item s) = is_structure s
is_item (global_item g) = is_global_item g
is_item (function_item f) = is_function f

-- whether an item goes on to the end of its line
abbrev pub is_line : ItemTree → Bool
is_line (metadata_line at inner) = true
is_line (declaration_line at inner) = true
is_line _ = false

-- whether a line ends before these lexemes
abbrev pub begins_line : List Slot → Bool
begins_line [] = true
begins_line (s ∷ ts) = s.lexeme.fresh

-- the items, of which those that are lines go on to the end of theirs
abbrev pub is_module : ModuleTree → Bool
is_module [] = true
is_module (i ∷ is) = (is_item i && (not (is_line i) || begins_line (spelled_module is))) && is_module is
