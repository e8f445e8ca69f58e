-- What the concrete tree of a module stands for.
use Rattle.std.specs.Prelude.{ℕ, ◌+◌, Bool, true, false, if◌then◌else◌, List, [], ◌∷◌, ◌++◌, codes, decimal, map, Option, Some, None}
use Rattle.std.specs.Option.{option_map, option_map_or}
use Rattle.vg_irlex.specs.Lexing.{are_digits}
use Rattle.vg_ir.specs.declared.name.NameAt.{NameAt}
use Rattle.vg_ir.specs.declared.ty.Ty.TheVariants as ty
use Rattle.vg_ir.specs.declared.global.Global.{Global}
use Rattle.vg_ir.specs.declared.global.Linkage.{Linkage}
use Rattle.vg_ir.specs.declared.function.Function.{Function}
use Rattle.vg_ir.specs.declared.function.Parameter.{Parameter}
use Rattle.vg_ir.specs.declared.block.Block.{Block}
use Rattle.vg_ir.specs.declared.module.Structure.{Structure}
use Rattle.vg_ir.specs.declared.module.Parts.{Parts}
use Rattle.vg_irparse.specs.Placed.{Placed, Mark, Slot}
use Rattle.vg_irparse.specs.Text.{name_bytes, bare_bytes, name_of, spot}
use Rattle.vg_irparse.specs.Words.{same_text, entry_of, linkage_words}
use Rattle.vg_irparse.specs.Concrete.{TypeTree}
use Rattle.vg_irparse.specs.SpellingModule.{spelled_body}
use Rattle.vg_irparse.specs.Tree.{optional_items, name_at, type_of, types_of, all_leaves, more_leaves, start_of, type_at, result_type, initial_of, alignment_of}
use Rattle.vg_irparse.specs.TreeInstruction.{instructions_of, terminator_of, phi_of}
use Rattle.vg_irparse.specs.ConcreteInstruction.{PhiTree, Paired}
use Rattle.vg_irparse.specs.ConcreteModule.{BlockName, BodyTree, EntryTree, BlockTree, ParameterTree, FunctionTree, GlobalTree, StructureTree, ItemTree, source_filename, target, attributes, metadata_line, declaration_line, structure_item, global_item, function_item, ModuleTree}

-- ---- parameters: one without a name has the number of unnamed and numbered ones before it

-- whether a parameter is unnamed or numbered
abbrev pub is_numbered : ParameterTree → Bool
is_numbered p = option_map_or (λ (l : Placed). are_digits (name_bytes l.text)) p.name true

-- so many and one more, if a parameter is one of them
abbrev pub counted : ℕ → ParameterTree → ℕ
counted n p = if is_numbered p then (n + 1) else n

-- the name of a parameter, before which so many are unnamed or numbered
abbrev pub parameter_name : ℕ → ParameterTree → NameAt
parameter_name n p = option_map_or name_at p.name (record { name = name_of (decimal n); at = spot (start_of p.ty) })

abbrev pub parameters_from : ℕ → List ParameterTree → List Parameter
parameters_from n [] = []
parameters_from n (p ∷ ps) = record { ty = type_at p.ty; name = parameter_name n p } ∷ parameters_from (counted n p) ps

-- how many of the parameters are unnamed or numbered, with so many before them
abbrev pub numbered_from : ℕ → List ParameterTree → ℕ
numbered_from n [] = n
numbered_from n (p ∷ ps) = numbered_from (counted n p) ps

-- ---- blocks: a first one without a name has the next such number

abbrev pub block_name : BlockName → NameAt
block_name n = record { name = name_of (bare_bytes n.name.text); at = spot n.name.at }

abbrev pub block_of : NameAt → BodyTree → Block
block_of name b = record {
  name = name;
  phis = map (λ (p : Paired PhiTree). phi_of p.body) b.phis;
  instructions = instructions_of b.instructions;
  terminator = terminator_of b.terminator.body;
}

-- where the first of these lexemes stands
abbrev pub first_place : List Slot → ℕ
first_place [] = 0
first_place (s ∷ ts) = s.lexeme.at

-- the name of the entry block where so many parameters are unnamed or numbered
abbrev pub entry_name : ℕ → EntryTree → NameAt
entry_name n e = option_map_or block_name e.name (record { name = name_of (decimal n); at = spot (first_place (spelled_body e.body [])) })

abbrev pub blocks_of : FunctionTree → List Block
blocks_of f =
    block_of (entry_name (numbered_from 0 (optional_items f.parameters)) f.entry) f.entry.body
    ∷ map (λ (b : BlockTree). block_of (block_name b.name) b.body) f.blocks

-- ---- functions, globals and structures

abbrev pub linkage_of : Option Placed → Option Linkage
linkage_of None = None
linkage_of (Some w) = entry_of linkage_words w.text

abbrev pub function_of : FunctionTree → Function
function_of f = record {
  name = name_at f.name;
  linkage = linkage_of f.linkage;
  gives = result_type f.gives;
  parameters = parameters_from 0 (optional_items f.parameters);
  blocks = blocks_of f;
}

abbrev pub global_of : GlobalTree → Global
global_of g = record {
  name = name_at g.name;
  linkage = linkage_of g.linkage;
  constant = same_text (codes "constant") g.kind.text;
  ty = type_at g.ty;
  initial = initial_of g.initial;
  align = option_map alignment_of g.align;
}

abbrev pub structure_of : StructureTree → Structure
structure_of s = record {
  name = name_at s.name;
  ty = record { ty = ty.Struct (type_of s.first ∷ types_of s.more); at = spot s.opening.at; leaves = all_leaves s.first ++ more_leaves s.more };
}

-- what an item adds in front of the parts of those behind it
abbrev pub with_item : ItemTree → Parts → Parts
with_item (source_filename at equal text) m = m
with_item (target at kind equal text) m = m
with_item (attributes at name equal opening inner closing) m = m
with_item (metadata_line at inner) m = m
with_item (declaration_line at inner) m = m
with_item (structure_item s) m = record { structures = structure_of s ∷ m.structures; globals = m.globals; functions = m.functions }
with_item (global_item g) m = record { structures = m.structures; globals = global_of g ∷ m.globals; functions = m.functions }
with_item (function_item f) m = record { structures = m.structures; globals = m.globals; functions = function_of f ∷ m.functions }

-- the parts of a module, each list in the order of the text
abbrev pub module_of : ModuleTree → Parts
module_of [] = record { structures = []; globals = []; functions = [] }
module_of (i ∷ is) = with_item i (module_of is)
