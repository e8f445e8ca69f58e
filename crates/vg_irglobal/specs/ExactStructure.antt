-- That named structures are read exactly.
use Rattle.std.specs.Prelude.{◌+◌, max, false, ◌∷◌, []}
use Rattle.vg_ir.specs.declared.module.Structure.{Structure}
use Rattle.vg_irparse.specs.ConcreteModule.{StructureTree}
use Rattle.vg_irparse.specs.GrammarModule.{is_structure}
use Rattle.vg_irparse.specs.SpellingModule.{spelled_structure}
use Rattle.vg_irparse.specs.TreeModule.{structure_of}
use Rattle.vg_irparse.specs.ExactType.{nesting, nesting_more}
use Rattle.vg_irread.specs.Kinds.{local}
use Rattle.vg_irread.specs.Exact.{Spelling, IsExact}
use Rattle.vg_irglobal.specs.ReadingStructure.{structure_at}

-- named structures, as they are spelled
abbrev pub a_structure : Spelling StructureTree Structure
a_structure = record {
  grammar = is_structure;
  spelled = spelled_structure;
  means = structure_of;
  nests = λ s. max (nesting s.first) (nesting_more s.more) + 1;
}

abbrev pub StructuresAreExact : Type 0
StructuresAreExact = IsExact a_structure (local ∷ []) false [] structure_at
