-- That items without a trace are read exactly.
use Rattle.std.specs.Prelude.{◌&&◌, Bool, true, false, [], codes}
use Rattle.vg_irparse.specs.ConcreteModule.{ItemTree, source_filename, target, attributes, metadata_line, declaration_line, structure_item, global_item, function_item}
use Rattle.vg_irparse.specs.GrammarModule.{is_item}
use Rattle.vg_irparse.specs.SpellingModule.{spelled_item}
use Rattle.vg_irread.specs.Exact.{Spelling, IsExact}
use Rattle.vg_irglobal.specs.ReadingInitial.{only}
use Rattle.vg_irglobal.specs.ReadingSkipped.{source_filename_at, target_at}

-- items of one form, which leave no trace
abbrev pub skipped : (ItemTree → Bool) → Spelling ItemTree (Unit {0})
skipped form = record { grammar = λ i. form i && is_item i; spelled = spelled_item; means = λ i. tt; nests = λ i. 0 }

abbrev pub is_source_filename : ItemTree → Bool
is_source_filename (source_filename at equal text) = true
is_source_filename _ = false

abbrev pub is_target : ItemTree → Bool
is_target (target at word equal text) = true
is_target _ = false

abbrev pub SourceFilenamesAreExact : Type 0
SourceFilenamesAreExact = IsExact (skipped is_source_filename) (only (codes "source_filename")) false [] source_filename_at

abbrev pub TargetsAreExact : Type 0
TargetsAreExact = IsExact (skipped is_target) (only (codes "target")) false [] target_at
