use Rattle.std.proofs.Common.{drop}
use Rattle.vg_type.specs.Setting.{setting_in, sorts_of}
use Rattle.vg_declare.specs.Named.{texts_in}
use Rattle.vg_declare.proofs.EncodingLemmas.{FixesLeft}
use Rattle.vg_declare.proofs.field_value.first_wrong.Given as goal

abbrev pub invariant-loop-fix : goal.invariant-loop-fix
invariant-loop-fix l = FixesLeft (setting_in l.context) (sorts_of l.context l.fields) l.fixes (texts_in l.named) (drop l.fix-index l.fixes)
