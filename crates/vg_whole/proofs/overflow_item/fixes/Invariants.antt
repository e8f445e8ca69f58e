use Rattle.std.proofs.Common.{◌≡◌, drop, []}
use Rattle.vg_ast.specs.declared.fix.Fix.{Fix}
use Rattle.vg_names.specs.First.{first_of}
use Rattle.vg_names.specs.Unknown.{in_each}
use Rattle.vg_whole.specs.Overflow.{expression_overflows}
use Rattle.vg_whole.specs.Worths.{constants_by}
use Rattle.vg_whole.proofs.overflow_item.fixes.Given as goal

abbrev pub invariant-loop-fix : goal.invariant-loop-fix
invariant-loop-fix l =
    first_of (in_each (λ (fix : Fix). expression_overflows (constants_by l.table.items.now l.worths) fix.value []) l.fixes)
    ≡ first_of (in_each (λ (fix : Fix). expression_overflows (constants_by l.table.items.now l.worths) fix.value []) (drop l.fix-index l.fixes))
