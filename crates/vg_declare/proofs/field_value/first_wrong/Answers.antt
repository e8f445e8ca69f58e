use Rattle.std.proofs.Common.{◌+◌, drop, subst, sym, ◌∙◌}
use Rattle.vg_type.specs.Setting.{setting_in, sorts_of}
use Rattle.vg_declare.specs.Named.{texts_in}
use Rattle.vg_declare.proofs.RangeLemmas.{rest_is}
use Rattle.vg_declare.proofs.EncodingLemmas.{FixesLeft, fix_right}
use Rattle.vg_declare.proofs.field_value.first_wrong.Goals as goal

pub loop-fix-preserved : goal.loop-fix-preserved
loop-fix-preserved c =
    let setting = setting_in c.args.context.now in
    let fields = sorts_of c.args.context.now c.args.fields.now in
    let fixes = c.args.fixes.now in
    let i = c.loop-fix.fix-index in
    fix_right setting fields fixes (texts_in c.loop-fix.named) c.fix-item.result (drop (i + 1) fixes)
    (subst (FixesLeft setting fields fixes (texts_in c.loop-fix.named)) (rest_is fixes i c.fix-item.result c.loop-fix-test.true c.fix-item.is) c.loop-fix.invariant)
    (sym c.in_ok-is_wrong.ensures.wrong ∙ c.if-branch.false) (texts_in c.is_wrong.new.named) (c.is_wrong.ensures.named (cc))
