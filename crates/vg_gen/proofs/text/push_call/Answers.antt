-- Each piece stands behind those before it.
use Rattle.std.proofs.Common.{rules, decimal, codes}
use Rattle.vg_gen.specs.ModuleText.{arguments}
use Rattle.vg_gen.proofs.Texts.{joined}
use Rattle.vg_gen.proofs.text.push_call.Goals as goal

pub returns : goal.returns
returns c =
    let k = c.args.k in
    let whole = joined c.args.out.now.items c.push_numbered.new.out.items c.push_numbered-2.new.out.items c.push_arguments.new.out.items
    (codes "  %r") (decimal k) (codes " = call i16 @f") (decimal k) (arguments k) c.in_ok-push_numbered.ensures c.in_ok-push_numbered-2.ensures in
    search (rules, whole)
