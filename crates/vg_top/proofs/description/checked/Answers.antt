-- A rule that a folded description breaks is broken by its text.
use Rattle.std.proofs.Common.{sym, subst}
use Rattle.std.proofs.lemmas.Result.{IfErr-weaker}
use Rattle.vg_top.specs.declared.description_fault.DescriptionFault.{DescriptionFault}
use Rattle.vg_top.specs.Description.{IsFaultOf}
use Rattle.vg_top.proofs.Described.{check_faulty, err_then}
use Rattle.vg_top.proofs.description.checked.Goals as goal

pub returns-in_err-check-clause-fault : goal.returns-in_err-check-clause-fault
returns-in_err-check-clause-fault c =
    IfErr-weaker c.from_residual.result _ _
    (λ f g bytes tree has folded. subst (λ (x : DescriptionFault). IsFaultOf bytes x) (sym g) (check_faulty bytes tree has c.args.plain.now folded c.in_err-check.field-0.0 c.in_err-check.ensures.fault))
    (err_then c.from_residual.result _ c.from_residual.ensures.1)
