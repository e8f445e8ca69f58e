-- A fault of the rules is one of the text.
use Rattle.std.proofs.Common.{sym, subst}
use Rattle.std.proofs.lemmas.Result.{IfErr-weaker}
use Rattle.vg_top.specs.declared.description_fault.DescriptionFault.{DescriptionFault}
use Rattle.vg_top.specs.Description.{IsFaultOf}
use Rattle.vg_top.proofs.Described.{err_then, rule_faulty}
use Rattle.vg_top.proofs.description.folded.Goals as goal

pub returns-in_err-fold-clause-fault : goal.returns-in_err-fold-clause-fault
returns-in_err-fold-clause-fault c =
    IfErr-weaker c.from_residual.result _ _ (λ f g bytes has. subst (λ (x : DescriptionFault). IsFaultOf bytes x) (sym g) (rule_faulty bytes c.args.tree has c.in_err-fold.field-0.0 c.in_err-fold.ensures.fault)) (err_then c.from_residual.result _ c.from_residual.ensures.1)
