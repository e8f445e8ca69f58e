-- By what stands in place of names.
use Rattle.std.proofs.lemmas.Result.{IfOk-weaker, IfErr-weaker}
use Rattle.vg_top.proofs.Described.{is_built, told_unlike}
use Rattle.vg_top.proofs.description.isa_of_plain.Goals as goal

pub returns-clause-isa : goal.returns-clause-isa
returns-clause-isa c = IfOk-weaker c.isa_of.result _ _ (is_built c.args.plain.now.description) c.isa_of.ensures.isa

pub returns-clause-fault : goal.returns-clause-fault
returns-clause-fault c = IfErr-weaker c.isa_of.result _ _ (told_unlike c.args.plain.now.description) c.isa_of.ensures.fault
