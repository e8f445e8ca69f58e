use Rattle.vg_names.proofs.ParameterLemmas.{names_read}
use Rattle.vg_names.proofs.uses.names_of_parameters.Goals as goal

pub loop-parameter-preserved : goal.loop-parameter-preserved
loop-parameter-preserved c =
    names_read c.args.parameters.now c.loop-parameter.parameter-index c.parameter-item.result c.as_slice.result c.loop-parameter.names c.insert.new.self c.loop-parameter-test.true c.parameter-item.is c.as_slice.ensures c.in_ok-insert.ensures.updates
    c.loop-parameter.invariant
