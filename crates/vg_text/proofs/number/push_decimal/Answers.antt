use Rattle.std.proofs.Common.{ap, ◌∙◌, arith, ◌++◌}
use Rattle.std.proofs.lemmas.Result.{on_ok_weaker}
use Rattle.vg_text.proofs.Decimal.{filled_more, filled_last}
use Rattle.vg_text.proofs.number.push_decimal.Goals as goal

pub loop-rest-preserved : goal.loop-rest-preserved
loop-rest-preserved c = record {
  filled = filled_more c.args.n c.loop-rest.rest c.loop-rest.start c.loop-rest.buffer (omega arith) c.loop-rest.invariant.least (omega arith) c.loop-rest.invariant.filled;
  least = omega (arith, c.loop-rest.invariant.least);
}

pub returns-clause-ok : goal.returns-clause-ok
returns-clause-ok c = let done = filled_last c.args.n c.loop-rest.rest c.loop-rest.start c.loop-rest.buffer (omega arith) c.loop-rest.invariant.filled in on_ok_weaker c.push_bytes.result (λ e. e ∙ ap (λ t. c.args.out.now.items ++ t) done) c.push_bytes.ensures.ok
