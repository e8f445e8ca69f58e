use Rattle.std.proofs.Common.{◌≡◌, ℕ, ◌<◌, ◌≤◌, length, get_or, Some, ◌∙◌, arith}
use Rattle.std.specs.Prelude.{slice_get}
use Rattle.std.proofs.lemmas.Option.{slice_get-get_or, slice_get_within}
use Rattle.vg_graph.proofs.EvaluationLemmas.{worth_more}
use Rattle.vg_graph.proofs.evaluation.put_values.Goals as goal

pub put_value-requires-clause-within : goal.put_value-requires-clause-within
put_value-requires-clause-within g c =
    let order = c.args.order.now in
    let place = c.loop-place.place in
    (c.requires.order place (get_or order place 0) (slice_get-get_or order place 0 c.loop-place-test.true)).within

pub put_value-requires-clause-operands : goal.put_value-requires-clause-operands
put_value-requires-clause-operands g c = λ k operand.
    let order = c.args.order.now in
    let place = c.loop-place.place in
    let behind = c.requires.order place (get_or order place 0) (slice_get-get_or order place 0 c.loop-place-test.true) in
    let before = behind.operands k operand in
    c.loop-place.invariant.worth before.0 k before.1 before.2

pub loop-place-preserved : goal.loop-place-preserved
loop-place-preserved g c =
    let order = c.args.order.now in
    let place = c.loop-place.place in
    record {
      count = c.in_ok-put_value.ensures.count ∙ c.loop-place.invariant.count;
      worth = worth_more c.args.isa.now c.args.nodes.now c.args.word.number (g.V.View.reads c.args.v.now)
          c.loop-place.values.items c.put_value.new.values.items order place (get_or order place 0)
          (slice_get-get_or order place 0 c.loop-place-test.true) c.loop-place.invariant.worth
          c.in_ok-put_value.ensures.worth c.in_ok-put_value.ensures.others;
    }

pub returns-clause-worth : goal.returns-clause-worth
returns-clause-worth g c = λ n among.
    let all : length c.args.order.now ≤ c.loop-place.place = c.loop-place-test.false in
    let within : among.0 < length c.args.order.now = slice_get_within c.args.order.now among.0 n among.1 in
    let passed : among.0 < c.loop-place.place = omega arith in
    c.loop-place.invariant.worth among.0 n passed among.1
