-- The places of an expression's parts, one behind the other.
use Rattle.std.proofs.Common.{sym, ◌∙◌}
use Rattle.vg_whole.specs.Bindings.{inner_worths}
use Rattle.vg_whole.specs.Worths.{constants_by}
use Rattle.vg_whole.proofs.JudgedLemmas.{place-Access, place-Join, place-Binary, place-Cast, place-Slice, place-If, place-Let, first_of_some}
use Rattle.vg_whole.proofs.judging.+judged.Goals as goal

pub first_of_all-returns-in-Some : goal.first_of_all-returns-in-Some
first_of_all-returns-in-Some t c =
    let e = first_of_some (constants_by c.args.table.now.items.now c.args.worths.now) (inner_worths c.args.table.now.items.now c.args.bindings.now) c.args.arguments.now c.loop-argument.argument-index c.argument-item.result c.in-Some.at
    c.loop-argument-test.true c.argument-item.is (sym c.judged.ensures.place ∙ c.in-Some.is) in
    sym (c.loop-argument.invariant ∙ e)

pub judged-returns-in-Access-clause-place : goal.judged-returns-in-Access-clause-place
judged-returns-in-Access-clause-place t c =
    let e = place-Access (constants_by c.args.table.now.items.now c.args.worths.now) (inner_worths c.args.table.now.items.now c.args.bindings.now) c.in-Access.memory c.in-Access.at c.in-Access.size c.in-Access.address in
    cc (c.in-Access.is, c.get.ensures, c.get-in-Access.ensures, c.judged.ensures.place, c.judged-in-Access.ensures.place, c.or.ensures, c.typed-in-Access.ensures.place)

pub judged-returns-in-Join-clause-place : goal.judged-returns-in-Join-clause-place
judged-returns-in-Join-clause-place t c =
    let e = place-Join (constants_by c.args.table.now.items.now c.args.worths.now) (inner_worths c.args.table.now.items.now c.args.bindings.now) c.in-Join.at c.in-Join.high c.in-Join.low in
    cc (c.in-Join.is, c.get-in-Join.ensures, c.get-in-Join-2.ensures, c.judged-in-Join.ensures.place, c.judged-in-Join-2.ensures.place, c.or-in-Join.ensures, c.typed-in-Join.ensures.place)

pub judged-returns-in-Binary-clause-place : goal.judged-returns-in-Binary-clause-place
judged-returns-in-Binary-clause-place t c =
    let e = place-Binary (constants_by c.args.table.now.items.now c.args.worths.now) (inner_worths c.args.table.now.items.now c.args.bindings.now) c.in-Binary.operator c.in-Binary.at c.in-Binary.left c.in-Binary.right in
    cc (c.in-Binary.is, c.get-in-Binary.ensures, c.get-in-Binary-2.ensures, c.judged-in-Binary.ensures.place, c.judged-in-Binary.ensures.worth, c.judged-in-Binary-2.ensures.place, c.judged-in-Binary-2.ensures.worth, c.binary.ensures.place)

pub judged-returns-in-Cast-clause-place : goal.judged-returns-in-Cast-clause-place
judged-returns-in-Cast-clause-place t c =
    let e = place-Cast (constants_by c.args.table.now.items.now c.args.worths.now) (inner_worths c.args.table.now.items.now c.args.bindings.now) c.in-Cast.operand c.in-Cast.at c.in-Cast.target in
    cc (c.in-Cast.is, c.get-in-Cast.ensures, c.judged-in-Cast.ensures.place, c.first_of_cast.ensures, c.or-in-Cast.ensures, c.typed-in-Cast.ensures.place)

pub judged-returns-in-Slice-clause-place : goal.judged-returns-in-Slice-clause-place
judged-returns-in-Slice-clause-place t c =
    let e = place-Slice (constants_by c.args.table.now.items.now c.args.worths.now) (inner_worths c.args.table.now.items.now c.args.bindings.now) c.in-Slice.operand c.in-Slice.at c.in-Slice.high c.in-Slice.low in
    cc (c.in-Slice.is, c.get-in-Slice.ensures, c.get-in-Slice-2.ensures, c.get-in-Slice-3.ensures, c.judged-in-Slice.ensures.place, c.judged-in-Slice-2.ensures.place, c.judged-in-Slice-3.ensures.place, c.or-in-Slice.ensures, c.or-in-Slice-2.ensures, c.typed-in-Slice.ensures.place)

pub judged-returns-in-If-clause-place : goal.judged-returns-in-If-clause-place
judged-returns-in-If-clause-place t c =
    let e = place-If (constants_by c.args.table.now.items.now c.args.worths.now) (inner_worths c.args.table.now.items.now c.args.bindings.now) c.in-If.at c.in-If.condition c.in-If.then c.in-If.otherwise in
    cc (c.in-If.is, c.get-in-If.ensures, c.get-in-If-2.ensures, c.get-in-If-3.ensures, c.judged-in-If.ensures.place, c.judged-in-If-2.ensures.place, c.judged-in-If-3.ensures.place, c.or-in-If.ensures, c.or-in-If-2.ensures, c.typed-in-If.ensures.place)

pub judged-returns-in-Let-clause-place : goal.judged-returns-in-Let-clause-place
judged-returns-in-Let-clause-place t c =
    let e = place-Let (constants_by c.args.table.now.items.now c.args.worths.now) (inner_worths c.args.table.now.items.now c.args.bindings.now) c.in-Let.at c.in-Let.name c.in-Let.bound c.in-Let.body in
    cc (c.in-Let.is, c.get-in-Let.ensures, c.get-in-Let-2.ensures, c.judged-bound.ensures.place, c.judged-bound.ensures.worth, c.judged-body.ensures.place, c.or-in-Let.ensures)
