use Rattle.std.proofs.Common.{◌≡◌, ◌-◌, length, sym, ◌∙◌, ap, arith, Some, None}
use Rattle.vg_ast.specs.Placed.{placed}
use Rattle.vg_parse_item.specs.ReadingRow.{row_from}
use Rattle.vg_parse_item.proofs.Rows.{row_whole, row_ends, row_stops, row_last, row_more}
use Rattle.vg_parse_item.proofs.row.row_at.Goals as goal

pub loop-fuel-init : goal.loop-fuel-init
loop-fuel-init g c =
    ap (λ front. row_from g.T.Element.reader (length c.args.tokens.now) front (placed c.args.tokens.now)) c.new-front.ensures
    ∙ row_whole g.T.Element.reader c.args.tokens.now

pub returns-in_default : goal.returns-in_default
returns-in_default g c =
    let none : g.T.Element.reader (placed c.loop-fuel.rest.now) ≡ None = rw c.in_default.is at c.in_ok-element.ensures in
    sym c.loop-fuel.invariant ∙ row_stops g.T.Element.reader c.loop-fuel.fuel c.loop-fuel.front (placed c.loop-fuel.rest.now) none

pub returns-in_default-sign_at : goal.returns-in_default-sign_at
returns-in_default-sign_at g c =
    let found : g.T.Element.reader (placed c.loop-fuel.rest.now) ≡ Some (c.in-Some.element, placed c.in-Some.others.now) = rw c.in-Some.is at c.in_ok-element.ensures in
    sym c.loop-fuel.invariant
    ∙ row_last g.T.Element.reader c.loop-fuel.fuel c.loop-fuel.front (placed c.loop-fuel.rest.now) (c.in-Some.element, placed c.in-Some.others.now)
    c.loop-fuel-test.true found c.in_default-sign_at.ensures
    ∙ ap (λ front. Some (front, placed c.in-Some.others.now)) (sym {a = c.push.new.self} c.in_ok-push.ensures.ok)

pub loop-fuel-preserved : goal.loop-fuel-preserved
loop-fuel-preserved g c =
    let found : g.T.Element.reader (placed c.loop-fuel.rest.now) ≡ Some (c.in-Some.element, placed c.in-Some.others.now) = rw c.in-Some.is at c.in_ok-element.ensures in
    ap (λ front. row_from g.T.Element.reader (c.loop-fuel.fuel - 1) front (placed c.in-Some-sign_at.behind.now)) c.in_ok-push.ensures.ok
    ∙ sym (row_more g.T.Element.reader c.loop-fuel.fuel c.loop-fuel.front (placed c.loop-fuel.rest.now) (c.in-Some.element, placed c.in-Some.others.now)
    (c.in-Some-sign_at.field-0-0, placed c.in-Some-sign_at.behind.now) c.loop-fuel-test.true found c.in-Some-sign_at.ensures)
    ∙ c.loop-fuel.invariant

pub returns : goal.returns
returns g c = sym c.loop-fuel.invariant ∙ row_ends g.T.Element.reader c.loop-fuel.fuel c.loop-fuel.front (placed c.loop-fuel.rest.now) (omega arith)
