-- The three parts of an access stand one behind the other.
use Rattle.std.proofs.Common.{◌∙◌, ap, sym}
use Rattle.vg_ast.specs.declared.expr.Expr.{Expr}
use Rattle.vg_names.specs.First.{first_of}
use Rattle.vg_names.specs.Inner.{inner_names}
use Rattle.vg_names.specs.Unknown.{expression_unknowns}
use Rattle.vg_names.proofs.FirstLemmas.{three_options}
use Rattle.vg_resolve.proofs.ExpressionLemmas.{first-Access}
use Rattle.vg_resolve.proofs.unknown_expression.+expression.Goals as goal

pub expression-returns-in-Access : goal.expression-returns-in-Access
expression-returns-in-Access t c =
    three_options _ _ _ _ _ _ _ _ c.or-in-Access-2.ensures c.or-in-Access.ensures c.global-in-Access.ensures
    (c.expression.ensures ∙ ap (λ (e : Expr). first_of (expression_unknowns c.args.table.now.items.now e (inner_names c.args.table.now.items.now c.args.inner.now))) c.get.ensures)
    (c.expression-in-Access.ensures ∙ ap (λ (e : Expr). first_of (expression_unknowns c.args.table.now.items.now e (inner_names c.args.table.now.items.now c.args.inner.now))) c.get-in-Access.ensures)
    ∙ sym (first-Access c.args.table.now.items.now (inner_names c.args.table.now.items.now c.args.inner.now) c.in-Access.memory c.in-Access.at c.in-Access.size c.in-Access.address)
    ∙ ap (λ (e : Expr). first_of (expression_unknowns c.args.table.now.items.now e (inner_names c.args.table.now.items.now c.args.inner.now))) (sym c.in-Access.is)
