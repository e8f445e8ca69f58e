-- The three parts of an access stand one behind the other.
use Rattle.std.proofs.Common.{◌∙◌, ap, sym}
use Rattle.vg_names.specs.First.{first_of}
use Rattle.vg_names.specs.Inner.{inner_names}
use Rattle.vg_names.specs.Unknown.{expression_unknowns}
use Rattle.vg_names.proofs.FirstLemmas.{first_of_three, three_options}
use Rattle.vg_resolve.proofs.unknown_statement.goal.Goals as goal

pub returns-in-Access : goal.returns-in-Access
returns-in-Access c =
    let inner = inner_names c.args.table.now.items.now c.args.inner.now in
    let size = c.expression-in-Access.ensures ∙ ap (λ e. first_of (expression_unknowns c.args.table.now.items.now e inner)) c.get-in-Access.ensures in
    let address = c.expression-in-Access-2.ensures ∙ ap (λ e. first_of (expression_unknowns c.args.table.now.items.now e inner)) c.get-in-Access-2.ensures in
    rw c.in-Access.is
    (three_options _ _ _ _ _ _ _ _ c.or-in-Access-2.ensures c.or-in-Access.ensures c.global-in-Access.ensures size address
    ∙ sym (first_of_three _ _ _))
