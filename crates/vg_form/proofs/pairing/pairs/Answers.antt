use Rattle.std.proofs.Common.{◌≡◌, rules, ap, sym, ◌∙◌, subst, List, nat_eq, length, false}
use Rattle.vg_form.specs.declared.form.Pair.{Pair}
use Rattle.vg_form.specs.Description.{Found, pairs_behind}
use Rattle.vg_form.specs.Finding.{FindsSo}
use Rattle.vg_form.specs.Given.{all_doing, values_in}
use Rattle.vg_form.proofs.PairLemmas.{pairs_of_some}
use Rattle.vg_form.proofs.pairing.pairs.Goals as goal

pub returns-clause-so : goal.returns-clause-so
returns-clause-so c =
    let file = c.args.file in
    let values = values_in c.args.context.now in
    let x = c.args.context.now in
    let items = c.args.items.now in
    let some : nat_eq (length items) 0 ≡ false = search rules in
    subst (λ (sought : Found (List Pair)). FindsSo (λ (pairs : List Pair). pairs) c.pairs_behind.result sought)
    (ap (λ (front : List Pair). pairs_behind file values 512 front (all_doing x items)) c.new.ensures ∙ sym (pairs_of_some file values c.args.close x items some))
    c.pairs_behind.ensures.so
