use Rattle.std.proofs.Common.{◌≡◌, ◌-◌, ◌∷◌, [], rules, arith, ap, sym, ◌∙◌, subst, List}
use Rattle.vg_form.specs.declared.form.Pair.{Pair}
use Rattle.vg_form.specs.declared.remaining.Remaining.{Remaining}
use Rattle.vg_form.specs.Description.{Found, found, pair_of, pairs_behind}
use Rattle.vg_form.specs.Finding.{FindsSo}
use Rattle.vg_form.specs.Given.{all_doing, doing, values_in}
use Rattle.vg_form.proofs.PairLemmas.{pairs_more}
use Rattle.vg_form.proofs.pairing.+pairs_behind.Goals as goal

pub returns-clause-so : goal.returns-clause-so
returns-clause-so t c =
    let x = c.args.context.now in
    let file = c.args.file in
    let values = values_in c.args.context.now in
    let room = c.args.room in
    let front = c.args.front in
    let more = c.in-Some-split_first.more.now in
    let first = doing x c.in-Some.first.now.item.now in
    let second = doing x c.in-Some-split_first.second.now.item.now in
    let rest_is : c.args.items.now ≡ c.in-Some.first.now ∷ c.in-Some-split_first.second.now ∷ more = search rules in
    let pair_is : pair_of file values front first (second ∷ []) ≡ found c.in_ok-pair.pair = search rules in
    let same : pairs_behind file values (room - 1) c.push.new.self (all_doing x more) ≡ pairs_behind file values room front (all_doing x c.args.items.now) =
    ap (λ (pairs : List Pair). pairs_behind file values (room - 1) pairs (all_doing x more)) c.in_ok-push.ensures.ok
    ∙ sym (pairs_more file values room (room - 1) front first second (all_doing x more) c.in_ok-pair.pair (omega arith) pair_is)
    ∙ ap (λ (items : List Remaining). pairs_behind file values room front (all_doing x items)) (sym rest_is) in
    subst (λ (sought : Found (List Pair)). FindsSo (λ (pairs : List Pair). pairs) c.pairs_behind.result sought) same c.pairs_behind.ensures.so
