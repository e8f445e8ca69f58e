-- The claims of an item stand before those of the items behind it.
use Rattle.std.proofs.Common.{subst, drop, ◌+◌, sym, ◌∙◌, rules}
use Rattle.vg_names.specs.Duplicate.{claims_from, item_claims}
use Rattle.vg_names.specs.Met.{keys_met}
use Rattle.vg_names.proofs.MetLemmas.{IsLeft, left_within, left_behind, claims_from_drop}
use Rattle.vg_resolve.proofs.duplicate.items_claims.Goals as goal

pub returns-in-Some-clause-found : goal.returns-in-Some-clause-found
returns-in-Some-clause-found c =
    left_within (keys_met c.args.met.now) (claims_from 0 c.args.items.now) (keys_met c.loop-number.met) (item_claims c.loop-number.number c.index-items-number.result) (claims_from (c.loop-number.number + 1) (drop (c.loop-number.number + 1) c.args.items.now))
    (subst (IsLeft (keys_met c.args.met.now) (claims_from 0 c.args.items.now) (keys_met c.loop-number.met)) (claims_from_drop c.args.items.now c.loop-number.number c.index-items-number.result c.loop-number-test.true c.index-items-number.is) c.loop-number.invariant)
    c.in-Some.at (sym c.in-Some.is ∙ c.in_ok-at.ensures.found)

pub loop-number-preserved : goal.loop-number-preserved
loop-number-preserved c =
    left_behind (keys_met c.args.met.now) (claims_from 0 c.args.items.now) (keys_met c.loop-number.met) (item_claims c.loop-number.number c.index-items-number.result) (claims_from (c.loop-number.number + 1) (drop (c.loop-number.number + 1) c.args.items.now))
    (subst (IsLeft (keys_met c.args.met.now) (claims_from 0 c.args.items.now) (keys_met c.loop-number.met)) (claims_from_drop c.args.items.now c.loop-number.number c.index-items-number.result c.loop-number-test.true c.index-items-number.is) c.loop-number.invariant)
    (keys_met c.item_claims.new.met) (search rules) (search rules)
