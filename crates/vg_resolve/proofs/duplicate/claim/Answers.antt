-- The answer of the set says whether the claim repeats one.
use Rattle.std.proofs.Common.{ap, sym, ◌∙◌, None, Some, if◌then◌else◌}
use Rattle.vg_names.specs.Duplicate.{claim as claim_of}
use Rattle.vg_names.proofs.MetLemmas.{repeat_inserted}
use Rattle.vg_resolve.proofs.duplicate.claim.Goals as goal

pub returns-then-branch-clause-found : goal.returns-then-branch-clause-found
returns-then-branch-clause-found c =
    ap (λ b. if b then None else Some c.args.name.now.at) (sym c.if-branch.true)
    ∙ repeat_inserted (c.args.scope, c.claimed_text-text.result) c.args.met.now.keys (claim_of c.args.scope c.args.name.now) _ (ap (λ t. (c.args.scope, t)) c.claimed_text-text.ensures) c.in_ok-insert.ensures.added

pub returns-else-branch-clause-found : goal.returns-else-branch-clause-found
returns-else-branch-clause-found c =
    ap (λ b. if b then None else Some c.args.name.now.at) (sym c.if-branch.false)
    ∙ repeat_inserted (c.args.scope, c.claimed_text-text.result) c.args.met.now.keys (claim_of c.args.scope c.args.name.now) _ (ap (λ t. (c.args.scope, t)) c.claimed_text-text.ensures) c.in_ok-insert.ensures.added
