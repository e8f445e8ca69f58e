-- One byte or escape more.
use Rattle.std.proofs.Common.{◌≡◌, arith}
use Rattle.vg_irparse.proofs.Escapes.{goes_on, no_quote}
use Rattle.vg_irparse.proofs.name.unescaped.Goals as goal

pub loop-rest-preserved : goal.loop-rest-preserved
loop-rest-preserved c =
    let n : c.in-Some.first.now ≡ 34 → ⊥ = λ e. omega arith in
    goes_on c.loop-rest.bytes _ c.args.text.now c.loop-rest.rest.now c.in-Some.first.now c.in-Some.behind.now c.split_at.result.1.now c.escape_at-byte.result
    c.loop-rest.invariant c.in-Some.ensures.cases.0 (no_quote _ n) c.escape_at-byte.ensures.found c.split_at.ensures.back c.in_ok-push.ensures.ok
