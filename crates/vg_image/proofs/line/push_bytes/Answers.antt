use Rattle.std.proofs.Common.{sym}
use Rattle.vg_image.specs.Reader.{bytes_at, with_front}
use Rattle.vg_image.proofs.Pushing.{ends, fails, goes_on}
use Rattle.vg_image.proofs.line.push_bytes.Goals as goal

pub returns-in_default : goal.returns-in_default
returns-in_default c = fails c.loop.bytes c.args.count c.loop.counter c.loop.rest.now (with_front c.args.bytes.now (bytes_at c.args.count c.args.text.now)) c.loop-test.true (sym c.in_default.ensures.exact) c.loop.invariant

pub loop-preserved : goal.loop-preserved
loop-preserved c =
    rw c.in_ok-push.ensures.ok
    (goes_on c.loop.bytes c.args.count c.loop.counter c.in-Some.byte c.loop.rest.now c.in-Some.behind.now (with_front c.args.bytes.now (bytes_at c.args.count c.args.text.now))
    c.loop-test.true (sym c.in-Some.ensures.exact) c.loop.invariant)

pub returns : goal.returns
returns c = ends c.loop.bytes c.args.count c.loop.counter c.loop.rest.now (with_front c.args.bytes.now (bytes_at c.args.count c.args.text.now)) c.loop-test.false c.loop.invariant
