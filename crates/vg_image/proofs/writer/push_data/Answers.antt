use Rattle.std.proofs.Common.{◌≡◌, ◌++◌, ◌∙◌, List, ℕ, ap, arith, drop, length, min, take}
use Rattle.vg_image.specs.Writer.{data_written}
use Rattle.vg_image.proofs.Images.{left_of, none_of}
use Rattle.vg_image.proofs.Written.{data_ends, data_goes_on}
use Rattle.vg_image.proofs.writer.push_data.Goals as goal

pub loop-rest-preserved : goal.loop-rest-preserved
loop-rest-preserved c =
    let rest : List ℕ = c.loop-rest.rest.now in
    let turned : min (length rest) 16 ≡ min 16 (length rest) = omega arith in
    let count : c.min.result ≡ min 16 (length rest) = c.min.ensures ∙ turned in
    data_goes_on c.push_row.new.out.items c.loop-rest.out.items (c.args.out.now.items ++ data_written c.args.bytes.now) rest c.split_at.result.0.now c.split_at.result.1.now
    (left_of rest c.loop-rest-test.ensures) (c.split_at.ensures.front ∙ ap (λ n. take n rest) count) (c.split_at.ensures.back ∙ ap (λ n. drop n rest) count) c.loop-rest.invariant c.in_ok-push_row.ensures

pub returns : goal.returns
returns c = data_ends c.loop-rest.out.items (c.args.out.now.items ++ data_written c.args.bytes.now) c.loop-rest.rest.now (none_of c.loop-rest.rest.now c.loop-rest-test.ensures) c.loop-rest.invariant
