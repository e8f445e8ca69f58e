use Rattle.std.proofs.Common.{◌+◌, ◌-◌, drop, set, refl, sym, ap, ◌∙◌, arith}
use Rattle.std.proofs.lemmas.List.{length-set}
use Rattle.vg_text.proofs.Hexadecimal.{hexadecimal-zero, rest_of_digits, hexadecimal_filled}
use Rattle.vg_text.proofs.number.push_hexadecimal.Goals as goal

pub loop-written-init : goal.loop-written-init
loop-written-init c = record {
  rest = omega arith;
  len = refl;
  filled = sym (hexadecimal-zero c.args.n);
}

pub loop-written-preserved : goal.loop-written-preserved
loop-written-preserved c = record {
  rest = rest_of_digits c.args.n c.loop-written.written c.loop-written.rest c.loop-written.invariant.rest;
  len = length-set c.loop-written.buffer (31 - c.loop-written.written) c.hex_digit.result ∙ c.loop-written.invariant.len;
  filled =
      ap (λ b. drop (32 - (c.loop-written.written + 1)) (set c.loop-written.buffer (31 - c.loop-written.written) b)) c.hex_digit.ensures
      ∙ hexadecimal_filled c.args.n c.loop-written.written c.loop-written.rest c.loop-written.buffer c.loop-written.invariant.len (omega arith) c.loop-written.invariant.rest c.loop-written.invariant.filled;
}
