use Rattle.std.proofs.Common.{◌≡◌, ◌-◌, ◌/◌, ◌^◌, drop, length}
use Rattle.vg_text.specs.Number.{hexadecimal}
use Rattle.vg_text.proofs.number.push_hexadecimal.Given as goal

-- the lowest digits stand at the end of the buffer
abbrev pub invariant-loop-written : goal.invariant-loop-written
invariant-loop-written l = record {
  rest : l.rest ≡ l.fn.n / 16 ^ l.written;
  len : length l.buffer ≡ 32;
  filled : drop (32 - l.written) l.buffer ≡ hexadecimal l.written l.fn.n;
}
